use Rattle.telinit_command.specs.Notes.{unknown}
use Rattle.telinit_command.proofs.channel.tell_reading.Goals as goal

pub returns-in-Err : goal.returns-in-Err
returns-in-Err g c = (unknown c.as_str.result.now, c.tell_unknown.ensures)
