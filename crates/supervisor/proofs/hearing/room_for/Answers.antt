use Rattle.supervisor.proofs.Taken.{room_is}
use Rattle.supervisor.proofs.hearing.room_for.Goals as goal

pub returns-clause-room : goal.returns-clause-room
returns-clause-room c = room_is c.min.result c.args.taken c.min.ensures c.requires
