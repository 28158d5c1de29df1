use Rattle.std.proofs.Common.{length}
use Rattle.command_words.proofs.slips.+is_slip.Given as goal

abbrev pub decreases-is_slip : goal.decreases-is_slip
decreases-is_slip l = length l.word.now
