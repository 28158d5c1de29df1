use Rattle.std.proofs.Common.{length}
use Rattle.command_words.proofs.slips.+same_but_case.Given as goal

abbrev pub decreases-same_but_case : goal.decreases-same_but_case
decreases-same_but_case l = length l.word.now
