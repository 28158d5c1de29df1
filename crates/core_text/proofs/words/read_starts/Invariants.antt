use Rattle.core_text.proofs.CommonWords.{◌≡◌, length}
use Rattle.core_text.proofs.Starts.{joined, times_of}
use Rattle.core_text.proofs.words.read_starts.Given as goal

-- the times so far and those in the rest are all times
abbrev pub invariant-loop-first : goal.invariant-loop-first
invariant-loop-first l = joined l.starts.items (times_of l.rest) ≡ times_of l.word

abbrev pub decreases-loop-first : goal.decreases-loop-first
decreases-loop-first l = length l.rest
