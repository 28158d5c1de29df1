use Rattle.rc_numbers.proofs.Words.{◌≡◌, ◌++◌, drop, settled}
use Rattle.rc_numbers.proofs.passes.settled.Given as goal

abbrev pub invariant-loop-position : goal.invariant-loop-position
invariant-loop-position g l =
    l.next.items ++ settled (drop l.position l.numbers) (drop l.position l.heights) ≡ settled l.numbers l.heights
