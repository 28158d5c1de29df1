use Rattle.rclinks_command.proofs.Words.{◌<◌, IfSome, length, IsFaultAt}
use Rattle.rclinks_command.proofs.faulty.place_of.Given as goal

abbrev pub invariant-loop-position : goal.invariant-loop-position
invariant-loop-position l = record {
  within : IfSome l.found (λ position. position < length l.scripts);
  fault : IfSome l.found (IsFaultAt l.scripts l.fault);
}
