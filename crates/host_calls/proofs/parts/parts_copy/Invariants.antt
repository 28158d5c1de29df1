use Rattle.std.proofs.Common.{◌≡◌, ◌++◌, drop}
use Rattle.host_calls.proofs.parts.parts_copy.Given as goal

abbrev pub invariant-loop-part : goal.invariant-loop-part
invariant-loop-part g l = l.copy.items ++ drop l.part-index l.parts ≡ l.parts
