use Rattle.std.proofs.Common.{◌-◌, ◌≤◌, length, take}
use Rattle.std.specs.Io.KnownBytes.{Appends}
use Rattle.trace_files.proofs.fronts.write_front.Given as goal

abbrev pub invariant-loop-done : goal.invariant-loop-done
invariant-loop-done g l = record {
  part : l.done ≤ length l.text;
  written : Appends (g.W.Write.contents l.fn.out) (g.W.Write.contents l.out) (take l.done l.text);
}

abbrev pub decreases-loop-done : goal.decreases-loop-done
decreases-loop-done g l = length l.text - l.done
