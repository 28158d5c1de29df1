use Rattle.std.proofs.Common.{arith, length-drop}
use Rattle.std.proofs.lemmas.List.{take_rest}
use Rattle.program_io.proofs.WritingLemmas.{written_next}
use Rattle.trace_files.proofs.fronts.write_front.Goals as goal

pub loop-done-preserved : goal.loop-done-preserved
loop-done-preserved g c =
    let text = c.args.text.now in
    let done = c.loop-done.done in
    let bytes = rw take_rest at c.in-Ok.ensures.bytes in
    record {
      part = omega (arith, c.in-Ok.ensures.bound, length-drop done text);
      written = written_next _ _ _ text done c.in-Ok.taken c.loop-done.invariant.written bytes;
    }
