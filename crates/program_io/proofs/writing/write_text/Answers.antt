use Rattle.std.proofs.Common.{◌+◌, arith, length-drop}
use Rattle.std.proofs.lemmas.List.{take_rest}
use Rattle.std.proofs.KnownBytes.{Appends-kept}
use Rattle.program_io.proofs.WritingLemmas.{AppendsFront-take, written_next}
use Rattle.program_io.proofs.writing.write_text.Goals as goal

pub loop-done-preserved : goal.loop-done-preserved
loop-done-preserved g c =
    let text = c.args.text.now in
    let done = c.loop-done.done in
    let bytes = rw take_rest at c.in-Ok.ensures.bytes in
    record {
      part = omega (arith, c.in-Ok.ensures.bound, length-drop done text);
      written = written_next _ _ _ text done c.in-Ok.taken c.loop-done.invariant.written bytes;
    }

pub returns-in-Ok-eq0-clause-err : goal.returns-in-Ok-eq0-clause-err
returns-in-Ok-eq0-clause-err g c =
    let text = c.args.text.now in
    let done = c.loop-done.done in
    let bytes = rw take_rest at c.in-Ok-eq0.ensures.bytes in
    AppendsFront-take _ _ text (done + c.in-Ok-eq0.field-0) (omega arith)
    (written_next _ _ _ text done c.in-Ok-eq0.field-0 c.loop-done.invariant.written bytes)

pub returns-in-Err-clause-err : goal.returns-in-Err-clause-err
returns-in-Err-clause-err g c =
    AppendsFront-take _ _ c.args.text.now c.loop-done.done c.loop-done-test.true
    (Appends-kept _ _ _ _ c.loop-done.invariant.written c.in-Err.ensures.bytes)
