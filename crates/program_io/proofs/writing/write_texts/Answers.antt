use Rattle.program_io.proofs.WritingLemmas.{AppendsFront-prefix, on_err, stops_within}
use Rattle.program_io.proofs.writing.write_texts.Goals as goal

pub returns-in_err-write_text-clause-err : goal.returns-in_err-write_text-clause-err
returns-in_err-write_text-clause-err g c =
    let text = rw c.as_bytes.ensures.value at c.in_err-write_text.ensures.err in
    on_err c.from_residual.result _
    (stops_within _ c.args.texts.now c.loop-text.text-index _ _ _ _ c.loop-text-test.true c.loop-text.invariant text)

pub returns-in_err-write_text-clause-part : goal.returns-in_err-write_text-clause-part
returns-in_err-write_text-clause-part g c =
    let text = rw c.as_bytes.ensures.value at c.in_err-write_text.ensures.err in
    AppendsFront-prefix _ _ _
    (stops_within _ c.args.texts.now c.loop-text.text-index _ _ _ _ c.loop-text-test.true c.loop-text.invariant text)
