use Rattle.inittab_text.proofs.Words.{◌∙◌, ap, sym, arith, length, get_or, mark_read, with_mark}
use Rattle.inittab_text.proofs.MarkLemmas.{marks_more, length-with_mark}
use Rattle.inittab_text.proofs.kept.marks_of.Goals as goal

pub loop-code-preserved : goal.loop-code-preserved
loop-code-preserved c =
    let mark = mark_read (get_or c.args.field.now c.loop-code.code-index 0) in
    record {
      marks = c.add_mark.ensures ∙ ap (λ ms. with_mark ms mark) c.loop-code.invariant.marks
          ∙ sym (marks_more c.args.field.now c.loop-code.code-index c.loop-code-test.true);
      few = omega (
        arith,
        ap length c.add_mark.ensures,
        length-with_mark c.loop-code.marks.items mark,
        c.loop-code.invariant.few,
      );
    }
