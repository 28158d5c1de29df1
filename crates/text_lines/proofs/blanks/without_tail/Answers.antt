use Rattle.text_lines.proofs.CommonWords.{◌≡◌, ◌∙◌, ◌+◌, ◌-◌, ap, sym, arith, take, trim_end}
use Rattle.text_lines.proofs.BlankLemmas.{trim_end-shorter, trim_end-done, trim_end-nil}
use Rattle.text_lines.proofs.blanks.without_tail.Goals.{then-loop-end-test+else-is_blank, else-loop-end-test}
use Rattle.text_lines.proofs.blanks.without_tail.Goals as goal

pub loop-end-preserved : goal.loop-end-preserved
loop-end-preserved c =
    let text = c.args.text.now in
    let last = c.loop-end.end - 1 in
    let back : last + 1 ≡ c.loop-end.end = omega arith in
    record {
      within = omega arith;
      same = sym (trim_end-shorter text last (omega arith) (sym c.is_blank.ensures ∙ c.if-is_blank.true))
          ∙ ap (λ k. trim_end (take k text)) back ∙ c.loop-end.invariant.same;
    }

pub returns : goal.returns
returns c =
    let text = c.args.text.now in
    elim c.loop-end-test.branch [
      | then-loop-end-test+else-is_blank w ↦
          (let last = c.loop-end.end - 1 in
          let back : last + 1 ≡ c.loop-end.end = omega (arith, w.loop-end-test) in
          sym (rw back at (trim_end-done text last (omega (arith, w.loop-end-test))
          (sym w.is_blank.ensures ∙ w.if-is_blank.false))) ∙ c.loop-end.invariant.same)
      | else-loop-end-test w ↦
          (let none : c.loop-end.end ≡ 0 = omega (arith, w.loop-end-test) in
          rw none (sym trim_end-nil ∙ rw none at c.loop-end.invariant.same))
    ]
