use Rattle.text_lines.proofs.CommonWords.{sym, arith, take_rest}
use Rattle.text_lines.proofs.CutLemmas.{cut-none, cut-first}
use Rattle.text_lines.proofs.lines.cut.Goals as goal

pub returns-in_err-at : goal.returns-in_err-at
returns-in_err-at c = rw c.from_residual.ensures
    (sym (cut-none c.args.mark c.args.text.now (λ k within is. c.in_err-at.ensures k (omega arith) within is)))

pub returns : goal.returns
returns c =
    let found = c.in_ok-at.ensures in
    rw take_rest (sym (cut-first c.args.mark c.args.text.now c.in_ok-at.at found.0.high
    (λ j below is. found.0.before j (omega arith) below is) found.1))
