use Rattle.text_lines.proofs.CommonWords.{rules, ◌≡◌, ◌==◌, ◌-◌, true, false, length, slice_get, Some, ap, ◌∙◌, sym}
use Rattle.text_lines.proofs.CommonWords.{not-true, not-false, eqb-true}
use Rattle.text_lines.proofs.PieceLemmas.{ended-open, ended-closed}
use Rattle.text_lines.proofs.lines.is_open.Goals as goal

pub returns-in-Some-clause-open : goal.returns-in-Some-clause-open
returns-in-Some-clause-open c = λ differs.
    let last : slice_get c.args.text.now (length c.args.text.now - 1) ≡ Some c.in-Some.byte.now = search rules in
    ended-open c.args.text.now c.in-Some.byte.now last (not-true (c.in-Some.byte.now == 10) differs)

pub returns-in-Some-clause-closed : goal.returns-in-Some-clause-closed
returns-in-Some-clause-closed c = λ same.
    let last : slice_get c.args.text.now (length c.args.text.now - 1) ≡ Some c.in-Some.byte.now = search rules in
    ended-closed c.args.text.now
    (last ∙ ap Some (eqb-true c.in-Some.byte.now 10 (not-false (c.in-Some.byte.now == 10) same)))
