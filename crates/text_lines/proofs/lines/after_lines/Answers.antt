use Rattle.text_lines.proofs.CommonWords.{rules, ◌≡◌, ◌+◌, ◌-◌, Some, None, sym, ap, ◌∙◌, arith, cut, after_lines}
use Rattle.text_lines.proofs.PieceLemmas.{after_lines-step, after_lines-short}
use Rattle.text_lines.proofs.lines.after_lines.Goals as goal

pub loop-preserved : goal.loop-preserved
loop-preserved c =
    let left = c.args.count - c.loop.counter in
    let less : c.args.count - (c.loop.counter + 1) ≡ left - 1 = omega arith in
    let line = c.in_ok-rest.field-0-0.now in
    let rest = c.in_ok-rest.field-0-1.now in
    let found : cut 10 c.loop.rest.now ≡ Some (line, rest) = search rules in
    ap (λ n. after_lines n rest) less ∙ sym (after_lines-step left c.loop.rest.now line rest (omega arith) found)
    ∙ c.loop.invariant

pub returns-in_err-rest : goal.returns-in_err-rest
returns-in_err-rest c =
    let left = c.args.count - c.loop.counter in
    let none : cut 10 c.loop.rest.now ≡ None = search rules in
    rw c.from_residual.ensures (sym (after_lines-short left c.loop.rest.now (omega arith) none) ∙ c.loop.invariant)
