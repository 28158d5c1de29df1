use Rattle.std.proofs.Common.{◌-◌}
use Rattle.text_lines.specs.Lines.{after_lines}
use Rattle.initview_lines.proofs.CommonWords.{◌≡◌, Some, None, sym, ◌∙◌, rules}
use Rattle.initview_lines.proofs.Places.{from_near}
use Rattle.initview_lines.proofs.lint.cursor_after.Goals as goal

pub returns-in_err-rest-clause-rest : goal.returns-in_err-rest-clause-rest
returns-in_err-rest-clause-rest c = λ from.
    let near = c.nearest-near.result in
    let none : after_lines (c.args.before - near.before) near.rest.now ≡ None = search rules in
    let walked = from_near c.args.parts.now near c.args.part c.args.before c.nearest-near.ensures.part
    c.nearest-near.ensures.before (c.nearest-near.ensures.cursor from) in
    rw c.from_residual.ensures (sym (walked ∙ none))

pub returns-clause-rest : goal.returns-clause-rest
returns-clause-rest c = λ from.
    let near = c.nearest-near.result in
    let some : after_lines (c.args.before - near.before) near.rest.now ≡ Some c.in_ok-rest.rest.now = search rules in
    let walked = from_near c.args.parts.now near c.args.part c.args.before c.nearest-near.ensures.part
    c.nearest-near.ensures.before (c.nearest-near.ensures.cursor from) in
    sym (walked ∙ some)

pub returns-clause-cursor : goal.returns-clause-cursor
returns-clause-cursor c = λ from.
    let near = c.nearest-near.result in
    let some : after_lines (c.args.before - near.before) near.rest.now ≡ Some c.in_ok-rest.rest.now = search rules in
    from_near c.args.parts.now near c.args.part c.args.before c.nearest-near.ensures.part
    c.nearest-near.ensures.before (c.nearest-near.ensures.cursor from) ∙ some
