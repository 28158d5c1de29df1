use Rattle.initview_lines.proofs.CommonWords.{◌∷◌, sym, subst, ViewState, Viewed}
use Rattle.initview_lines.proofs.Follows.{some_said, none_said}
use Rattle.initview_lines.proofs.pieces.next_line.Goals as goal

pub returns-in_ok-add_happening-in-Some-clause-goes : goal.returns-in_ok-add_happening-in-Some-clause-goes
returns-in_ok-add_happening-in-Some-clause-goes c = λ past_lines text small at.
    some_said c.in_ok-happening.field-0 c.in-Some.happening c.args.view.now c.next.new.self past_lines
    c.args.lines.now.items
    c.add_happening.new.lines.items text c.in-Some.is
    (λ trace. c.in_ok-happening.ensures.goes trace text small)
    (λ past seen. c.in_ok-add_happening-in-Some.ensures past
    (subst (λ (v : ViewState). Viewed v (c.in-Some.happening ∷ past)) (sym c.view.ensures) seen))
    at

pub returns-in-None-clause-goes : goal.returns-in-None-clause-goes
returns-in-None-clause-goes c = λ past_lines text small at.
    none_said c.in_ok-happening.field-0 c.args.view.now c.next.new.self _ text c.in-None.is
    (λ trace. c.in_ok-happening.ensures.goes trace text small) at
