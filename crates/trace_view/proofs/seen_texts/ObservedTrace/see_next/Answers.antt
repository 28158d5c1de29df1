use Rattle.trace_view.proofs.Words.{rules, ◌≡◌, ◌+◌, ◌∷◌, ap, is_some, true, sym, subst, capped, ViewState, Viewed}
use Rattle.trace_view.proofs.Sights.{some_seen, none_seen}
use Rattle.trace_view.proofs.seen_texts.ObservedTrace.see_next.Goals.{in-NewTable-2, in-NotRead-2}
use Rattle.trace_view.proofs.seen_texts.ObservedTrace.see_next.Goals as goal

pub returns-in_ok-see-in-Some-clause-goes : goal.returns-in_ok-see-in-Some-clause-goes
returns-in_ok-see-in-Some-clause-goes g c =
    let is : c.match-happening-2.self ≡ record { viewing = c.next.new.self; seen = c.see.new.self } =
    elim c.match-happening-2.branch [ in-NewTable-2 w ↦ w.self-is | in-NotRead-2 w ↦ w.self-is ] in
    let some : is_some c.in_ok-happening.field-0 ≡ true = ap is_some c.in-Some.is in
    let line : c.saturating_add-line.result ≡ capped (c.self.inside.view.reading.lines + 1) = search rules in
    rw (is, ← c.self.view_is) (λ text small at.
    some_seen g.S.TraceObserver.has_seen c.in_ok-happening.field-0 c.in-Some.happening c.self.inside.view
    c.next.new.self c.self.inside.seen c.see.new.self c.stage-stage.result c.saturating_add-line.result text small
    c.in-Some.is
    (c.in_ok-happening.ensures.unstopped some) (c.in_ok-happening.ensures.shorter some) line
    (λ past seen. c.stage-stage.ensures past (subst (λ (v : ViewState). Viewed v past) (sym c.view.ensures) seen))
    (λ trace. c.in_ok-happening.ensures.goes trace text small)
    (λ past seen on here has. c.in_ok-see-in-Some.ensures past
    (subst (λ (v : ViewState). Viewed v (c.in-Some.happening ∷ past)) (sym c.view-in-Some.ensures) seen) on here has)
    at)

pub returns-in-None-clause-goes : goal.returns-in-None-clause-goes
returns-in-None-clause-goes g c =
    rw (← c.self.view_is) (λ text small at.
    none_seen g.S.TraceObserver.has_seen c.in_ok-happening.field-0 c.self.inside.view c.next.new.self c.self.inside.seen
    text c.in-None.is
    (λ trace. c.in_ok-happening.ensures.goes trace text small) at)
