use Rattle.respawn_limit.proofs.Words.{◌≡◌, ◌-◌, sym, ◌∙◌, ap, arith, get_or, length, nat_lt, eqb-true, STARTS, WINDOW}
use Rattle.respawn_limit.proofs.WindowLemmas.{full_by_first}
use Rattle.respawn_limit.proofs.Limiter.is_full.Goals as goal

pub returns-then-is_full : goal.returns-then-is_full
returns-then-is_full c =
    let ten : length c.self.inside.starts.items ≡ STARTS = eqb-true _ _ (sym c.if-is_full.ensures.value) in
    let age : c.saturating_sub.result ≡ c.args.now - get_or c.self.inside.starts.items 0 0 =
    c.saturating_sub.ensures ∙ ap (λ xs. c.args.now - get_or xs 0 0) c.deref.ensures.0 in
    rw (← c.self.view_is) (ap (λ n. nat_lt n WINDOW) age
    ∙ sym (full_by_first STARTS c.args.now c.self.inside.starts.items c.self.invariant.1 ten (omega arith)))
