-- Before the first stage of a sound trace, no order is open.
use Rattle.core_model.proofs.Words.{◌≡◌, refl, sym, ap, ℕ, true, not, cond, List, [], ◌∷◌, filter, Some, None, list_any}
use Rattle.core_model.proofs.Words.{none-some, OrderKind, Start, Look, Term, Kill, same_id, same_ask, same_id-self}
use Rattle.core_model.proofs.Words.{Asked, Told, Order, Goal, Event, is_child_of, open_orders, stage_of, undone_of}
use Rattle.core_model.proofs.Words.{is_sound}
use Rattle.core_model.proofs.Words.{may_come, MayLook, MayStop, due_facts, keeps, not_placed, sound_holds, sound_ind}
use Rattle.core_model.proofs.Words.{dawn_known}
use Rattle.trace_events.specs.declared.happenings.Happening.TheVariants.{Enter}
use Rattle.trace_events.specs.Past.{is_quiet}

dawn_orders : (goal : Goal) (past : List Event) → is_sound goal past ≡ true → stage_of past ≡ None
    → open_orders past ≡ []
dawn_orders goal past h =
    sound_ind goal (λ before. stage_of before ≡ None → open_orders before ≡ []) (λ table distinct is. refl) next past h
  where
    signalled : {P : Type 0} (id : List ℕ) (ask : OrderKind) (before : List Event) → is_sound goal before ≡ true
        → stage_of before ≡ None → MayStop id ask before → P
    signalled id ask before sound dawn may = dawn_known goal before sound dawn id (may.within (is_child_of id) may.own)

    next : (happening : Event) (before : List Event) → may_come goal happening before ≡ true
        → is_sound goal before ≡ true → (stage_of before ≡ None → open_orders before ≡ [])
        → stage_of (happening ∷ before) ≡ None → open_orders (happening ∷ before) ≡ []
    next (Enter now grace) before may sound rest dawn = absurd (none-some now (sym dawn))
    next (Told id) before may sound rest dawn = ap (filter (λ order. not (same_id id order.id))) (rest dawn)
    next (Asked id Start) before may sound rest dawn = not_placed id (Asked id Start ∷ before) dawn
        ((keeps goal (Asked id Start) before may (sound_holds goal before sound)).ready id
        (ap (λ b. cond b (Some Start) (undone_of id before)) (same_id-self id))).placed
    next (Asked id Look) before may sound rest dawn = let facts : MayLook id before =
        due_facts goal before (Order id Look) may in dawn_known goal before sound dawn id facts.there
    next (Asked id Term) before may sound rest dawn =
        signalled id Term before sound dawn (due_facts goal before (Order id Term) may)
    next (Asked id Kill) before may sound rest dawn =
        signalled id Kill before sound dawn (due_facts goal before (Order id Kill) may)
    next _ before may sound rest dawn = rest dawn

pub dawn_quiet : (goal : Goal) (past : List Event) → is_sound goal past ≡ true → stage_of past ≡ None
    → is_quiet past ≡ true
dawn_quiet goal past sound dawn =
    ap (λ orders. not (list_any (λ order. not (same_ask Look order.ask)) orders)) (dawn_orders goal past sound dawn)
