-- A sound trace is lawful.
use Rattle.trace_laws.proofs.Words.{◌≡◌, ◌∷◌, refl, ℕ, Bool, true, not, cond, List, [], Some, None, is_none, arith}
use Rattle.trace_laws.proofs.Words.{and_from, Start, Look, Term, Kill, Birth, Asked, Goal, Event, unreaped_children}
use Rattle.trace_laws.proofs.Words.{is_settled, may_come, is_sound, has_no_unreaped_child, has_startable_entry}
use Rattle.trace_laws.proofs.Words.{is_in_turn, no_unreaped_is_excluded}
use Rattle.trace_laws.proofs.Words.{is_free, is_due_hold, may_term, may_kill, broken, is_lawful, first_breach}
use Rattle.trace_events.specs.declared.happenings.Happening.TheVariants.{Settle, Hold}
use Rattle.trace_laws.proofs.Keeps.{sound_ind}
use Rattle.trace_laws.proofs.Births.{birth_alone, birth_placed, birth_in_turn, birth_spared}
use Rattle.trace_laws.proofs.Settling.{settle_settled}
use Rattle.trace_laws.proofs.Limits.{start_free, hold_due}
use Rattle.trace_laws.proofs.Signals.{term_may, kill_may}

-- if the test of each law succeeds, no law is broken
none_of_four : (a b c d : Bool) → a ≡ true → b ≡ true → c ≡ true → d ≡ true → is_none {T = ℕ}
    (cond (not a) (Some 1) (cond (not b) (Some 2) (cond (not c) (Some 3) (cond (not d) (Some 4) None)))) ≡ true
none_of_four a b c d ha hb hc hd = rw (ha, hb, hc, hd) refl

none_of_one : (a : Bool) (law : ℕ) → a ≡ true → is_none {T = ℕ} (cond (not a) (Some law) None) ≡ true
none_of_one a law h = rw h refl

unbroken : (goal : Goal) (happening : Event) (past : List Event) → may_come goal happening past ≡ true
    → is_sound goal past ≡ true → is_none (broken happening past) ≡ true
unbroken goal (Birth id n) past may sound =
    let h = and_from (may_come goal (Birth id n) past) (is_sound goal past) may sound in
    none_of_four (has_no_unreaped_child id past) (has_startable_entry id past) (is_in_turn id past)
    (no_unreaped_is_excluded past) (birth_alone goal [] id n
    past h) (birth_placed goal [] id n past h) (birth_in_turn goal [] id n past h) (birth_spared goal [] id n past h)
unbroken goal (Settle level) past may sound = none_of_one (is_settled level (unreaped_children past) past) 5
    (settle_settled goal [] level past (and_from (may_come goal (Settle level) past) (is_sound goal past) may sound))
unbroken goal (Asked id Start) past may sound = none_of_one (is_free id past) 6
    (start_free goal [] id past (and_from (may_come goal (Asked id Start) past) (is_sound goal past) may sound))
unbroken goal (Asked id Look) past may sound = refl
unbroken goal (Asked id Term) past may sound = none_of_one (may_term id past) 7
    (term_may goal [] id past (and_from (may_come goal (Asked id Term) past) (is_sound goal past) may sound))
unbroken goal (Asked id Kill) past may sound = none_of_one (may_kill id past) 7
    (kill_may goal [] id past (and_from (may_come goal (Asked id Kill) past) (is_sound goal past) may sound))
unbroken goal (Hold id) past may sound = none_of_one (is_due_hold id past) 6
    (hold_due goal [] id past (and_from (may_come goal (Hold id) past) (is_sound goal past) may sound))
unbroken goal _ past may sound = refl

pub sound_lawful : (goal : Goal) (past : List Event) → is_sound goal past ≡ true → is_lawful past ≡ true
sound_lawful goal past h = sound_ind goal (λ before. is_lawful before ≡ true) (λ table distinct. refl)
    (λ happening before may sound lawful. and_from (is_none (broken happening before)) (is_lawful before)
    (unbroken goal happening before may sound) lawful) past h

-- a lawful trace has no first breach
pub lawful_unbroken : (past : List Event) → is_lawful past ≡ true → first_breach past ≡ None
lawful_unbroken [] h = refl
lawful_unbroken (happening ∷ past) h = grind (arith, lawful_unbroken past)
