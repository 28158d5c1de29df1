-- The respawn limit at each start and each hold of a sound trace.
use Rattle.trace_laws.proofs.Words.{◌≡◌, refl, sym, ◌∙◌, ap, ℕ, Bool, true, false, not, ◌&&◌, ◌||◌, List, ◌∷◌, ◌++◌}
use Rattle.trace_laws.proofs.Words.{Option, option_map, option_map_or, and_from, Entry, Start, Asked, Goal, Event}
use Rattle.trace_laws.proofs.Words.{table_of, is_held, is_full, is_limited, may_come, is_sound, is_limited_id, is_free}
use Rattle.trace_laws.proofs.Words.{is_due_hold, is_distinct, not_from}
use Rattle.trace_events.specs.declared.happenings.Happening.TheVariants.{Hold}
use Rattle.trace_events.specs.declared.steps.Step.TheVariants as step
use Rattle.trace_laws.proofs.Dues.{MayRun, MayStart, MayHold, due_facts}
use Rattle.trace_laws.proofs.Keeps.{sound_holds}
use Rattle.trace_laws.proofs.Births.{step_at}

-- whether the respawn limit applies to an id, from the entry that may start now
run_limited : (id : List ℕ) (past : List Event) (may : MayRun id (table_of past) past)
    → is_distinct (table_of past) ≡ true → is_limited_id id past ≡ is_limited may.entry.act
run_limited id past may distinct =
    ap (λ (o : Option Entry). option_map_or is_limited (option_map (λ (e : Entry). e.act) o) false) (may.found distinct)

pub start_free : (goal : Goal) (later : List Event) (id : List ℕ) (past : List Event)
    → is_sound goal (later ++ Asked id Start ∷ past) ≡ true → is_free id past ≡ true
start_free goal later id past h = split (is_limited_id id past) refl where
  parts : (may_come goal (Asked id Start) past ≡ true) × (is_sound goal past ≡ true)
  parts = step_at goal later (Asked id Start) past refl h

  may : MayStart id (table_of past) past
  may = due_facts goal past (step.Order id Start) parts.0

  split : (b : Bool) → is_limited_id id past ≡ b → (not b || not (is_held id past) && not (is_full id past)) ≡ true
  split false none = refl
  split true limited =
      let free = may.free (sym (run_limited id past may.run (sound_holds goal past parts.1).distinct) ∙ limited) in
      and_from (not (is_held id past)) (not (is_full id past)) (not_from (is_held id past) free.0)
      (not_from (is_full id past) free.1)

pub hold_due : (goal : Goal) (later : List Event) (id : List ℕ) (past : List Event)
    → is_sound goal (later ++ Hold id ∷ past) ≡ true → is_due_hold id past ≡ true
hold_due goal later id past h = and_from (is_limited_id id past && not (is_held id past)) (is_full id past)
    (and_from (is_limited_id id past) (not (is_held id past)) (run_limited id past may.run
    (sound_holds goal past parts.1).distinct ∙ may.limited) (not_from (is_held id past) may.free)) may.full where
      parts : (may_come goal (Hold id) past ≡ true) × (is_sound goal past ≡ true)
      parts = step_at goal later (Hold id) past refl h

      may : MayHold id (table_of past) past
      may = due_facts goal past (step.Hold id) parts.0
