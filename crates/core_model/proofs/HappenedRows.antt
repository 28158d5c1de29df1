-- Worked examples of what births and announcements need: a run that has it, and traces that do not.
use Rattle.core_model.proofs.Words.{◌≡◌, refl, sym, ◌∙◌, ap, ℕ, Bool, true, false, List, [], ◌∷◌, ◌++◌, arith, codes}
use Rattle.core_model.proofs.Words.{false≢true, list_any, Entry, At, Start, Look, NewTable, Asked, Birth, Death, Reaped}
use Rattle.core_model.proofs.Words.{Told, Nudge, length, filter, table_of, known_children, is_without_entry, same_id}
use Rattle.core_model.proofs.Words.{◌≤◌, ◌+◌, ◌⊎◌, inl, inr, HasChild, WasHeld, Goal, Event, newborn, is_sound}
use Rattle.core_model.proofs.Words.{is_reaping_of, MayLive, AllMayLive, AllEarlierDone, WasEnded, IsReached}
use Rattle.init_words.specs.declared.actions.Act.TheVariants as act
use Rattle.init_words.specs.declared.children.Status.TheVariants.{Exit}
use Rattle.init_words.specs.declared.levels.Level.TheVariants as level
use Rattle.init_words.specs.declared.stages.Stage.TheVariants as stage
use Rattle.trace_events.specs.declared.happenings.Happening.TheVariants.{Enter, Hold, Settle}
use Rattle.trace_events.specs.Wanted.{is_excluded}
use Rattle.core_model.proofs.Happened.{birth_lives, birth_through, settle_reached}

abbrev wait : Entry
wait = record {
  id = codes "w";
  levels = record { items = At level.L3 ∷ [] };
  act = act.Wait;
  process =
      record { items = codes "prep" };
}

abbrev service : Entry
service = record {
  id = codes "s";
  levels = record { items = At level.L3 ∷ [] };
  act = act.Respawn;
  process =
      record { items = codes "serve" };
}

abbrev goal : Goal
goal = record { level = level.L3; grace = 5 }

abbrev entered : List Event
entered = Enter (stage.Run level.L3) 5 ∷ Enter stage.Boot 5 ∷ Enter stage.Sysinit 5 ∷ NewTable
    (wait ∷ service ∷ []) ∷ []

-- the waited child is alive
abbrev waits : List Event
waits = Told (codes "w") ∷ Birth (codes "w") 10 ∷ Asked (codes "w") Start ∷ entered

-- the waited child has ended
abbrev ended : List Event
ended = Asked (codes "s") Start ∷ Told (codes "w") ∷ Reaped (codes "w") 10 (Exit 0) ∷ Death 10 ∷ Asked
    (codes "w") Look ∷ Nudge ∷ waits

abbrev runs : List Event
runs = Told (codes "s") ∷ Birth (codes "s") 11 ∷ ended

sound : is_sound goal (Settle level.L3 ∷ runs) ≡ true
sound = refl

through : AllEarlierDone (codes "s") ended
through = birth_through goal (Settle level.L3 ∷ Told (codes "s") ∷ []) (codes "s") 11 ended sound

living : AllMayLive ended
living = birth_lives goal (Settle level.L3 ∷ Told (codes "s") ∷ []) (codes "s") 11 ended sound

reached : IsReached level.L3 runs
reached = settle_reached goal [] level.L3 runs sound

-- while the waited child is alive, its entry is not through
any_behind : (p : Event → Bool) (xs ys : List Event) → list_any p ys ≡ true → list_any p (xs ++ ys) ≡ true
any_behind p [] ys there = there
any_behind p (x ∷ xs) ys there = grind (arith, any_behind p xs ys)

was_reaped : (id : List ℕ) (n : ℕ) (since : List Event) → WasEnded id n since
    → list_any (is_reaping_of id n) since ≡ true
was_reaped id n since over = ap (list_any (is_reaping_of id n)) over.told
    ∙ any_behind (is_reaping_of id n) over.later (Told id ∷ over.between) over.reaped

waits-is_not_through : AllEarlierDone (codes "s") waits → ⊥
waits-is_not_through all = false≢true
    (was_reaped (codes "w") 10 (Told (codes "w") ∷ [])
    ((all [] (service ∷ []) wait refl refl refl refl).ended 10 (Told (codes "w") ∷ [])
    (Asked (codes "w") Start ∷ entered) refl))

-- in another level, the service may not live
lives : (id : List ℕ) (n : ℕ) (before past : List Event) → MayLive id before past
    → is_excluded past (newborn id n before) ≡ false
lives id n before past may = grind (arith, may.listed, may.same, may.entered, may.lives)

left-may_not_live : AllMayLive (Enter (stage.Run level.L1) 5 ∷ runs) → ⊥
left-may_not_live all = false≢true
    (sym (lives (codes "s") 11 ended (Enter (stage.Run level.L1) 5 ∷ runs)
    (all (codes "s") 11 (Enter (stage.Run level.L1) 5 ∷ Told (codes "s") ∷ []) ended refl refl)))

-- before the wait entry is through, the level is not reached
waits-is_not_reached : IsReached level.L3 waits → ⊥
waits-is_not_reached all = false≢true
    (was_reaped (codes "w") 10 (Told (codes "w") ∷ [])
    ((all.through [] (service ∷ []) wait refl refl).ended 10 (Told (codes "w") ∷ [])
    (Asked (codes "w") Start ∷ entered) refl))

-- the wait entry was never started, so its level is not reached
abbrev is_order : Event → Bool
is_order (Asked id kind) = true
is_order _ = false

entered-is_not_reached : IsReached level.L3 entered → ⊥
entered-is_not_reached all = let start = all.served [] (service ∷ []) wait refl refl in
    false≢true (ap (list_any is_order) start.ordered
    ∙ any_behind is_order start.since (Asked (codes "w") Start ∷ start.before) refl)

-- the level is not reached if the wait entry is through, but the service has no child and was not held
abbrev is_of_service : Event → Bool
is_of_service (Birth id n) = same_id (codes "s") id
is_of_service (Hold id) = same_id (codes "s") id
is_of_service _ = false

abbrev idle : List Event
idle = Told (codes "w") ∷ Reaped (codes "w") 10 (Exit 0) ∷ Death 10 ∷ Asked (codes "w") Look ∷ Nudge ∷ waits

is_unserved : HasChild (codes "s") idle ⊎ WasHeld (codes "s") idle → ⊥
is_unserved (inl child) = false≢true (ap (list_any is_of_service) child.born
    ∙ any_behind is_of_service child.since (Birth (codes "s") child.number ∷ child.before) refl)
is_unserved (inr hold) = false≢true (ap (list_any is_of_service) hold.held
    ∙ any_behind is_of_service hold.since (Hold (codes "s") ∷ hold.before) refl)

idle-is_not_reached : IsReached level.L3 idle → ⊥
idle-is_not_reached all = is_unserved (all.served (wait ∷ []) [] service refl refl)

-- two entries have two records, and so has one entry if an id that left the table still has a child; a third record
-- would be too many
abbrev records_within : List Event → ℕ
records_within past = length (table_of past) + length (filter (is_without_entry (table_of past)) (known_children past))

two_entries : records_within runs ≡ 2
two_entries = refl

one_left : records_within (NewTable (wait ∷ []) ∷ runs) ≡ 2
one_left = refl

no_third : 3 ≤ records_within runs → ⊥
no_third more = grind (arith, two_entries)
