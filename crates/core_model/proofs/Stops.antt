-- The first signal that is due is the one that the records give.
use Rattle.core_model.proofs.Words.{◌≡◌, ◌≤◌, refl, ◌∙◌, cond, arith, ℕ, Bool, true, false, not, ◌&&◌, List, [], ◌∷◌}
use Rattle.core_model.proofs.Words.{map, filter, find, length, Option, Some, None, is_some, is_none, list_any}
use Rattle.core_model.proofs.Words.{option_map, option_map_or, any_none, Step, Goal, Event, Child, is_child_of, open_of}
use Rattle.core_model.proofs.Words.{grace_of, time_of, known_children, Signal, spell_hits, is_missed, stop_by, stop_due}
use Rattle.core_model.proofs.Words.{steps_if, stops_of, stops_among, record_ids, is_sound, known_single, hits_are}
use Rattle.core_model.proofs.Words.{hits_shape, or_else, signal_step, stop_step, stop_among, LastStatuses, living}
use Rattle.core_model.proofs.Words.{stop_after, stop_known, records_of}
use Rattle.trace_events.specs.Wanted.{is_excluded}
use Rattle.trace_events.specs.Due as due
use Rattle.core_model.specs.Fit.{record_of}
use Rattle.core_model.proofs.Firsts.{head, head_append, head_steps_if}
use Rattle.core_model.proofs.Reading.{none_left}

-- the signal after these Hits is the one for the stop after them
signal_same : (grace now : ℕ) (id : List ℕ) (hits : List Signal) → hits_are hits ≡ true
    → head (due.stop_step id (stop_by grace now hits)) ≡ signal_step grace now id (Some (stop_after hits))
signal_same grace now id hits are = grind arith

-- among the children of an id, only the one found is sent a signal
stops_none : (past : List Event) (id : List ℕ) (children : List Child) → list_any (is_child_of id) children ≡ false
    → stops_of id children past ≡ []
stops_none past id [] none = grind arith
stops_none past id (child ∷ children) none = grind (arith, stops_none past id children)

module _ (past : List Event) where
  abbrev signal_of : List ℕ → Option Child → Option Step
  signal_of id None = None
  signal_of id (Some child) = head (due.stop_step id (stop_due child past))

  or_nothing : (o : Option Step) → or_else o None ≡ o
  or_nothing o = grind arith

  stops_found : (id : List ℕ) (children : List Child) → length (filter (is_child_of id) children) ≤ 1
      → head (stops_of id children past) ≡ signal_of id (find (is_child_of id) children)
  stops_found id [] one = grind (arith, head, head_append, stops_none, any_none, none_left, or_nothing)
  stops_found id (child ∷ children) one =
      grind (arith, stops_found id children, head, head_append, stops_none, any_none, none_left, or_nothing)

module _ (lasts : LastStatuses) (goal : Goal) (past : List Event) (sound : is_sound goal past ≡ true) where
  stop_same : (id : List ℕ) → head (steps_if (is_none (open_of id past)) (stops_of id (known_children past) past))
      ≡ stop_step (grace_of past) (time_of past) (record_of lasts past id)
  stop_same id = rw (
    head_steps_if (is_none (open_of id past)) (stops_of id (known_children past) past),
    stops_found past id (known_children past) (known_single goal past sound id),
  ) (at (find (is_child_of id) (known_children past)) refl (is_none (open_of id past)))
    where
      due_same : (child : Child) → hits_are (spell_hits child past) ≡ true → (x m : Bool)
          → head (due.stop_step id
          (cond (x && not m) (stop_by (grace_of past) (time_of past) (spell_hits child past)) None)) ≡ cond (not m)
          (signal_step (grace_of past) (time_of past) id (cond x (Some (stop_after (spell_hits child past))) None)) None
      due_same child are true true = refl
      due_same child are true false = signal_same (grace_of past) (time_of past) id (spell_hits child past) are
      due_same child are false true = refl
      due_same child are false false = refl

      at : (o : Option Child) → find (is_child_of id) (known_children past) ≡ o → (free : Bool)
          → cond free (signal_of past id o) None
          ≡ cond (is_some (option_map living o) && free && not (option_map_or (λ child. is_missed child past) o false))
          (signal_step (grace_of past) (time_of past) id (stop_known past o)) None
      at None is true = refl
      at None is false = refl
      at (Some child) is true =
          due_same child (hits_shape goal past sound id child is) (is_excluded past child) (is_missed child past)
      at (Some child) is false = refl

  stops_along : (ids : List (List ℕ))
      → head (stops_among ids past) ≡ stop_among (grace_of past) (time_of past) (map (record_of lasts past) ids)
  stops_along [] = refl
  stops_along (id ∷ ids) = head_append (steps_if (is_none (open_of id past)) (stops_of id (known_children past) past))
      (stops_among ids past) ∙ (λ i. or_else (stop_same id i) (stops_along ids i))

  -- 6: the first signal
  pub stops_same : head (stops_among (record_ids past) past)
      ≡ stop_among (grace_of past) (time_of past) (records_of lasts past)
  stops_same = stops_along (record_ids past)
