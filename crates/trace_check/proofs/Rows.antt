-- Traces, the oldest happening first, each with its first breach, which `refl` computes.
use Rattle.trace_check.proofs.Words.{◌≡◌, refl, ℕ, List, [], ◌∷◌, ◌++◌, reverse, replicate, codes, Option, Some, None}
use Rattle.trace_check.proofs.Words.{Entry, Level, Start, Term, Kill, NewTable, Enter, Call, Asked, Hold, Settle, Birth}
use Rattle.trace_check.proofs.Words.{Hit, Told, Clock, Event, Fault, first_breach}
use Rattle.init_words.specs.declared.actions.Act.{Act}
use Rattle.init_words.specs.declared.actions.Act.TheVariants as act
use Rattle.init_words.specs.declared.levels.Level.TheVariants as level
use Rattle.init_words.specs.declared.levels.Letter.TheVariants as letter
use Rattle.init_words.specs.declared.levels.Mark.TheVariants.{At, OnCall}
use Rattle.init_words.specs.declared.stages.Stage.TheVariants.{Run}

abbrev entry : List ℕ → Level → Act → Entry
entry id at action =
    record { id = id; levels = record { items = At at ∷ [] }; act = action; process = record { items = codes "x" } }

abbrev enter : Level → Event
enter at = Enter (Run at) 5

abbrev breach : ℕ → ℕ → Option Fault
breach position law = Some (record { position = position; law = law })

abbrev first_of : List Event → Option Fault
first_of trace = first_breach (reverse trace)

empty_map : first_of [] ≡ None
empty_map = refl

-- a level is settled before anything else
settled_at_once : first_of (Settle level.L3 ∷ []) ≡ breach 0 5
settled_at_once = refl

-- a birth before anything else
born_at_once : first_of (Birth (codes "a") 1 ∷ []) ≡ breach 0 2
born_at_once = refl

-- a hold of an entry to which the respawn limit does not apply
once_held : first_of (NewTable (entry (codes "a") level.L3 act.Once ∷ []) ∷ Hold (codes "a") ∷ []) ≡ breach 1 6
once_held = refl

-- a KILL to nobody
nobody_killed : first_of
    (NewTable (entry (codes "a") level.L3 act.Respawn ∷ []) ∷ enter level.L3 ∷ Asked (codes "a") Kill ∷ []) ≡ breach 2 7
nobody_killed = refl

-- a birth while an excluded child is unreaped
started_past_forerunner : first_of (NewTable (entry (codes "a") level.L3 act.Once ∷ entry (codes "b") level.L1 act.Once
    ∷ []) ∷ enter level.L3 ∷ Asked (codes "a") Start ∷ Birth (codes "a") 10 ∷ Told (codes "a") ∷ enter level.L1
    ∷ Asked (codes "b") Start ∷ Birth (codes "b") 11 ∷ []) ≡ breach 7 4
started_past_forerunner = refl

-- a second child of an id, which does not start in the stage, while an excluded child is unreaped: the smallest law
second_child : first_of (NewTable (entry (codes "a") level.L3 act.Respawn ∷ []) ∷ enter level.L3 ∷ Birth (codes "a") 1
    ∷ enter level.L1 ∷ Birth (codes "a") 2 ∷ []) ≡ breach 4 1
second_child = refl

-- a birth before an earlier entry that init waits for
out_of_turn : first_of (NewTable (entry (codes "w") level.L3 act.Wait ∷ entry (codes "r") level.L3 act.Respawn ∷ [])
    ∷ enter level.L3 ∷ Birth (codes "r") 1 ∷ []) ≡ breach 2 3
out_of_turn = refl

-- the first of two breaches
first_of_two : first_of (Settle level.L3 ∷ Birth (codes "a") 1 ∷ []) ≡ breach 0 5
first_of_two = refl

-- a KILL before the grace period is over
killed_early : first_of
    (NewTable (entry (codes "a") level.L3 act.Respawn ∷ []) ∷ enter level.L3 ∷ Birth (codes "a") 1 ∷ enter level.L1
    ∷ Asked (codes "a") Term ∷ Hit (codes "a") ∷ Told (codes "a") ∷ Clock 4 ∷ Asked (codes "a") Kill ∷ []) ≡ breach 8 7
killed_early = refl

-- a KILL after a TERM of an earlier spell
killed_after_a_return : first_of (NewTable (entry (codes "a") level.L3 act.Respawn ∷ []) ∷ enter level.L3
    ∷ Birth (codes "a") 1 ∷ enter level.L1 ∷ Asked (codes "a") Term ∷ Hit (codes "a") ∷ Told (codes "a")
    ∷ enter level.L3 ∷ enter level.L1 ∷ Clock 5 ∷ Asked (codes "a") Kill ∷ []) ≡ breach 10 7
killed_after_a_return = refl

-- a KILL after the grace period
killed_in_time : first_of
    (NewTable (entry (codes "a") level.L3 act.Respawn ∷ []) ∷ enter level.L3 ∷ Birth (codes "a") 1 ∷ enter level.L1
    ∷ Asked (codes "a") Term ∷ Hit (codes "a") ∷ Told (codes "a") ∷ Clock 5 ∷ Asked (codes "a") Kill ∷ []) ≡ None
killed_in_time = refl

-- eleven starts at once
eleventh_start : first_of (NewTable (entry (codes "r") level.S act.Respawn ∷ []) ∷ enter level.S
    ∷ replicate 11 (Asked (codes "r") Start)) ≡ breach 12 6
eleventh_start = refl

-- the eleventh start two minutes after the first
eleventh_later : first_of (NewTable (entry (codes "r") level.S act.Respawn ∷ []) ∷ enter level.S
    ∷ replicate 10 (Asked (codes "r") Start) ++ Clock 120 ∷ Asked (codes "r") Start ∷ []) ≡ None
eleventh_later = refl

-- an entry that a letter called is subject to the same limit, and another call does not end the hold
abbrev on_call : Entry
on_call = record {
  id = codes "d";
  levels = record { items = OnCall letter.A ∷ [] };
  act = act.Ondemand;
  process = record { items = codes "x" };
}

eleventh_called : first_of
    (NewTable (on_call ∷ []) ∷ enter level.L3 ∷ Call letter.A ∷ replicate 11 (Asked (codes "d") Start)) ≡ breach 13 6
eleventh_called = refl

called_while_held : first_of (NewTable (on_call ∷ []) ∷ enter level.L3 ∷ Call letter.A ∷ replicate 10
    (Asked (codes "d") Start) ++ Hold (codes "d") ∷ Call letter.A ∷ Asked (codes "d") Start ∷ []) ≡ breach 15 6
called_while_held = refl
