-- The births of an id's children: how many there were, the time of the latest, and which preceded the first level.
use Rattle.std.specs.Prelude.{ℕ, Bool, false, ◌&&◌, ◌+◌, ◌-◌, ◌^◌, min, if◌then◌else◌, List, [], ◌∷◌, ◌++◌, Option}
use Rattle.std.specs.Prelude.{Some, None}
use Rattle.std.specs.List.{list_any}
use Rattle.std.specs.Option.{option_map_or}
use Rattle.trace_view.specs.Words.{Entry, ignores_levels, same_id, Birth, Event, time_of, Child, is_child_of, newborn}
use Rattle.trace_view.specs.Words.{same_acts}
use Rattle.trace_view.specs.declared.rows.Births.{Births}

-- the births with one more at this time; the count stops at 2^64 - 1
abbrev pub one_more : ℕ → Option Births → Births
one_more time None = record { count = 1; latest = time }
one_more time (Some births) = record { count = min (births.count + 1) (2 ^ 64 - 1); latest = time }

-- the number of births of the id's children and the time of the latest; none if there was no birth
abbrev pub births_of : List ℕ → List Event → Option Births
births_of id [] = None
births_of id (Birth i number ∷ past) =
    if same_id id i then Some (one_more (time_of past) (births_of id past)) else births_of id past
births_of id (_ ∷ past) = births_of id past

-- the child was born for an entry whose action starts it before the first level (sysinit, boot, bootwait)
abbrev pub is_early : Child → Bool
is_early child = option_map_or ignores_levels child.act false

-- the children, with this child appended if it was born before the first level
abbrev pub or_early : Child → List Child → List Child
or_early child before = if is_early child then before ++ child ∷ [] else before

-- the children of the past that were born before the first level, oldest first
abbrev pub early_children : List Event → List Child
early_children [] = []
early_children (Birth id number ∷ past) = or_early (newborn id number past) (early_children past)
early_children (_ ∷ past) = early_children past

-- the child was born for the entry's id, which had the same action at that time
abbrev pub is_born_as : Entry → Child → Bool
is_born_as e child = is_child_of e.id child && same_acts child.act (Some e.act)

-- before the first level, a child was born for the entry's id, which had the same action at that time
abbrev pub ran_early : Entry → List Event → Bool
ran_early e past = list_any (is_born_as e) (early_children past)
