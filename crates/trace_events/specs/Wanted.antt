-- Entries that are asked, called, wanted or owed, and children that are excluded (inittab(5), init(8)).
use Rattle.std.specs.Prelude.{ℕ, Bool, false, not, ◌&&◌, ◌||◌, if◌then◌else◌, List, [], ◌∷◌, Option, Some, None}
use Rattle.std.specs.List.{list_any}
use Rattle.trace_events.specs.Words.{Entry, Act, OnCall, Stage, OrderKind, Start, same_id, same_act, is_called_by}
use Rattle.trace_events.specs.Words.{is_ondemand, stays_called, wanted_by, names, same_ask, starts_of, lives_of}
use Rattle.trace_events.specs.Words.{waited_of, has_id, entry_of, act_of}
use Rattle.trace_events.specs.declared.happenings.Happening.TheVariants.{NewTable, Enter, Call, Power, Asked}
use Rattle.trace_events.specs.Event.{Event}
use Rattle.trace_events.specs.Past.{table_of, stage_of, Child, has_child, open_of, kept_children}

-- the entry starts in the stage; no entry starts before the first stage
abbrev pub starts_in : Entry → Option Stage → Bool
starts_in e None = false
starts_in e (Some stage) = starts_of e stage

-- the entry starts in the stage in force
abbrev pub starts_now : Entry → List Event → Bool
starts_now e past = starts_in e (stage_of past)

-- the order exists and is of this kind
abbrev pub is_order : OrderKind → Option OrderKind → Bool
is_order ask None = false
is_order ask (Some given) = same_ask ask given

-- both actions exist and are the same
abbrev pub same_acts : Option Act → Option Act → Bool
same_acts (Some a) (Some b) = same_act a b
same_acts _ _ = false

-- a table adds or changes the id: the table has the id, and the previous table did not, or had another action for it
abbrev pub adds_or_changes : List ℕ → List Entry → List Entry → Bool
adds_or_changes id table before = list_any (has_id id) table && not (same_acts (act_of id table) (act_of id before))

-- asked: a Start of the id was ordered since the last Enter and since the last table that added or changed the id
abbrev pub is_asked : List ℕ → List Event → Bool
is_asked id [] = false
is_asked id (Enter stage grace ∷ past) = false
is_asked id (NewTable table ∷ past) = not (adds_or_changes id table (table_of past)) && is_asked id past
is_asked id (Asked i Start ∷ past) = same_id id i || is_asked id past
is_asked id (_ ∷ past) = is_asked id past

-- called: since the last Enter and the last table, a power event or a letter called the entry in a stage in which it
-- starts, and no Start of it was ordered after that; for an action that stays called, a Start does not end the call
abbrev pub is_called : Entry → List Event → Bool
is_called e [] = false
is_called e (Enter stage grace ∷ past) = false
is_called e (NewTable table ∷ past) = false
is_called e (Power kind ∷ past) = is_called_by kind e.act && starts_now e past || is_called e past
is_called e (Call letter ∷ past) =
    is_ondemand e.act && names (OnCall letter) e.levels.items && starts_now e past || is_called e past
is_called e (Asked i Start ∷ past) = (stays_called e.act || not (same_id e.id i)) && is_called e past
is_called e (_ ∷ past) = is_called e past

-- the id has no running child: it has no kept child and no open Start
abbrev pub has_no_running_child : List ℕ → List Event → Bool
has_no_running_child id past = not (has_child id (kept_children past)) && not (is_order Start (open_of id past))

-- wanted: the entry starts in the stage in force, and its action asks for a start now
abbrev pub is_wanted : Entry → List Event → Bool
is_wanted e past =
    starts_now e past && wanted_by e.act (has_no_running_child e.id past) (not (is_asked e.id past)) (is_called e past)

-- owed: init waits for the entry, and it has a kept child, an open Start, or is wanted
abbrev pub is_owed : Entry → List Event → Bool
is_owed e past =
    waited_of e && (has_child e.id (kept_children past) || is_order Start (open_of e.id past) || is_wanted e past)

-- the entries before the first one with this id
abbrev pub entries_before : List ℕ → List Entry → List Entry
entries_before id [] = []
entries_before id (e ∷ es) = if same_id id e.id then [] else e ∷ entries_before id es

-- an entry before the id's entry is owed
abbrev pub is_owed_before : List ℕ → List Event → Bool
is_owed_before id past = list_any (λ e. is_owed e past) (entries_before id (table_of past))

-- a child may live: the table has an entry for its id, with the action that the child was born with, and children of
-- that entry may live in the stage
abbrev pub may_live : Option Entry → Option Act → Option Stage → Bool
may_live (Some e) (Some action) (Some stage) = same_act e.act action && lives_of e stage
may_live _ _ _ = false

-- excluded: the child may not live in the stage in force, so it is stopped
abbrev pub is_excluded : List Event → Child → Bool
is_excluded past child = not (may_live (entry_of child.id (table_of past)) child.act (stage_of past))
