-- When init is at rest, which children it waits for at a rest, and why.
use Rattle.std.specs.Prelude.{◌≡◌, ℕ, Bool, true, false, not, ◌&&◌, ◌||◌, ◌++◌, IsTrue, if◌then◌else◌, List, [], ◌∷◌}
use Rattle.std.specs.Prelude.{filter, length, Option, Some, None, is_some}
use Rattle.std.specs.List.{list_any}
use Rattle.std.specs.Option.{option_map_or}
use Rattle.core_waiting.specs.Words.{Entry, is_called_by, waited_of, same_id, entry_of, NewTable, Enter, Call, Power}
use Rattle.core_waiting.specs.Words.{Asked, Goal, Event, Child, is_idle, has_child, open_of, table_of, stage_of}
use Rattle.core_waiting.specs.Words.{grace_of, time_of, kept_children, is_order, is_wanted, is_excluded, Signal}
use Rattle.core_waiting.specs.Words.{is_grace_over, is_missed, spell_hits, in_run, powers, due, is_announced}
use Rattle.core_waiting.specs.Words.{wants_look}
use Rattle.core_waiting.specs.Words.{is_sound}
use Rattle.init_words.specs.declared.actions.Act.{Act}
use Rattle.init_words.specs.declared.orders.OrderKind.TheVariants.{Start, Term, Kill}
use Rattle.core_waiting.specs.declared.rests.WhyAwaited.{WhyAwaited}
use Rattle.core_waiting.specs.declared.rests.WhyAwaited.TheVariants.{Excluded, WaitedFor, InTheWay}

-- the reason why init waits for a child because of its entry, if it does: init waits for the entry, or the entry is
-- wanted again
abbrev pub why_of_entry : Option Entry → List Event → Option WhyAwaited
why_of_entry None past = None
why_of_entry (Some e) past =
    if waited_of e then Some WaitedFor else if is_wanted e past then Some InTheWay else None

-- the reason why init waits for a kept child, if it does: the child is excluded, or its entry is a reason
abbrev pub why_awaited : List Event → Child → Option WhyAwaited
why_awaited past child =
    if is_excluded past child then Some Excluded else why_of_entry (entry_of child.id (table_of past)) past

-- init waits for the child
abbrev pub is_awaited : List Event → Child → Bool
is_awaited past child = is_some (why_awaited past child)

-- the children that init waits for
abbrev pub awaited_children : List Event → List Child
awaited_children past = filter (is_awaited past) (kept_children past)

-- a run level is in force and is announced settled
abbrev pub is_level_announced : List Event → Bool
is_level_announced past = in_run (stage_of past) && is_announced past

-- the list has no element
abbrev pub is_empty : {X : Type 0} → List X → Bool
is_empty [] = true
is_empty (x ∷ xs) = false

-- init is at rest: no step is due
abbrev pub AtRest : Goal → List Event → Type 0
AtRest goal past = due goal past ≡ []

-- `Law` holds at each moment of each sound trace at which init is at rest
abbrev pub AtEachRest : (List Event → Type 0) → Type 0
AtEachRest Law = (goal : Goal) (later past : List Event) → IsTrue (is_sound goal (later ++ past)) → AtRest goal past
    → Law past

-- a power event calls entries with this action
abbrev pub answers_power : Act → Bool
answers_power a = list_any (λ kind. is_called_by kind a) powers

-- the child belongs to an entry that a power event calls
abbrev pub is_on_power : List Event → Child → Bool
is_on_power past child =
    option_map_or (λ (e : Entry). answers_power e.act) (entry_of child.id (table_of past)) false

-- the stop signals for a child, newest first, have not had their effect yet: there is a TERM whose grace period is not
-- over, or a KILL
abbrev pub are_in_force : ℕ → ℕ → List Signal → Bool
are_in_force grace now [] = false
are_in_force grace now (signal ∷ []) = is_order Term signal.order && not (is_grace_over grace now signal)
are_in_force grace now (signal ∷ earlier) = is_order Kill signal.order

-- the child, if it is excluded, is being stopped: a signal to it failed and is repeated in the next round, or a TERM
-- whose grace period is not over or a KILL was sent
abbrev pub is_stopping : List Event → Child → Bool
is_stopping past child =
    not (is_excluded past child) || is_missed child past
    || are_in_force (grace_of past) (time_of past) (spell_hits child past)

-- an order is open for the child's id, or a Look at the child was ordered since the last round began
abbrev pub is_looked_at : List Event → Child → Bool
is_looked_at past child = is_some (open_of child.id past) || not (wants_look child.id past)

-- the stretch is calm: it enters no stage, has no new table, and no power event or letter calls entries
abbrev pub is_calm : List Event → Bool
is_calm [] = true
is_calm (NewTable table ∷ between) = false
is_calm (Enter stage grace ∷ between) = false
is_calm (Power kind ∷ between) = false
is_calm (Call letter ∷ between) = false
is_calm (happening ∷ between) = is_calm between

-- init waits for the id's entry
abbrev pub is_waited_id : List ℕ → List Event → Bool
is_waited_id id past = option_map_or waited_of (entry_of id (table_of past)) false

-- whenever two Starts of an id in a sound trace have only a calm stretch in between, `Law` holds of the id and the
-- trace before the first Start
abbrev pub BetweenCalmStarts : (List ℕ → List Event → Type 0) → Type 0
BetweenCalmStarts Law =
    (goal : Goal) (later between past : List Event) (id : List ℕ)
    → IsTrue (is_sound goal (later ++ Asked id Start ∷ (between ++ Asked id Start ∷ past)))
    → IsTrue (is_calm between) → Law id past

-- the happening is a Start of the id
abbrev pub is_start_of : List ℕ → Event → Bool
is_start_of id (Asked i Start) = same_id id i
is_start_of id _ = false

-- the happening is a Start of an id whose entry init waits for
abbrev pub is_waited_start : List Event → Event → Bool
is_waited_start past (Asked i Start) = is_waited_id i past
is_waited_start past _ = false

-- a child from before the stretch is gone: its id has no kept child after the stretch, or was started again during it,
-- which is possible only once the child is gone
abbrev pub is_gone : List Event → List Event → Child → Bool
is_gone between past child =
    not (has_child child.id (kept_children (between ++ past))) || list_any (is_start_of child.id) between

-- whenever two rests with no order open have only a calm stretch in between, `Law` holds of the stretch and the trace
-- before it
abbrev pub BetweenRests : (List Event → List Event → Type 0) → Type 0
BetweenRests Law =
    (goal : Goal) (later between past : List Event) → IsTrue (is_sound goal (later ++ (between ++ past)))
    → IsTrue (is_calm between) → AtRest goal past → IsTrue (is_idle past) → AtRest goal (between ++ past)
    → IsTrue (is_idle (between ++ past)) → Law between past

-- init waits for the entry, and the entry is wanted
abbrev pub is_wanted_wait : List Event → Entry → Bool
is_wanted_wait past e = waited_of e && is_wanted e past

-- the number of wanted entries that init waits for
abbrev pub count_wanted_waits : List Event → ℕ
count_wanted_waits past = length (filter (is_wanted_wait past) (table_of past))

-- the trace after these rounds, which are given newest first
abbrev pub after_rounds : List (List Event) → List Event → List Event
after_rounds [] past = past
after_rounds (round ∷ earlier) past = round ++ after_rounds earlier past
