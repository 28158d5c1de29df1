-- The steps that are due, in order of rank (init(8)). `past` is the trace so far, newest happening first.
use Rattle.std.specs.Prelude.{ℕ, Bool, true, false, not, ◌&&◌, ◌||◌, ◌==◌, if◌then◌else◌, List, [], ◌∷◌, ◌++◌, filter}
use Rattle.std.specs.Prelude.{Option, Some, None, is_none}
use Rattle.std.specs.List.{list_any, list_all}
use Rattle.trace_events.specs.Words.{Entry, Level, Letter, At, Stage, Sysinit, Boot, Run, OrderKind, Start, Look}
use Rattle.trace_events.specs.Words.{PowerKind, same_id, same_level, same_letter, names, same_ask, same_power}
use Rattle.trace_events.specs.Words.{same_stage, is_limited, served_by, waited_of, ids_of, has_id}
use Rattle.init_words.specs.declared.levels.Level.TheVariants.{S}
use Rattle.trace_events.specs.declared.happenings.Happening.TheVariants as happened
use Rattle.trace_events.specs.declared.steps.Step.{Step}
use Rattle.trace_events.specs.declared.steps.Step.TheVariants.{Enter, Call, Power, Reread, Order, Hold, Settle, Reexec}
use Rattle.trace_events.specs.declared.steps.Step.TheVariants.{Idle}
use Rattle.trace_events.specs.declared.steps.Goal.{Goal}
use Rattle.trace_events.specs.Event.{Event}
use Rattle.trace_events.specs.Past.{table_of, stage_of, Child, is_child_of, has_child, open_of, is_quiet, is_idle}
use Rattle.trace_events.specs.Past.{kept_children, known_children}
use Rattle.trace_events.specs.Wanted.{is_wanted, is_owed, is_asked, is_excluded}
use Rattle.trace_events.specs.Spells.{stop_due}
use Rattle.trace_events.specs.Timing.{is_held, is_full}
use Rattle.trace_events.specs.Wishes.{is_level, in_run, goal_of, wants_reexec, wants_reread, level_wish}
use Rattle.trace_events.specs.Wishes.{is_power_pending}
use Rattle.trace_events.specs.Wishes.{is_letter_pending, powers, letters, is_request_pending, was_booted}

-- the step, if the condition holds
abbrev pub step_if : Bool → Step → List Step
step_if true step = step ∷ []
step_if false step = []

-- the steps, if the condition holds
abbrev pub steps_if : Bool → List Step → List Step
steps_if true steps = steps
steps_if false steps = []

-- no kept child is excluded
abbrev pub none_excluded : List Event → Bool
none_excluded past = not (list_any (is_excluded past) (kept_children past))

-- 1: before the first stage, enter Sysinit with the grace period of the goal
abbrev pub due_first : Goal → Option Stage → List Event → List Step
due_first goal None past = Enter Sysinit (goal_of goal past).grace ∷ []
due_first goal (Some stage) past = []

-- 2: at a quiet point, re-execute init if a request asks for it
abbrev pub due_reexec : List Event → List Step
due_reexec past = step_if (is_quiet past && wants_reexec past) Reexec

-- 3: at a quiet point, reread inittab if a request requires it
abbrev pub due_reread : List Event → List Step
due_reread past = step_if (is_quiet past && wants_reread past) Reread

-- 4: At a quiet point, carry out the pending request for another level.
-- The step enters the level, or Boot if the level is not S and Boot was never entered, with the requested grace period.
abbrev pub enter_level : Option Goal → List Event → List Step
enter_level None past = []
enter_level (Some wish) past =
    let first_way = not (same_level wish.level S) && not (was_booted past) in
    Enter (if first_way then Boot else Run wish.level) wish.grace ∷ []

-- at a quiet point, the step that enters the requested level, if such a request is pending
abbrev pub due_level : List Event → List Step
due_level past = steps_if (is_quiet past) (enter_level (level_wish past) past)

-- 5: At a quiet point in a runlevel, carry out the pending power events, then the pending letters. For each power event
-- in the list that is pending, the step that calls its entries.
abbrev pub power_steps : List PowerKind → List Event → List Step
power_steps [] past = []
power_steps (kind ∷ kinds) past = step_if (is_power_pending kind past) (Power kind) ++ power_steps kinds past

-- for each letter in the list that is pending, the step that calls its entries
abbrev pub letter_steps : List Letter → List Event → List Step
letter_steps [] past = []
letter_steps (letter ∷ rest) past = step_if (is_letter_pending letter past) (Call letter) ++ letter_steps rest past

-- at a quiet point in a runlevel, the steps for the pending power events and letters
abbrev pub due_news : List Event → List Step
due_news past =
    steps_if (is_quiet past && in_run (stage_of past)) (power_steps powers past ++ letter_steps letters past)

-- the ids that have left the table, in their earlier order: first those of the previous table, then those that left
-- before it; an id that returns is removed
abbrev pub removed_ids : List Event → List (List ℕ)
removed_ids [] = []
removed_ids (happened.NewTable table ∷ past) =
    filter (λ id. not (list_any (has_id id) table)) (ids_of (table_of past) ++ removed_ids past)
removed_ids (_ ∷ past) = removed_ids past

-- record order: the ids of the table, then those that have left it and still have a known child
abbrev pub record_ids : List Event → List (List ℕ)
record_ids past = ids_of (table_of past) ++ filter (λ id. has_child id (known_children past)) (removed_ids past)

-- 6: If no request is pending, send the signals that are due to known children whose ids have no open order, in record
-- order.
-- The step that orders this signal for the id, if there is one.
abbrev pub stop_step : List ℕ → Option OrderKind → List Step
stop_step id None = []
stop_step id (Some ask) = Order id ask ∷ []

-- for each child of the id in the list, the step that orders the signal due to it, if there is one
abbrev pub stops_of : List ℕ → List Child → List Event → List Step
stops_of id [] past = []
stops_of id (child ∷ children) past =
    steps_if (is_child_of id child) (stop_step id (stop_due child past)) ++ stops_of id children past

-- the steps that order the signals due to the known children of these ids, in order; none for an id with an open order
abbrev pub stops_among : List (List ℕ) → List Event → List Step
stops_among [] past = []
stops_among (id ∷ ids) past =
    steps_if (is_none (open_of id past)) (stops_of id (known_children past) past) ++ stops_among ids past

-- if no request is pending, the steps that order signals, for all ids in record order
abbrev pub due_stops : List Event → List Step
due_stops past = steps_if (not (is_request_pending past)) (stops_among (record_ids past) past)

-- 7: If no request is pending and no kept child is excluded, start or hold the entries in table order, up to and
-- including the first owed entry.
-- The entry can be started: it is wanted, and has no kept child and no open order.
abbrev pub can_start : Entry → List Event → Bool
can_start e past = is_wanted e past && not (has_child e.id (kept_children past)) && is_none (open_of e.id past)

-- start the entry; if the respawn limit applies to it, skip it while it is held, and hold it if its window is full
abbrev pub start_steps : Entry → List Event → List Step
start_steps e past =
    if is_limited e.act then
    steps_if (not (is_held e.id past)) ((if is_full e.id past then Hold e.id else Order e.id Start) ∷ [])
    else Order e.id Start ∷ []

-- the starts and holds of these entries in order, up to and including the first owed one
abbrev pub starts_among : List Entry → List Event → List Step
starts_among [] past = []
starts_among (e ∷ es) past =
    steps_if (can_start e past) (start_steps e past) ++ (if is_owed e past then [] else starts_among es past)

-- if no request is pending and no kept child is excluded, the starts and holds of the table
abbrev pub due_starts : List Event → List Step
due_starts past =
    steps_if (not (is_request_pending past) && none_excluded past) (starts_among (table_of past) past)

-- 8: When the stage is over, enter the next one.
-- The stage is over at a quiet point if no request is pending, no kept child is excluded, no entry is wanted, and no
-- entry that init waits for has a kept child.
abbrev pub is_over : List Event → Bool
is_over past = not (is_request_pending past) && is_quiet past && none_excluded past
    && list_all (λ e. not (is_wanted e past) && not (waited_of e && has_child e.id (kept_children past)))
    (table_of past)

-- after Sysinit, enter Boot, or S if that is the goal; after Boot, enter the goal's level; use the goal's grace period
abbrev pub next_stage : Goal → Option Stage → List Step
next_stage goal (Some Sysinit) = Enter (if same_level goal.level S then Run S else Boot) goal.grace ∷ []
next_stage goal (Some Boot) = Enter (Run goal.level) goal.grace ∷ []
next_stage goal _ = []

-- if the stage is over, enter the next one
abbrev pub due_stage : Goal → List Event → List Step
due_stage goal past = steps_if (is_over past) (next_stage (goal_of goal past) (stage_of past))

-- init has announced that the level is settled since the last Enter or table
abbrev pub is_announced : List Event → Bool
is_announced [] = false
is_announced (happened.Settle level ∷ past) = true
is_announced (happened.Enter stage grace ∷ past) = false
is_announced (happened.NewTable table ∷ past) = false
is_announced (_ ∷ past) = is_announced past

-- the entry does not keep the level from being settled: it is not owed and, if it names the level, it is served (a
-- respawn entry is served if it is held or has a child in the list)
abbrev pub is_served : Level → List Child → List Event → Entry → Bool
is_served level there past e = not (is_owed e past)
    && (not (names (At level) e.levels.items)
    || served_by e.act (is_asked e.id past) (has_child e.id there || is_held e.id past))

-- the level is settled, judged by these children: it is the stage in force, none of the children is excluded, and no
-- entry of the table keeps it from being settled
abbrev pub is_settled : Level → List Child → List Event → Bool
is_settled level there past =
    is_level level (stage_of past) && not (list_any (is_excluded past) there)
    && list_all (is_served level there past) (table_of past)

-- 9: If no request is pending and no order is open, announce once that the level is settled.
-- The announcement that the runlevel in force is settled, if it is, judged by the known children.
abbrev pub settle_step : Option Stage → List Event → List Step
settle_step (Some (Run level)) past = step_if (is_settled level (known_children past) past) (Settle level)
settle_step _ past = []

-- the announcement, if no request is pending, no order is open, and init has not made it yet
abbrev pub due_settle : List Event → List Step
due_settle past =
    steps_if (not (is_request_pending past) && is_idle past && not (is_announced past))
    (settle_step (stage_of past) past)

-- 10: In record order, make the looks of the current round.
-- The id has yet to be looked at: it had a known child when the last round began, and since then no child of the id was
-- born and no Look at it was ordered.
abbrev pub wants_look : List ℕ → List Event → Bool
wants_look id [] = false
wants_look id (happened.Birth i n ∷ past) = not (same_id id i) && wants_look id past
wants_look id (happened.Asked i Look ∷ past) = not (same_id id i) && wants_look id past
wants_look id (happened.Nudge ∷ past) = has_child id (known_children past)
wants_look id (_ ∷ past) = wants_look id past

-- init can look at the id: the id has a known child and no open order, and has yet to be looked at in this round
abbrev pub can_look : List ℕ → List Event → Bool
can_look id past = has_child id (known_children past) && is_none (open_of id past) && wants_look id past

-- the looks at these ids, in order
abbrev pub looks_among : List (List ℕ) → List Event → List Step
looks_among [] past = []
looks_among (id ∷ ids) past = step_if (can_look id past) (Order id Look) ++ looks_among ids past

-- the looks at all ids, in record order
abbrev pub due_looks : List Event → List Step
due_looks past = looks_among (record_ids past) past

-- all due steps, in order of rank
abbrev pub due : Goal → List Event → List Step
due goal past =
    due_first goal (stage_of past) past ++ due_reexec past ++ due_reread past ++ due_level past
    ++ due_news past ++ due_stops past ++ due_starts past ++ due_stage goal past ++ due_settle past
    ++ due_looks past

-- the first due step; Idle if there is none
abbrev pub first : List Step → Step
first [] = Idle
first (step ∷ steps) = step

abbrev pub same_step : Step → Step → Bool
same_step (Enter k m) (Enter l n) = same_stage k l && m == n
same_step (Call k) (Call l) = same_letter k l
same_step (Power k) (Power l) = same_power k l
same_step (Order i a) (Order j b) = same_id i j && same_ask a b
same_step (Hold i) (Hold j) = same_id i j
same_step (Settle k) (Settle l) = same_level k l
same_step Reread Reread = true
same_step Reexec Reexec = true
same_step Idle Idle = true
same_step _ _ = false

-- the step is due
abbrev pub is_due : Goal → Step → List Event → Bool
is_due goal step past = list_any (same_step step) (due goal past)
