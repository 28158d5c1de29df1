-- No rank gives Idle, and only those of the two requests give a reading of inittab or a re-execution. So the first due
-- step is Idle only if none is due, and one of those two only if it is pending.
use Rattle.core_waiting.proofs.Words.{arith, ◌≡◌, ◌⊎◌, ℕ, Bool, true, false, not, ◌&&◌, cond, List, [], ◌∷◌, ◌++◌}
use Rattle.core_waiting.proofs.Words.{Option, Some, None, is_none, and_parts, Entry, Letter, Stage, OrderKind, Start}
use Rattle.core_waiting.proofs.Words.{Look, PowerKind, is_limited, Step, Reread, Order, Reexec, Idle, Goal, Event}
use Rattle.core_waiting.proofs.Words.{Child, table_of, stage_of, is_child_of, open_of, is_quiet, is_idle}
use Rattle.core_waiting.proofs.Words.{known_children}
use Rattle.core_waiting.proofs.Words.{is_owed, stop_due, is_held, is_full, goal_of, wants_reexec, wants_reread}
use Rattle.core_waiting.proofs.Words.{level_wish, is_power_pending, is_letter_pending, powers, letters}
use Rattle.core_waiting.proofs.Words.{is_request_pending, in_run}
use Rattle.core_waiting.proofs.Words.{step_if, steps_if, none_excluded, due_first, due_reexec, due_reread, enter_level}
use Rattle.core_waiting.proofs.Words.{due_level, power_steps, letter_steps, due_news, record_ids, stop_step, stops_of}
use Rattle.core_waiting.proofs.Words.{stops_among, due_stops, can_start, start_steps, starts_among, due_starts, is_over}
use Rattle.core_waiting.proofs.Words.{next_stage, due_stage, is_announced, is_settled, settle_step, due_settle}
use Rattle.core_waiting.proofs.Words.{can_look, looks_among, due_looks, due, first, is_rest, each_append, each_step_if}
use Rattle.core_waiting.proofs.Words.{each_steps_if}
use Rattle.init_words.specs.declared.stages.Stage.TheVariants as stage
use Rattle.trace_events.specs.declared.steps.Step.TheVariants.{Call, Power, Hold, Settle}
use Rattle.trace_laws.proofs.Dues.{Each}

-- what a step of a rank implies about the past
abbrev IsStepWanted : List Event → Step → Type 0
IsStepWanted past Idle = ⊥
IsStepWanted past Reread = wants_reread past ≡ true
IsStepWanted past Reexec = wants_reexec past ≡ true
IsStepWanted past _ = Unit {0}

dawn : (goal : Goal) (o : Option Stage) (past : List Event) → Each (IsStepWanted past) (due_first goal o past)
dawn goal None past = (tt, tt)
dawn goal (Some now) past = tt

levels : (o : Option Goal) (past : List Event) → Each (IsStepWanted past) (enter_level o past)
levels None past = tt
levels (Some wish) past = (tt, tt)

news : (kinds : List PowerKind) (past : List Event) → Each (IsStepWanted past) (power_steps kinds past)
news [] past = tt
news (kind ∷ kinds) past = each_append (IsStepWanted past) (step_if (is_power_pending kind past) (Power kind))
    (power_steps kinds past) (each_step_if (IsStepWanted past) (is_power_pending kind past) (Power kind) (λ _. tt))
    (news kinds past)

calls : (called : List Letter) (past : List Event) → Each (IsStepWanted past) (letter_steps called past)
calls [] past = tt
calls (letter ∷ rest) past =
    each_append (IsStepWanted past) (step_if (is_letter_pending letter past) (Call letter)) (letter_steps
    rest past) (each_step_if (IsStepWanted past) (is_letter_pending letter past) (Call letter) (λ _. tt))
    (calls rest past)

stop : (id : List ℕ) (o : Option OrderKind) (past : List Event) → Each (IsStepWanted past) (stop_step id o)
stop id None past = tt
stop id (Some ask) past = (tt, tt)

stops : (id : List ℕ) (children : List Child) (past : List Event) → Each (IsStepWanted past) (stops_of id children past)
stops id [] past = tt
stops id (child ∷ children) past = each_append (IsStepWanted past) (steps_if (is_child_of id child)
    (stop_step id (stop_due child past))) (stops_of id children past)
    (each_steps_if (IsStepWanted past) (is_child_of id child)
    (stop_step id (stop_due child past)) (λ _. stop id (stop_due child past) past)) (stops id children past)

stops_all : (ids : List (List ℕ)) (past : List Event) → Each (IsStepWanted past) (stops_among ids past)
stops_all [] past = tt
stops_all (id ∷ ids) past = each_append (IsStepWanted past) (steps_if (is_none (open_of id past)) (stops_of id
    (known_children past) past)) (stops_among ids past) (each_steps_if (IsStepWanted past) (is_none (open_of id past))
    (stops_of id (known_children past) past) (λ _. stops id (known_children past) past)) (stops_all ids past)

start : (id : List ℕ) (limited held full : Bool) (past : List Event) → Each (IsStepWanted past)
    (cond limited (steps_if (not held) (cond full (Hold id) (Order id Start) ∷ [])) (Order id Start ∷ []))
start id false held full past = (tt, tt)
start id true true full past = tt
start id true false true past = (tt, tt)
start id true false false past = (tt, tt)

starts : (es : List Entry) (past : List Event) → Each (IsStepWanted past) (starts_among es past)
starts [] past = tt
starts (e ∷ es) past =
    each_append (IsStepWanted past) (steps_if (can_start e past) (start_steps e past)) (cond (is_owed e past)
    [] (starts_among es past))
    (each_steps_if (IsStepWanted past) (can_start e past) (start_steps e past) (λ _. start e.id
    (is_limited e.act) (is_held e.id past) (is_full e.id past) past)) (later (is_owed e past) (starts es past)) where
      later : (b : Bool) → Each (IsStepWanted past) (starts_among es past)
          → Each (IsStepWanted past) (cond b [] (starts_among es past))
      later true rest = tt
      later false rest = rest

stages : (goal : Goal) (o : Option Stage) (past : List Event) → Each (IsStepWanted past) (next_stage goal o)
stages goal None past = tt
stages goal (Some stage.Sysinit) past = (tt, tt)
stages goal (Some stage.Boot) past = (tt, tt)
stages goal (Some (stage.Run level)) past = tt

settles : (o : Option Stage) (past : List Event) → Each (IsStepWanted past) (settle_step o past)
settles None past = tt
settles (Some stage.Sysinit) past = tt
settles (Some stage.Boot) past = tt
settles (Some (stage.Run level)) past =
    each_step_if (IsStepWanted past) (is_settled level (known_children past) past) (Settle level) (λ _. tt)

looks : (ids : List (List ℕ)) (past : List Event) → Each (IsStepWanted past) (looks_among ids past)
looks [] past = tt
looks (id ∷ ids) past =
    each_append (IsStepWanted past) (step_if (can_look id past) (Order id Look)) (looks_among ids past)
    (each_step_if (IsStepWanted past) (can_look id past) (Order id Look) (λ _. tt)) (looks ids past)

all_act : (goal : Goal) (past : List Event) → Each (IsStepWanted past) (due goal past)
all_act goal past = join (one ++ two ++ three ++ four ++ five ++ six ++ seven ++ eight ++ nine) ten (join (one ++ two
    ++ three ++ four ++ five ++ six ++ seven ++ eight) nine (join (one ++ two ++ three ++ four ++ five ++ six ++ seven)
    eight (join (one ++ two ++ three ++ four ++ five ++ six) seven (join (one ++ two ++ three ++ four ++ five) six
    (join (one ++ two ++ three ++ four) five (join (one ++ two ++ three) four (join (one ++ two) three (join one two
    (dawn goal (stage_of past) past)
    (each_step_if (IsStepWanted past) (is_quiet past && wants_reexec past) Reexec
    (λ h. (and_parts (is_quiet past) (wants_reexec past) h).1)))
    (each_step_if (IsStepWanted past) (is_quiet past && wants_reread past) Reread
    (λ h. (and_parts (is_quiet past) (wants_reread past) h).1)))
    (each_steps_if (IsStepWanted past) (is_quiet past) (enter_level (level_wish past) past)
    (λ _. levels (level_wish past) past)))
    (each_steps_if (IsStepWanted past) (is_quiet past && in_run (stage_of past))
    (power_steps powers past ++ letter_steps letters past)
    (λ _. join (power_steps powers past) (letter_steps letters past) (news powers past) (calls letters past))))
    (each_steps_if (IsStepWanted past) (not (is_request_pending past)) (stops_among (record_ids past) past)
    (λ _. stops_all (record_ids past) past)))
    (each_steps_if (IsStepWanted past) (not (is_request_pending past) && none_excluded past)
    (starts_among (table_of past) past)
    (λ _. starts (table_of past) past)))
    (each_steps_if (IsStepWanted past) (is_over past) (next_stage (goal_of goal past) (stage_of past))
    (λ _. stages (goal_of goal past) (stage_of past) past)))
    (each_steps_if (IsStepWanted past) (not (is_request_pending past) && is_idle past && not (is_announced past))
    (settle_step (stage_of past) past) (λ _. settles (stage_of past) past)))
    (looks (record_ids past) past) where
      join : (xs ys : List Step) → Each (IsStepWanted past) xs → Each (IsStepWanted past) ys
          → Each (IsStepWanted past) (xs ++ ys)
      join xs ys f g = each_append (IsStepWanted past) xs ys f g

      one : List Step
      one = due_first goal (stage_of past) past

      two : List Step
      two = due_reexec past

      three : List Step
      three = due_reread past

      four : List Step
      four = due_level past

      five : List Step
      five = due_news past

      six : List Step
      six = due_stops past

      seven : List Step
      seven = due_starts past

      eight : List Step
      eight = due_stage goal past

      nine : List Step
      nine = due_settle past

      ten : List Step
      ten = due_looks past

pub idle_none_due : (goal : Goal) (past : List Event) → first (due goal past) ≡ Idle → due goal past ≡ []
idle_none_due goal past h = by (due goal past) (all_act goal past) h where
  by : (steps : List Step) → Each (IsStepWanted past) steps → first steps ≡ Idle → steps ≡ []
  by steps says h = grind arith

-- if the first due step is a reading of inittab or a re-execution, that is pending
first_said : (past : List Event) (steps : List Step) → Each (IsStepWanted past) steps
    → first steps ≡ Idle ⊎ IsStepWanted past (first steps)
first_said past steps says = grind arith

pub rest_unwished : (goal : Goal) (past : List Event) → is_rest (first (due goal past)) ≡ true
    → wants_reexec past ≡ false → wants_reread past ≡ false → due goal past ≡ []
rest_unwished goal past rests executed read = idle_none_due goal past
    (by (first (due goal past)) rests (first_said past (due goal past) (all_act goal past))) where
      by : (step : Step) → is_rest step ≡ true → (step ≡ Idle) ⊎ IsStepWanted past step → step ≡ Idle
      by step rests h = grind arith
