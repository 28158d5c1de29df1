-- What the first due step implies about the past, if it enters a stage or starts an entry.
use Rattle.trace_laws.proofs.Words.{◌≡◌, refl, sym, subst, ◌⊎◌, ℕ, Bool, true, not, ◌&&◌, cond, List, [], ◌∷◌, ◌++◌}
use Rattle.trace_laws.proofs.Words.{Option, Some, None, is_none, arith, false≢true, and_parts, Entry, Stage, OrderKind}
use Rattle.trace_laws.proofs.Words.{Start, Look, same_id, same_ask, same_id-is, same_ask-is, Step, Reread, Order}
use Rattle.trace_laws.proofs.Words.{Reexec, Idle, Goal, Event, table_of, stage_of, Child, is_child_of, open_of}
use Rattle.trace_laws.proofs.Words.{is_quiet}
use Rattle.trace_laws.proofs.Words.{is_idle, known_children, is_owed, Signal, stop_by, stop_due, last_requested_level}
use Rattle.trace_laws.proofs.Words.{level_wish, goal_of, wants_reexec, wants_reread, is_request_pending, step_if}
use Rattle.trace_laws.proofs.Words.{steps_if}
use Rattle.trace_laws.proofs.Words.{none_excluded, due_first, due_reexec, due_reread, enter_level, due_level, due_news}
use Rattle.trace_laws.proofs.Words.{record_ids, stop_step, stops_of, stops_among, due_stops, can_start, start_steps}
use Rattle.trace_laws.proofs.Words.{starts_among, due_starts, is_over, next_stage, due_stage, is_announced, settle_step}
use Rattle.trace_laws.proofs.Words.{due_settle, can_look, looks_among, due_looks, due, first, same_step}
use Rattle.init_words.specs.declared.stages.Stage.TheVariants as stage
use Rattle.trace_events.specs.declared.happenings.Happening.TheVariants as happened
use Rattle.trace_events.specs.declared.steps.Step.TheVariants.{Enter, Call, Power, Hold, Settle}
use Rattle.trace_laws.proofs.Plain.{Plain, Comes, plain_ind}

-- the stage is the first one, or the stage before it is over
abbrev pub Entered : Goal → List Event → Stage → ℕ → Type 0
Entered goal past now grace =
    ((stage_of past ≡ None) × (now ≡ stage.Sysinit) × (grace ≡ (goal_of goal past).grace))
    ⊎ ((is_over past ≡ true) × (first (next_stage (goal_of goal past) (stage_of past)) ≡ Enter now grace))

abbrev pub Says : Goal → List Event → Step → Type 0
Says goal past (Enter now grace) = Entered goal past now grace
Says goal past (Order id Start) = first (due_starts past) ≡ Order id Start
Says goal past _ = Unit {0}

join : (P : Step → Type 0) (xs ys : List Step) → P (first xs) → P (first ys) → P (first (xs ++ ys))
join P xs ys f g = grind arith

if_step : (P : Step → Type 0) (b : Bool) (step : Step) → P Idle → P step → P (first (step_if b step))
if_step P b step idle f = grind arith

if_steps : (P : Step → Type 0) (b : Bool) (steps : List Step) → P Idle → (b ≡ true → P (first steps))
    → P (first (steps_if b steps))
if_steps P b steps idle f = grind arith

-- no request for a level is pending
pub unheard : (goal : Goal) (past : List Event) → Plain goal past → last_requested_level past ≡ None
unheard goal past plain =
    plain_ind goal (λ p. last_requested_level p ≡ None) (λ table distinct. refl) goes past plain.runs plain.mild where
      goes : (happening : Event) (p : List Event) → Comes goal happening p → last_requested_level p ≡ None
          → last_requested_level (happening ∷ p) ≡ None
      goes happening p comes before = grind arith

unwished : (past : List Event) → last_requested_level past ≡ None → level_wish past ≡ None
unwished past none = grind arith

-- the goal is still the opening goal
pub same_goal : (goal : Goal) (past : List Event) → Plain goal past → goal_of goal past ≡ goal
same_goal goal past plain =
    plain_ind goal (λ p. goal_of goal p ≡ goal) (λ table distinct. refl) goes past plain.runs plain.mild where
      goes : (happening : Event) (p : List Event) → Comes goal happening p → goal_of goal p ≡ goal
          → goal_of goal (happening ∷ p) ≡ goal
      goes happening p comes before = grind arith

module _ (goal : Goal) (past : List Event) where
  abbrev P : Step → Type 0
  P = Says goal past

  firsts : (o : Option Stage) → stage_of past ≡ o → P (first (due_first goal o past))
  firsts o is = grind arith

  levels : level_wish past ≡ None → P (first (due_level past))
  levels none = if_steps P (is_quiet past) (enter_level (level_wish past) past) tt
      (λ _. subst (λ o. P (first (enter_level o past))) (sym none) tt)

  news : P (first (due_news past))
  news = grind arith

  -- a signal is not a start
  no_start : (b : Bool) (grace now : ℕ) (hits : List Signal) → cond b (stop_by grace now hits) None ≡ Some Start → ⊥
  no_start b grace now hits h = grind arith

  signal : (id : List ℕ) (child : Child) (o : Option OrderKind) → stop_due child past ≡ o → P (first (stop_step id o))
  signal id child o is = grind (arith, no_start)

  stops : (id : List ℕ) (children : List Child) → P (first (stops_of id children past))
  stops id [] = tt
  stops id (child ∷ children) = join P (steps_if (is_child_of id child) (stop_step id (stop_due child past)))
      (stops_of id children past) (if_steps P (is_child_of id child) (stop_step id (stop_due child past)) tt
      (λ _. signal id child (stop_due child past) refl)) (stops id children)

  stops_all : (ids : List (List ℕ)) → P (first (stops_among ids past))
  stops_all [] = tt
  stops_all (id ∷ ids) = join P (steps_if (is_none (open_of id past)) (stops_of id (known_children past) past))
      (stops_among ids past) (if_steps P (is_none (open_of id past)) (stops_of id (known_children past) past) tt
      (λ _. stops id (known_children past))) (stops_all ids)

  -- starts and holds do not enter a stage
  abbrev NoEnter : Step → Type 0
  NoEnter (Enter now grace) = ⊥
  NoEnter _ = Unit {0}

  one_start : (e : Entry) → NoEnter (first (start_steps e past))
  one_start e = grind arith

  starts : (es : List Entry) → NoEnter (first (starts_among es past))
  starts [] = tt
  starts (e ∷ es) = join NoEnter (steps_if (can_start e past) (start_steps e past)) (cond (is_owed e past) []
      (starts_among es past)) (if_steps NoEnter (can_start e past) (start_steps e past) tt (λ _. one_start e))
      (later (is_owed e past) (starts es)) where
        later : (b : Bool) → NoEnter (first (starts_among es past)) → NoEnter (first (cond b [] (starts_among es past)))
        later b rest = grind arith

  all_starts : P (first (due_starts past))
  all_starts =
      named (first (due_starts past)) refl (if_steps NoEnter (not (is_request_pending past) && none_excluded past)
      (starts_among (table_of past) past) tt (λ _. starts (table_of past))) where
        named : (step : Step) → first (due_starts past) ≡ step → NoEnter step → P step
        named step is none = grind arith

  stages : P (first (due_stage goal past))
  stages = grind arith

  settles : P (first (due_settle past))
  settles = if_steps P (not (is_request_pending past) && is_idle past && not (is_announced past))
      (settle_step (stage_of past) past) tt (λ _. by_stage (stage_of past)) where
        by_stage : (o : Option Stage) → P (first (settle_step o past))
        by_stage o = grind arith

  looks : (ids : List (List ℕ)) → P (first (looks_among ids past))
  looks [] = tt
  looks (id ∷ ids) = join P (step_if (can_look id past) (Order id Look)) (looks_among ids past)
      (if_step P (can_look id past) (Order id Look) tt tt) (looks ids)

  says : level_wish past ≡ None → P (first (due goal past))
  says none = join P (rank1 ++ rank2 ++ rank3 ++ rank4 ++ rank5 ++ rank6 ++ rank7 ++ rank8 ++ rank9) (due_looks past)
      (join P (rank1 ++ rank2 ++ rank3 ++ rank4 ++ rank5 ++ rank6 ++ rank7 ++ rank8) rank9 (join P (rank1 ++ rank2
      ++ rank3 ++ rank4 ++ rank5 ++ rank6 ++ rank7) rank8 (join P (rank1 ++ rank2 ++ rank3 ++ rank4 ++ rank5 ++ rank6)
      rank7 (join P (rank1 ++ rank2 ++ rank3 ++ rank4 ++ rank5) rank6 (join P (rank1 ++ rank2 ++ rank3 ++ rank4) rank5
      (join P (rank1 ++ rank2 ++ rank3) rank4 (join P (rank1 ++ rank2) rank3 (join P rank1 rank2 (firsts (stage_of past)
      refl) (if_step P (is_quiet past && wants_reexec past) Reexec tt tt)) (if_step P (is_quiet past && wants_reread
      past) Reread tt tt)) (levels none)) news) stops_now) all_starts) stages) settles) (looks (record_ids past)) where
        rank1 : List Step
        rank1 = due_first goal (stage_of past) past

        rank2 : List Step
        rank2 = due_reexec past

        rank3 : List Step
        rank3 = due_reread past

        rank4 : List Step
        rank4 = due_level past

        rank5 : List Step
        rank5 = due_news past

        rank6 : List Step
        rank6 = due_stops past

        rank7 : List Step
        rank7 = due_starts past

        rank8 : List Step
        rank8 = due_stage goal past

        rank9 : List Step
        rank9 = due_settle past

        stops_now : P (first (due_stops past))
        stops_now =
            if_steps P (not (is_request_pending past)) (stops_among (record_ids past) past) tt
            (λ _. stops_all (record_ids past))

is_enter : (step : Step) (now : Stage) (grace : ℕ) → same_step step (Enter now grace) ≡ true → step ≡ Enter now grace
is_enter step now grace h = grind arith

is_start : (step : Step) (id : List ℕ) → same_step step (Order id Start) ≡ true → step ≡ Order id Start
is_start (Order i ask) id h =
    let parts = and_parts (same_id i id) (same_ask ask Start) h in
    rw (same_id-is i id parts.0, same_ask-is ask Start parts.1) refl
is_start (Enter now grace) id h = absurd (false≢true h)
is_start (Call letter) id h = absurd (false≢true h)
is_start (Power kind) id h = absurd (false≢true h)
is_start (Hold i) id h = absurd (false≢true h)
is_start (Settle level) id h = absurd (false≢true h)
is_start Reread id h = absurd (false≢true h)
is_start Reexec id h = absurd (false≢true h)
is_start Idle id h = absurd (false≢true h)

pub entered : (goal : Goal) (now : Stage) (grace : ℕ) (past : List Event) → Comes goal (happened.Enter now grace) past
    → Entered goal past now grace
entered goal now grace past comes = subst (Says goal past) (is_enter (first (due goal past)) now grace comes.next)
    (says goal past (unwished past (unheard goal past comes.before)))

pub started : (goal : Goal) (id : List ℕ) (past : List Event) → Comes goal (happened.Asked id Start) past
    → first (due_starts past) ≡ Order id Start
started goal id past comes = subst (Says goal past) (is_start (first (due goal past)) id comes.next)
    (says goal past (unwished past (unheard goal past comes.before)))
