-- The seconds between TERM and KILL: a sound trace has only those of its opening goal and of its requests.
use Rattle.trace_laws.proofs.Words.{◌≡◌, refl, ℕ, Bool, true, not, ◌&&◌, cond, List, [], ◌∷◌, ◌++◌, Option, Some, None}
use Rattle.trace_laws.proofs.Words.{arith, list_any, list_all, false≢true, and_parts, and_from, eqb-true, Entry, Letter}
use Rattle.trace_laws.proofs.Words.{Stage, OrderKind, Start, Look, PowerKind, is_limited, Step, Reread, Order, Reexec}
use Rattle.trace_laws.proofs.Words.{Goal, Event, table_of, stage_of, Child, is_child_of, is_quiet, is_idle, stop_due}
use Rattle.trace_laws.proofs.Words.{is_sound, may_come, is_held, is_full, is_owed, goal_of, last_requested_level}
use Rattle.trace_laws.proofs.Words.{other_than}
use Rattle.trace_laws.proofs.Words.{level_wish, wants_reexec, wants_reread, powers, letters, is_request_pending, in_run}
use Rattle.trace_laws.proofs.Words.{step_if, steps_if, none_excluded, due_first, due_reexec, enter_level, power_steps}
use Rattle.trace_laws.proofs.Words.{letter_steps, record_ids, stop_step, stops_of, stops_among, can_start, start_steps}
use Rattle.trace_laws.proofs.Words.{starts_among, is_over, next_stage, is_announced, settle_step, can_look, looks_among}
use Rattle.trace_laws.proofs.Words.{due, same_step}
use Rattle.trace_events.specs.Range.{is_seconds, is_request, are_short}
use Rattle.initctl_frame.specs.declared.requests.HeardRequest.{HeardRequest}
use Rattle.initctl_frame.specs.declared.requests.HeardRequest.TheVariants as got
use Rattle.trace_events.specs.declared.happenings.Happening.TheVariants as past
use Rattle.trace_events.specs.declared.steps.Step.TheVariants.{Enter, Call, Power, Hold}
use Rattle.trace_laws.proofs.Dues.{Each, each_append, each_step_if, each_steps_if}

-- The seconds of a trace come from its opening goal and from its requests: what holds of those holds of each stage.
module _ (fits : ℕ → Bool) where
  -- a request for a level has seconds that fit
  abbrev pub request_fits : HeardRequest → Bool
  request_fits (got.Level level seconds) = fits seconds
  request_fits _ = true

  abbrev pub requests_fit : Event → Bool
  requests_fit (past.Got request) = request_fits request
  requests_fit _ = true

  -- the seconds of the step fit
  abbrev Fits : Step → Type 0
  Fits (Enter stage grace) = fits grace ≡ true
  Fits _ = Unit {0}

  abbrev FitsGoal : Option Goal → Type 0
  FitsGoal None = Unit {0}
  FitsGoal (Some goal) = fits goal.grace ≡ true

  -- the goal and a pending request for a level come from the opening or from a request

  goal_fits : (goal : Goal) (so_far : List Event) → fits goal.grace ≡ true
      → list_all requests_fit so_far ≡ true → fits (goal_of goal so_far).grace ≡ true
  goal_fits goal [] opening all = opening
  goal_fits goal (past.Got (got.Level level seconds) ∷ so_far) opening all =
      (and_parts (fits seconds) (list_all requests_fit so_far) all).0
  goal_fits goal (past.Got (got.Call letter) ∷ so_far) opening all = goal_fits goal so_far opening all
  goal_fits goal (past.Got got.Reload ∷ so_far) opening all = goal_fits goal so_far opening all
  goal_fits goal (past.Got got.Reexec ∷ so_far) opening all = goal_fits goal so_far opening all
  goal_fits goal (past.Got (got.Power kind) ∷ so_far) opening all = goal_fits goal so_far opening all
  goal_fits goal (past.Got (got.Nothing cause) ∷ so_far) opening all = goal_fits goal so_far opening all
  goal_fits goal (_ ∷ so_far) opening all = goal_fits goal so_far opening all

  heard_fits : (so_far : List Event) → list_all requests_fit so_far ≡ true → FitsGoal (last_requested_level so_far)
  heard_fits [] all = tt
  heard_fits (past.Enter stage grace ∷ so_far) all = tt
  heard_fits (past.Got (got.Level level seconds) ∷ so_far) all =
      (and_parts (fits seconds) (list_all requests_fit so_far) all).0
  heard_fits (past.Got (got.Call letter) ∷ so_far) all = heard_fits so_far all
  heard_fits (past.Got got.Reload ∷ so_far) all = heard_fits so_far all
  heard_fits (past.Got got.Reexec ∷ so_far) all = heard_fits so_far all
  heard_fits (past.Got (got.Power kind) ∷ so_far) all = heard_fits so_far all
  heard_fits (past.Got (got.Nothing cause) ∷ so_far) all = heard_fits so_far all
  heard_fits (_ ∷ so_far) all = heard_fits so_far all

  other_fits : (o : Option Stage) (heard : Option Goal) → FitsGoal heard → FitsGoal (other_than o heard)
  other_fits o heard fit = grind arith

  -- the due steps, rank by rank

  firsts : (goal : Goal) (so_far : List Event) (o : Option Stage) → fits (goal_of goal so_far).grace ≡ true
      → Each Fits (due_first goal o so_far)
  firsts goal so_far o fit = grind arith

  levels : (so_far : List Event) (o : Option Goal) → FitsGoal o → Each Fits (enter_level o so_far)
  levels so_far o fit = grind arith

  news : (so_far : List Event) (kinds : List PowerKind) → Each Fits (power_steps kinds so_far)
  news so_far [] = tt
  news so_far (kind ∷ kinds) = grind (arith, news so_far kinds)

  calls : (so_far : List Event) (called : List Letter) → Each Fits (letter_steps called so_far)
  calls so_far [] = tt
  calls so_far (letter ∷ rest) = grind (arith, calls so_far rest)

  stops : (id : List ℕ) (so_far : List Event) (children : List Child) → Each Fits (stops_of id children so_far)
  stops id so_far [] = tt
  stops id so_far (child ∷ children) = each_append Fits (steps_if (is_child_of id child)
      (stop_step id (stop_due child so_far))) (stops_of id children so_far) (each_steps_if Fits (is_child_of id child)
      (stop_step id (stop_due child so_far)) (λ _. by (stop_due child so_far))) (stops id so_far children)
    where
      by : (o : Option OrderKind) → Each Fits (stop_step id o)
      by o = grind arith

  stops_all : (ids : List (List ℕ)) (so_far : List Event) → Each Fits (stops_among ids so_far)
  stops_all [] so_far = tt
  stops_all (id ∷ ids) so_far = grind (arith, each_append, each_steps_if, stops, stops_all ids so_far)

  starts : (so_far : List Event) (es : List Entry) → Each Fits (starts_among es so_far)
  starts so_far [] = tt
  starts so_far (e ∷ es) = each_append Fits (steps_if (can_start e so_far) (start_steps e so_far))
      (cond (is_owed e so_far) [] (starts_among es so_far)) (each_steps_if Fits (can_start e so_far)
      (start_steps e so_far) (λ _. by_act (is_limited e.act))) (later (is_owed e so_far) (starts so_far es))
    where
      window : (full : Bool) → Each Fits (cond full (Hold e.id) (Order e.id Start) ∷ [])
      window full = grind arith

      by_act : (limited : Bool) → Each Fits (cond limited (steps_if (not (is_held e.id so_far))
          (cond (is_full e.id so_far) (Hold e.id) (Order e.id Start) ∷ [])) (Order e.id Start ∷ []))
      by_act limited = grind arith

      later : (owed : Bool) → Each Fits (starts_among es so_far) → Each Fits (cond owed [] (starts_among es so_far))
      later owed rest = grind arith

  stages : (goal : Goal) (o : Option Stage) → fits goal.grace ≡ true → Each Fits (next_stage goal o)
  stages goal o fit = grind arith

  settles : (so_far : List Event) (o : Option Stage) → Each Fits (settle_step o so_far)
  settles so_far o = grind arith

  looks : (so_far : List Event) (ids : List (List ℕ)) → Each Fits (looks_among ids so_far)
  looks so_far [] = tt
  looks so_far (id ∷ ids) = each_append Fits (step_if (can_look id so_far) (Order id Look)) (looks_among ids so_far)
      (each_step_if Fits (can_look id so_far) (Order id Look) (λ _. tt)) (looks so_far ids)

  join : (xs ys : List Step) → Each Fits xs → Each Fits ys → Each Fits (xs ++ ys)
  join xs ys = each_append Fits xs ys

  dues : (goal : Goal) (so_far : List Event) → fits (goal_of goal so_far).grace ≡ true
      → FitsGoal (level_wish so_far) → Each Fits (due goal so_far)
  dues goal so_far fit wish =
      join _ _ (join _ _ (join _ _ (join _ _
      (join _ _ (join _ _ (join _ _ (join _ _ (join (due_first goal (stage_of so_far) so_far) (due_reexec so_far)
      (firsts goal so_far (stage_of so_far) fit)
      (each_step_if Fits (is_quiet so_far && wants_reexec so_far) Reexec (λ _. tt)))
      (each_step_if Fits (is_quiet so_far && wants_reread so_far) Reread (λ _. tt)))
      (each_steps_if Fits (is_quiet so_far) (enter_level (level_wish so_far) so_far)
      (λ _. levels so_far (level_wish so_far) wish)))
      (each_steps_if Fits (is_quiet so_far && in_run (stage_of so_far))
      (power_steps powers so_far ++ letter_steps letters so_far)
      (λ _. join (power_steps powers so_far) (letter_steps letters so_far) (news so_far powers)
      (calls so_far letters))))
      (each_steps_if Fits (not (is_request_pending so_far)) (stops_among (record_ids so_far) so_far)
      (λ _. stops_all (record_ids so_far) so_far)))
      (each_steps_if Fits (not (is_request_pending so_far) && none_excluded so_far)
      (starts_among (table_of so_far) so_far)
      (λ _. starts so_far (table_of so_far))))
      (each_steps_if Fits (is_over so_far) (next_stage (goal_of goal so_far) (stage_of so_far))
      (λ _. stages (goal_of goal so_far) (stage_of so_far) fit)))
      (each_steps_if Fits (not (is_request_pending so_far) && is_idle so_far && not (is_announced so_far))
      (settle_step (stage_of so_far) so_far) (λ _. settles so_far (stage_of so_far))))
      (looks so_far (record_ids so_far))

  at_enter : (now : Stage) (grace : ℕ) (steps : List Step) → Each Fits steps
      → list_any (same_step (Enter now grace)) steps ≡ true → fits grace ≡ true
  at_enter now grace [] all h = absurd (false≢true h)
  at_enter now grace (step ∷ steps) all h = grind (arith, eqb-true, at_enter now grace steps)

  -- a stage that is due has seconds that fit
  pub enter_fits : (goal : Goal) (so_far : List Event) (now : Stage) (grace : ℕ) → fits goal.grace ≡ true
      → list_all requests_fit so_far ≡ true → list_any (same_step (Enter now grace)) (due goal so_far) ≡ true
      → fits grace ≡ true
  enter_fits goal so_far now grace opening all =
      at_enter now grace (due goal so_far) (dues goal so_far (goal_fits goal so_far opening all)
      (other_fits (stage_of so_far) (last_requested_level so_far) (heard_fits so_far all)))

-- each request of the trace has at most 3,600 seconds
abbrev pub is_short_request : Event → Bool
is_short_request (past.Got request) = is_request request
is_short_request _ = true

request_short : (request : HeardRequest) → is_request request ≡ true → request_fits is_seconds request ≡ true
request_short request short = grind arith

requests_short : (so_far : List Event) → list_all is_short_request so_far ≡ true
    → list_all (requests_fit is_seconds) so_far ≡ true
requests_short [] all = refl
requests_short (past.Got request ∷ so_far) all =
    let parts = and_parts (is_request request) (list_all is_short_request so_far) all in
    and_from (request_fits is_seconds request) (list_all (requests_fit is_seconds) so_far)
    (request_short request parts.0) (requests_short so_far parts.1)
requests_short (happening ∷ so_far) all = requests_short so_far all

-- if the opening goal and the requests have at most 3,600 seconds, so does each happening of a sound trace
pub sound_short : (goal : Goal) (trace : List Event) → is_seconds goal.grace ≡ true → is_sound goal trace ≡ true
    → list_all is_short_request trace ≡ true → are_short trace ≡ true
sound_short goal [] opening sound all = refl
sound_short goal (past.Enter now grace ∷ so_far) opening sound all =
    let parts = and_parts (may_come goal (past.Enter now grace) so_far) (is_sound goal so_far) sound in
    and_from (is_seconds grace) (are_short so_far)
    (enter_fits is_seconds goal so_far now grace opening (requests_short so_far all) parts.0)
    (sound_short goal so_far opening parts.1 all)
sound_short goal (past.Got request ∷ so_far) opening sound all = grind (arith, sound_short goal so_far)
sound_short goal (past.NewTable table ∷ []) opening sound all = refl
sound_short goal (past.NewTable table ∷ before ∷ so_far) opening sound all = sound_short goal (before ∷ so_far) opening
    (and_parts (may_come goal (past.NewTable table) (before ∷ so_far)) (is_sound goal (before ∷ so_far)) sound).1 all
sound_short goal (happening ∷ so_far) opening sound all =
    sound_short goal so_far opening (and_parts (may_come goal happening so_far) (is_sound goal so_far) sound).1 all
