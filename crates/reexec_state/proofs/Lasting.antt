-- The seconds in init's state are at most an hour: those of a step are those of its goal, or of a requested level.
use Rattle.reexec_state.proofs.Words.{◌≡◌, refl, sym, ap, ◌∙◌, Bool, true, false, ◌&&◌, cond, Option, Some, None}
use Rattle.reexec_state.proofs.Words.{Stage, same_level, HeardRequest, Goal, Step, Enter, Call, Power, Reread, Order}
use Rattle.reexec_state.proofs.Words.{Hold, Settle, Reexec, Idle, CoreState, after_step, after_got, fields_after_level}
use Rattle.reexec_state.proofs.Words.{wished}
use Rattle.reexec_state.proofs.Words.{has_short_seconds, is_goal, is_seconds, is_stage, passes}
use Rattle.std.proofs.lemmas.Bool.{and_parts, and_from}
use Rattle.init_words.specs.declared.stages.Stage.TheVariants as stage
use Rattle.initctl_frame.specs.declared.requests.HeardRequest.TheVariants as got
use Rattle.trace_events.specs.Range.{is_request}
use Rattle.core_model.specs.Decide.{decide}
use Rattle.core_model.proofs.Decided.{EachPasses, decided}

-- the seconds of a step are at most an hour
abbrev is_short_step : Step → Bool
is_short_step (Enter now grace) = is_seconds grace
is_short_step _ = true

each_short : (c : CoreState) → is_goal c.fields.goal ≡ true → passes is_goal c.fields.level_wish ≡ true
    → EachPasses is_short_step c
each_short c goal wish = record {
  orders = λ id ask. refl;
  holds = λ id. refl;
  settles = λ level. refl;
  calls = λ called. refl;
  powers = λ kind. refl;
  reread = refl;
  idle = refl;
  reexec = λ wished. refl;
  goal = λ now. goal;
  wish = λ w has now. sym (ap (passes is_goal) has) ∙ wish;
}

-- ---- the state after a step and after a request

taken : (s : Step) (c : CoreState) → is_short_step s ≡ true → has_short_seconds c ≡ true
    → has_short_seconds (after_step s c) ≡ true
taken (Enter now grace) c step short =
    and_from (is_seconds grace && is_goal (wished c.fields.level_wish c.fields.goal)) true
    (and_from (is_seconds grace) (is_goal (wished c.fields.level_wish c.fields.goal)) step (by c.fields.level_wish
    (and_parts (is_stage c.fields.stage c.fields.grace) (is_goal c.fields.goal) parts.0).1 parts.1)) refl
  where
    parts : ((is_stage c.fields.stage c.fields.grace && is_goal c.fields.goal) ≡ true)
        × (passes is_goal c.fields.level_wish ≡ true)
    parts = and_parts (is_stage c.fields.stage c.fields.grace && is_goal c.fields.goal)
        (passes is_goal c.fields.level_wish) short

    by : (wish : Option Goal) → is_goal c.fields.goal ≡ true → passes is_goal wish ≡ true
        → is_goal (wished wish c.fields.goal) ≡ true
    by None goal h = goal
    by (Some wish) goal h = h
taken (Call letter) c step short = short
taken (Power kind) c step short = short
taken (Order id ask) c step short = short
taken (Hold id) c step short = short
taken (Settle level) c step short = short
taken Reread c step short = short
taken Reexec c step short = short
taken Idle c step short = short

-- after the step that is decided, the seconds are still at most an hour
pub step_lasts : (c : CoreState) → has_short_seconds c ≡ true → has_short_seconds (after_step (decide c) c) ≡ true
step_lasts c short =
    let outer = and_parts (is_stage c.fields.stage c.fields.grace && is_goal c.fields.goal)
    (passes is_goal c.fields.level_wish) short in
    taken (decide c) c (decided is_short_step c
    (each_short c (and_parts (is_stage c.fields.stage c.fields.grace) (is_goal c.fields.goal) outer.0).1 outer.1)) short

goal_heard : (wish : Goal) (c : CoreState) → is_goal wish ≡ true → has_short_seconds c ≡ true
    → has_short_seconds (record c { fields = record c.fields { goal = wish; reread = true } }) ≡ true
goal_heard wish c asks short =
    let outer = and_parts (is_stage c.fields.stage c.fields.grace && is_goal c.fields.goal)
    (passes is_goal c.fields.level_wish) short in
    and_from (is_stage c.fields.stage c.fields.grace && is_goal wish) (passes is_goal c.fields.level_wish)
    (and_from (is_stage c.fields.stage c.fields.grace) (is_goal wish)
    (and_parts (is_stage c.fields.stage c.fields.grace) (is_goal c.fields.goal) outer.0).0 asks) outer.1

asked : (now : Option Stage) (wish : Goal) (c : CoreState) → is_goal wish ≡ true → has_short_seconds c ≡ true
    → has_short_seconds (record c { fields = fields_after_level now wish c.fields }) ≡ true
asked None wish c asks short = goal_heard wish c asks short
asked (Some stage.Sysinit) wish c asks short = goal_heard wish c asks short
asked (Some stage.Boot) wish c asks short = goal_heard wish c asks short
asked (Some (stage.Run level)) wish c asks short = by (same_level wish.level level)
  where
    parts : ((is_stage c.fields.stage c.fields.grace && is_goal c.fields.goal) ≡ true)
        × (passes is_goal c.fields.level_wish ≡ true)
    parts = and_parts (is_stage c.fields.stage c.fields.grace && is_goal c.fields.goal)
        (passes is_goal c.fields.level_wish) short

    by : (b : Bool) → has_short_seconds (record c {
      fields = cond b (record c.fields { level_wish = None })
          (record c.fields { level_wish = Some wish; reread = true });
    }) ≡ true
    by true = and_from (is_stage c.fields.stage c.fields.grace && is_goal c.fields.goal) true parts.0 refl
    by false = and_from (is_stage c.fields.stage c.fields.grace && is_goal c.fields.goal) (is_goal wish) parts.0 asks

-- after a request with seconds of at most an hour, the seconds are still at most an hour
pub request_lasts : (request : HeardRequest) (c : CoreState) → is_request request ≡ true → has_short_seconds c ≡ true
    → has_short_seconds (after_got request c) ≡ true
request_lasts (got.Level level grace) c asks short =
    asked c.fields.stage (record { level = level; grace = grace }) c asks short
request_lasts (got.Call letter) c asks short = short
request_lasts got.Reload c asks short = short
request_lasts got.Reexec c asks short = short
request_lasts (got.Power kind) c asks short = short
request_lasts (got.Nothing cause) c asks short = short
