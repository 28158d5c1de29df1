-- Each call of the core preserves that it can be handed over: the rules, the short seconds, the generation and the
-- goal.
use Rattle.simulator.proofs.Words.{◌≡◌, ◌≢◌, refl, sym, ap, ◌∙◌, subst, ℕ, ◌+◌, Bool, true, false, cond, List, ◌∷◌}
use Rattle.simulator.proofs.Words.{Option, Some, None, OnErr, false≢true, Entry, Stage, same_level, Goal, Step, Enter}
use Rattle.simulator.proofs.Words.{Call, Power, Reread, Order, Hold, Settle, Reexec, Idle, Event, stage_of, is_request}
use Rattle.simulator.proofs.Words.{in_run, level_wish, FitsWithLastStatuses, last_statuses_of, core_read, with_step}
use Rattle.simulator.proofs.Words.{CoreState, wished}
use Rattle.simulator.proofs.Words.{fields_after_level, after_step, after_adopt, after_clock, after_got, after_not_read}
use Rattle.simulator.proofs.Words.{after_round, after_answer_to, own_read, made_in, kept_goal, kept_at, after_hand}
use Rattle.simulator.proofs.Words.{CanHandOver}
use Rattle.simulator.proofs.Words.{is_scripted, request_same}
use Rattle.std.proofs.Common.{Result, Ok, Err, OnOk}
use Rattle.init_words.specs.declared.orders.Answer.{Answer}
use Rattle.init_words.specs.declared.stages.Stage.TheVariants as stage
use Rattle.initctl_frame.specs.declared.requests.HeardRequest.{HeardRequest as Request}
use Rattle.initctl_frame.specs.declared.requests.HeardRequest.TheVariants as got
use Rattle.trace_events.specs.declared.happenings.Happening.TheVariants as event
use Rattle.trace_events.specs.declared.happenings.Handed.{Handed as HandOver}
use Rattle.trace_events.specs.declared.happenings.Handed.TheVariants as handed
use Rattle.core_model.specs.declared.parts.CoreFields.{CoreFields}
use Rattle.core_model.specs.Decide.{decide}
use Rattle.core_text.specs.Range.{has_short_seconds}
use Rattle.reexec_state.proofs.Lasting.{step_lasts, request_lasts}

-- the state that init keeps is the one defined from the trace
pub kept_is : (core : CoreState) (goal : Goal) (past : List Event) → FitsWithLastStatuses core goal past
    → CanHandOver core goal past → core ≡ kept_at goal past
kept_is core goal past fits lasts =
    own_read core goal past fits.0 fits.1 ∙ (λ i. core_read (last_statuses_of past) past (lasts.goal i) (lasts.made i))

lasts_as : (core same : CoreState) (goal : Goal) (past : List Event) → core ≡ same → has_short_seconds same ≡ true
    → same.fields.generation ≡ made_in past → same.fields.goal ≡ kept_goal goal past → CanHandOver core goal past
lasts_as core same goal past is short made kept = record {
  short = ap has_short_seconds is ∙ short;
  made = ap (λ (c : CoreState). c.fields.generation) is ∙ made;
  goal = ap (λ (c : CoreState). c.fields.goal) is ∙ kept;
}

-- After a step of init.

step_made : (s : Step) (core : CoreState) (past : List Event) → core.fields.generation ≡ made_in past
    → (after_step s core).fields.generation ≡ made_in (with_step s past)
step_made (Enter now grace) core past made = made
step_made (Call letter) core past made = made
step_made (Power kind) core past made = made
step_made (Order id ask) core past made = made
step_made (Hold id) core past made = made
step_made (Settle level) core past made = made
step_made Reread core past made = made
step_made Reexec core past made = made
step_made Idle core past made = made

step_goal : (s : Step) (core : CoreState) (goal : Goal) (past : List Event) → core.fields.level_wish ≡ level_wish past
    → core.fields.goal ≡ kept_goal goal past → (after_step s core).fields.goal ≡ kept_goal goal (with_step s past)
step_goal (Enter now grace) core goal past wish kept =
    ap (λ w. wished w core.fields.goal) wish ∙ ap (wished (level_wish past)) kept
step_goal (Call letter) core goal past wish kept = kept
step_goal (Power kind) core goal past wish kept = kept
step_goal (Order id ask) core goal past wish kept = kept
step_goal (Hold id) core goal past wish kept = kept
step_goal (Settle level) core goal past wish kept = kept
step_goal Reread core goal past wish kept = kept
step_goal Reexec core goal past wish kept = kept
step_goal Idle core goal past wish kept = kept

pub lasts_step : (core new : CoreState) (s : Step) → s ≡ decide core → new ≡ after_step s core → (goal : Goal)
    (past : List Event) → FitsWithLastStatuses core goal past → CanHandOver core goal past
    → CanHandOver new goal (with_step s past)
lasts_step core new s decides is goal past fits lasts = lasts_as new (after_step s core) goal (with_step s past) is
    (subst (λ t. has_short_seconds (after_step t core) ≡ true) (sym decides) (step_lasts core lasts.short))
    (step_made s core past lasts.made)
    (step_goal s core goal past (ap (λ (x : CoreState). x.fields.level_wish) fits.0.kept) lasts.goal)

-- After a happening of the script.

heard_goal : (now : Option Stage) (wish : Goal) (fields : CoreFields)
    → (fields_after_level now wish fields).goal ≡ cond (in_run now) fields.goal wish
heard_goal None wish fields = refl
heard_goal (Some stage.Sysinit) wish fields = refl
heard_goal (Some stage.Boot) wish fields = refl
heard_goal (Some (stage.Run level)) wish fields = at (same_level wish.level level)
  where
    at : (b : Bool) → (cond b (record fields { level_wish = None })
        (record fields { level_wish = Some wish; reread = true })).goal ≡ fields.goal
    at true = refl
    at false = refl

got_goal : (request : Request) (core : CoreState) (goal : Goal) (past : List Event) → core.fields.stage ≡ stage_of past
    → core.fields.goal ≡ kept_goal goal past
    → (after_got request core).fields.goal ≡ kept_goal goal (event.Got request ∷ past)
got_goal (got.Level level grace) core goal past now kept =
    heard_goal core.fields.stage (record { level = level; grace = grace }) core.fields
    ∙ ap (λ o. cond (in_run o) core.fields.goal (record { level = level; grace = grace })) now
    ∙ ap (λ g. cond (in_run (stage_of past)) g (record { level = level; grace = grace })) kept
got_goal (got.Call letter) core goal past now kept = kept
got_goal got.Reload core goal past now kept = kept
got_goal got.Reexec core goal past now kept = kept
got_goal (got.Power kind) core goal past now kept = kept
got_goal (got.Nothing cause) core goal past now kept = kept

module _ (core new : CoreState) (goal : Goal) (past : List Event) (lasts : CanHandOver core goal past) where
  pub lasts_adopt : (table : List Entry) → new ≡ after_adopt table core
      → CanHandOver new goal (event.NewTable table ∷ past)
  lasts_adopt table is =
      lasts_as new (after_adopt table core) goal (event.NewTable table ∷ past) is lasts.short lasts.made lasts.goal

  pub lasts_not_read : new ≡ after_not_read core → CanHandOver new goal (event.NotRead ∷ past)
  lasts_not_read is =
      lasts_as new (after_not_read core) goal (event.NotRead ∷ past) is lasts.short lasts.made lasts.goal

  pub lasts_clock : (reading : ℕ) → new ≡ after_clock reading core → CanHandOver new goal (event.Clock reading ∷ past)
  lasts_clock reading is =
      lasts_as new (after_clock reading core) goal (event.Clock reading ∷ past) is lasts.short lasts.made lasts.goal

  pub lasts_nudge : new ≡ after_round core → CanHandOver new goal (event.Nudge ∷ past)
  lasts_nudge is = lasts_as new (after_round core) goal (event.Nudge ∷ past) is lasts.short lasts.made lasts.goal

  -- whether or not the core took the answer
  pub lasts_told : {S E : Type 0} (r : Result S E) (id : List ℕ) (answer : Answer)
      → OnOk r (new ≡ after_answer_to id answer core) → OnErr r (new ≡ core)
      → CanHandOver new goal (event.Told id ∷ past)
  lasts_told (Ok x) id answer is kept =
      lasts_as new (after_answer_to id answer core) goal (event.Told id ∷ past) is lasts.short lasts.made lasts.goal
  lasts_told (Err e) id answer is kept =
      lasts_as new core goal (event.Told id ∷ past) kept lasts.short lasts.made lasts.goal

  pub lasts_got : (request : Request) → FitsWithLastStatuses core goal past → is_request request ≡ true
      → new ≡ after_got request core → CanHandOver new goal (event.Got request ∷ past)
  lasts_got request fits asks is = lasts_as new (after_got request core) goal (event.Got request ∷ past) is
      (request_lasts request core asks lasts.short)
      (request_same request core ∙ lasts.made)
      (got_goal request core goal past (ap (λ (x : CoreState). x.fields.stage) fits.0.kept) lasts.goal)

  pub lasts_hand : (how : HandOver) → new ≡ after_hand how core → CanHandOver new goal (event.Handed how ∷ past)
  lasts_hand handed.Failed is = lasts_as new (after_hand handed.Failed core) goal
      (event.Handed handed.Failed ∷ past) is lasts.short lasts.made lasts.goal
  lasts_hand handed.Whole is = lasts_as new (after_hand handed.Whole core) goal
      (event.Handed handed.Whole ∷ past) is lasts.short (ap (λ n. n + 1) lasts.made) lasts.goal
  lasts_hand (handed.Cut bytes) is = lasts_as new (after_hand (handed.Cut bytes) core) goal
      (event.Handed (handed.Cut bytes) ∷ past) is lasts.short (ap (λ n. n + 1) lasts.made) lasts.goal
  lasts_hand (handed.Older older) is = lasts_as new (after_hand (handed.Older older) core) goal
      (event.Handed (handed.Older older) ∷ past) is lasts.short (ap (λ n. n + 1) lasts.made) lasts.goal

pub lasts_at : (goal : Goal) (past : List Event) (core : CoreState) (happening same : Event) → happening ≡ same
    → CanHandOver core goal (same ∷ past) → CanHandOver core goal (happening ∷ past)
lasts_at goal past core happening same become lasts = subst (λ h. CanHandOver core goal (h ∷ past)) (sym become) lasts

-- after an act of the system
pub lasts_silent : (core : CoreState) (goal : Goal) (past : List Event) (happening : Event) → CanHandOver core goal past
    → is_scripted happening ≡ true
    → ((request : Request) → happening ≢ event.Got request) → ((how : HandOver) → happening ≢ event.Handed how)
    → CanHandOver core goal (happening ∷ past)
lasts_silent core goal past (event.Enter now grace) lasts said not_got not_handed = absurd (false≢true said)
lasts_silent core goal past (event.Got request) lasts said not_got not_handed = absurd (not_got request refl)
lasts_silent core goal past (event.Handed how) lasts said not_got not_handed = absurd (not_handed how refl)
lasts_silent core goal past _ lasts said not_got not_handed =
    record { short = lasts.short; made = lasts.made; goal = lasts.goal }
