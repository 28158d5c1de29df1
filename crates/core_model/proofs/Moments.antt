-- Each happening leaves the fields of init as the past gives them.
use Rattle.core_model.proofs.Words.{◌≡◌, refl, sym, ◌∙◌, ap, subst, ℕ, Bool, true, false, ◌||◌, cond, List, [], ◌∷◌}
use Rattle.core_model.proofs.Words.{Option, Some, None, false≢true, Level, Letter, PowerKind, Stage, same_level}
use Rattle.core_model.proofs.Words.{HeardRequest, Goal, Event, stage_of, in_run, goal_of, last_requested_level}
use Rattle.core_model.proofs.Words.{other_than}
use Rattle.core_model.proofs.Words.{level_wish, was_booted, wants_reread, with_kind, with_call, is_boot, wished}
use Rattle.core_model.proofs.Words.{fields_after_level, fields_after_request, fields_of}
use Rattle.init_words.specs.declared.stages.Stage.TheVariants as stage
use Rattle.initctl_frame.specs.declared.requests.HeardRequest.TheVariants as got
use Rattle.trace_events.specs.declared.happenings.Happening.TheVariants as event
use Rattle.trace_events.proofs.CallSets.{news_powered, news_called, power_heard, letter_heard}
use Rattle.core_model.specs.declared.parts.CoreFields.{CoreFields}

-- a pending request for another level was the last request for a level
heard_goal : (opening : Goal) (past : List Event) (wish : Goal) → last_requested_level past ≡ Some wish
    → goal_of opening past ≡ wish
heard_goal opening [] wish h = cc
heard_goal opening (event.Enter s grace ∷ past) wish h = cc
heard_goal opening (event.Got (got.Level l s) ∷ past) wish h = cc
heard_goal opening (_ ∷ past) wish h = heard_goal opening past wish h

other_heard : (now : Option Stage) (heard : Option Goal) (wish : Goal) → other_than now heard ≡ Some wish
    → heard ≡ Some wish
other_heard (Some (stage.Run l)) (Some asked) wish h = at (same_level asked.level l) h
  where
    at : (b : Bool) → cond b None (Some asked) ≡ Some wish → Some asked ≡ Some wish
    at true h = cc
    at false h = h
other_heard (Some (stage.Run l)) None wish h = cc
other_heard (Some stage.Sysinit) heard wish h = cc
other_heard (Some stage.Boot) heard wish h = cc
other_heard None heard wish h = cc

pub wish_goal : (opening : Goal) (past : List Event) (wish : Goal) → level_wish past ≡ Some wish
    → goal_of opening past ≡ wish
wish_goal opening past wish h =
    heard_goal opening past wish (other_heard (stage_of past) (last_requested_level past) wish h)

no_wish_in : (now : Stage) → other_than (Some now) None ≡ None
no_wish_in (stage.Run l) = refl
no_wish_in stage.Sysinit = refl
no_wish_in stage.Boot = refl

booted_by : (next : Stage) (grace : ℕ) (past : List Event) (booted : Bool) → booted ≡ was_booted past
    → (is_boot next || booted) ≡ was_booted (event.Enter next grace ∷ past)
booted_by stage.Sysinit grace past booted h = h
booted_by stage.Boot grace past booted h = refl
booted_by (stage.Run level) grace past booted h = h

-- the fields are those of the past
module _ (h : CoreFields) (past : List Event) (kept : h ≡ fields_of past h.goal h.generation) where
  -- a stage was entered
  pub fields_entered : (next : Stage) (grace : ℕ) → record h {
    stage = Some next;
    grace = grace;
    goal = wished h.level_wish h.goal;
    level_wish = None;
    booted = is_boot next || h.booted;
    announced = false;
  }
      ≡ fields_of (event.Enter next grace ∷ past) (wished h.level_wish h.goal) h.generation
  fields_entered next grace = λ i. record (kept i) {
    stage = Some next;
    grace = grace;
    goal = wished h.level_wish h.goal;
    level_wish = sym (no_wish_in next) i;
    booted = booted_by next grace past h.booted (ap (λ (x : CoreFields). x.booted) kept) i;
    announced = false;
  }

  -- a power event or a letter was carried out
  pub fields_powered : (kind : PowerKind)
      → record h { pending = with_kind kind false h.pending } ≡ fields_of (event.Power kind ∷ past) h.goal h.generation
  fields_powered kind = λ i. record
      (kept i) { pending = (ap (λ (x : CoreFields). with_kind kind false x.pending) kept ∙ news_powered past kind) i }

  pub fields_called : (l : Letter)
      → record h { pending = with_call l false h.pending } ≡ fields_of (event.Call l ∷ past) h.goal h.generation
  fields_called l = λ i. record
      (kept i) { pending = (ap (λ (x : CoreFields). with_call l false x.pending) kept ∙ news_called past l) i }

  -- a request for a level, by the stage
  module _ (l : Level) (s : ℕ) where
    abbrev asked : Goal
    asked = record { level = l; grace = s }

    abbrev then : List Event
    then = event.Got (got.Level l s) ∷ past

    -- outside of a runlevel
    on_the_way_up : true ≡ wants_reread then → h.level_wish ≡ level_wish then
        → record h { goal = asked; reread = true } ≡ fields_of then asked h.generation
    on_the_way_up again wish = λ i. record (kept i) { goal = asked; reread = again i; level_wish = wish i }

    level_heard : (o : Option Stage) → stage_of past ≡ o
        → fields_after_level o asked h ≡ fields_of
        then (fields_after_level o asked h).goal (fields_after_level o asked h).generation
    level_heard (Some (stage.Run run)) is = at (same_level l run) refl
      where
        reread : h.reread ≡ wants_reread past
        reread = ap (λ (x : CoreFields). x.reread) kept

        at : (b : Bool) → same_level l run ≡ b
            → cond b (record h { level_wish = None }) (record h { level_wish = Some asked; reread = true })
            ≡ fields_of
            then (cond b (record h { level_wish = None }) (record h { level_wish = Some asked; reread = true })).goal
            (cond b (record h { level_wish = None }) (record h { level_wish = Some asked; reread = true })).generation
        at true same =
            let wish : None ≡ level_wish then = rw (is, same) refl in
            let again : h.reread ≡ wants_reread then = rw (is, same) reread in
            λ i. record (kept i) { level_wish = wish i; reread = again i }
        at false differ =
            let wish : Some asked ≡ level_wish then = rw (is, differ) refl in
            let again : true ≡ wants_reread then = rw (is, differ) refl in
            λ i. record (kept i) { level_wish = wish i; reread = again i }
    level_heard (Some stage.Sysinit) is =
        on_the_way_up (rw is refl) (ap (λ (x : CoreFields). x.level_wish) kept ∙ rw is refl)
    level_heard (Some stage.Boot) is =
        on_the_way_up (rw is refl) (ap (λ (x : CoreFields). x.level_wish) kept ∙ rw is refl)
    level_heard None is = on_the_way_up (rw is refl) (ap (λ (x : CoreFields). x.level_wish) kept ∙ rw is refl)

  -- a request was received
  pub fields_got : (request : HeardRequest) → fields_after_request request h
      ≡ fields_of (event.Got request ∷ past) (fields_after_request request h).goal
      (fields_after_request request h).generation
  fields_got (got.Level l s) =
      subst
      (λ o. fields_after_level o (record { level = l; grace = s }) h ≡ fields_of (event.Got (got.Level l s) ∷ past)
      (fields_after_level o (record { level = l; grace = s }) h).goal
      (fields_after_level o (record { level = l; grace = s }) h).generation)
      (sym (ap (λ (x : CoreFields). x.stage) kept)) (level_heard l s (stage_of past) refl)
  fields_got got.Reload = λ i. record (kept i) { reread = true }
  fields_got got.Reexec = λ i. record (kept i) { reexec = true }
  fields_got (got.Call l) = λ i. record
      (kept i) { pending = (ap (λ (x : CoreFields). with_call l true x.pending) kept ∙ letter_heard past l) i }
  fields_got (got.Power k) = λ i. record
      (kept i) { pending = (ap (λ (x : CoreFields). with_kind k true x.pending) kept ∙ power_heard past k) i }
  fields_got (got.Nothing cause) = kept

  -- the goal, if outside of a runlevel it is that of the past
  module _ (opening : Goal) (law : in_run (stage_of past) ≡ false → h.goal ≡ goal_of opening past) where
    pub goal_heard : (request : HeardRequest) → in_run (stage_of past) ≡ false
        → (fields_after_request request h).goal ≡ goal_of opening (event.Got request ∷ past)
    goal_heard (got.Level l s) early =
        subst (λ o. in_run o ≡ false → (fields_after_level o (record { level = l; grace = s })
        h).goal ≡ record { level = l; grace = s }) (sym (ap (λ (x : CoreFields). x.stage) kept)) (by (stage_of past))
        (ap (λ (x : CoreFields). in_run x.stage) kept ∙ early)
      where
        by : (o : Option Stage) → in_run o ≡ false
            → (fields_after_level o (record { level = l; grace = s }) h).goal ≡ record { level = l; grace = s }
        by (Some (stage.Run run)) h = absurd (false≢true (sym h))
        by (Some stage.Sysinit) h = refl
        by (Some stage.Boot) h = refl
        by None h = refl
    goal_heard got.Reload early = law early
    goal_heard got.Reexec early = law early
    goal_heard (got.Call l) early = law early
    goal_heard (got.Power k) early = law early
    goal_heard (got.Nothing cause) early = law early

    -- a stage was entered: without a pending request for another level, it is on the way up or a runlevel
    pub goal_entered : (next : Stage) → (h.level_wish ≡ None → in_run (Some next) ≡ false → in_run (stage_of past)
        ≡ false) → in_run (Some next) ≡ false → wished h.level_wish h.goal ≡ goal_of opening past
    goal_entered next on_the_way early = at h.level_wish refl
      where
        at : (o : Option Goal) → h.level_wish ≡ o → wished o h.goal ≡ goal_of opening past
        at None is = law (on_the_way is early)
        at (Some wish) is = sym (wish_goal opening past wish (sym (ap (λ (x : CoreFields). x.level_wish) kept) ∙ is))
