-- No request for a level is lost: a stage is entered for it, which is that level, or Boot on the way to it.
use Rattle.core_waiting.proofs.Words.{arith, ◌≡◌, ◌⊎◌, inl, inr, refl, sym, ◌∙◌, ap, subst, ℕ, Bool, true, false, ◌&&◌}
use Rattle.core_waiting.proofs.Words.{◌||◌, ◌==◌, not, cond, List, [], ◌∷◌, ◌++◌, Some, list_any, false≢true, and_parts}
use Rattle.core_waiting.proofs.Words.{eqb-true, true_from_ne_false, Level, S, Stage, Boot, Run, same_level, both_ways}
use Rattle.core_waiting.proofs.Words.{or_false, Enter, Got, Step, Goal, Event, stage_of, is_idle, is_quiet, goal_of}
use Rattle.core_waiting.proofs.Words.{last_requested_level, level_wish, in_run, was_booted, powers, letters, is_due}
use Rattle.core_waiting.proofs.Words.{same_step}
use Rattle.core_waiting.proofs.Words.{due_first, enter_level, is_over, next_stage, power_steps, letter_steps, is_sound}
use Rattle.core_waiting.proofs.Words.{each_append, each_steps_if, step_at, AtRest, is_no_level_asked, is_stage_entered}
use Rattle.std.specs.Option.{is_some}
use Rattle.init_words.specs.Orders.{same_stage}
use Rattle.initctl_frame.specs.declared.requests.HeardRequest.TheVariants as got
use Rattle.trace_events.specs.declared.steps.Step.TheVariants as step
use Rattle.trace_laws.proofs.Dues.{Each}
use Rattle.core_waiting.proofs.Climbing.{Unless, whole, powers_each, calls_each, why_due, one_step}
use Rattle.core_waiting.proofs.Arriving.{unwished}

heard_still : (between past : List Event) → is_no_level_asked between ≡ true → is_stage_entered between ≡ false
    → last_requested_level (between ++ past) ≡ last_requested_level past
heard_still [] past unasked none = refl
heard_still (Got (got.Level level grace) ∷ between) past unasked none = absurd (false≢true unasked)
heard_still (Enter now grace ∷ between) past unasked none = absurd (false≢true (sym none))
heard_still (happening ∷ between) past unasked none = heard_still between past unasked none

pub stage_still : (between past : List Event) → is_stage_entered between ≡ false
    → stage_of (between ++ past) ≡ stage_of past
stage_still [] past none = refl
stage_still (Enter now grace ∷ between) past none = absurd (false≢true (sym none))
stage_still (happening ∷ between) past none = stage_still between past none

pub goal_still : (goal : Goal) (between past : List Event) → is_no_level_asked between ≡ true
    → goal_of goal (between ++ past) ≡ goal_of goal past
goal_still goal [] past unasked = refl
goal_still goal (Got (got.Level level grace) ∷ between) past unasked = absurd (false≢true unasked)
goal_still goal (happening ∷ between) past unasked = goal_still goal between past unasked

same_seconds : (s x : Stage) (seconds grace : ℕ) → (same_stage s x && seconds == grace || false) ≡ true
    → seconds ≡ grace
same_seconds s x seconds grace h = eqb-true seconds grace
    (and_parts (same_stage s x) (seconds == grace) (sym (or_false (same_stage s x && seconds == grace)) ∙ h)).1

-- after a request for a level that is not in force
module _ (goal : Goal) (between before : List Event) (level now : Level) (grace : ℕ) (stage : stage_of before
    ≡ Some (Run now)) (other : same_level level now ≡ false) (unasked : is_no_level_asked between ≡ true) where
  abbrev pub moment : List Event
  moment = between ++ Got (got.Level level grace) ∷ before

  abbrev pub wish : Goal
  wish = record { level = level; grace = grace }

  wished : is_stage_entered between ≡ false → level_wish moment ≡ Some wish
  wished none = grind (arith, stage_still, heard_still)

  pub not_lost : AtRest goal moment → is_idle moment ≡ true → is_stage_entered between ≡ true
  not_lost rest idle = true_from_ne_false (is_stage_entered between)
      (λ none. both_ways (is_some (level_wish moment)) (ap is_some (wished none)) (unwished goal moment rest idle))

  pub aimed : goal_of goal moment ≡ wish
  aimed = goal_still goal between (Got (got.Level level grace) ∷ before) unasked

  -- the step that enters a stage then is that of the request
  by_wish : (s : Stage) (seconds : ℕ) → is_stage_entered between ≡ false → is_due goal (step.Enter s seconds) moment
      ≡ true → list_any (same_step (step.Enter s seconds)) (enter_level (level_wish moment) moment) ≡ true
  by_wish s seconds none h = why_due goal moment it F
      (record { orders = λ id ask. refl; holds = λ id. refl; settles = λ l. refl; reexecs = refl; rereads = refl })
      (subst (λ o. Each (Unless it F) (due_first goal o moment)) (sym running) tt)
      (each_steps_if (Unless it F) (is_quiet moment) (enter_level (level_wish moment) moment)
      (λ _. whole it F (enter_level (level_wish moment) moment) (λ own. own)))
      (each_steps_if (Unless it F) (is_quiet moment && in_run (stage_of moment)) (power_steps powers moment
      ++ letter_steps letters moment) (λ _. each_append (Unless it F) (power_steps powers moment)
      (letter_steps letters moment) (powers_each it F powers moment (λ some kind own. absurd (false≢true own)))
      (calls_each it F letters moment (λ some letter own. absurd (false≢true own)))))
      (each_steps_if (Unless it F) (is_over moment) (next_stage (goal_of goal moment) (stage_of moment))
      (λ over. subst (λ o. Each (Unless it F) (next_stage (goal_of goal moment) o)) (sym running) tt)) h where
        it : Step
        it = step.Enter s seconds

        F : Type 0
        F = list_any (same_step it) (enter_level (level_wish moment) moment) ≡ true

        running : stage_of moment ≡ Some (Run now)
        running = stage_still between (Got (got.Level level grace) ∷ before) none ∙ stage

  pub enters : (later : List Event) (s : Stage) (seconds : ℕ) → is_sound goal (later ++ Enter s seconds ∷ moment) ≡ true
      → is_stage_entered between ≡ false
      → ((s ≡ Run level) ⊎ (s ≡ Boot) × ((goal_of goal moment).level ≡ level)) × (seconds ≡ grace)
  enters later s seconds sound none = reached (not (same_level level S) && not (was_booted moment))
      (subst (λ o. list_any (same_step (step.Enter s seconds)) (enter_level o moment) ≡ true) (wished none)
      (by_wish s seconds none due)) where
        due : is_due goal (step.Enter s seconds) moment ≡ true
        due = (step_at goal later (Enter s seconds) moment refl sound).0

        reached : (first_way : Bool)
            → list_any (same_step (step.Enter s seconds)) (step.Enter (cond first_way Boot (Run level)) grace ∷ [])
            ≡ true
            → ((s ≡ Run level) ⊎ (s ≡ Boot) × ((goal_of goal moment).level ≡ level)) × (seconds ≡ grace)
        reached true h = (
          inr (one_step s Boot seconds grace h, ap (λ (aim : Goal). aim.level) aimed),
          same_seconds s Boot seconds grace h,
        )
        reached false h = (inl (one_step s (Run level) seconds grace h), same_seconds s (Run level) seconds grace h)
