-- A request for a level is carried out: that level is settled.
use Rattle.core_waiting.proofs.Words.{arith, ◌≡◌, ◌≤◌, ◌⊎◌, inl, inr, refl, sym, ◌∙◌, ap, ℕ, Bool, true, false, ◌&&◌}
use Rattle.core_waiting.proofs.Words.{not, cond, List, [], ◌∷◌, ◌++◌, Option, Some, None, list_any, false≢true}
use Rattle.core_waiting.proofs.Words.{not-true, none-some, same_Some, Level, S, Stage, Sysinit, Boot, Run, same_level}
use Rattle.core_waiting.proofs.Words.{same_level-is, same_level-self, both_ways, Enter, Got, Step, Goal, Event}
use Rattle.core_waiting.proofs.Words.{stage_of, is_idle, is_quiet, goal_of, last_requested_level, level_wish}
use Rattle.core_waiting.proofs.Words.{other_than, in_run}
use Rattle.core_waiting.proofs.Words.{was_booted, powers, letters, is_due, same_step, due_first, enter_level, is_over}
use Rattle.core_waiting.proofs.Words.{next_stage, power_steps, letter_steps, is_sound, each_append, each_steps_if}
use Rattle.core_waiting.proofs.Words.{step_at, AreRoundsWithoutRequests, undisturbed_among, destination, rounds_to_come}
use Rattle.core_waiting.proofs.Words.{AtRest}
use Rattle.core_waiting.proofs.Words.{after_rounds, is_level_announced, is_elsewhere, is_no_level_asked}
use Rattle.core_waiting.proofs.Words.{is_stage_entered}
use Rattle.std.proofs.lemmas.List.{append_assoc}
use Rattle.initctl_frame.specs.declared.requests.HeardRequest.TheVariants as got
use Rattle.trace_events.specs.declared.steps.Step.TheVariants as step
use Rattle.trace_laws.proofs.Dues.{Each}
use Rattle.core_waiting.proofs.Arriving.{arrives, arrives_there, last_rest}
use Rattle.core_waiting.proofs.Asking.{goal_still, not_lost, stage_still}
use Rattle.core_waiting.proofs.Climbing.{Unless, whole, powers_each, calls_each, why_due, one_step}
use Rattle.core_waiting.proofs.Rounds.{sound_rest}

-- the stage is that level, or one before the run levels
abbrev is_headed : Level → Option Stage → Bool
is_headed level (Some (Run now)) = same_level level now
is_headed level _ = true

heard_since : (between past : List Event) → is_no_level_asked between ≡ true
    → (last_requested_level (between ++ past) ≡ None)
    ⊎ (last_requested_level (between ++ past) ≡ last_requested_level past)
heard_since [] past unasked = grind arith
heard_since (happening ∷ between) past unasked = grind (arith, heard_since between past)

other_some : (o : Option Stage) (heard : Option Goal) (w : Goal) → other_than o heard ≡ Some w → heard ≡ Some w
other_some o heard w is = grind arith

-- the newest Enter of a stretch
record Entered (between : List Event) : Type 0 where
  front : List Event
  stage : Stage
  seconds : ℕ
  rest : List Event
  whole : between ≡ front ++ Enter stage seconds ∷ rest
  none : is_stage_entered front ≡ false
  unasked : is_no_level_asked between ≡ true → is_no_level_asked rest ≡ true

last_entered : (between : List Event) → is_stage_entered between ≡ true → Entered between
last_entered [] some = absurd (false≢true some)
last_entered (Enter stage seconds ∷ between) some =
    record { front = []; stage = stage; seconds = seconds; rest = between; whole = refl; none = refl; unasked = λ h. h }
last_entered (Got (got.Level level grace) ∷ between) some =
    let further = last_entered between some in
    record {
      front = Got (got.Level level grace) ∷ further.front;
      stage = further.stage;
      seconds = further.seconds;
      rest = further.rest;
      whole = ap (λ t. Got (got.Level level grace) ∷ t) further.whole;
      none = further.none;
      unasked = λ h. absurd (false≢true h);
    }
last_entered (happening ∷ between) some =
    let further = last_entered between some in
    record {
      front = happening ∷ further.front;
      stage = further.stage;
      seconds = further.seconds;
      rest = further.rest;
      whole = ap (λ t. happening ∷ t) further.whole;
      none = further.none;
      unasked = further.unasked;
    }

module _ (goal : Goal) (between before : List Event) (level : Level) (grace : ℕ)
    (unasked : is_no_level_asked between ≡ true) where
  abbrev asked : List Event
  asked = between ++ Got (got.Level level grace) ∷ before

  aimed : (goal_of goal asked).level ≡ level
  aimed = ap (λ (aim : Goal). aim.level) (goal_still goal between (Got (got.Level level grace) ∷ before) unasked)

  wished : (w : Goal) → level_wish asked ≡ Some w → w.level ≡ level
  wished w is = elim (heard_since between (Got (got.Level level grace) ∷ before) unasked) [
    | inl none ↦ absurd (none-some w (sym none ∙ other_some (stage_of asked) (last_requested_level asked) w is))
    | inr same ↦ ap (λ (g : Goal). g.level) (sym (same_Some (record { level = level; grace = grace }) w
        (sym same ∙ other_some (stage_of asked) (last_requested_level asked) w is)))
  ]

  -- whatever stage is entered is on the way to the level
  enters_headed : (s : Stage) (seconds : ℕ) → is_due goal (step.Enter s seconds) asked ≡ true
      → is_headed level (Some s) ≡ true
  enters_headed s seconds h = why_due goal asked it F
      (record { orders = λ id ask. refl; holds = λ id. refl; settles = λ l. refl; reexecs = refl; rereads = refl })
      (dawn (stage_of asked))
      (each_steps_if (Unless it F) (is_quiet asked) (enter_level (level_wish asked) asked)
      (λ _. by_wish (level_wish asked) refl))
      (each_steps_if (Unless it F) (is_quiet asked && in_run (stage_of asked)) (power_steps powers asked
      ++ letter_steps letters asked) (λ _. each_append (Unless it F) (power_steps powers asked)
      (letter_steps letters asked) (powers_each it F powers asked (λ some kind own. absurd (false≢true own)))
      (calls_each it F letters asked (λ some letter own. absurd (false≢true own)))))
      (each_steps_if (Unless it F) (is_over asked) (next_stage (goal_of goal asked) (stage_of asked))
      (λ over. next (stage_of asked))) h where
        it : Step
        it = step.Enter s seconds

        F : Type 0
        F = is_headed level (Some s) ≡ true

        dawn : (o : Option Stage) → Each (Unless it F) (due_first goal o asked)
        dawn None = whole it F (due_first goal None asked)
            (λ own. ap (λ x. is_headed level (Some x)) (one_step s Sysinit seconds (goal_of goal asked).grace own))
        dawn (Some x) = tt

        to : (x : Level) → x ≡ level → s ≡ Run x → F
        to x same is = ap (λ y. is_headed level (Some y)) is ∙ ap (same_level level) same ∙ same_level-self level

        by_wish : (o : Option Goal) → level_wish asked ≡ o → Each (Unless it F) (enter_level o asked)
        by_wish None is = tt
        by_wish (Some w) is = whole it F (enter_level (Some w) asked)
            (λ own. first_way (not (same_level w.level S) && not (was_booted asked)) own) where
              first_way : (b : Bool)
                  → list_any (same_step it) (step.Enter (cond b Boot (Run w.level)) w.grace ∷ []) ≡ true → F
              first_way true own = ap (λ x. is_headed level (Some x)) (one_step s Boot seconds w.grace own)
              first_way false own = to w.level (wished w is) (one_step s (Run w.level) seconds w.grace own)

        next : (o : Option Stage) → Each (Unless it F) (next_stage (goal_of goal asked) o)
        next None = tt
        next (Some Sysinit) = whole it F (next_stage (goal_of goal asked) (Some Sysinit))
            (λ own. single (same_level (goal_of goal asked).level S) refl own) where
              single : (b : Bool) → same_level (goal_of goal asked).level S ≡ b
                  → list_any (same_step it) (step.Enter (cond b (Run S) Boot) (goal_of goal asked).grace ∷ []) ≡ true
                  → F
              single true is own = to S (sym (same_level-is (goal_of goal asked).level S is) ∙ aimed)
                  (one_step s (Run S) seconds (goal_of goal asked).grace own)
              single false is own =
                  ap (λ x. is_headed level (Some x)) (one_step s Boot seconds (goal_of goal asked).grace own)
        next (Some Boot) = whole it F (next_stage (goal_of goal asked) (Some Boot)) (λ own. to (goal_of goal
            asked).level aimed (one_step s (Run (goal_of goal asked).level) seconds (goal_of goal asked).grace own))
        next (Some (Run now)) = tt

-- when init is at rest after the request, the stage is on the way to the level
module _ (goal : Goal) (between before : List Event) (level : Level) (grace : ℕ)
    (unasked : is_no_level_asked between ≡ true) where
  abbrev now_past : List Event
  now_past = between ++ Got (got.Level level grace) ∷ before

  entered_headed : is_sound goal now_past ≡ true → is_stage_entered between ≡ true
      → is_headed level (stage_of now_past) ≡ true
  entered_headed sound some =
      let last = last_entered between some in
      let past = last.rest ++ Got (got.Level level grace) ∷ before in
      let whole : now_past ≡ last.front ++ Enter last.stage last.seconds ∷ past =
      ap (λ t. t ++ Got (got.Level level grace) ∷ before) last.whole
      ∙ append_assoc last.front (Enter last.stage last.seconds ∷ last.rest) (Got (got.Level level grace) ∷ before) in
      let due =
      (step_at goal last.front (Enter last.stage last.seconds) past refl (ap (is_sound goal) (sym whole) ∙ sound)).0 in
      ap (λ t. is_headed level (stage_of t)) whole
      ∙ ap (is_headed level) (stage_still last.front (Enter last.stage last.seconds ∷ past) last.none)
      ∙ enters_headed goal last.rest before level grace (last.unasked unasked) last.stage last.seconds due

  rest_headed : is_sound goal now_past ≡ true → is_elsewhere level (stage_of before) ≡ true → AtRest goal now_past
      → is_idle now_past ≡ true → is_headed level (stage_of now_past) ≡ true
  rest_headed sound other rest idle = by (is_stage_entered between) refl where
    at : (o : Option Stage) → stage_of before ≡ o → is_elsewhere level o ≡ true → is_stage_entered between ≡ false
        → is_headed level o ≡ true
    at None is away none = refl
    at (Some Sysinit) is away none = refl
    at (Some Boot) is away none = refl
    at (Some (Run now)) is away none = absurd (both_ways (is_stage_entered between)
        (not_lost goal between before level now grace is (not-true (same_level level now) away) unasked rest idle) none)

    by : (entered : Bool) → is_stage_entered between ≡ entered → is_headed level (stage_of now_past) ≡ true
    by true some = entered_headed sound some
    by false none = ap (is_headed level) (stage_still between (Got (got.Level level grace) ∷ before) none)
        ∙ at (stage_of before) refl other none

  pub settles : (later : List Event) (rounds : List (List Event))
      → is_sound goal (later ++ after_rounds rounds now_past) ≡ true → is_elsewhere level (stage_of before) ≡ true
      → AreRoundsWithoutRequests goal rounds now_past → rounds_to_come goal now_past ≤ undisturbed_among rounds now_past
      → (is_level_announced (after_rounds rounds now_past) ≡ true)
      × (stage_of (after_rounds rounds now_past) ≡ Some (Run level))
  settles later rounds sound other are few = (
    announced,
    arrives_there goal later rounds now_past sound are announced ∙ ap (λ l. Some (Run l)) (ap (λ l. destination l
        (stage_of now_past)) (aimed goal between before level grace unasked) ∙ there (stage_of now_past) headed),
  ) where
    announced : is_level_announced (after_rounds rounds now_past) ≡ true
    announced = arrives goal later rounds now_past sound are few

    first_of : (earlier : List (List Event)) → is_sound goal (after_rounds earlier now_past) ≡ true
        → AreRoundsWithoutRequests goal
        earlier now_past → AtRest goal now_past × (is_idle now_past ≡ true) × (is_sound goal now_past ≡ true)
    first_of [] ok unasked = (unasked.0, unasked.1, ok)
    first_of (round ∷ earlier) ok undisturbed = first_of earlier (sound_rest goal round
        (after_rounds earlier now_past) ok (last_rest goal earlier now_past undisturbed.0).0) undisturbed.0

    first : AtRest goal now_past × (is_idle now_past ≡ true) × (is_sound goal now_past ≡ true)
    first = first_of rounds
        (sound_rest goal later (after_rounds rounds now_past) sound (last_rest goal rounds now_past are).0) are

    headed : is_headed level (stage_of now_past) ≡ true
    headed = rest_headed first.2 other first.0 first.1

    there : (o : Option Stage) → is_headed level o ≡ true → destination level o ≡ level
    there o h = grind arith
