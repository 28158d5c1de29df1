-- If a core fits the trace, the step that it decides on is the first due step.
use Rattle.core_model.proofs.Words.{arith, ◌≡◌, refl, sym, ◌∙◌, ap, cond, ℕ, Bool, true, false, not, ◌&&◌, ◌||◌, List}
use Rattle.core_model.proofs.Words.{[], ◌++◌, Option, Some, None, is_some, list_all, Stage, waited_of, same_level-self}
use Rattle.core_model.proofs.Words.{Step, Reread, Reexec, Goal, Event, table_of, stage_of, grace_of, time_of, has_child}
use Rattle.core_model.proofs.Words.{kept_children, is_wanted, in_run, goal_of, wants_reexec, wants_reread, level_wish}
use Rattle.core_model.proofs.Words.{powers, letters, are_calls_pending, is_request_pending, was_booted, due, first}
use Rattle.core_model.proofs.Words.{steps_if}
use Rattle.core_model.proofs.Words.{due_first, due_reexec, due_reread, due_level, due_news, due_stops, due_starts}
use Rattle.core_model.proofs.Words.{due_stage, due_settle, due_looks, enter_level, power_steps, letter_steps}
use Rattle.core_model.proofs.Words.{stops_among, starts_among, is_announced, record_ids, is_sound, CallSet, has_news}
use Rattle.core_model.proofs.Words.{first_pending_step, CoreState, or_else, or_idle, level_step, wish_step, stands}
use Rattle.core_model.proofs.Words.{has_excluded, all_done, work_step, decide_in, decide, LastStatuses, Fits, core_read}
use Rattle.core_model.proofs.Words.{pending_calls, records_of}
use Rattle.init_words.specs.declared.stages.Stage.TheVariants as stage
use Rattle.trace_events.specs.declared.steps.Step.TheVariants.{Enter}
use Rattle.trace_events.specs.Past.{is_quiet, is_idle}
use Rattle.trace_events.specs.Due as due
use Rattle.child_table.specs.Lists as lists
use Rattle.core_model.specs.Decide as core
use Rattle.core_model.proofs.Dawn.{dawn_quiet}
use Rattle.core_model.proofs.Firsts.{head, head_step_if, head_steps_if}
use Rattle.core_model.proofs.Newest.{by_first}
use Rattle.core_model.proofs.Reading.{quiet_same, idle_same, excluded_same, kept_excluded_same}
use Rattle.core_model.proofs.Ranks.{starts_same, all_done_same, all_served_same, looks_same}
use Rattle.core_model.proofs.Stops.{stops_same}

-- the first step of nine lists, in groups of four, four and one
nine : (a b c d e f g h i : List Step) → first (a ++ b ++ c ++ d ++ e ++ f ++ g ++ h ++ i)
    ≡ or_idle (or_else (or_else (head a) (or_else (head b) (or_else (head c) (head d))))
    (or_else (or_else (head e) (or_else (head f) (or_else (head g) (head h)))) (head i)))
nine a b c d e f g h i = grind arith

steps_if_nil : (b : Bool) → steps_if b [] ≡ []
steps_if_nil true = refl
steps_if_nil false = refl

-- ranks 2 to 5: the pending requests
wish_by : (q x r run : Bool) (level pending : Option Step) → or_else (cond (q && x) (Some Reexec) None)
    (or_else (cond (q && r) (Some Reread) None) (or_else (cond q level None) (cond (q && run) pending None)))
    ≡ cond q (cond x (Some Reexec) (cond r (Some Reread) (or_else level (cond run pending None)))) None
wish_by false x r run level pending = refl
wish_by true true r run level pending = refl
wish_by true false true run level pending = refl
wish_by true false false run level pending = refl

news_fields : (past : List Event)
    → head (power_steps powers past ++ letter_steps letters past) ≡ first_pending_step (pending_calls past)
news_fields past = grind arith

level_head : (past : List Event) (wish : Option Goal) → head (enter_level wish past) ≡ level_step (was_booted past) wish
level_head past wish = grind arith

any_news : (past : List Event) → are_calls_pending past ≡ has_news (pending_calls past)
any_news past = by_first
    (λ (n : CallSet). ((n.fail || (n.fail_now || (n.ok || false))) || (n.a || (n.b || (n.c || false)))) ≡ has_news n)
    (λ n o a b c. refl) (λ o a b c. refl) (λ a b c. refl) (λ b c. refl) (λ c. refl) refl refl (pending_calls past)

-- ranks 6 to 9: the work if no request is pending
work_by : (w x q l i a : Bool) (stops starts next settled : List Step) (s m n t : Option Step) → head stops ≡ s
    → head starts ≡ m → head (steps_if (q && l) next) ≡ n → (x ≡ true → settled ≡ [])
    → (x ≡ false → head (steps_if (i && not a) settled) ≡ t)
    → or_else (head (steps_if (not w) stops)) (or_else (head (steps_if (not w && not x) starts))
    (or_else (head (steps_if (not w && q && not x && l) next)) (head (steps_if (not w && i && not a) settled))))
    ≡ cond w None (or_else s (cond x None (or_else m (or_else n t))))
work_by true x q l i a stops starts next settled s m n t hs hm hn none ht = refl
work_by false true true l i a stops starts next settled s m n t hs hm hn none ht =
    rw (hs, none refl, steps_if_nil (i && not a)) refl
work_by false true false l i a stops starts next settled s m n t hs hm hn none ht =
    rw (hs, none refl, steps_if_nil (i && not a)) refl
work_by false false true l i a stops starts next settled s m n t hs hm hn none ht = rw (hs, hm, hn, ht refl) refl
work_by false false false l i a stops starts next settled s m n t hs hm hn none ht = rw (hs, hm, ← hn, ht refl) refl

over_by : (q p l k : Bool) → q ≡ p → (q ≡ true → l ≡ k) → (q && l) ≡ (p && k)
over_by true p l k same more = rw (← same) (more refl)
over_by false p l k same more = rw (← same) refl

next_head : (now : Stage) (goal : Goal)
    → head (due.next_stage goal (Some now)) ≡ core.enter_step (core.next_stage now goal.level) goal.grace
next_head now goal = grind arith

module _ (lasts : LastStatuses) (goal : Goal) (past : List Event) (sound : is_sound goal past ≡ true)
    (g : Goal) (n : ℕ) (same_goal : in_run (stage_of past) ≡ false → g ≡ goal_of goal past) where
  module _ (now : Stage) (in_stage : stage_of past ≡ Some now) where
    wish_same : or_else (head (due_reexec past)) (or_else (head (due_reread past))
        (or_else (head (due_level past)) (head (due_news past)))) ≡ wish_step now (core_read lasts past g n)
    wish_same = grind (arith, head_step_if, head_steps_if, wish_by, head, quiet_same, level_head, news_fields)

    stands_same : is_request_pending past ≡ stands now (core_read lasts past g n)
    stands_same = λ i. wants_reexec past || wants_reread past || is_some (level_wish past) || in_run (in_stage i)
        && any_news past i

    stage_same : head (steps_if (is_quiet past && list_all (λ e. not (is_wanted e past) && not (waited_of e
        && has_child e.id (kept_children past))) (table_of past)) (due.next_stage (goal_of goal past) (stage_of past)))
        ≡ core.stage_step now g (table_of past) (records_of lasts past)
    stage_same = head_steps_if (is_quiet past && list_all (λ e. not (is_wanted e past) && not (waited_of e
        && has_child e.id (kept_children past))) (table_of past)) (due.next_stage (goal_of goal past) (stage_of past))
        ∙ (λ i. cond (over i) (head (due.next_stage (goal_of goal past) (in_stage i))) None)
        ∙ ap (λ o. cond (core.is_over_among now (table_of past) (records_of lasts past)) o None)
        (next_head now (goal_of goal past) ∙ to_goal now in_stage)
      where
        over : (is_quiet past && list_all (λ e. not (is_wanted e past) && not (waited_of e && has_child e.id
            (kept_children past))) (table_of past)) ≡ core.is_over_among now (table_of past) (records_of lasts past)
        over = over_by (is_quiet past) (lists.is_quiet (records_of lasts past)) (list_all
            (λ e. not (is_wanted e past) && not (waited_of e && has_child e.id (kept_children past))) (table_of past))
            (all_done now (table_of past) (records_of lasts past)) (quiet_same lasts goal past sound)
            (all_done_same lasts goal past sound now in_stage)

        to_goal : (now : Stage) → stage_of past ≡ Some now → core.enter_step (core.next_stage now
            (goal_of goal past).level) (goal_of goal past).grace ≡ core.enter_step (core.next_stage now g.level) g.grace
        to_goal stage.Sysinit is = ap (λ (x : Goal). core.enter_step (core.next_stage stage.Sysinit x.level) x.grace)
            (sym (same_goal (ap in_run is)))
        to_goal stage.Boot is = ap (λ (x : Goal). core.enter_step (core.next_stage stage.Boot x.level) x.grace)
            (sym (same_goal (ap in_run is)))
        to_goal (stage.Run level) is = refl

  -- a level is not settled while a child is excluded
  settle_none : (now : Stage) → stage_of past ≡ Some now → has_excluded (records_of lasts past) ≡ true
      → due.settle_step (stage_of past) past ≡ []
  settle_none now is excluded = grind (arith, excluded_same)

  settle_same : (now : Stage) → stage_of past ≡ Some now → has_excluded (records_of lasts past) ≡ false
      → head (steps_if (is_idle past && not (is_announced past)) (due.settle_step (stage_of past) past))
      ≡ core.settle_step now (is_announced past) (time_of past) (table_of past) (records_of lasts past)
  settle_same now is none =
      grind (arith, head, steps_if_nil, idle_same, same_level-self, excluded_same, all_served_same)

  module _ (now : Stage) (in_stage : stage_of past ≡ Some now) where
    work_same : or_else (head (due_stops past)) (or_else (head (due_starts past))
        (or_else (head (due_stage goal past)) (head (due_settle past)))) ≡ work_step now (core_read lasts past g n)
    work_same = (λ i. or_else (head (steps_if (not (is_request_pending past)) (stops_among (record_ids past) past)))
        (or_else (head (steps_if (not (is_request_pending past) && not (kept_excluded_same lasts goal past sound i))
        (starts_among (table_of past) past)))
        (or_else
        (head (steps_if (not (is_request_pending past) && is_quiet past && not (kept_excluded_same lasts goal past
        sound i) && list_all (λ e. not (is_wanted e past) && not (waited_of e && has_child e.id (kept_children past)))
        (table_of past)) (due.next_stage (goal_of goal past) (stage_of past)))) (head (due_settle past)))))
        ∙ work_by (is_request_pending past) (has_excluded (records_of lasts past)) (is_quiet past) (list_all
        (λ e. not (is_wanted e past) && not (waited_of e && has_child e.id (kept_children past))) (table_of past))
        (is_idle past) (is_announced past)
        (stops_among (record_ids past) past) (starts_among (table_of past) past)
        (due.next_stage (goal_of goal past) (stage_of past)) (due.settle_step (stage_of past) past)
        (core.stop_among (grace_of past) (time_of past) (records_of lasts past)) (core.start_among now (time_of past)
        (table_of past) (records_of lasts past)) (core.stage_step now g (table_of past) (records_of lasts past))
        (core.settle_step now (is_announced past) (time_of past) (table_of past) (records_of lasts past))
        (stops_same lasts goal past sound) (starts_same lasts goal past sound now in_stage) (stage_same now in_stage)
        (settle_none now in_stage) (settle_same now in_stage)
        ∙ ap (λ b. cond b None (or_else (core.stop_among (grace_of past) (time_of past) (records_of lasts past))
        (cond (has_excluded (records_of lasts past)) None (core.calm_step now (core_read lasts past g n)))))
        (stands_same now in_stage)

    first_some : first (due goal past) ≡ decide_in (Some now) (core_read lasts past g n)
    first_some = grind (arith, nine, wish_same, work_same, looks_same)

  -- before the first stage, no order is open
  first_none : stage_of past ≡ None → first (due goal past) ≡ decide_in None (core_read lasts past g n)
  first_none is =
      ap (λ o. first (due_first goal o past ++ due_reexec past ++ due_reread past ++ due_level past ++ due_news past
      ++ due_stops past ++ due_starts past ++ due_stage goal past ++ due_settle past ++ due_looks past)) is
      ∙ ap (λ (x : Goal). Enter stage.Sysinit x.grace) (sym (same_goal (ap in_run is)))
      ∙ ap (λ b. or_idle (cond b (Some (Enter stage.Sysinit g.grace)) None))
      (sym (sym (quiet_same lasts goal past sound) ∙ dawn_quiet goal past sound is))

  pub read_due : decide (core_read lasts past g n) ≡ first (due goal past)
  read_due = grind (arith, first_none, first_some)

-- if a core fits the trace, the step that it decides on is the first due step
pub decide_due : (goal : Goal) (past : List Event) → is_sound goal past ≡ true → (c : CoreState) → Fits c goal past
    → decide c ≡ first (due goal past)
decide_due goal past sound c fits =
    ap decide fits.kept ∙ read_due fits.lasts goal past sound c.fields.goal c.fields.generation fits.goal
