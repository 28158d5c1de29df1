-- The core fits the trace with each step that it takes.
use Rattle.core_model.proofs.Words.{arith, ◌≡◌, refl, sym, ◌∙◌, ap, ℕ, Bool, true, false, cond, List, [], ◌∷◌, map}
use Rattle.core_model.proofs.Words.{Option, Some, None, list_any, false≢true, Entry, Level, Stage, Start, Look, Term}
use Rattle.core_model.proofs.Words.{Kill, is_limited, same_id-self, entry_of, is_distinct, Step, Reread, Order, Reexec}
use Rattle.core_model.proofs.Words.{Idle, Goal, Event, table_of, stage_of, time_of, in_run, goal_of, due, first}
use Rattle.core_model.proofs.Words.{same_step, is_sound, MayRun, due_facts, sound_holds, SlotState, after_enter}
use Rattle.core_model.proofs.Words.{after_judge, CallSet, first_pending_step, CoreState, decide, or_else, or_idle}
use Rattle.core_model.proofs.Words.{after_step}
use Rattle.core_model.proofs.Words.{LastStatuses, Fits, FitsExtendedTrace, last_statuses_after, fields_of, core_read}
use Rattle.core_model.proofs.Words.{with_step}
use Rattle.init_words.specs.declared.stages.Stage.TheVariants as stage
use Rattle.respawn_limit.specs.Window.{is_held}
use Rattle.trace_events.specs.declared.happenings.Happening.TheVariants as event
use Rattle.trace_events.specs.declared.steps.Step.TheVariants.{Enter, Call, Power, Hold, Settle}
use Rattle.core_model.specs.Decide as core
use Rattle.core_model.proofs.Fitted.{fit_stage, goes_on, still}
use Rattle.core_model.proofs.Ordering.{look_ordered, term_ordered, kill_ordered, start_ordered, hold_made, power_called}
use Rattle.core_model.proofs.Ordering.{letter_called}
use Rattle.core_model.proofs.Newest.{by_first}
use Rattle.core_model.proofs.Moments.{fields_entered, fields_powered, fields_called, goal_entered}
use Rattle.core_model.proofs.Tables.{enter_records}
use Rattle.core_model.proofs.Hearing.{settle_records}
use Rattle.core_model.proofs.Deciding.{decide_due}

-- the step enters a stage
abbrev enters : Option Step → Bool
enters (Some (Enter next grace)) = true
enters _ = false

neither : (a b : Option Step) → enters a ≡ false → enters b ≡ false → enters (or_else a b) ≡ false
neither a b ha hb = grind arith

not_if : (b : Bool) (o : Option Step) → enters o ≡ false → enters (cond b o None) ≡ false
not_if true o h = h
not_if false o h = refl

not_else : (b : Bool) (o : Option Step) → enters o ≡ false → enters (cond b None o) ≡ false
not_else true o h = refl
not_else false o h = h

start_enters : (now : Stage) (time : ℕ) (ps : List (Entry × SlotState))
    → enters (core.start_along now time ps) ≡ false
start_enters now time [] = refl
start_enters now time (p ∷ ps) = neither (core.start_step now time p.0 p.1) (cond (core.is_owed_record now p.0 p.1) None
    (core.start_along now time ps)) (not_if (core.can_start_record now p.0 p.1) (core.limited_step time p.0 p.1)
    (told (is_limited (p.0).act) (is_held (p.1).limiter.held time) _))
    (not_else (core.is_owed_record now p.0 p.1) (core.start_along now time ps) (start_enters now time ps))
  where
    told : (b h a : Bool) → enters (cond b (cond h None (Some (cond a (Order (p.0).id Start) (Hold (p.0).id))))
        (Some (Order (p.0).id Start))) ≡ false
    told true true a = refl
    told true false true = refl
    told true false false = refl
    told false h a = refl

stop_enters : (grace now : ℕ) (slots : List SlotState) → enters (core.stop_among grace now slots) ≡ false
stop_enters grace now [] = grind arith
stop_enters grace now (slot ∷ slots) = grind (arith, stop_enters grace now slots)

look_enters : (slots : List SlotState) → enters (core.look_among slots) ≡ false
look_enters [] = grind arith
look_enters (slot ∷ slots) = grind (arith, look_enters slots)

news_enters : (pending : CallSet) → enters (first_pending_step pending) ≡ false
news_enters = by_first (λ (n : CallSet). enters (first_pending_step n) ≡ false) (λ n o a b c. refl) (λ o a b c. refl)
    (λ a b c. refl) (λ b c. refl) (λ c. refl) refl refl

-- in a runlevel, without a pending request for another one, the core enters no stage
run_enters : (c : CoreState) (level : Level) → c.fields.level_wish ≡ None → enters (or_else (core.wish_step
    (stage.Run level) c) (or_else (core.work_step (stage.Run level) c) (core.look_among c.slots))) ≡ false
run_enters c level none = grind (arith, neither, not_if, not_else, look_enters, news_enters, stop_enters, start_enters)

entered_before : (c : CoreState) (o : Option Stage) → c.fields.level_wish ≡ None → (next : Stage) (grace : ℕ)
    → core.decide_in o c ≡ Enter next grace → in_run o ≡ false
entered_before c (Some (stage.Run level)) none next grace is =
    absurd (false≢true (sym (run_enters c level none) ∙ ap enters (of_idle _ is)))
  where
    of_idle : (o : Option Step) → or_idle o ≡ Enter next grace → o ≡ Some (Enter next grace)
    of_idle o is = grind arith
entered_before c o none next grace is = grind arith

-- the first due step is due
first_due : (s : Step) (steps : List Step) → same_step s s ≡ true → (s ≡ Idle → ⊥) → first steps ≡ s
    → list_any (same_step s) steps ≡ true
first_due s steps self busy is = grind arith

module _ (goal : Goal) (past : List Event) (c : CoreState) (sound : is_sound goal past ≡ true) (fits : Fits c goal past)
  where
    -- the step is the first due step
    due_now : decide c ≡ first (due goal past)
    due_now = decide_due goal past sound c fits

    entry_start : (id : List ℕ) → decide c ≡ Order id Start → MayRun id (table_of past) past
    entry_start id is = (due_facts goal past (Order id Start)
        (first_due (Order id Start) (due goal past) (rw (same_id-self id) refl) (λ h. cc) (sym due_now ∙ is))).run

    distinct : is_distinct (table_of past) ≡ true
    distinct = (sound_holds goal past sound).distinct

    own_entry : (id : List ℕ) (may : MayRun id (table_of past) past) → entry_of id (table_of past) ≡ Some may.entry
    own_entry id may = may.found distinct

    abbrev g : Goal
    g = c.fields.goal

    abbrev n : ℕ
    n = c.fields.generation

    -- a step that does not change the goal, from how it changes the core read off the past
    goes : (s : Step) (happening : Event) → (after_step s c).fields.goal ≡ g → (after_step s c).fields.generation ≡ n
        → ((lasts : LastStatuses)
        → after_step s (core_read lasts past g n) ≡ core_read (last_statuses_after happening past lasts)
        (happening ∷ past) g n) → (in_run (stage_of (happening ∷ past)) ≡ false → g ≡ goal_of goal (happening ∷ past))
        → FitsExtendedTrace c (after_step s c) goal past (happening ∷ past)
    goes s happening same_goal same_age reads law = goes_on c (after_step s c) goal happening past fits
        (λ lasts kept. ap (after_step s) kept ∙ reads lasts ∙ (λ i. core_read (last_statuses_after happening past lasts)
        (happening ∷ past) (sym same_goal i) (sym same_age i))) (λ h. same_goal ∙ law h)

    -- only the records change
    abbrev with_records : LastStatuses → Event → List SlotState → CoreState
    with_records lasts happening slots = record (core_read lasts (happening ∷ past) g n) { slots = slots }

    pub fits_step : FitsExtendedTrace c (after_step (decide c) c) goal past (with_step (decide c) past)
    fits_step = at (decide c) refl
      where
        at : (s : Step) → decide c ≡ s → FitsExtendedTrace c (after_step s c) goal past (with_step s past)
        at (Enter next grace) is =
            let way : c.fields.level_wish ≡ None → in_run (Some next) ≡ false → in_run (stage_of past) ≡ false =
            λ none h. sym (ap in_run (fit_stage c goal past fits))
            ∙ entered_before c c.fields.stage none next grace is in
            goes_on c (after_step (Enter next grace) c) goal (event.Enter next grace) past fits
            (λ lasts kept i. record {
              table = (kept i).table;
              slots = (ap (λ (x : CoreState). map (after_judge x.table next) (map after_enter x.slots)) kept
                  ∙ enter_records lasts goal next grace past sound) i;
              fields = fields_entered c.fields past (ap (λ (x : CoreState). x.fields) kept) next grace i;
            })
            (λ early. goal_entered c.fields past
            (ap (λ (x : CoreState). x.fields) fits.kept) goal fits.goal next way early)
        at (Order id Start) is =
            let may = entry_start id is in
            goes (Order id Start) (event.Asked id Start) refl refl (λ lasts. ap (with_records lasts
            (event.Asked id Start)) (start_ordered lasts id past may.entry (own_entry id may))) fits.goal
        at (Order id Look) is = goes (Order id Look) (event.Asked id Look) refl refl
            (λ lasts. ap (with_records lasts (event.Asked id Look)) (look_ordered lasts id past (time_of past)))
            fits.goal
        at (Order id Term) is = goes (Order id Term) (event.Asked id Term) refl refl
            (λ lasts. ap (with_records lasts (event.Asked id Term)) (term_ordered lasts id past (time_of past)))
            fits.goal
        at (Order id Kill) is = goes (Order id Kill) (event.Asked id Kill) refl refl
            (λ lasts. ap (with_records lasts (event.Asked id Kill)) (kill_ordered lasts id past (time_of past)))
            fits.goal
        at (Hold id) is =
            let may = due_facts goal past (Hold id)
            (first_due (Hold id) (due goal past) (same_id-self id) (λ h. cc) (sym due_now ∙ is)) in
            goes (Hold id) (event.Hold id) refl refl (λ lasts. ap (with_records lasts (event.Hold id))
            (hold_made lasts id past may.run.entry (own_entry id may.run) may.limited)) fits.goal
        at (Settle level) is = goes (Settle level) (event.Settle level) refl refl
            (λ lasts. ap (with_records lasts (event.Settle level)) (settle_records lasts past level)) fits.goal
        at (Power kind) is = goes (Power kind) (event.Power kind) refl refl
            (λ lasts i. record {
              table = table_of past;
              slots = power_called lasts past distinct kind i;
              fields = fields_powered (fields_of past g n) past refl kind i;
            }) fits.goal
        at (Call letter) is = goes (Call letter) (event.Call letter) refl refl
            (λ lasts i. record {
              table = table_of past;
              slots = letter_called lasts past distinct letter i;
              fields = fields_called (fields_of past g n) past refl letter i;
            }) fits.goal
        at Reread is = still c goal past fits
        at Reexec is = still c goal past fits
        at Idle is = still c goal past fits
