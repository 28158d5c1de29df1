-- The core fits the trace with the result of each call, if the call's answer was possible.
use Rattle.supervisor.proofs.EdgeWords.{arith, ◌≡◌, refl, sym, ◌∙◌, ap, subst, ℕ, Bool, true, false, ◌||◌, cond, List}
use Rattle.supervisor.proofs.EdgeWords.{◌∷◌}
use Rattle.supervisor.proofs.EdgeWords.{Option, Some, Result, Ok, Err, option_map_or, OnOk, OnErr, and_from, Entry}
use Rattle.supervisor.proofs.EdgeWords.{Answer}
use Rattle.supervisor.proofs.EdgeWords.{OrderKind, answers, same_id-self, is_distinct, Goal, Step, Event, open_of}
use Rattle.supervisor.proofs.EdgeWords.{is_quiet}
use Rattle.supervisor.proofs.EdgeWords.{due, first, is_sound, may_come, open_in_records, first_due, CoreState, Fits}
use Rattle.supervisor.proofs.EdgeWords.{FitsWithLastStatuses, FitsExtendedTrace, ForAllFittedTraces, with_step, is_act}
use Rattle.supervisor.proofs.EdgeWords.{found_record, no_record}
use Rattle.supervisor.proofs.EdgeWords.{fit_records, all_on, quiet_same, LogState, Point, last_birth, acted}
use Rattle.supervisor.proofs.EdgeWords.{is_asked_for}
use Rattle.supervisor.proofs.EdgeWords.{answered, is_own, is_allowed, gone_on, Logs, TookFirstDueStep, Hears}
use Rattle.supervisor.proofs.EdgeWords.{KeepsSecondsAndGeneration, Tracks}
use Rattle.init_words.specs.declared.orders.Answer.TheVariants as answer
use Rattle.init_words.specs.declared.refusals.Refusal.{Refusal}
use Rattle.init_words.specs.declared.refusals.Refusal.TheVariants.{WrongAnswer}
use Rattle.trace_events.specs.declared.happenings.Happening.TheVariants as past
use Rattle.trace_events.specs.Answered.{answered_of}
use Rattle.child_table.specs.Lists as lists
use Rattle.core_model.specs.Steps.{after_answer_to}
use Rattle.core_model.proofs.Hearing.{fits_act, fits_told}
use Rattle.supervisor.proofs.Leading.{allowed_rest, allowed_first}

-- a sound trace stays sound with a happening that may come
pub sound_more : (goal : Goal) (happening : Event) (so_far : List Event) → may_come goal happening so_far ≡ true
    → is_sound goal so_far ≡ true → is_sound goal (happening ∷ so_far) ≡ true
sound_more goal happening so_far may sound = grind arith

-- a happening that is not init's own and was possible may come
may_met : (goal : Goal) (happening : Event) (so_far : List Event) → is_own happening ≡ false
    → is_allowed goal (happening ∷ so_far) ≡ true → may_come goal happening so_far ≡ true
may_met goal happening so_far other allowed =
    ap (λ b. b || may_come goal happening so_far) (sym other) ∙ allowed_first goal happening so_far allowed

pub sound_met : (goal : Goal) (happening : Event) (so_far : List Event) → is_own happening ≡ false → is_allowed goal
    (happening ∷ so_far) ≡ true → is_sound goal so_far ≡ true → is_sound goal (happening ∷ so_far) ≡ true
sound_met goal happening so_far other allowed sound =
    sound_more goal happening so_far (may_met goal happening so_far other allowed) sound

-- the effect of what needs no call, for a condition on the trace only
pub record HeardBy (fit : Goal → List Event → Type 0) (old new : LogState) (goal : Goal)
    (past now : List Event) : Type 0 where
  pub sound : is_sound goal now ≡ true
  pub fits : fit goal now
  pub log : Logs old new past now

abbrev pub HearsBy : (Goal → List Event → Type 0) → (Goal → List Event → Type 0) → LogState → LogState
    → (List Event → List Event) → Type 0
HearsBy fitted fit old new more = (goal : Goal) (past : List Event) → is_sound goal past ≡ true → fitted goal past
    → is_allowed goal (more past) ≡ true → HeardBy fit old new goal past (more past)

-- a happening that is not init's own: an act, a reading of the clock, a request, a round, or `notread`
pub Hears-edge : (fitted fit : Goal → List Event → Type 0) (old new : LogState) (happening : Event)
    → is_own happening ≡ false → ((goal : Goal) (so_far : List Event) → is_sound goal so_far ≡ true → fitted goal so_far
    → is_sound goal (happening ∷ so_far) ≡ true → fit goal (happening ∷ so_far)) → ((so_far : List Event)
    → Logs old new so_far (happening ∷ so_far)) → HearsBy fitted fit old new (λ so_far. happening ∷ so_far)
Hears-edge fitted fit old new happening other fits took goal so_far sound before allowed =
    let more : is_sound goal (happening ∷ so_far) ≡ true = sound_met goal happening so_far other allowed sound in
    record { sound = more; fits = fits goal so_far sound before more; log = took so_far }

-- the same, if the contract of the core says that it fits
pub Hears-told : (c new : CoreState) (l₀ l₁ : LogState) (happening : Event) → is_own happening ≡ false
    → ForAllFittedTraces c (λ goal so_far. FitsExtendedTrace c new goal so_far (happening ∷ so_far))
    → ((so_far : List Event)
    → Logs l₀ l₁ so_far (happening ∷ so_far))
    → HearsBy (FitsWithLastStatuses c) (FitsWithLastStatuses new) l₀ l₁ (λ so_far. happening ∷ so_far)
Hears-told c new l₀ l₁ happening other fits took =
    Hears-edge (FitsWithLastStatuses c) (FitsWithLastStatuses new) l₀ l₁ happening other
    (λ goal so_far sound before more. all_on c new goal so_far (happening ∷ so_far)
    (fits goal so_far sound before.0) before) took

-- a core that tracks a record tracks another one with the same trace and generation
pub tracks_at : (c : CoreState) (goal : Goal) (p q : Point) → p.past ≡ q.past → p.generation ≡ q.generation
    → Tracks c goal p → Tracks c goal q
tracks_at c goal p q past same tracked =
    record {
      fits = subst (FitsWithLastStatuses c goal) past tracked.fits;
      short = tracked.short;
      own = tracked.own ∙ same;
    }

-- a changed core tracks the record if it fits the trace
pub tracks : (c new : CoreState) (goal : Goal) (p q : Point) → KeepsSecondsAndGeneration c new
    → p.generation ≡ q.generation → Tracks c goal p → FitsWithLastStatuses new goal q.past → Tracks new goal q
tracks c new goal p q lasts same tracked fits =
    record { fits = fits; short = lasts.short tracked.short; own = lasts.same ∙ tracked.own ∙ same }

-- a change that preserves the seconds and the generation, and fits the trace, tracks the record
pub Hears-tracks : (c new : CoreState) (l₀ l₁ : LogState) (more : List Event → List Event)
    → KeepsSecondsAndGeneration c new
    → HearsBy (FitsWithLastStatuses c) (FitsWithLastStatuses new) l₀ l₁ more → Hears (Tracks c) (Tracks new) l₀ l₁ more
Hears-tracks c new l₀ l₁ more lasts hears goal p sound tracked allowed =
    let heard : HeardBy (FitsWithLastStatuses new) l₀ l₁ goal p.past (more p.past) =
    hears goal p.past sound tracked.fits allowed in
    record {
      sound = heard.sound;
      fits = tracks c new goal p (gone_on more p) lasts refl tracked heard.fits;
      log = heard.log;
    }

-- a step that init gave was due, so the trace with its happening is sound
pub step_sound : (goal : Goal) (so_far : List Event) (made : Step) → first (due goal so_far) ≡ made
    → is_sound goal so_far ≡ true → is_sound goal (with_step made so_far) ≡ true
step_sound goal so_far made is sound = grind (arith, sound_more, first_due)

pub Hears-step : (fit : Goal → Point → Type 0) (l₀ l₁ : LogState) (made : Step) → ((so_far : List Event)
    → Logs l₀ l₁ so_far (with_step made so_far)) → Hears (TookFirstDueStep fit made) fit l₀ l₁ (with_step made)
Hears-step fit l₀ l₁ made took goal p sound gave allowed =
    record { sound = step_sound goal p.past made gave.0 sound; fits = gave.1; log = took p.past }

-- Answers.

-- the core has the same order for an id as the trace
order_same : (goal : Goal) (so_far : List Event) (c : CoreState) → is_sound goal so_far ≡ true → Fits c goal so_far
    → (id : List ℕ) → lists.order_in id c.slots ≡ open_of id so_far
order_same goal so_far c sound fits id = grind (arith, fit_records, found_record, no_record, open_in_records)

-- the core takes exactly the answers that were asked for
abbrev taken : Result (Unit {0}) Refusal
taken = Ok tt

abbrev verdict : Bool → Result (Unit {0}) Refusal
verdict b = cond b taken (Err WrongAnswer)

taken_asked : (o : Option OrderKind) (given : Answer) → taken ≡ lists.refusal_of o given
    → option_map_or (answers given) o false ≡ true
taken_asked o given h = grind arith

refused_unasked : (o : Option OrderKind) (given : Answer) (why : Refusal) → Err why ≡ lists.refusal_of o given
    → option_map_or (answers given) o false ≡ false
refused_unasked o given why h = grind arith

-- after the act of an answer the trace is sound, the core fits it, and the answer is under way
record Acted (goal : Goal) (c : CoreState) (id : List ℕ) (given : Answer) (now : List Event) : Type 0 where
  sound : is_sound goal now ≡ true
  fits : FitsWithLastStatuses c goal now
  under_way : answered_of id now ≡ Some given

acts_all : (goal : Goal) (so_far : List Event) (c : CoreState) → is_sound goal so_far ≡ true
    → FitsWithLastStatuses c goal so_far
    → (happening : Event) → is_act happening ≡ true → is_sound goal (happening ∷ so_far) ≡ true
    → FitsWithLastStatuses c goal (happening ∷ so_far)
acts_all goal so_far c sound fits happening act more =
    all_on c c goal so_far (happening ∷ so_far) (fits_act goal so_far c sound fits.0 happening act more) fits

acted_by : (goal : Goal) (c : CoreState) (so_far : List Event) → is_sound goal so_far ≡ true
    → FitsWithLastStatuses c goal so_far
    → (id : List ℕ) (given : Answer) → is_allowed goal (acted id given so_far) ≡ true
    → Acted goal c id given (acted id given so_far)
acted_by goal c so_far sound fits id (answer.Born n) allowed =
    let more = sound_met goal (past.Birth id n) so_far refl allowed sound in
    record {
      sound = more;
      fits = acts_all goal so_far c sound fits (past.Birth id n) refl more;
      under_way = rw (same_id-self id) refl;
    }
acted_by goal c so_far sound fits id answer.NotBorn allowed =
    let more = sound_met goal (past.NoBirth id) so_far refl allowed sound in
    record {
      sound = more;
      fits = acts_all goal so_far c sound fits (past.NoBirth id) refl more;
      under_way = rw (same_id-self id) refl;
    }
acted_by goal c so_far sound fits id (answer.Ended status) allowed =
    let n = last_birth id so_far in
    let dead = sound_met goal (past.Death n) so_far refl
    (allowed_rest goal (past.Reaped id n status) (past.Death n ∷ so_far) allowed) sound in
    let fits_dead = acts_all goal so_far c sound fits (past.Death n) refl dead in
    let more = sound_met goal (past.Reaped id n status) (past.Death n ∷ so_far) refl allowed dead in
    record {
      sound = more;
      fits = acts_all goal (past.Death n ∷ so_far) c dead fits_dead (past.Reaped id n status) refl more;
      under_way = rw (same_id-self id) refl;
    }
acted_by goal c so_far sound fits id answer.Alive allowed =
    let more = sound_met goal (past.Still id) so_far refl allowed sound in
    record {
      sound = more;
      fits = acts_all goal so_far c sound fits (past.Still id) refl more;
      under_way = rw (same_id-self id) refl;
    }
acted_by goal c so_far sound fits id answer.NoLook allowed =
    let more = sound_met goal (past.NoLook id) so_far refl allowed sound in
    record {
      sound = more;
      fits = acts_all goal so_far c sound fits (past.NoLook id) refl more;
      under_way = rw (same_id-self id) refl;
    }
acted_by goal c so_far sound fits id answer.Hit allowed =
    let more = sound_met goal (past.Hit id) so_far refl allowed sound in
    record {
      sound = more;
      fits = acts_all goal so_far c sound fits (past.Hit id) refl more;
      under_way = rw (same_id-self id) refl;
    }
acted_by goal c so_far sound fits id answer.Miss allowed =
    let more = sound_met goal (past.Miss id) so_far refl allowed sound in
    record {
      sound = more;
      fits = acts_all goal so_far c sound fits (past.Miss id) refl more;
      under_way = rw (same_id-self id) refl;
    }

-- An answer that the core takes adds its act and `told` to the trace; one that it refuses adds nothing.
pub Hears-answer : (c new : CoreState) (l₀ l₁ : LogState) (id : List ℕ) (given : Answer)
    (result : Result (Unit {0}) Refusal) → result ≡ lists.refusal_of (lists.order_in id c.slots) given
    → OnOk result (new ≡ after_answer_to id given c) → OnErr result (new ≡ c) → OnOk result
    ((goal : Goal) (so_far : List Event) → is_sound goal so_far ≡ true → FitsWithLastStatuses c goal so_far
    → is_allowed goal
    (acted id given so_far) ≡ true → Logs l₀ l₁ so_far (past.Told id ∷ acted id given so_far)) → OnErr result
    ((so_far : List Event) → Logs l₀ l₁ so_far so_far)
    → HearsBy (FitsWithLastStatuses c) (FitsWithLastStatuses new) l₀ l₁ (answered id given)
Hears-answer c new l₀ l₁ id given (Ok tt) is told same took left goal so_far sound fits allowed =
    by (is_asked_for id given so_far) refl (taken_asked (open_of id so_far) given
    (is ∙ ap (λ o. lists.refusal_of o given) (order_same goal so_far c sound fits.0 id)))
  where
    by : (b : Bool) → is_asked_for id given so_far ≡ b → b ≡ true
        → HeardBy (FitsWithLastStatuses new) l₀ l₁ goal so_far (answered id given so_far)
    by b is so =
        let asked : answered id given so_far ≡ past.Told id ∷ acted id given so_far =
        ap (λ b. cond b (past.Told id ∷ acted id given so_far) so_far) (is ∙ so) in
        let possible : is_allowed goal (past.Told id ∷ acted id given so_far) ≡ true =
        ap (is_allowed goal) (sym asked) ∙ allowed in
        let was : is_allowed goal (acted id given so_far) ≡ true =
        allowed_rest goal (past.Told id) (acted id given so_far) possible in
        let done : Acted goal c id given (acted id given so_far) = acted_by goal c so_far sound fits id given was in
        subst (HeardBy (FitsWithLastStatuses new) l₀ l₁ goal so_far) (sym asked) (record {
          sound = sound_met goal (past.Told id) (acted id given so_far) refl possible done.sound;
          fits = subst (λ s. FitsWithLastStatuses s goal (past.Told id ∷ acted id given so_far)) (sym told)
              (all_on c (after_answer_to id given c) goal (acted id given so_far) (past.Told id ∷ acted id given so_far)
              (fits_told goal (acted id given so_far) c done.sound done.fits.0 id given done.under_way) done.fits);
          log = took goal so_far sound fits was;
        })
Hears-answer c new l₀ l₁ id given (Err why) is told same took left goal so_far sound fits allowed =
    let unasked : is_asked_for id given so_far ≡ false = refused_unasked (open_of id so_far) given why
    (is ∙ ap (λ o. lists.refusal_of o given) (order_same goal so_far c sound fits.0 id)) in
    let nothing : answered id given so_far ≡ so_far =
    ap (λ b. cond b (past.Told id ∷ acted id given so_far) so_far) unasked in
    subst (HeardBy (FitsWithLastStatuses new) l₀ l₁ goal so_far) (sym nothing)
    (record {
      sound = sound;
      fits = subst (λ s. FitsWithLastStatuses s goal so_far) (sym same) fits;
      log = left so_far;
    })

-- A table that was read.

-- the table comes at a quiet point and has no id twice
pub table_sound : (goal : Goal) (so_far : List Event) (c : CoreState) (table : List Entry) → is_sound goal so_far ≡ true
    → Fits c goal so_far → lists.is_quiet c.slots ≡ true → is_distinct table ≡ true
    → is_sound goal (past.NewTable table ∷ so_far) ≡ true
table_sound goal so_far c table sound fits quiet distinct = sound_more goal (past.NewTable table) so_far
    (and_from (is_quiet so_far) (is_distinct table) (quiet_same fits.lasts goal so_far sound
    ∙ ap lists.is_quiet (sym (fit_records c goal so_far fits)) ∙ quiet) distinct) sound
