-- The effect of each call: its core fits the trace with it, and the call is permitted where it is made, if its answer
-- was possible.
use Rattle.supervisor.proofs.EdgeWords.{arith, ◌≡◌, refl, sym, ◌∙◌, ap, subst, ℕ, ◌+◌, true, false, cond, List, [], ◌∷◌}
use Rattle.supervisor.proofs.EdgeWords.{Option, Some, Ok, Result, and_from, Entry, Answer, OrderKind, same_id-self}
use Rattle.supervisor.proofs.EdgeWords.{NamedText, texts_of, are_readable, table_of_texts, entry_of, Goal, Step, Event}
use Rattle.supervisor.proofs.EdgeWords.{due}
use Rattle.supervisor.proofs.EdgeWords.{first, same_step, is_sound, same_step-self, CoreState, Fits}
use Rattle.supervisor.proofs.EdgeWords.{FitsWithLastStatuses}
use Rattle.supervisor.proofs.EdgeWords.{FitsExtendedTrace}
use Rattle.supervisor.proofs.EdgeWords.{ForAllFittedTraces, with_step, state_of, fit_table, all_on, V2, LogState, Start}
use Rattle.supervisor.proofs.EdgeWords.{Late}
use Rattle.supervisor.proofs.EdgeWords.{Clock, ReadTables, Announce, Reply, PartsRead, TextRead, Point, replied}
use Rattle.supervisor.proofs.EdgeWords.{ordered}
use Rattle.supervisor.proofs.EdgeWords.{come, is_last, nudged_if, clocked, reading, before_reading, before_handing}
use Rattle.supervisor.proofs.EdgeWords.{is_command, is_first, is_outcome, carrying, point_after, has_trace, AreTexts}
use Rattle.supervisor.proofs.EdgeWords.{IsStateText, is_allowed, comes_back, are_carried, gone_on, Logs}
use Rattle.supervisor.proofs.EdgeWords.{TookFirstDueStep}
use Rattle.supervisor.proofs.EdgeWords.{Counted}
use Rattle.supervisor.proofs.EdgeWords.{KeepsSecondsAndGeneration, Tracks, CallsLead, Heard, Hears}
use Rattle.init_words.specs.declared.orders.OrderKind.TheVariants as ask
use Rattle.init_words.specs.Entries.{command_of}
use Rattle.inittab_text.proofs.Distinct.{distinct_texts}
use Rattle.trace_events.specs.declared.happenings.Handed.{Handed as HandOver}
use Rattle.trace_events.specs.declared.happenings.Handed.TheVariants as handed
use Rattle.trace_events.specs.declared.happenings.Happening.TheVariants as past
use Rattle.trace_events.specs.declared.steps.Step.TheVariants as step
use Rattle.trace_events.specs.Wishes.{wants_reexec}
use Rattle.child_table.specs.Lists as lists
use Rattle.core_model.specs.Rules.{IsFit}
use Rattle.core_model.proofs.Decided.{reexec_wished}
use Rattle.core_model.proofs.Deciding.{decide_due}
use Rattle.core_text.specs.Range as range
use Rattle.core_text.specs.Refused.{IsTextIn, IsTextOf}
use Rattle.host_calls.specs.declared.calls.HostFault.{HostFault}
use Rattle.supervisor.proofs.Leading.{nudged_allowed, went_well, CallsLead-heard, Hears-then}
use Rattle.supervisor.proofs.Seconds.{logged}
use Rattle.supervisor.proofs.Acting.{sound_met, Hears-step, table_sound, tracks, tracks_at}

-- the step that init gave is the first due one
pub first_is : (goal : Goal) (so_far : List Event) (s : Step) → first (due goal so_far) ≡ s
    → is_first goal s so_far ≡ true
first_is goal so_far s is = ap (same_step s) is ∙ same_step-self s

-- Orders.

replied_allowed : (goal : Goal) (id : List ℕ) (reply : Reply) (so_far : List Event)
    → is_allowed goal (replied id reply so_far) ≡ true → is_allowed goal so_far ≡ true
replied_allowed goal id reply so_far h = grind arith

-- init gave an order and received the reply
pub Hears-order : (c new : CoreState) (l₀ l₁ l₂ : LogState) (id : List ℕ) (order : OrderKind) (reply : Reply)
    → ((so_far : List Event) → Logs l₀ l₁ so_far (past.Asked id order ∷ so_far)) → Hears (Tracks c) (Tracks new) l₁ l₂
    (replied id reply)
    → Hears (TookFirstDueStep (Tracks c) (step.Order id order)) (Tracks new) l₀ l₂ (ordered id order reply)
Hears-order c new l₀ l₁ l₂ id order reply took heard =
    Hears-then (TookFirstDueStep (Tracks c) (step.Order id order)) (Tracks c)
    (Tracks new) l₀ l₁ l₂ (with_step (step.Order id order)) (replied id reply) (λ goal so_far h.
    replied_allowed goal id reply so_far h) (Hears-step (Tracks c) l₀ l₁ (step.Order id order) took) heard

-- the command of the id's entry in the core's table is that of the entry in force
pub command_placed : (goal : Goal) (so_far : List Event) (c : CoreState) (id command : List ℕ) (e : Entry)
    → Fits c goal (with_step (step.Order id ask.Start) so_far) → entry_of id c.table ≡ Some e → command ≡ command_of e
    → is_command id command so_far ≡ true
command_placed goal so_far c id command e fits own is = grind (arith, fit_table, same_id-self)

pub CallsLead-start : (c new : CoreState) (l₀ l₁ : LogState) (id command : List ℕ) (reply : Reply) (e : Entry)
    → entry_of id c.table ≡ Some e → command ≡ command_of e
    → Hears (TookFirstDueStep (Tracks c) (step.Order id ask.Start)) (Tracks new) l₀ l₁ (ordered id ask.Start reply)
    → CallsLead (TookFirstDueStep (Tracks c) (step.Order id ask.Start)) (Tracks new) l₀ l₁ (Start id command reply ∷ [])
CallsLead-start c new l₀ l₁ id command reply e own is hears =
    CallsLead-heard (TookFirstDueStep (Tracks c) (step.Order id ask.Start))
    (Tracks new) l₀ l₁ (Start id command reply) (ordered id ask.Start reply) hears (λ p. refl) (λ goal p sound gave.
    and_from (is_first goal (step.Order id ask.Start) p.past) (is_command id command p.past) (first_is goal p.past
    (step.Order id ask.Start) gave.0) (command_placed goal p.past c id command e gave.1.fits.0 own is)) (λ goal p. tt)

-- The beginning of a turn.

-- the clock was read, and no late answers were asked for since
pub CallsLead-clock : (c new : CoreState) (l₀ l₁ : LogState) (time : Result ℕ HostFault)
    → Hears (Tracks c) (Tracks new) l₀
    l₁ (clocked time) → CallsLead (Tracks c) (λ goal p. Tracks new goal p × Counted 0 goal p) l₀ l₁ (Clock time ∷ [])
CallsLead-clock c new l₀ l₁ time hears goal p sound fits allowed = (
  tt,
  λ carried.
      let heard : Heard (Tracks new) l₀ l₁ goal p (gone_on (clocked time) p) = hears goal p sound fits allowed in
      record {
        well = went_well goal p (Clock time ∷ []) refl heard.sound;
        fits = (
          tracks_at new goal (gone_on (clocked time) p)
              (record p { lates = 0; past = clocked time p.past }) refl refl heard.fits,
          refl,
        );
        log = logged goal (Clock time ∷ []) p l₀ l₁ heard.sound heard.log;
      },
)

-- a late answer was asked for; after the last one the round begins
pub CallsLead-late : (c new : CoreState) (l₀ l₁ : LogState) (late : Option (List ℕ × Answer)) (count : ℕ)
    → Hears (Tracks c)
    (Tracks new) l₀ l₁ (λ so_far. nudged_if (is_last late count) (come late so_far))
    → CallsLead (λ goal p. Tracks c goal p
    × Counted count goal p) (λ goal p. Tracks new goal p × Counted (count + 1) goal p) l₀ l₁ (Late late ∷ [])
CallsLead-late c new l₀ l₁ late count hears goal p sound fits allowed = (
  tt,
  λ carried.
      let comes : nudged_if (is_last late p.lates) (come late p.past) ≡ nudged_if (is_last late count)
      (come late p.past) = ap (λ n. nudged_if (is_last late n) (come late p.past)) fits.1 in
      let heard : Heard (Tracks new) l₀ l₁ goal p (gone_on (λ so_far. nudged_if (is_last late count) (come late so_far))
      p) = hears goal p sound fits.0 (ap (is_allowed goal) (sym comes) ∙ allowed) in
      let more : is_sound goal (nudged_if (is_last late p.lates) (come late p.past)) ≡ true =
      ap (is_sound goal) comes ∙ heard.sound in
      record {
        well = went_well goal p (Late late ∷ []) refl more;
        fits = (
          tracks_at new goal (gone_on (λ so_far. nudged_if (is_last late count) (come late so_far)) p)
              (point_after (Late late ∷ []) p) (sym comes) refl heard.fits,
          ap (λ n. n + 1) fits.1,
        );
        log = logged goal (Late late ∷ []) p l₀ l₁ more (subst (Logs l₀ l₁ p.past) (sym comes) heard.log);
      },
)

-- it was not the last one; or it was, and the round began
pub Hears-more : (f₀ f₁ : Goal → Point → Type 0) (l₀ l₁ : LogState) (late : Option (List ℕ × Answer)) (count : ℕ)
    → is_last late count ≡ false → Hears f₀ f₁ l₀ l₁ (come late)
    → Hears f₀ f₁ l₀ l₁ (λ so_far. nudged_if (is_last late count) (come late so_far))
Hears-more f₀ f₁ l₀ l₁ late count more hears =
    subst (λ b. Hears f₀ f₁ l₀ l₁ (λ so_far. nudged_if b (come late so_far))) (sym more) hears

pub Hears-last : (f₀ f₁ f₂ : Goal → Point → Type 0) (l₀ l₁ l₂ : LogState) (late : Option (List ℕ × Answer)) (count : ℕ)
    → is_last late count ≡ true → Hears f₀ f₁ l₀ l₁ (come late) → Hears f₁ f₂ l₁ l₂ (λ so_far. past.Nudge ∷ so_far)
    → Hears f₀ f₂ l₀ l₂ (λ so_far. nudged_if (is_last late count) (come late so_far))
Hears-last f₀ f₁ f₂ l₀ l₁ l₂ late count last hears round =
    subst (λ b. Hears f₀ f₂ l₀ l₂ (λ so_far. nudged_if b (come late so_far))) (sym last) (Hears-then f₀ f₁ f₂ l₀ l₁ l₂
    (come late) (λ so_far. past.Nudge ∷ so_far) (λ goal so_far h. nudged_allowed goal true so_far h) hears round)

-- Reading inittab again.

-- the table that was read is in force
pub CallsLead-used : (c new : CoreState) (l₀ l₁ : LogState) (parts : List NamedText)
    → are_readable (texts_of parts) ≡ true → lists.is_quiet c.slots ≡ true → ForAllFittedTraces c
    (λ goal so_far. FitsExtendedTrace c new goal so_far (past.NewTable (table_of_texts (texts_of parts)) ∷ so_far))
    → KeepsSecondsAndGeneration c
    new → ((so_far : List Event) → Logs l₀ l₁ so_far (past.NewTable (table_of_texts (texts_of parts)) ∷ so_far))
    → CallsLead (TookFirstDueStep (Tracks c) step.Reread) (Tracks new) l₀ l₁ (ReadTables (Ok parts) ∷ [])
CallsLead-used c new l₀ l₁ parts readable quiet fits lasts took =
    CallsLead-heard (TookFirstDueStep (Tracks c) step.Reread) (Tracks new) l₀ l₁ (ReadTables (Ok parts)) used heard
    (λ p. ap
    (λ b. record p { past = cond b (past.NewTable (table_of_texts (texts_of parts))) past.NotRead ∷ p.past }) readable)
    (λ goal p sound gave. first_is goal p.past step.Reread gave.0) (λ goal p. tt)
  where
    used : List Event → List Event
    used so_far = past.NewTable (table_of_texts (texts_of parts)) ∷ so_far

    heard : Hears (TookFirstDueStep (Tracks c) step.Reread) (Tracks new) l₀ l₁ used
    heard goal p sound gave allowed = record {
      sound = table_sound goal p.past c (table_of_texts (texts_of parts)) sound gave.1.fits.0 quiet
          (distinct_texts (texts_of parts));
      fits = tracks c new goal p (gone_on used p) lasts refl gave.1
          (all_on c new goal p.past (used p.past) (fits goal p.past sound gave.1.fits.0) gave.1.fits);
      log = took p.past;
    }

-- inittab could not be read, or its table could not be taken
reading_goes : (parts : PartsRead) (so_far : List Event) → before_reading (reading parts ∷ so_far) ≡ so_far
reading_goes parts so_far = grind arith

pub CallsLead-not_read : (c new : CoreState) (l₀ l₁ : LogState) (parts : PartsRead)
    → ForAllFittedTraces c (λ goal so_far. FitsExtendedTrace c new goal so_far (past.NotRead ∷ so_far))
    → KeepsSecondsAndGeneration c new → ((so_far : List Event) → Logs l₀ l₁ so_far (past.NotRead ∷ so_far))
    → CallsLead (TookFirstDueStep (Tracks c) step.Reread) (Tracks new) l₀ l₁
    (Announce past.NotRead ∷ ReadTables parts ∷ [])
CallsLead-not_read c new l₀ l₁ parts fits lasts took goal p sound gave allowed = (
  tt,
  λ carried.
      let goes : past.NotRead ∷ before_reading (reading parts ∷ p.past) ≡ past.NotRead ∷ p.past =
      ap (λ (so_far : List Event). past.NotRead ∷ so_far) (reading_goes parts p.past) in
      let more : is_sound goal (past.NotRead ∷ p.past) ≡ true =
      sound_met goal past.NotRead p.past refl (ap (is_allowed goal) (sym goes) ∙ allowed) sound in
      record {
        well = went_well goal p (Announce past.NotRead ∷ ReadTables parts ∷ []) (and_from (is_first goal step.Reread
            p.past) true (first_is goal p.past step.Reread gave.0) refl) (ap (is_sound goal) goes ∙ more);
        fits = tracks c new goal p (point_after (Announce past.NotRead ∷ ReadTables parts ∷ []) p) lasts refl gave.1
            (subst (FitsWithLastStatuses new goal) (sym goes)
            (all_on c new goal p.past (past.NotRead ∷ p.past) (fits goal p.past sound gave.1.fits.0) gave.1.fits));
        log = logged goal (Announce past.NotRead ∷ ReadTables parts ∷ []) p l₀ l₁ (ap (is_sound goal) goes ∙ more)
            (subst (Logs l₀ l₁ p.past) (sym goes) (took p.past));
      },
)

-- Re-execution.

-- when a re-execution is due, the newest happening is not a hand-over
none_handed : (goal : Goal) (so_far : List Event) (c : CoreState) → is_sound goal so_far ≡ true
    → first (due goal so_far) ≡ step.Reexec → Fits c goal so_far → before_handing so_far ≡ so_far
none_handed goal so_far c sound is fits = by so_far (sym (ap (λ (x : CoreState). x.fields.reexec) fits.kept)
    ∙ reexec_wished c (decide_due goal so_far sound c fits ∙ is))
  where
    by : (trace : List Event) → wants_reexec trace ≡ true → before_handing trace ≡ trace
    by trace h = grind arith

-- no text was made, and this is announced
pub CallsLead-not_handed : (c new : CoreState) (l₀ l₁ : LogState)
    → ForAllFittedTraces c (λ goal so_far. FitsExtendedTrace c new goal so_far (past.Handed handed.Failed ∷ so_far))
    → KeepsSecondsAndGeneration c new → ((so_far : List Event) → Logs l₀ l₁ so_far (past.Handed handed.Failed ∷ so_far))
    → CallsLead (TookFirstDueStep (Tracks c) step.Reexec) (Tracks new) l₀ l₁ (Announce (past.Handed handed.Failed) ∷ [])
CallsLead-not_handed c new l₀ l₁ fits lasts took goal p sound gave allowed = (
  tt,
  λ carried.
      let goes : past.Handed handed.Failed ∷ before_handing p.past ≡ past.Handed handed.Failed ∷ p.past =
      ap (λ (so_far : List Event). past.Handed handed.Failed ∷ so_far)
      (none_handed goal p.past c sound gave.0 gave.1.fits.0) in
      let more : is_sound goal (past.Handed handed.Failed ∷ p.past) ≡ true =
      sound_met goal (past.Handed handed.Failed) p.past refl (ap (is_allowed goal) (sym goes) ∙ allowed) sound in
      record {
        well = went_well goal p (Announce (past.Handed handed.Failed) ∷ []) (and_from (is_first goal step.Reexec p.past)
            true (first_is goal p.past step.Reexec gave.0) refl) (ap (is_sound goal) goes ∙ more);
        fits = tracks c new goal p (point_after (Announce (past.Handed handed.Failed) ∷ []) p) lasts refl gave.1
            (subst (FitsWithLastStatuses new goal) (sym goes)
            (all_on c new goal p.past (past.Handed handed.Failed ∷ p.past)
            (fits goal p.past sound gave.1.fits.0) gave.1.fits));
        log = logged goal (Announce (past.Handed handed.Failed) ∷ []) p l₀ l₁ (ap (is_sound goal) goes ∙ more)
            (subst (Logs l₀ l₁ p.past) (sym goes) (took p.past));
      },
)

carrying_goes : (how : HandOver) (text : List ℕ) (back : TextRead) (p : Point) → before_handing p.past ≡ p.past
    → is_outcome how text back ≡ true → (point_after (carrying how text back) p).past ≡ past.Handed how ∷ p.past
carrying_goes how text back p none outcome = grind arith

carrying_placed : (how : HandOver) (text : List ℕ) (back : TextRead) (goal : Goal) (p : Point) → is_first goal
    step.Reexec p.past ≡ true → is_outcome how text back ≡ true → has_trace goal (carrying how text back) p ≡ true
carrying_placed how text back goal p due outcome = grind arith

carrying_generation : (how : HandOver) (text : List ℕ) (back : TextRead) (p : Point)
    → (point_after (carrying how text back) p).generation ≡ p.generation + 1
carrying_generation how text back p = grind arith

carrying_text : (how : HandOver) (text : List ℕ) (back : TextRead) (goal : Goal) (p : Point)
    → IsStateText goal p.past (p.generation + 1) text → AreTexts goal (carrying how text back) p
carrying_text handed.Whole text back goal p says = ((λ carried. says), tt)
carrying_text (handed.Cut bytes) text back goal p says = ((λ carried. says), tt)
carrying_text (handed.Older generation) text back goal p says = ((λ carried. says), tt)
carrying_text handed.Failed text back goal p says = ((λ carried. says), tt)

came_back : (how : HandOver) (text : List ℕ) (back : TextRead) (p : Point)
    → are_carried (carrying how text back) p ≡ true → comes_back (p.generation + 1) text back ≡ true
came_back how text back p carried = grind arith

-- init's state was handed on, and the text is that of the next core
pub record HandedOn (c next : CoreState) (text : List ℕ) : Type 0 where
  pub fits : ForAllFittedTraces c
      (λ goal so_far. (h : HandOver) → FitsExtendedTrace c next goal so_far (past.Handed h ∷ so_far))
  pub own : next.fields.generation ≡ c.fields.generation + 1
  pub short : range.has_short_seconds next ≡ range.has_short_seconds c
  pub says : range.has_short_seconds c ≡ true → IsTextIn V2 text (state_of next) × IsFit next

-- a text was made and carried, and taken over or rejected; init continues with the next core
pub CallsLead-carried : (c next new : CoreState) (l₀ l₁ : LogState) (how : HandOver) (text : List ℕ) (back : TextRead)
    → HandedOn c next text → (IsFit next → IsTextOf text (state_of next) → comes_back next.fields.generation text back
    ≡ true → (new ≡ next) × (is_outcome how text back ≡ true)) → ((so_far : List Event) → Logs l₀ l₁ so_far
    (past.Handed how ∷ so_far))
    → CallsLead (TookFirstDueStep (Tracks c) step.Reexec) (Tracks new) l₀ l₁ (carrying how text back)
CallsLead-carried c next new l₀ l₁ how text back handed comes took goal p sound gave allowed =
    let said = handed.says gave.1.short in
    let own : next.fields.generation ≡ p.generation + 1 = handed.own ∙ ap (λ n. n + 1) gave.1.own in
    let fits : (h : HandOver) → FitsWithLastStatuses next goal (past.Handed h ∷ p.past) = λ h. all_on c next goal p.past
    (past.Handed h ∷ p.past) (handed.fits goal p.past sound gave.1.fits.0 h) gave.1.fits in (
      carrying_text how text back goal p (record { core = next; fits = fits; fit = said.1; own = own; says = said.0 }),
      λ carried.
          let (same, outcome) =
          comes said.1 (V2, said.0) (ap (λ n. comes_back n text back) own ∙ came_back how text back p carried) in
          let goes : (point_after (carrying how text back) p).past ≡ past.Handed how ∷ p.past =
          carrying_goes how text back p (none_handed goal p.past c sound gave.0 gave.1.fits.0) outcome in
          let more : is_sound goal (past.Handed how ∷ p.past) ≡ true =
          sound_met goal (past.Handed how) p.past refl (ap (is_allowed goal) (sym goes) ∙ allowed) sound in
          record {
            well = went_well goal p (carrying how text back) (carrying_placed how text back goal p
                (first_is goal p.past step.Reexec gave.0) outcome) (ap (is_sound goal) goes ∙ more);
            fits = subst (λ s. Tracks s goal (point_after (carrying how text back) p)) (sym same) (record {
              fits = subst (FitsWithLastStatuses next goal) (sym goes) (fits how);
              short = handed.short ∙ gave.1.short;
              own = own ∙ sym (carrying_generation how text back p);
            });
            log = logged goal (carrying how text back) p l₀ l₁ (ap (is_sound goal) goes ∙ more)
                (subst (Logs l₀ l₁ p.past) (sym goes) (took p.past));
          },
    )
