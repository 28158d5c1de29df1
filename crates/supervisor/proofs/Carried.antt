-- Steps that are only announced, and the effect of steps that were due.
use Rattle.supervisor.proofs.Words.{arith, ◌≡◌, refl, sym, ◌∙◌, ap, subst, ℕ, Bool, true, false, ◌||◌, List, [], ◌∷◌}
use Rattle.supervisor.proofs.Words.{Option, Some, Result, Ok, Err, OnOk, OnErr, is_ok, option_and_then, Answer, Ended}
use Rattle.supervisor.proofs.Words.{false≢true, PartialBlock, Goal, Step, Event, is_sound, child_number, order_in}
use Rattle.supervisor.proofs.Words.{refusal_of}
use Rattle.supervisor.proofs.Words.{record_by_id, CoreState, after_answer_to, Fits, FitsWithLastStatuses}
use Rattle.supervisor.proofs.Words.{FitsExtendedTrace, ForAllFittedTraces}
use Rattle.supervisor.proofs.Words.{with_step, unreaped_recorded, LogState, AddsStamped, EdgeState, AddsStamped-same}
use Rattle.supervisor.proofs.Words.{Made, trace_at, kept_asked, Hears-order, ordered, Announce, HostCall, Point}
use Rattle.supervisor.proofs.Words.{point_after, last_birth, acted, answered, announced, is_announcement}
use Rattle.supervisor.proofs.Words.{TookFirstDueStep, gone_on}
use Rattle.supervisor.proofs.Words.{Hears, KeepsSecondsAndGeneration, CallsLead, Logs, Tracks, is_allowed}
use Rattle.supervisor.proofs.Words.{CallsLead-heard, CallsLead-map, CallsLead-weaken}
use Rattle.supervisor.proofs.Words.{Logs-none, Hears-answer, Hears-step, Hears-tracks, tracks, is_reread}
use Rattle.supervisor.proofs.Words.{FitsAndRestsIf}
use Rattle.supervisor.proofs.Words.{IsReread, IsStep, IsStepUnlessIdle, HoldsAfterTurn, MadeCallsLead, MakesOver}
use Rattle.supervisor.proofs.Words.{AnnouncesStep}
use Rattle.supervisor.proofs.Words.{is_end}
use Rattle.init_words.specs.declared.orders.OrderKind.{OrderKind}
use Rattle.init_words.specs.declared.refusals.Refusal.{Refusal}
use Rattle.trace_events.specs.declared.happenings.Happening.TheVariants as past
use Rattle.trace_events.specs.declared.steps.Step.TheVariants as step
use Rattle.trace_events.specs.Due.{due, first}
use Rattle.core_text.specs.Range as range
use Rattle.core_model.proofs.Fitted.{all_on}
use Rattle.host_calls.specs.declared.calls.Reply.{Reply}
use Rattle.supervisor.specs.CallsLead.{TracksPoint}
use Rattle.supervisor.specs.Point.{replied}
use Rattle.supervisor.proofs.Ending.{HasNumber, end_number}
use Rattle.supervisor.specs.Parts.{is_idle}
use Rattle.supervisor.proofs.Parts.{MadeCallsLead-map, MadeCallsLead-none, MadeCallsLead-one}

announced_said : (happening : Event) (so_far : List Event) → is_announcement happening ≡ true
    → announced happening so_far ≡ happening ∷ so_far
announced_said happening so_far said = grind arith

pub CallsLead-said : (c : CoreState) (l₀ l₁ : LogState) (made : Step) (happening : Event) → AnnouncesStep made happening
    → ((so_far : List Event) → Logs l₀ l₁ so_far (happening ∷ so_far))
    → CallsLead (TookFirstDueStep (Tracks c) made) (Tracks c) l₀ l₁ (Announce happening ∷ [])
CallsLead-said c l₀ l₁ made happening says took =
    CallsLead-heard (TookFirstDueStep (Tracks c) made) (Tracks c) l₀ l₁ (Announce happening)
    (with_step made) (Hears-step (Tracks c) l₀ l₁ made (λ so_far. subst (Logs l₀ l₁ so_far) (sym (says.step so_far))
    (took so_far))) (λ p. ap (λ l. record p { past = l }) (announced_said happening p.past says.said
    ∙ sym (says.step p.past))) (λ goal p sound gave. says.position goal [] p.past gave.0) (λ goal p. tt)

-- ---- answers

-- a core that is equal to one with the same generation and no longer seconds
pub lasts_as : (c new after : CoreState) → new ≡ after → (range.has_short_seconds c ≡ true
    → range.has_short_seconds after ≡ true) → after.fields.generation ≡ c.fields.generation
    → KeepsSecondsAndGeneration c new
lasts_as c new after is short same = record {
  short = λ h. ap range.has_short_seconds is ∙ short h;
  same = ap (λ (s : CoreState). s.fields.generation) is ∙ same;
}

-- the core accepts the answer, and it is logged
pub Hears-taken : (c new : CoreState) (l₀ l₁ : LogState) (id : List ℕ) (given : Answer)
    (result : Result (Unit {0}) Refusal) → is_ok result ≡ true → result ≡ refusal_of (order_in id c.slots) given
    → OnOk result (new ≡ after_answer_to id given c)
    → ((goal : Goal) (so_far : List Event) → is_sound goal so_far ≡ true
    → FitsWithLastStatuses c goal so_far → is_allowed goal (acted id given so_far) ≡ true → Logs l₀ l₁ so_far
    (past.Told id ∷ acted id given so_far)) → Hears (Tracks c) (Tracks new) l₀ l₁ (answered id given)
Hears-taken c new l₀ l₁ id given (Ok tt) ok is told took = Hears-tracks c new l₀ l₁ (answered id given) (lasts_as c new
    (after_answer_to id given c) told (λ short. short) refl)
    (Hears-answer c new l₀ l₁ id given (Ok tt) is told tt took tt)
Hears-taken c new l₀ l₁ id given (Err why) ok is told took = absurd (false≢true ok)

-- the core rejects the answer
pub Hears-refused : (c new : CoreState) (log : LogState) (id : List ℕ) (given : Answer)
    (result : Result (Unit {0}) Refusal) → is_ok result ≡ false → result ≡ refusal_of (order_in id c.slots) given
    → OnErr result (new ≡ c) → Hears (Tracks c) (Tracks new) log log (answered id given)
Hears-refused c new log id given (Ok tt) ok is same = absurd (false≢true (sym ok))
Hears-refused c new log id given (Err why) ok is same =
    Hears-tracks c new log log (answered id given) (lasts_as c new c same (λ short. short) refl)
    (Hears-answer c new log log id given (Err why) is tt same tt (λ so_far. Logs-none log so_far))

-- the core knows the number of the child whose end is answered
pub end_known : (goal : Goal) (so_far : List Event) (c : CoreState) (id : List ℕ) (given : Answer)
    → is_sound goal so_far ≡ true → Fits c goal so_far → is_allowed goal (acted id given so_far) ≡ true
    → is_end given ≡ true → option_and_then child_number (record_by_id id c.slots) ≡ Some (last_birth id so_far)
end_known goal so_far c id (Ended status) sound fits allowed ends =
    let own : HasNumber c id (last_birth id so_far) = end_number goal so_far c id status sound fits allowed in
    ap (option_and_then child_number) own.found ∙ own.number_is
end_known goal so_far c id _ sound fits allowed ends = absurd (false≢true ends)

-- ---- orders

-- init logged the order, gave it to the host, and handled the reply
pub MadeCallsLead-ordered : {H L : Type 0} (state : L → LogState) (old asked made new : EdgeState H L)
    (c behind : CoreState)
    (call : HostCall) (id : List ℕ) (order : OrderKind) (reply : Reply)
    → asked.told ≡ old.told → AddsStamped asked.told made.told call asked.log → made.log ≡ asked.log
    → new.told ≡ made.told → IsStep (call ∷ [])
    → ((so_far : List Event) → trace_at call so_far ≡ past.Asked id order ∷ so_far)
    → ((so_far : List Event) → Logs (state old.log) (state asked.log) so_far (past.Asked id order ∷ so_far))
    → Hears (Tracks c) (Tracks behind) (state made.log) (state new.log) (replied id reply)
    → (Hears (TookFirstDueStep (Tracks c) (step.Order id order)) (Tracks behind) (state old.log) (state new.log)
    (ordered id order
    reply) → CallsLead (TookFirstDueStep (Tracks c) (step.Order id order)) (Tracks behind) (state old.log)
    (state new.log) (call ∷ []))
    → MadeCallsLead state old new IsStep (TookFirstDueStep (Tracks c) (step.Order id order)) (Tracks behind)
MadeCallsLead-ordered state old asked made new c behind call id order reply same adds kept heard_told shape asks notes
    hears
    leads =
    let before : Goal → Point → Type 0 = TookFirstDueStep (Tracks c) (step.Order id order) in
    MadeCallsLead-one state old.told new.told (state old.log) (state new.log) asked.log call IsStep before
    (Tracks behind)
    (AddsStamped-same old.told asked.told made.told new.told call asked.log same heard_told adds) shape
    (leads (Hears-order c behind (state old.log) (state asked.log) (state new.log) id order reply notes
    (subst (λ l. Hears (Tracks c) (Tracks behind) (state l) (state new.log) (replied id reply)) kept hears)))
    (kept_asked before (state old.log) (state asked.log) call id order asks notes)

-- ---- steps

-- the calls of one kind of step are those of a step
MadeCallsLead-kind : {L : Type 0} (state : L → LogState) (strict : Bool) (old new : Option (List (Made L)))
    (l₀ l₁ : LogState)
    (Shape : List HostCall → Type 0) (before behind : Goal → Point → Type 0)
    → ((calls : List HostCall) → Shape calls → IsStepUnlessIdle strict false calls)
    → MakesOver state old new l₀ l₁ Shape
    before behind → MakesOver state old new l₀ l₁ (IsStepUnlessIdle strict false) before behind
MadeCallsLead-kind state strict old new l₀ l₁ Shape before behind kind makes =
    MadeCallsLead-map state old new l₀ l₁ Shape (IsStepUnlessIdle strict false) before behind before behind
    (λ goal p sound fits. fits) makes (λ calls shape leads. (kind calls shape, leads))

pub is_kept : (strict : Bool) (calls : List HostCall) → IsStep calls → IsStepUnlessIdle strict false calls
is_kept strict calls shape = ap (λ b. b || is_reread strict calls) shape

pub is_read : (strict : Bool) (calls : List HostCall) → IsReread strict calls → IsStepUnlessIdle strict false calls
is_read strict calls shape = grind (arith, shape)

-- the step that the core returned may be replaced by an equal one
pub MadeCallsLead-given : {L : Type 0} (state : L → LogState) (old new : Option (List (Made L))) (l₀ l₁ : LogState)
    (c behind : CoreState) (given made : Step) → given ≡ made → MakesOver state old new l₀ l₁ IsStep (TookFirstDueStep
    (Tracks c) made) (Tracks behind)
    → MakesOver state old new l₀ l₁ IsStep (TookFirstDueStep (Tracks c) given) (Tracks behind)
MadeCallsLead-given state old new l₀ l₁ c behind given made is makes =
    subst (λ s. MakesOver state old new l₀ l₁ IsStep (TookFirstDueStep (Tracks c) s) (Tracks behind)) (sym is) makes

pub MadeCallsLead-unless : {L : Type 0} (state : L → LogState) (strict : Bool) (old new : Option (List (Made L)))
    (l₀ l₁ : LogState) (c behind : CoreState) (given made : Step) (Shape : List HostCall → Type 0)
    → ((calls : List HostCall) → Shape calls → IsStepUnlessIdle strict false calls) → given ≡ made
    → is_idle made ≡ false → MakesOver state old new l₀ l₁ Shape (TookFirstDueStep (Tracks c) made) (Tracks behind)
    → MakesOver state old new l₀ l₁ (IsStepUnlessIdle strict (is_idle given)) (TookFirstDueStep (Tracks c) given)
    (Tracks behind)
MadeCallsLead-unless state strict old new l₀ l₁ c behind given made Shape kind is busy makes =
    subst (λ s. MakesOver state old new l₀ l₁ (IsStepUnlessIdle strict (is_idle s)) (TookFirstDueStep (Tracks c) s)
    (Tracks behind))
    (sym is)
    (subst
    (λ b. MakesOver state old new l₀ l₁ (IsStepUnlessIdle strict b) (TookFirstDueStep (Tracks c) made) (Tracks behind))
    (sym busy)
    (MadeCallsLead-kind state strict old new l₀ l₁ Shape (TookFirstDueStep (Tracks c) made) (Tracks behind) kind makes))

-- a step that is only announced was announced
pub MadeCallsLead-said : {L : Type 0} (state : L → LogState) (strict : Bool) (old new : Option (List (Made L)))
    (l₀ l₁ : LogState) (c : CoreState) (given made : Step) (happening : Event) → given ≡ made → is_idle made ≡ false
    → AnnouncesStep made happening → ((core : CoreState) (s : Step) → AnnouncesStep s happening
    → MakesOver state old new l₀ l₁ IsStep (TookFirstDueStep (Tracks core) s) (Tracks core))
    → MakesOver state old new l₀ l₁ (IsStepUnlessIdle strict (is_idle given)) (TookFirstDueStep (Tracks c) given)
    (Tracks c)
MadeCallsLead-said state strict old new l₀ l₁ c given made happening is other says said =
    MadeCallsLead-unless state strict old new l₀ l₁ c c given made IsStep (is_kept strict) is other (said c made says)

-- nothing was due
pub MadeCallsLead-idle : {L : Type 0} (state : L → LogState) (strict : Bool) (now : Option (List (Made L)))
    (log : LogState)
    (c : CoreState) (given : Step) → given ≡ step.Idle
    → MakesOver state now now log log (IsStepUnlessIdle strict (is_idle given)) (TookFirstDueStep (Tracks c) given)
    (Tracks c)
MadeCallsLead-idle state strict now log c given is =
    subst (λ s. MakesOver state now now log log (IsStepUnlessIdle strict (is_idle s)) (TookFirstDueStep (Tracks c) s)
    (Tracks c))
    (sym is)
    (MadeCallsLead-map state now now log log (IsStepUnlessIdle strict true) (IsStepUnlessIdle strict true) (Tracks c)
    (Tracks c)
    (TookFirstDueStep (Tracks c) step.Idle) (Tracks c) (λ goal p sound gave. gave.1)
    (MadeCallsLead-none state now log (IsStepUnlessIdle strict true) (Tracks c) refl)
    (λ calls none leads. (
      none,
      CallsLead-weaken (Tracks c) (TookFirstDueStep (Tracks c) step.Idle) (Tracks c) (Tracks c) log log calls
          (λ goal p gave. gave.1)
          (λ goal p fits. fits) leads,
    )))

idle_is : (made : Step) → is_idle made ≡ true → made ≡ step.Idle
idle_is made h = grind arith

-- the step was the first due one and was carried out; if there was none, nothing is due afterwards
pub MadeCallsLead-stepped : {L : Type 0} (state : L → LogState) (strict : Bool) (old new : Option (List (Made L)))
    (l₀ l₁ : LogState) (c between behind : CoreState) (made : Step) → ForAllFittedTraces c (λ goal so_far. made
    ≡ first (due goal so_far))
    → ForAllFittedTraces c (λ goal so_far. FitsExtendedTrace c between goal so_far (with_step made so_far))
    → KeepsSecondsAndGeneration c between
    → MakesOver state old new l₀ l₁ (IsStepUnlessIdle strict (is_idle made)) (TookFirstDueStep (Tracks between) made)
    (Tracks behind) → MakesOver state old new l₀ l₁ (IsStepUnlessIdle strict (is_idle made)) (Tracks c)
    (FitsAndRestsIf (is_idle made) (Tracks behind))
MadeCallsLead-stepped state strict old new l₀ l₁ c between behind made due_now fits lasts makes =
    MadeCallsLead-map state old new l₀ l₁ (IsStepUnlessIdle strict (is_idle made))
    (IsStepUnlessIdle strict (is_idle made))
    (TookFirstDueStep (Tracks between) made) (Tracks behind) (Tracks c)
    (FitsAndRestsIf (is_idle made) (Tracks behind)) gave makes
    (λ calls shape leads. (shape, goes calls shape leads))
  where
    gave : (goal : Goal) (p : Point) → is_sound goal p.past ≡ true → Tracks c goal p
        → TookFirstDueStep (Tracks between) made goal p
    gave goal p sound fitted = (
      sym (due_now goal p.past sound fitted.fits.0),
      tracks c between goal p (gone_on (with_step made) p) lasts refl fitted
          (all_on c between goal p.past (with_step made p.past) (fits goal p.past sound fitted.fits.0) fitted.fits),
    )

    goes : (calls : List HostCall) → IsStepUnlessIdle strict (is_idle made) calls
        → CallsLead (TookFirstDueStep (Tracks between) made)
        (Tracks behind) l₀ l₁ calls → CallsLead (Tracks c) (FitsAndRestsIf (is_idle made) (Tracks behind)) l₀ l₁ calls
    goes calls shape = CallsLead-map (TookFirstDueStep (Tracks between) made) (Tracks c) (Tracks behind)
        (FitsAndRestsIf (is_idle made) (Tracks behind)) l₀ l₁ calls
        (λ goal p sound fitted. (
          gave goal p sound fitted,
          λ now behind. (
            behind,
            λ idle.
                let none : calls ≡ [] = subst (λ b. IsStepUnlessIdle strict b calls) idle shape in
                ap (λ (l : List HostCall). first (due goal (point_after l p).past)) none
                ∙ sym (due_now goal p.past sound fitted.fits.0) ∙ idle_is made idle,
          ),
        ))

-- a core that fits a sound trace counts the unreaped children
pub CallsLead-left : (fitted : Goal → Point → Type 0) (done : Bool) (c : CoreState) (b : PartialBlock)
    (l₀ l₁ : LogState) (calls :
    List HostCall) → CallsLead fitted (FitsAndRestsIf done (TracksPoint c b)) l₀ l₁ calls
    → CallsLead fitted (HoldsAfterTurn done c b) l₀ l₁ calls
CallsLead-left fitted done c b l₀ l₁ calls =
    CallsLead-map fitted fitted (FitsAndRestsIf done (TracksPoint c b)) (HoldsAfterTurn done c b) l₀ l₁ calls
    (λ goal p sound fits. (
      fits,
      λ now behind. record {
        at = behind.0;
        children = unreaped_recorded goal (point_after calls p).past c now behind.0.0.fits.0;
        rests = behind.1;
      },
    ))
