-- How a run and its text change with a step of init, and with a happening of the script.
use Rattle.simulator.proofs.Words.{IfErr, Bool, true, false, ◌&&◌, cond, ◌≡◌, ◌++◌, ℕ, List, [], ◌∷◌, reverse, Option}
use Rattle.simulator.proofs.Words.{refl, sym, ap, ◌∙◌, subst, append_assoc, Appends, Appends-nil, Appends-trans}
use Rattle.simulator.proofs.Words.{false≢true, and_parts, Step, Enter, Call, Power, Reread, Order, Hold, Settle, Reexec}
use Rattle.simulator.proofs.Words.{Idle, Goal, Event, due, first, event_text, trace_text, is_run, is_next, is_rest}
use Rattle.simulator.proofs.Words.{is_reread, may_come, is_sound, first_due, same_step-self, run_sound, reverse_onto}
use Rattle.simulator.proofs.Words.{append-nil, CoreState, FitsWithLastStatuses, FitsExtendedTrace, ForAllFittedTraces}
use Rattle.simulator.proofs.Words.{with_step, all_on}
use Rattle.simulator.proofs.Words.{SystemState, Follows, SimFault, Leaves, are_handed, may_hand, CanHandOver, Moment}
use Rattle.simulator.proofs.Words.{AtRest, SimulationGoesOn, is_scripted, may_be_scripted, first_table, heard}
use Rattle.simulator.proofs.Words.{past_text}
use Rattle.std.proofs.Common.{Result, Ok, Err}
use Rattle.trace_events.specs.declared.happenings.Happening.TheVariants as event
use Rattle.simulator.specs.declared.running.SimFault.TheVariants as fault

both : (a b c : Bool) → a ≡ true → b ≡ true → c ≡ true → (a && b && c) ≡ true
both true true true h k l = refl
both false b c h k l = absurd (false≢true h)
both true false c h k l = absurd (false≢true k)
both true true false h k l = absurd (false≢true l)

-- a run continued by the first due step is a run
pub run_step : (goal : Goal) (past : List Event) (s : Step) → s ≡ first (due goal past) → is_run goal past ≡ true
    → is_run goal (with_step s past) ≡ true
run_step goal past (Enter now grace) is runs =
    both _ _ _ (rw (← is) (same_step-self (Enter now grace))) (first_due goal past (Enter now grace) (sym is) refl) runs
run_step goal past (Call letter) is runs =
    both _ _ _ (rw (← is) (same_step-self (Call letter))) (first_due goal past (Call letter) (sym is) refl) runs
run_step goal past (Power kind) is runs =
    both _ _ _ (rw (← is) (same_step-self (Power kind))) (first_due goal past (Power kind) (sym is) refl) runs
run_step goal past (Order id ask) is runs =
    both _ _ _ (rw (← is) (same_step-self (Order id ask))) (first_due goal past (Order id ask) (sym is) refl) runs
run_step goal past (Hold id) is runs =
    both _ _ _ (rw (← is) (same_step-self (Hold id))) (first_due goal past (Hold id) (sym is) refl) runs
run_step goal past (Settle level) is runs =
    both _ _ _ (rw (← is) (same_step-self (Settle level))) (first_due goal past (Settle level) (sym is) refl) runs
run_step goal past Reread is runs = runs
run_step goal past Reexec is runs = runs
run_step goal past Idle is runs = runs

-- the step at which init is at rest adds nothing
pub rest_step : (s : Step) (past : List Event) → is_rest s ≡ true → with_step s past ≡ past
rest_step (Enter now grace) past h = absurd (false≢true h)
rest_step (Call letter) past h = absurd (false≢true h)
rest_step (Power kind) past h = absurd (false≢true h)
rest_step (Order id ask) past h = absurd (false≢true h)
rest_step (Hold id) past h = absurd (false≢true h)
rest_step (Settle level) past h = absurd (false≢true h)
rest_step Reread past h = refl
rest_step Reexec past h = refl
rest_step Idle past h = refl

-- a run with one more happening begins with the same table, and a happening that a script can have counts as read from
-- it
pub first_more : (goal : Goal) (happening : Event) (past : List Event) → is_run goal past ≡ true
    → first_table (happening ∷ past) ≡ first_table past
first_more goal happening [] runs = absurd (false≢true runs)
first_more goal (event.NewTable table) (before ∷ past) runs = refl
first_more goal _ (before ∷ past) runs = refl

pub heard_more : (goal : Goal) (happening : Event) (past : List Event) → is_run goal past ≡ true
    → heard (happening ∷ past) ≡ cond (is_scripted happening) (happening ∷ heard past) (heard past)
heard_more goal happening [] runs = absurd (false≢true runs)
heard_more goal happening (before ∷ past) runs = refl

-- a step of init is not read from the script
step_first : (goal : Goal) (s : Step) (past : List Event) → is_run goal past ≡ true
    → first_table (with_step s past) ≡ first_table past
step_first goal (Enter now grace) past runs = first_more goal (event.Enter now grace) past runs
step_first goal (Call letter) past runs = first_more goal (event.Call letter) past runs
step_first goal (Power kind) past runs = first_more goal (event.Power kind) past runs
step_first goal (Order id ask) past runs = first_more goal (event.Asked id ask) past runs
step_first goal (Hold id) past runs = first_more goal (event.Hold id) past runs
step_first goal (Settle level) past runs = first_more goal (event.Settle level) past runs
step_first goal Reread past runs = refl
step_first goal Reexec past runs = refl
step_first goal Idle past runs = refl

step_heard : (goal : Goal) (s : Step) (past : List Event) → is_run goal past ≡ true
    → heard (with_step s past) ≡ heard past
step_heard goal (Enter now grace) past runs = heard_more goal (event.Enter now grace) past runs
step_heard goal (Call letter) past runs = heard_more goal (event.Call letter) past runs
step_heard goal (Power kind) past runs = heard_more goal (event.Power kind) past runs
step_heard goal (Order id ask) past runs = heard_more goal (event.Asked id ask) past runs
step_heard goal (Hold id) past runs = heard_more goal (event.Hold id) past runs
step_heard goal (Settle level) past runs = heard_more goal (event.Settle level) past runs
step_heard goal Reread past runs = refl
step_heard goal Reexec past runs = refl
step_heard goal Idle past runs = refl

step_handed : (goal : Goal) (s : Step) (past : List Event) → are_handed goal (with_step s past) ≡ are_handed goal past
step_handed goal (Enter now grace) past = refl
step_handed goal (Call letter) past = refl
step_handed goal (Power kind) past = refl
step_handed goal (Order id ask) past = refl
step_handed goal (Hold id) past = refl
step_handed goal (Settle level) past = refl
step_handed goal Reread past = refl
step_handed goal Reexec past = refl
step_handed goal Idle past = refl

-- a hand-over that the script may say can be made
pub handed_part : (goal : Goal) (happening : Event) (past : List Event) → may_be_scripted goal happening past ≡ true
    → may_hand goal happening past ≡ true
handed_part goal happening past may =
    let outer = and_parts (is_scripted happening && may_hand goal happening past
    && is_next (first (due goal past)) happening) (may_come goal happening past) may in
    let inner = and_parts (is_scripted happening && may_hand goal happening past)
    (is_next (first (due goal past)) happening) outer.0 in
    (and_parts (is_scripted happening) (may_hand goal happening past) inner.0).1

-- what the script may say can come from a script, is awaited by init, and may come
pub said_parts : (goal : Goal) (happening : Event) (past : List Event) → may_be_scripted goal happening past ≡ true
    → (is_scripted happening ≡ true) × (is_next (first (due goal past)) happening ≡ true)
    × (may_come goal happening past ≡ true)
said_parts goal happening past may =
    let outer = and_parts (is_scripted happening && may_hand goal happening past
    && is_next (first (due goal past)) happening) (may_come goal happening past) may in
    let inner = and_parts (is_scripted happening && may_hand goal happening past)
    (is_next (first (due goal past)) happening) outer.0 in
    ((and_parts (is_scripted happening) (may_hand goal happening past) inner.0).0, inner.1, outer.1)

-- a run continued by a happening that the script may say is a run
pub run_hears : (goal : Goal) (happening : Event) (past : List Event) → may_be_scripted goal happening past ≡ true
    → is_run goal past ≡ true → is_run goal (happening ∷ past) ≡ true
run_hears goal happening past may runs =
    let parts = said_parts goal happening past may in
    at happening past runs parts.1 parts.2
  where
    at : (h : Event) (before : List Event) → is_run goal before ≡ true → is_next (first (due goal before)) h ≡ true
        → may_come goal h before ≡ true → is_run goal (h ∷ before) ≡ true
    at h [] runs next come = absurd (false≢true runs)
    at (event.NewTable table) (x ∷ before) runs next come =
        both (is_next (first (due goal (x ∷ before))) (event.NewTable table))
        (may_come goal (event.NewTable table) (x ∷ before)) (is_run goal (x ∷ before)) next come runs
    at h (x ∷ before) runs next come = both (is_next (first (due goal (x ∷ before))) h) (may_come goal h (x ∷ before))
        (is_run goal (x ∷ before)) next come runs

-- the text of a trace with one more happening
pub trace_text-append : (xs ys : List Event) → trace_text (xs ++ ys) ≡ trace_text xs ++ trace_text ys
trace_text-append [] ys = refl
trace_text-append (x ∷ xs) ys = ap (λ text. event_text x ++ text) (trace_text-append xs ys)
    ∙ sym (append_assoc (event_text x) (trace_text xs) (trace_text ys))

pub past_text-more : (happening : Event) (past : List Event)
    → past_text (happening ∷ past) ≡ past_text past ++ event_text happening
past_text-more happening past = ap trace_text (reverse_onto past happening []) ∙ trace_text-append (reverse past)
    (happening ∷ []) ∙ ap (λ text. past_text past ++ text) (append-nil (event_text happening))

-- the trace continued by a step of init
pub goes_step : (goal : Goal) (s : Step) (happening : Event) (past next : List Event) (more : List ℕ)
    → is_run goal next ≡ true → with_step s next ≡ happening ∷ next → SimulationGoesOn past next more
    → SimulationGoesOn past (happening ∷ next) (more ++ event_text happening)
goes_step goal s happening past next more runs added goes = record {
  opens = ap first_table (sym added) ∙ step_first goal s next runs ∙ goes.opens;
  handed = λ of. ap (are_handed of) (sym added) ∙ step_handed of s next ∙ goes.handed of;
  hears = ap heard (sym added) ∙ step_heard goal s next runs ∙ goes.hears;
  text = past_text-more happening next ∙ ap (λ text. text ++ event_text happening) goes.text
      ∙ append_assoc (past_text past) more (event_text happening);
}

-- a run with one more step
pub more_run : (goal : Goal) (past : List Event) (happening : Event) (s : Step) → s ≡ first (due goal past)
    → with_step s past ≡ happening ∷ past → is_run goal past ≡ true → is_run goal (happening ∷ past) ≡ true
more_run goal past happening s is added runs = subst (λ t. is_run goal t ≡ true) added (run_step goal past s is runs)

-- init continued from one moment to another, and what it did was written
abbrev pub WentOn : Goal → List Event → CoreState → SystemState → Option (List ℕ) → Option (List ℕ) → Type 0
WentOn goal past core side old new = (next : List Event) × (more : List ℕ) × Moment goal next core side
    × SimulationGoesOn past next more × Appends old new more

-- a step of the core and of the simulated system
module _ (core new_core : CoreState) (side new_side : SystemState) (s : Step) (happening : Event)
    (due_now : ForAllFittedTraces core (λ goal past. s ≡ first (due goal past)))
    (fits : ForAllFittedTraces core (λ goal past. FitsExtendedTrace core new_core goal past (with_step s past)))
    (added : (past : List Event) → with_step s past ≡ happening ∷ past)
    (follows : (goal : Goal) (past : List Event) → is_sound goal (happening ∷ past) ≡ true → Follows side past
    → Follows new_side (happening ∷ past))
    (lasts : (goal : Goal) (past : List Event) → FitsWithLastStatuses core goal past → CanHandOver core goal past
    → CanHandOver new_core goal (with_step s past)) where
  pub moment_step : (goal : Goal) (past : List Event) → Moment goal past core side
      → Moment goal (happening ∷ past) new_core new_side
  moment_step goal past moment =
      let sound = run_sound goal past moment.runs in
      let runs = more_run goal past happening s (due_now goal past sound moment.fits.0) (added past) moment.runs in
      record {
        runs = runs;
        fits = subst (FitsWithLastStatuses new_core goal) (added past)
            (all_on core new_core goal past (with_step s past) (fits goal past sound moment.fits.0) moment.fits);
        lasts = subst (CanHandOver new_core goal) (added past) (lasts goal past moment.fits moment.lasts);
        follows = follows goal past (run_sound goal (happening ∷ past) runs) moment.follows;
      }

  pub went_step : (old mid new : Option (List ℕ)) → Appends mid new (event_text happening) → (goal : Goal)
      (past : List Event) → WentOn goal past core side old mid → WentOn goal past new_core new_side old new
  went_step old mid new written goal past (next, more, moment, goes, before) = (
    happening ∷ next,
    more ++ event_text happening,
    moment_step goal next moment,
    goes_step goal s happening past next more moment.runs (added next) goes,
    Appends-trans old mid new more (event_text happening) before written,
  )

-- a part of a text was written, after a text that was written in full
pub leaves_behind : (f : SimFault) (old mid new : Option (List ℕ)) (more text : List ℕ) → Appends old mid more
    → Leaves f mid new text → Leaves f old new (more ++ text)
leaves_behind fault.Table old mid new more text before leaves = absurd leaves
leaves_behind (fault.Script n) old mid new more text before leaves = absurd leaves
leaves_behind (fault.Forbidden n why) old mid new more text before leaves = absurd leaves
leaves_behind fault.Write old mid new more text before (front, rest, is, now, some) = (
  more ++ front,
  rest,
  append_assoc more front rest ∙ ap (λ t. more ++ t) is,
  Appends-trans old mid new more front before now,
  some,
)
leaves_behind fault.Memory old mid new more text before (front, rest, is, now) = (
  more ++ front,
  rest,
  append_assoc more front rest ∙ ap (λ t. more ++ t) is,
  Appends-trans old mid new more front before now,
)

-- memory allocation failed after a whole text, or before it
pub memory_after : (old new : Option (List ℕ)) (text : List ℕ) → Appends old new text → Leaves fault.Memory old new text
memory_after old new text all = (text, [], append-nil text, all)

pub memory_before : (known : Option (List ℕ)) (text : List ℕ) → Leaves fault.Memory known known text
memory_before known text = ([], text, refl, Appends-nil known)

-- the moment stays one while init is at rest
pub at_rest : (goal : Goal) (past : List Event) (s : Step) (rereads : Bool) (core new_core : CoreState)
    (side : SystemState) → Moment goal past core side
    → s ≡ first (due goal past) → is_rest s ≡ true → rereads ≡ is_reread s
    → FitsWithLastStatuses new_core goal (with_step s past)
    → CanHandOver new_core goal (with_step s past) → AtRest goal past rereads new_core side
at_rest goal past s rereads core new_core side moment is rests read fits lasts = record {
  moment = record {
    runs = moment.runs;
    fits = subst (FitsWithLastStatuses new_core goal) (rest_step s past rests) fits;
    lasts = subst (CanHandOver new_core goal) (rest_step s past rests) lasts;
    follows = moment.follows;
  };
  rests = sym (ap is_rest is) ∙ rests;
  read = read ∙ ap is_reread is;
}

pub err_then : {S E : Type 0} (r : Result S E) (P Q : E → Type 0) → IfErr r P → ((e : E) → P e → Q e) → IfErr r Q
err_then (Ok s) P Q p each = tt
err_then (Err e) P Q p each = each e p
