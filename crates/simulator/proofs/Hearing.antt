-- What a script may say when init is at rest, and how the core, the simulated system and the text change.
use Rattle.simulator.proofs.Words.{IfOk, Bool, true, false, ◌&&◌, cond, ◌≡◌, ◌≢◌, ◌++◌, ℕ, List, ◌∷◌, Option, Some}
use Rattle.simulator.proofs.Words.{None, is_some, is_none, refl, sym, ap, ◌∙◌, append_assoc, subst, length, inr, nat_lt}
use Rattle.simulator.proofs.Words.{false≢true, and_parts, and_from, Entry, Goal, Event, is_in_range, are_in_range}
use Rattle.simulator.proofs.Words.{is_untold, is_quiet, answered_of, due, first, event_text, is_run, is_rest, is_reread}
use Rattle.simulator.proofs.Words.{may_come, is_sound, run_sound, answered_untold, CoreState, FitsWithLastStatuses}
use Rattle.simulator.proofs.Words.{is_act}
use Rattle.simulator.proofs.Words.{fit_records, all_on, Objection, SystemState, unless, Follows, SimFault, are_handed}
use Rattle.simulator.proofs.Words.{made_in, may_hand, has_next, is_made, text_at, handed_over_text, CanHandOver, Moment}
use Rattle.simulator.proofs.Words.{AtRest}
use Rattle.simulator.proofs.Words.{IsReadyFor, SimulationGoesOn, HearsLine, HeardBreaks, HeardEnds, is_scripted}
use Rattle.simulator.proofs.Words.{may_be_scripted, objection_in, objection_now, IsObjected, heard, past_text}
use Rattle.std.proofs.Common.{OnOk, Result, Ok, Err}
use Rattle.initctl_frame.specs.declared.requests.HeardRequest.{HeardRequest as Request}
use Rattle.inittab_text.specs.Tables.{is_distinct}
use Rattle.inittab_text.proofs.Entries.{table_parts}
use Rattle.trace_events.specs.declared.happenings.Happening.TheVariants as event
use Rattle.trace_events.specs.declared.happenings.Handed.{Handed as HandOver}
use Rattle.trace_events.specs.declared.happenings.Handed.TheVariants as handed
use Rattle.child_table.specs.Lists as lists
use Rattle.core_model.proofs.Reading.{quiet_same}
use Rattle.core_model.proofs.Hearing.{fits_act}
use Rattle.simulator.specs.declared.objections.Objection.TheVariants as objection
use Rattle.simulator.proofs.Allowing.{none_may}
use Rattle.simulator.specs.declared.running.SimFault.TheVariants as fault
use Rattle.simulator.proofs.Moves.{first_more, handed_part, heard_more, run_hears, said_parts, past_text-more}
use Rattle.simulator.proofs.Keeping.{kept_is}
use Rattle.simulator.proofs.Rereading.{reread_quiet}

-- if `told` may come, an answer is under way
pub nothing_told : (goal : Goal) (past : List Event) (happening : Event) (id : List ℕ) → happening ≡ event.Told id
    → may_be_scripted goal happening past ≡ true → None ≡ answered_of id past → ⊥
nothing_told goal past happening id is may none =
    let told = subst (λ h. may_be_scripted goal h past ≡ true) is may in
    let untold = (and_parts (is_rest (first (due goal past))) (is_untold id past) told).1 in
    false≢true (ap is_some none ∙ answered_untold id past ∙ untold)

unless_read : (b : Bool) (given : Objection) (other : Bool) → (b ≡ true → other ≡ true)
    → is_none (unless b given) ≡ (b && other)
unless_read true given other holds = sym (holds refl)
unless_read false given other holds = refl

-- when init is at rest, there is no objection exactly to what the script may say
none_said : (goal : Goal) (past : List Event) (side : SystemState) → is_sound goal past ≡ true → Follows side past
    → is_rest (first (due goal past)) ≡ true
    → (happening : Event) → is_in_range happening ≡ true
    → is_none (objection_now goal past side happening) ≡ may_be_scripted goal happening past
none_said goal past side sound follows rests = at
  where
    waits : (may : Bool) → may ≡ (is_rest (first (due goal past)) && may)
    waits may = ap (λ b. b && may) (sym rests)

    hand_core : (next holds : Bool) (given other : Objection) → is_none (cond next (cond holds None (Some given))
        (Some other)) ≡ (next && holds && is_rest (first (due goal past)) && true)
    hand_core true true given other = sym (ap (λ b. b && true) rests)
    hand_core true false given other = refl
    hand_core false holds given other = refl

    whole : (next : Bool) (other : Objection)
        → is_none (cond next None (Some other)) ≡ (next && is_rest (first (due goal past)) && true)
    whole true other = sym (ap (λ b. b && true) rests)
    whole false other = refl

    handing : (how : HandOver)
        → is_none (objection_now goal past side (event.Handed how)) ≡ may_be_scripted goal (event.Handed how) past
    handing handed.Failed = sym (ap (λ b. b && true) rests)
    handing handed.Whole = whole (has_next (made_in past)) objection.Worn
    handing (handed.Cut bytes) = hand_core (has_next (made_in past)) (nat_lt bytes (length (text_at goal past)))
        (objection.NotCut bytes) objection.Worn
    handing (handed.Older generation) = hand_core (has_next (made_in past)) (is_made generation (made_in past))
        (objection.NoneOlder generation) objection.Worn

    at : (happening : Event) → is_in_range happening ≡ true
        → is_none (objection_now goal past side happening) ≡ may_be_scripted goal happening past
    at (event.Handed how) ranged = handing how
    at (event.NewTable table) ranged =
        unless_read (is_reread (first (due goal past))) objection.NotNow (is_quiet past && is_distinct table)
        (λ reads. and_from (is_quiet past) (is_distinct table) (reread_quiet goal past reads)
        (table_parts table ranged).1)
    at event.NotRead ranged = unless_read (is_reread (first (due goal past))) objection.NotNow true (λ reads. refl)
    at (event.Birth id n) ranged =
        none_may goal past side sound follows (event.Birth id n) ∙ waits (may_come goal (event.Birth id n) past)
    at (event.NoBirth id) ranged =
        none_may goal past side sound follows (event.NoBirth id) ∙ waits (may_come goal (event.NoBirth id) past)
    at (event.Death n) ranged =
        none_may goal past side sound follows (event.Death n) ∙ waits (may_come goal (event.Death n) past)
    at (event.Reaped id n status) ranged = none_may goal past side sound follows (event.Reaped id n status)
        ∙ waits (may_come goal (event.Reaped id n status) past)
    at (event.Still id) ranged =
        none_may goal past side sound follows (event.Still id) ∙ waits (may_come goal (event.Still id) past)
    at (event.NoLook id) ranged =
        none_may goal past side sound follows (event.NoLook id) ∙ waits (may_come goal (event.NoLook id) past)
    at (event.Hit id) ranged =
        none_may goal past side sound follows (event.Hit id) ∙ waits (may_come goal (event.Hit id) past)
    at (event.Miss id) ranged =
        none_may goal past side sound follows (event.Miss id) ∙ waits (may_come goal (event.Miss id) past)
    at (event.Told id) ranged =
        none_may goal past side sound follows (event.Told id) ∙ waits (may_come goal (event.Told id) past)
    at (event.Clock reading) ranged =
        none_may goal past side sound follows (event.Clock reading) ∙ waits (may_come goal (event.Clock reading) past)
    at event.Nudge ranged = none_may goal past side sound follows event.Nudge ∙ waits (may_come goal event.Nudge past)
    at (event.Got request) ranged =
        none_may goal past side sound follows (event.Got request) ∙ waits (may_come goal (event.Got request) past)
    at _ ranged = refl

-- the objection computed from the core is the one defined from the trace
same_objection : (goal : Goal) (past : List Event) (happening : Event) (rereads : Bool) (core : CoreState)
    (side : SystemState) → AtRest goal past rereads core side
    → objection_in rereads core.fields.generation (length (handed_over_text core)) side happening
    ≡ objection_now goal past side happening
same_objection goal past happening rereads core side at =
    ap (λ b. objection_in b core.fields.generation (length (handed_over_text core)) side happening) at.read
    ∙ ap (λ (c : CoreState). objection_in (is_reread (first (due goal past))) c.fields.generation
    (length (handed_over_text c)) side happening) (kept_is core goal past at.moment.fits at.moment.lasts)

pub may_say : (goal : Goal) (past : List Event) (happening : Event) (rereads : Bool) (core : CoreState)
    (side : SystemState) → AtRest goal past rereads core side → is_in_range happening ≡ true
    → None ≡ objection_in rereads core.fields.generation (length (handed_over_text core)) side happening
    → may_be_scripted goal happening past ≡ true
may_say goal past happening rereads core side at ranged none =
    sym (none_said goal past side (run_sound goal past at.moment.runs) at.moment.follows at.rests happening ranged)
    ∙ ap is_none (sym (none ∙ same_objection goal past happening rereads core side at))

pub objected : (goal : Goal) (past : List Event) (happening : Event) (rereads : Bool) (core : CoreState)
    (side : SystemState) (why : Objection) → AtRest goal past rereads core side → is_in_range happening ≡ true
    → Some why ≡ objection_in rereads core.fields.generation (length (handed_over_text core)) side happening
    → (may_be_scripted goal happening past ≡ false) × IsObjected goal happening past why
objected goal past happening rereads core side why at ranged some =
    let given : objection_now goal past side happening ≡ Some why =
    sym (some ∙ same_objection goal past happening rereads core side at) in (
      sym (none_said goal past side (run_sound goal past at.moment.runs) at.moment.follows at.rests happening ranged)
          ∙ ap is_none given,
      (side, at.moment.follows, given),
    )

-- if there is no objection, the core is ready for what the script may say
pub ready : (goal : Goal) (past : List Event) (happening : Event) (rereads : Bool) (core : CoreState)
    (side : SystemState) → Moment goal past core side → may_be_scripted goal happening past ≡ true
    → None ≡ objection_in rereads core.fields.generation (length (handed_over_text core)) side happening
    → IsReadyFor happening core
ready goal past (event.NewTable table) rereads core side moment may none =
    let reads = (and_parts (is_reread (first (due goal past))) (is_quiet past && is_distinct table) may).0 in
    ap lists.is_quiet (fit_records core goal past moment.fits.0)
    ∙ sym (quiet_same moment.fits.0.lasts goal past (run_sound goal past moment.runs)) ∙ reread_quiet goal past reads
ready goal past (event.Handed how) rereads core side moment may none =
    record { short = moment.lasts.short; may = sym none }
ready goal past _ rereads core side moment may none = tt

pub sound_then : (goal : Goal) (past : List Event) (happening : Event) (core : CoreState) (side : SystemState)
    → Moment goal past core side → may_be_scripted goal happening past ≡ true → is_sound goal (happening ∷ past) ≡ true
sound_then goal past happening core side moment may =
    run_sound goal (happening ∷ past) (run_hears goal happening past may moment.runs)

pub fits_at : (goal : Goal) (past : List Event) (core : CoreState) (happening same : Event) → happening ≡ same
    → FitsWithLastStatuses core goal (same ∷ past) → FitsWithLastStatuses core goal (happening ∷ past)
fits_at goal past core happening same become fits =
    subst (λ h. FitsWithLastStatuses core goal (h ∷ past)) (sym become) fits

-- what the system does does not change the core
pub fits_silent : (goal : Goal) (past : List Event) (happening : Event) (core : CoreState) (side : SystemState)
    → Moment goal past core side → may_be_scripted goal happening past ≡ true
    → ((table : List Entry) → happening ≢ event.NewTable table) → happening ≢ event.NotRead
    → ((id : List ℕ) → happening ≢ event.Told id) → ((reading : ℕ) → happening ≢ event.Clock reading)
    → happening ≢ event.Nudge → ((request : Request) → happening ≢ event.Got request)
    → ((how : HandOver) → happening ≢ event.Handed how) → FitsWithLastStatuses core goal (happening ∷ past)
fits_silent goal past happening core side moment may not_table not_read not_told not_clock not_nudge not_got
    not_handed = at happening refl
  where
    said : is_scripted happening ≡ true
    said = (said_parts goal happening past may).0

    act : (h : Event) → happening ≡ h → is_act h ≡ true → FitsWithLastStatuses core goal (happening ∷ past)
    act h is acts = all_on core core goal past (happening ∷ past)
        (fits_act goal past core (run_sound goal past moment.runs) moment.fits.0 happening (ap is_act is ∙ acts)
        (sound_then goal past happening core side moment may)) moment.fits

    unsaid : (h : Event) → happening ≡ h → is_scripted h ≡ false → FitsWithLastStatuses core goal (happening ∷ past)
    unsaid h is other = absurd (false≢true (sym other ∙ sym (ap is_scripted is) ∙ said))

    at : (h : Event) → happening ≡ h → FitsWithLastStatuses core goal (happening ∷ past)
    at (event.NewTable table) is = absurd (not_table table is)
    at event.NotRead is = absurd (not_read is)
    at (event.Enter stage grace) is = unsaid _ is refl
    at (event.Call letter) is = unsaid _ is refl
    at (event.Power kind) is = unsaid _ is refl
    at (event.Asked id ask) is = unsaid _ is refl
    at (event.Hold id) is = unsaid _ is refl
    at (event.Settle level) is = unsaid _ is refl
    at (event.Birth id n) is = act _ is refl
    at (event.NoBirth id) is = act _ is refl
    at (event.Death n) is = act _ is refl
    at (event.Reaped id n status) is = act _ is refl
    at (event.Still id) is = act _ is refl
    at (event.NoLook id) is = act _ is refl
    at (event.Hit id) is = act _ is refl
    at (event.Miss id) is = act _ is refl
    at (event.Told id) is = absurd (not_told id is)
    at (event.Clock reading) is = absurd (not_clock reading is)
    at event.Nudge is = absurd (not_nudge is)
    at (event.Got request) is = absurd (not_got request is)
    at (event.Handed how) is = absurd (not_handed how is)

-- the moment after a happening of the script
pub moment_heard : (goal : Goal) (past : List Event) (happening : Event) (core new_core : CoreState)
    (side new_side : SystemState) → Moment goal past core side → may_be_scripted goal happening past ≡ true
    → FitsWithLastStatuses new_core goal (happening ∷ past) → CanHandOver new_core goal (happening ∷ past)
    → (is_sound goal (happening ∷ past) ≡ true → Follows side past → Follows new_side (happening ∷ past))
    → Moment goal (happening ∷ past) new_core new_side
moment_heard goal past happening core new_core side new_side moment may fits lasts follows =
    let runs = run_hears goal happening past may moment.runs in
    record {
      runs = runs;
      fits = fits;
      lasts = lasts;
      follows = follows (run_sound goal (happening ∷ past) runs) moment.follows;
    }

-- one happening of the script was read
pub hears_one : (goal : Goal) (past : List Event) (happening : Event) → is_run goal past ≡ true
    → is_in_range happening ≡ true → may_be_scripted goal happening past ≡ true
    → HearsLine goal past (happening ∷ past) (event_text happening) (event_text happening)
hears_one goal past happening runs ranged may =
    let said : is_scripted happening ≡ true = (said_parts goal happening past may).0 in
    let more : heard (happening ∷ past) ≡ happening ∷ heard past =
    heard_more goal happening past runs ∙ ap (λ (b : Bool). cond b (happening ∷ heard past) (heard past)) said in
    record {
      opens = first_more goal happening past runs;
      handed = λ before. and_from (may_hand goal happening past) (are_handed goal past)
          (handed_part goal happening past may) before;
      are = λ are. rw more (and_from (is_in_range happening) (are_in_range (heard past)) ranged are);
      hears = ap past_text more ∙ past_text-more happening (heard past);
      text = past_text-more happening past;
    }

-- one happening of the script was read, and init continued
pub hears_goes : (goal : Goal) (past mid next : List Event) (said more after : List ℕ) → HearsLine goal past mid said
    more → SimulationGoesOn mid next after → HearsLine goal past next said (more ++ after)
hears_goes goal past mid next said more after hears goes = record {
  opens = goes.opens ∙ hears.opens;
  handed = λ before. goes.handed goal ∙ hears.handed before;
  are = λ are. subst (λ es. are_in_range es ≡ true) (sym goes.hears) (hears.are are);
  hears = ap past_text goes.hears ∙ hears.hears;
  text = goes.text ∙ ap (λ t. t ++ after) hears.text ∙ append_assoc (past_text past) more after;
}

-- a fault while the following text was written ends the run
pub broken_heard : (goal : Goal) (past : List Event) (happening : Event) (number : ℕ) (f : SimFault) (old new : Option
    (List ℕ)) → HeardBreaks goal past happening f old new → HeardEnds goal past happening number f old new
broken_heard goal past happening number fault.Table old new (next, more, runs, hears, leaves) = absurd leaves
broken_heard goal past happening number (fault.Script n) old new (next, more, runs, hears, leaves) = absurd leaves
broken_heard goal past happening number (fault.Forbidden n why) old new (next, more, runs, hears, leaves) =
    absurd leaves
broken_heard goal past happening number fault.Write old new breaks = breaks
broken_heard goal past happening number fault.Memory old new breaks = inr breaks

pub ok_then : {S E P Q : Type 0} (r : Result S E) → OnOk r P → (P → Q) → OnOk r Q
ok_then (Ok s) p each = each p
ok_then (Err e) p each = tt

pub ok_gives : {S E : Type 0} (r : Result S E) (P Q : S → Type 0) → IfOk r P → ((s : S) → P s → Q s) → IfOk r Q
ok_gives (Ok s) P Q p each = each s p
ok_gives (Err e) P Q p each = tt
