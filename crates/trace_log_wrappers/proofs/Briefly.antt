-- The brief form of a sound trace is sound, and init reads the same values off it.
use Rattle.trace_log_wrappers.proofs.BriefWords.{◌≡◌, refl, sym, ◌∙◌, ap, ap₂, ℕ, Bool, true, false, not, ◌&&◌, ◌||◌}
use Rattle.trace_log_wrappers.proofs.BriefWords.{cond, List}
use Rattle.trace_log_wrappers.proofs.BriefWords.{[], ◌∷◌, arith, list_any, Entry, Start, Look, Term, Kill, same_id}
use Rattle.trace_log_wrappers.proofs.BriefWords.{is_distinct}
use Rattle.trace_log_wrappers.proofs.BriefWords.{NewTable, Enter, Call, Power, Asked, Hold, Settle, Birth, NoBirth}
use Rattle.trace_log_wrappers.proofs.BriefWords.{Death, Reaped}
use Rattle.trace_log_wrappers.proofs.BriefWords.{Still, NoLook, Hit, Miss, Told, Clock, Nudge, Goal, Event, has_number}
use Rattle.trace_log_wrappers.proofs.BriefWords.{is_dead}
use Rattle.trace_log_wrappers.proofs.BriefWords.{is_living, is_order, may_come, is_sound, is_lawful, same_id-is}
use Rattle.trace_log_wrappers.proofs.BriefWords.{any_same}
use Rattle.trace_log_wrappers.proofs.BriefWords.{sound_ind, sound_lawful, is_lasting, lasting_events, in_look}
use Rattle.trace_log_wrappers.proofs.BriefWords.{with_telling}
use Rattle.trace_log_wrappers.proofs.BriefWords.{with_reading, with_early_reading, with_round, with_event, brief_of}
use Rattle.trace_events.specs.declared.steps.Step.TheVariants as step
use Rattle.trace_log_wrappers.proofs.Lasting.{dead_lasting}
use Rattle.trace_log_wrappers.proofs.Alike.{Alike, alike_self, alike_then, alike_cons, same_by, same_unreaped}
use Rattle.trace_log_wrappers.proofs.Shorter.{alike_look, alike_readings, alike_early}
use Rattle.trace_log_wrappers.proofs.SameDues.{quiet_same, due_alike}

dead_same : (past brief : List Event) → Alike past brief → (id : List ℕ) (n : ℕ)
    → is_dead id n past ≡ is_dead id n brief
dead_same past brief a id n = same_by (is_dead id n) (dead_lasting id n) past brief a.said

living_same : (past brief : List Event) → Alike past brief → (n : ℕ) → is_living n past ≡ is_living n brief
living_same past brief a n = grind (arith, any_same, dead_same, same_unreaped)

-- a happening that may come after a trace may come after one that is alike
pub may_alike : (goal : Goal) (happening : Event) (past brief : List Event) → Alike past brief
    → may_come goal happening past ≡ true → may_come goal happening brief ≡ true
may_alike goal (NewTable table) past brief a h =
    sym (ap (λ quiet. quiet && is_distinct table) (quiet_same past brief a)) ∙ h
may_alike goal (Enter stage grace) past brief a h = due_alike goal (step.Enter stage grace) past brief a h
may_alike goal (Call letter) past brief a h = due_alike goal (step.Call letter) past brief a h
may_alike goal (Power kind) past brief a h = due_alike goal (step.Power kind) past brief a h
may_alike goal (Asked id ask) past brief a h = due_alike goal (step.Order id ask) past brief a h
may_alike goal (Hold id) past brief a h = due_alike goal (step.Hold id) past brief a h
may_alike goal (Settle level) past brief a h = due_alike goal (step.Settle level) past brief a h
may_alike goal (Birth id n) past brief a h = sym (ap₂ (λ order children. is_order Start order
    && not (list_any (has_number n) children)) (a.undone id) (same_unreaped past brief a.said)) ∙ h
may_alike goal (NoBirth id) past brief a h = sym (ap (is_order Start) (a.undone id)) ∙ h
may_alike goal (Death n) past brief a h = sym (living_same past brief a n) ∙ h
may_alike goal (Reaped id n status) past brief a h = grind (arith, same_unreaped, dead_same)
may_alike goal (Still id) past brief a h = sym (ap (is_order Look) (a.undone id)) ∙ h
may_alike goal (NoLook id) past brief a h = sym (ap (is_order Look) (a.undone id)) ∙ h
may_alike goal (Hit id) past brief a h =
    sym (ap (λ order. is_order Term order || is_order Kill order) (a.undone id)) ∙ h
may_alike goal (Miss id) past brief a h =
    sym (ap (λ order. is_order Term order || is_order Kill order) (a.undone id)) ∙ h
may_alike goal (Told id) past brief a h = sym (a.untold id) ∙ h
may_alike goal _ past brief a h = refl

-- a sound trace with a happening that may come is sound
sound_cons : (goal : Goal) (happening : Event) (past : List Event) → may_come goal happening past ≡ true
    → is_sound goal past ≡ true → is_sound goal (happening ∷ past) ≡ true
sound_cons goal happening past may sound = grind arith

-- the second trace is sound, and init reads the same values off both
abbrev Stands : Goal → List Event → List Event → Type 0
Stands goal past brief = (is_sound goal brief ≡ true) × Alike past brief

-- a look and its `told` may be omitted if they are of one id
one_id : (goal : Goal) (i j k : List ℕ) (brief : List Event) → i ≡ j → i ≡ k → is_sound goal
    (Told i ∷ Still j ∷ Asked k Look ∷ brief) ≡ true → Stands goal (Told i ∷ Still j ∷ Asked k Look ∷ brief) brief
one_id goal i j k brief first second = grind (arith, alike_look)

tell_stands : (goal : Goal) (i : List ℕ) (brief : List Event) → is_sound goal (Told i ∷ brief) ≡ true
    → Stands goal (Told i ∷ brief) (with_telling i brief)
tell_stands goal i (Still j ∷ Asked k Look ∷ brief) h = split (same_id i j) (same_id i k) (in_look brief) refl refl
  where
    whole : List Event
    whole = Told i ∷ Still j ∷ Asked k Look ∷ brief

    split : (b c d : Bool) → same_id i j ≡ b → same_id i k ≡ c → Stands goal whole (cond (b && c && not d) brief whole)
    split true true false first second = one_id goal i j k brief (same_id-is i j first) (same_id-is i k second) h
    split true true true first second = (h, alike_self whole)
    split true false d first second = (h, alike_self whole)
    split false c d first second = (h, alike_self whole)
tell_stands goal i brief h = (h, alike_self (Told i ∷ brief))

-- one lemma per function of the brief form: a reading, a reading after a round, a round
read_stands : (goal : Goal) (reading : ℕ) (brief : List Event) → is_sound goal (Clock reading ∷ brief) ≡ true
    → Stands goal (Clock reading ∷ brief) (with_reading reading brief)
read_stands goal reading (Clock before ∷ brief) h = (h, alike_readings reading before brief)
read_stands goal reading brief h = (h, alike_self (Clock reading ∷ brief))

early_stands : (goal : Goal) (reading : ℕ) (brief : List Event) → is_sound goal (Clock reading ∷ brief) ≡ true
    → Stands goal (Clock reading ∷ brief) (with_early_reading reading brief)
early_stands goal reading (Nudge ∷ brief) h =
    let rest = read_stands goal reading brief h in (
      rest.0,
      alike_then (Clock reading ∷ Nudge ∷ brief) (Nudge ∷ Clock reading ∷ brief) (Nudge ∷ with_reading reading brief)
          (alike_early reading brief) (alike_cons Nudge (Clock reading ∷ brief) (with_reading reading brief) rest.1),
    )
early_stands goal reading brief h = read_stands goal reading brief h

round_stands : (goal : Goal) (brief : List Event) → is_sound goal (Nudge ∷ brief) ≡ true
    → Stands goal (Nudge ∷ brief) (with_round brief)
round_stands goal brief h = grind arith

then_stands : (goal : Goal) (happening : Event) (brief : List Event) → is_sound goal (happening ∷ brief) ≡ true
    → Stands goal (happening ∷ brief) (with_event happening brief)
then_stands goal (Told i) brief h = tell_stands goal i brief h
then_stands goal (Clock reading) brief h = early_stands goal reading brief h
then_stands goal Nudge brief h = round_stands goal brief h
then_stands goal happening brief h = (h, alike_self (happening ∷ brief))

pub brief_stands : (goal : Goal) (past : List Event) → is_sound goal past ≡ true → Stands goal past (brief_of past)
brief_stands goal past h = sound_ind goal (λ before. Stands goal before (brief_of before)) first next past h where
  first : (table : List Entry) → is_distinct table ≡ true
      → Stands goal (NewTable table ∷ []) (brief_of (NewTable table ∷ []))
  first table distinct = (distinct, alike_self (NewTable table ∷ []))

  next : (happening : Event) (before : List Event) → may_come goal happening before ≡ true → is_sound goal before ≡ true
      → Stands goal before (brief_of before) → Stands goal (happening ∷ before) (brief_of (happening ∷ before))
  next happening before may sound rest =
      let whole = sound_cons goal happening (brief_of before)
      (may_alike goal happening before (brief_of before) rest.1 may) rest.0 in
      let last = then_stands goal happening (brief_of before) whole in (
        last.0,
        alike_then (happening ∷ before) (happening ∷ brief_of before) (with_event happening (brief_of before))
            (alike_cons happening before (brief_of before) rest.1) last.1,
      )

said_then : (happening : Event) (brief : List Event)
    → lasting_events (happening ∷ brief) ≡ lasting_events (with_event happening brief)
said_then happening brief = grind arith

pub brief_said : (past : List Event) → lasting_events past ≡ lasting_events (brief_of past)
brief_said [] = refl
brief_said (happening ∷ past) = ap (λ rest. cond (is_lasting happening) (happening ∷ rest) rest) (brief_said past)
    ∙ said_then happening (brief_of past)

pub brief_lawful : (goal : Goal) (past : List Event) → is_sound goal past ≡ true → is_lawful (brief_of past) ≡ true
brief_lawful goal past h = sound_lawful goal (brief_of past) (brief_stands goal past h).0
