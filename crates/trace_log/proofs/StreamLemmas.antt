-- How writing a happening's text, or a part of it, changes what a log over a writer took.
use Rattle.std.proofs.Common.{◌≡◌, ℕ, true, false, List, [], ◌∷◌, ◌++◌, append-nil, Option, Some, None, Result, Ok, Err}
use Rattle.std.proofs.Common.{is_err, refl, sym, ap, ◌∙◌}
use Rattle.std.proofs.lemmas.Bool.{false≢true}
use Rattle.std.specs.Result.{OnOk, OnErr, IfErr}
use Rattle.std.specs.Io.KnownBytes.{Appends, Keeps}
use Rattle.trace_events.specs.Event.{Event}
use Rattle.trace_events.specs.Range.{is_in_range}
use Rattle.trace_text.specs.Lines.{event_text, trace_text}
use Rattle.trace_text.proofs.ReadTexts.{trace_text-push, are_in_range-push, event_text-some}
use Rattle.trace_log.specs.declared.faults.LogFault.{LogFault}
use Rattle.trace_log.specs.declared.faults.LogFault.TheVariants.{Device, Memory}
use Rattle.trace_log.specs.Faults.{Leaves}
use Rattle.trace_log.specs.Logs.{AcceptsHappening, Stays}
use Rattle.trace_log.specs.Streams.{Stream, HasText, IsCut, KnowsText, stream_state}

-- the bytes of a log that has not failed are the text of the trace and nothing else
all_text : (trace : List Event) (bytes : List ℕ) → HasText false trace bytes → trace_text trace ≡ bytes
all_text trace bytes has =
    sym (append-nil (trace_text trace)) ∙ ap (λ part. trace_text trace ++ part) (sym (has.nothing refl)) ∙ has.whole

gains : (old new : Option (List ℕ)) (h : Event) (trace : List Event) → is_in_range h ≡ true
    → Appends old new (event_text h) → KnowsText false trace old → KnowsText false (trace ++ h ∷ []) new
gains None new h trace ranged grown has = absurd has
gains (Some xs) None h trace ranged grown has = absurd grown
gains (Some xs) (Some ys) h trace ranged grown has = record {
  ranged = are_in_range-push trace h has.ranged ranged;
  part = [];
  whole = append-nil (trace_text (trace ++ h ∷ [])) ∙ trace_text-push trace h
      ∙ ap (λ text. text ++ event_text h) (all_text trace xs has) ∙ sym grown;
  nothing = λ _. refl;
  cut = λ no. absurd (false≢true no);
}

keeps : (old new : Option (List ℕ)) (part : List ℕ) (trace : List Event) → IsCut part → Appends old new part
    → KnowsText false trace old → KnowsText true trace new
keeps None new part trace cut grown has = absurd has
keeps (Some xs) None part trace cut grown has = absurd grown
keeps (Some xs) (Some ys) part trace cut grown has = record {
  ranged = has.ranged;
  part = part;
  whole = ap (λ text. text ++ part) (all_text trace xs has) ∙ sym grown;
  nothing = λ no. absurd (false≢true (sym no));
  cut = λ _. cut;
}

appends_none : (old new : Option (List ℕ)) → Keeps old new → Appends old new []
appends_none None new same = tt
appends_none (Some xs) None same = absurd same
appends_none (Some xs) (Some ys) same = same ∙ sym (append-nil xs)

leaves : (fault : LogFault) (old new : Option (List ℕ)) (h : Event) (trace : List Event) → is_in_range h ≡ true
    → Leaves fault old new (event_text h) → KnowsText false trace old → KnowsText true trace new
leaves Device old new h trace ranged (front, rest, joined, written, some) =
    keeps old new front trace
    (record { happening = h; rest = rest; ranged = ranged; joined = joined; short = some }) written
leaves Memory old new h trace ranged same =
    keeps old new [] trace
    (record { happening = h; rest = event_text h; ranged = ranged; joined = refl; short = event_text-some h ranged })
    (appends_none old new same)

module _ {W X : Type 0} (contents : W → Option (List ℕ)) (old new : Stream W) (result : Result X LogFault) (h : Event)
  where
    pub taken_ok : old.failed ≡ false → new.failed ≡ is_err result
        → OnOk result (Appends (contents old.writer) (contents new.writer) (event_text h))
        → OnOk result
        (is_in_range h ≡ true → AcceptsHappening (stream_state contents old) (stream_state contents new) h)
    taken_ok works flag written = by result flag written
      where
        by : (r : Result X LogFault) → new.failed ≡ is_err r
            → OnOk r (Appends (contents old.writer) (contents new.writer) (event_text h))
            → OnOk r (is_in_range h ≡ true → AcceptsHappening (stream_state contents old) (stream_state contents new) h)
        by (Ok x) flag written =
            λ ranged trace. rw (works, flag) (gains (contents old.writer) (contents new.writer) h trace ranged written)
        by (Err fault) flag written = tt

    pub taken_err : old.failed ≡ false → new.failed ≡ is_err result
        → IfErr result (λ fault. Leaves fault (contents old.writer) (contents new.writer) (event_text h))
        → OnErr result (is_in_range h ≡ true → Stays (stream_state contents old) (stream_state contents new))
    taken_err works flag left = by result flag left
      where
        by : (r : Result X LogFault) → new.failed ≡ is_err r
            → IfErr r (λ fault. Leaves fault (contents old.writer) (contents new.writer) (event_text h))
            → OnErr r (is_in_range h ≡ true → Stays (stream_state contents old) (stream_state contents new))
        by (Ok x) flag left = tt
        by (Err fault) flag left = λ ranged trace. rw (works, flag)
            (leaves fault (contents old.writer) (contents new.writer) h trace ranged left)
