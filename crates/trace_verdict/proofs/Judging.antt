-- How the judge changes with one more happening, and with one more piece of text.
use Rattle.trace_verdict.proofs.Words.{◌≡◌, ℕ, zero, suc, ◌+◌, ◌^◌, ◌<◌, ◌≤◌, true, List, [], ◌∷◌, ◌++◌, length}
use Rattle.trace_verdict.proofs.Words.{reverse, slice_get, Option, Some, append-nil, refl, sym, ap, ◌∙◌, subst, arith}
use Rattle.trace_verdict.proofs.Words.{length-append, option_map_or, append_assoc, reverse-append, length-reverse}
use Rattle.trace_verdict.proofs.Words.{take-append-le, newlines, newlines-append, Event, broken, breach_at, earlier}
use Rattle.trace_verdict.proofs.Words.{first_breach, event_text, trace_text, is_in_range, are_in_range, line_count}
use Rattle.trace_verdict.proofs.Words.{newlines-event, trace_text-push, are_in_range-push, newlines-few, shorter}
use Rattle.trace_verdict.proofs.Words.{law_number, Judging, Judged, is_open, BeginsNever, line_left, IsFront, IsTorn}
use Rattle.trace_verdict.proofs.Words.{Named, IsFirst, Answers, Reading, capped, ReadsNext, TextState, IsFound, HasRead}
use Rattle.trace_verdict.proofs.Words.{AtBy, TakenBy, left_of}
use Rattle.std.specs.Option.{option_map}
use Rattle.std.proofs.Math.Nat.{min-eq_left}
use Rattle.std.proofs.Math.Seq.{take-append_seam}
use Rattle.trace_check.specs.declared.laws.Law.{Law}
use Rattle.trace_check.proofs.Passing.{breach_here}
use Rattle.trace_verdict.specs.declared.findings.Finding.{Finding}
use Rattle.trace_verdict.specs.declared.findings.Finding.TheVariants.{Lawful, Breach, Torn}
use Rattle.trace_verdict.proofs.Fronts.{never_some}

pub capped_is : (n : ℕ) → n < 2 ^ 64 → capped n ≡ n
capped_is n small = min-eq_left (omega (arith, small))

-- a text has no more lines and happenings than bytes
pub one_line : (h : Event) → 1 ≤ line_count h
one_line h = grind arith

pub lines_push : (trace : List Event) (h : Event) → is_in_range h ≡ true
    → newlines (trace_text (trace ++ h ∷ [])) ≡ newlines (trace_text trace) + line_count h
lines_push trace h is = ap newlines (trace_text-push trace h) ∙ newlines-append (trace_text trace) (event_text h)
    ∙ ap (λ n. newlines (trace_text trace) + n) (newlines-event h is)

few_happenings : (trace : List Event) → are_in_range trace ≡ true → length trace ≤ newlines (trace_text trace)
few_happenings [] are = grind (arith, newlines-append, newlines-event, one_line)
few_happenings (h ∷ trace) are = grind (arith, few_happenings trace, newlines-append, newlines-event, one_line)

pub lines_within : (trace : List Event) (over text : List ℕ) → trace_text trace ++ over ≡ text
    → newlines (trace_text trace) + length over ≤ length text
lines_within trace over text whole =
    omega (arith, newlines-few (trace_text trace), length-append (trace_text trace) over, ap length whole)

-- the reverse of a trace with a happening appended
pub past_push : (trace : List Event) (h : Event) → reverse (trace ++ h ∷ []) ≡ h ∷ reverse trace
past_push trace h = reverse-append trace (h ∷ [])

got_before : {X : Type 0} (xs ys : List X) (i : ℕ) → i < length xs → slice_get (xs ++ ys) i ≡ slice_get xs i
got_before [] ys i within = absurd (omega (arith, within))
got_before (x ∷ xs) ys zero within = refl
got_before (x ∷ xs) ys (suc i) within = got_before xs ys i (omega (arith, within))

got_behind : {X : Type 0} (xs : List X) (x : X) → slice_get (xs ++ x ∷ []) (length xs) ≡ Some x
got_behind [] x = refl
got_behind (y ∷ xs) x = got_behind xs x

-- the first breach remains the first one
pub first_kept : (trace : List Event) (h : Event) (breach : Named) → IsFirst trace breach
    → IsFirst (trace ++ h ∷ []) breach
first_kept trace h breach is = record {
  first = ap first_breach (past_push trace h)
      ∙ ap (λ o. earlier o (breach_at (length (reverse trace)) (broken h (reverse trace)))) is.first;
  within = omega (arith, is.within, length-append trace (h ∷ []));
  line = is.line ∙ ap (λ t. newlines (trace_text t) + 1)
      (sym (take-append-le breach.position trace (h ∷ []) (omega (arith, is.within))));
  text = is.text ∙ ap (λ o. option_map_or event_text o []) (sym (got_before trace (h ∷ []) breach.position is.within));
}

pub found_kept : (finding : Finding Named) (judging : Judging) (trace : List Event) (h : Event) → (finding ≡ Lawful → ⊥)
    → IsFound finding judging trace → IsFound finding judging (trace ++ h ∷ [])
found_kept Lawful judging trace h not found = absurd (not refl)
found_kept (Breach breach) judging trace h not found = first_kept trace h breach found
found_kept (Torn number) judging trace h not found = found

pub found_breach : (trace : List Event) (h : Event) (judging : Judging) (law : Law) (breach : Named)
    → Judged judging (reverse trace) → Some (law_number law) ≡ broken h (reverse trace)
    → breach
    ≡ record { position = length trace; law = law; line = newlines (trace_text trace) + 1; text = event_text h }
    → IsFirst (trace ++ h ∷ []) breach
found_breach trace h judging law breach judged broke is = subst (IsFirst (trace ++ h ∷ [])) (sym is) (record {
  first = ap first_breach (past_push trace h) ∙ breach_here h (reverse trace) (law_number law) judged.lawful broke
      ∙ ap (λ n. Some (record { position = n; law = law_number law })) (length-reverse trace);
  within = omega (arith, length-append trace (h ∷ []));
  line = ap (λ t. newlines (trace_text t) + 1) (sym (take-append_seam trace (h ∷ [])));
  text = ap (λ o. option_map_or event_text o []) (sym (got_behind trace h));
})

-- the three verdicts, case by case
pub at_trace : (finding : Finding Named) (state : TextState) (text : List ℕ) (trace : List Event)
    → HasRead state trace text → state.finding ≡ finding → AtBy finding state text
at_trace Lawful state text trace read is = (trace, read)
at_trace (Breach breach) state text trace read is = (trace, read)
at_trace (Torn number) state text trace read is = absurd (subst (λ f. IsFound f state.judging trace) is read.found)

pub trace_at : (finding : Finding Named) (state : TextState) (text : List ℕ) → ((number : ℕ) → finding ≡ Torn number
    → ⊥) → AtBy finding state text → (trace : List Event) × HasRead state trace text
trace_at Lawful state text not at = at
trace_at (Breach breach) state text not at = at
trace_at (Torn number) state text not at = absurd (not number refl)

-- one more piece of a text that is torn, or of any other
torn_more : (text piece : List ℕ) (number : ℕ) → IsTorn text number → IsTorn (text ++ piece) number
torn_more text piece number torn = grind (arith, append_assoc)

pub still_torn : (finding : Finding Named) (state : TextState) (text piece : List ℕ) (number : ℕ)
    → finding ≡ Torn number → AtBy finding state text → AtBy finding state (text ++ piece)
still_torn (Torn n) state text piece number is taken = torn_more text piece n taken
still_torn Lawful state text piece number is taken = absurd (cc)
still_torn (Breach breach) state text piece number is taken = absurd (cc)

-- the judge is at work on any text that it has taken
pub taken_at : (finding : Finding Named) (state : TextState) (text : List ℕ) → TakenBy finding state text
    → AtBy finding state text
taken_at Lawful state text taken = (taken.0, taken.1)
taken_at (Breach breach) state text taken = (taken.0, taken.1)
taken_at (Torn number) state text taken = taken

-- the judge has read one more happening of the text
pub read_next : (old new : TextState) (trace : List Event) (text : List ℕ) (h : Event) → length text < 2 ^ 64
    → HasRead old trace text → ReadsNext old.reading new.reading (Some h) → new.position ≡ capped (old.position + 1)
    → IsFound new.finding new.judging (trace ++ h ∷ []) → HasRead new (trace ++ h ∷ []) text
read_next old new trace text h small read next position found = record {
  are = are_in_range-push trace h read.are next.0;
  whole = whole;
  lines = next.2 ∙ ap (λ n. capped (n + line_count h)) read.lines
      ∙ capped_is (newlines (trace_text trace) + line_count h) (omega (arith, small, within, pushed)) ∙ sym pushed;
  position = position ∙ ap (λ n. capped (n + 1)) read.position ∙ capped_is (length trace + 1)
      (omega (arith, small, within, few_happenings (trace ++ h ∷ []) are, longer)) ∙ sym longer;
  found = found;
} where
  are : are_in_range (trace ++ h ∷ []) ≡ true
  are = are_in_range-push trace h read.are next.0

  whole : trace_text (trace ++ h ∷ []) ++ new.reading.over ≡ text
  whole = ap (λ t. t ++ new.reading.over) (trace_text-push trace h) ∙ append_assoc (trace_text trace)
      (event_text h) new.reading.over ∙ ap (λ t. trace_text trace ++ t) next.1 ∙ read.whole

  within : newlines (trace_text (trace ++ h ∷ [])) + length new.reading.over ≤ length text
  within = lines_within (trace ++ h ∷ []) new.reading.over text whole

  pushed : newlines (trace_text (trace ++ h ∷ [])) ≡ newlines (trace_text trace) + line_count h
  pushed = lines_push trace h next.0

  longer : length (trace ++ h ∷ []) ≡ length trace + 1
  longer = length-append trace (h ∷ [])

-- the number of the line of the next happening
next_line : (state : TextState) (trace : List Event) (text : List ℕ) → length text < 2 ^ 64 → HasRead state trace text
    → 1 ≤ length state.reading.over → capped (state.reading.lines + 1) ≡ newlines (trace_text trace) + 1
next_line state trace text small read some = grind (arith, capped_is, lines_within)

pub line_of : (old : TextState) (new : Reading) (trace : List Event) (text : List ℕ) (h : Event) → length text < 2 ^ 64
    → HasRead old trace text → ReadsNext old.reading new (Some h)
    → capped (old.reading.lines + 1) ≡ newlines (trace_text trace) + 1
line_of old new trace text h small read next =
    next_line old trace text small read (omega (arith, shorter h new.over old.reading.over next.0 next.1))

pub torn_here : (state : TextState) (text : List ℕ) (number : ℕ) (trace : List Event) → length text < 2 ^ 64 → HasRead
    state trace text → number ≡ capped (state.reading.lines + 1) → BeginsNever state.reading.over → IsTorn text number
torn_here state text number trace small read is none = record {
  trace = trace;
  rest = state.reading.over;
  behind = [];
  are = read.are;
  whole = append-nil (trace_text trace ++ state.reading.over) ∙ read.whole;
  counted = is ∙ next_line state trace text small read (never_some state.reading.over none);
  none = none;
}

-- the answer to the text
left_is : (state : TextState) (trace : List Event) (text over : List ℕ) → length text < 2 ^ 64
    → HasRead state trace text → state.reading.over ≡ over
    → option_map capped (line_left state.reading.lines over) ≡ line_left (newlines (trace_text trace)) over
left_is state trace text over small read is = grind (arith, next_line)

front : (state : TextState) (trace : List Event) (text : List ℕ) (open_line : Option ℕ) → length text < 2 ^ 64
    → HasRead state trace text → is_open state.reading.over ≡ true
    → open_line ≡ option_map capped (line_left state.reading.lines state.reading.over) → IsFront trace open_line text
front state trace text open_line small read short is = grind (arith, left_is)

pub told : (finding : Finding Named) (state : TextState) (text : List ℕ) (open_line : Option ℕ)
    → state.finding ≡ finding → length text < 2 ^ 64 → TakenBy finding state text → open_line ≡ left_of finding
    (option_map capped (line_left state.reading.lines state.reading.over))
    → Answers text finding open_line state.position
told Lawful state text open_line is small taken at =
    let judged : Judged state.judging (reverse taken.0) =
    subst (λ f. IsFound f state.judging taken.0) is taken.1.found in
    (taken.0, front state taken.0 text open_line small taken.1 taken.2 at, judged.lawful, taken.1.position)
told (Breach breach) state text open_line is small taken at = (
  taken.0,
  front state taken.0 text open_line small taken.1 taken.2 at,
  subst (λ f. IsFound f state.judging taken.0) is taken.1.found,
  taken.1.position,
)
told (Torn number) state text open_line is small taken at = (taken, at)
