-- A text is read as at most one trace, and as none if no happening begins at one of its lines.
use Rattle.trace_text.proofs.CommonWords.{◌≡◌, ◌≢◌, ℕ, suc, ◌+◌, ◌<◌, ◌≤◌, Bool, true, false, cond, ◌==◌, ◌&&◌, List}
use Rattle.trace_text.proofs.CommonWords.{[], ◌∷◌, ◌++◌, length, filter, append-nil, Option, Some, None, refl, sym, ap}
use Rattle.trace_text.proofs.CommonWords.{◌∙◌, arith, length-append, option_map, IfSome, IfNone, and_parts, and_from}
use Rattle.trace_text.proofs.CommonWords.{append_assoc, some_pair_parts, none-some, newlines, newlines-append, Event}
use Rattle.trace_text.proofs.CommonWords.{event_text, trace_text, is_in_range, are_in_range, Begun, line_count}
use Rattle.trace_text.proofs.CommonWords.{BeginsNone, begun}
use Rattle.std.proofs.lemmas.List.Folds.{list_all-append}
use Rattle.trace_text.proofs.LineTexts.{begun-text, text-begun, newlines-event}

-- at most one happening begins a text
pub begins_one : (h k : Event) (more rest : List ℕ) → is_in_range h ≡ true → is_in_range k ≡ true
    → event_text h ++ more ≡ event_text k ++ rest → (h ≡ k) × (more ≡ rest)
begins_one h k more rest one other same =
    some_pair_parts h k more rest (sym (begun-text h more one) ∙ ap begun same ∙ begun-text k rest other)

-- the result of a call, without the borrow of its rest
abbrev as_begun : {B : Type 0} → (B → List ℕ) → Option (Event × B) → Option Begun
as_begun now found = option_map {U = Begun} (λ parts. (parts.0, now parts.1)) found

-- what the call found is the only happening that begins the text, and if it found none, none begins it
pub found_begins : {B : Type 0} (now : B → List ℕ) (text : List ℕ) (found : Option (Event × B)) → as_begun now found
    ≡ begun text → IfSome found (λ parts. (is_in_range parts.0 ≡ true) × (event_text parts.0 ++ now parts.1 ≡ text))
found_begins now text found is = grind (arith, text-begun)

pub only_begins : {B : Type 0} (now : B → List ℕ) (text : List ℕ) (found : Option (Event × B))
    → as_begun now found ≡ begun text → (h : Event) (more : List ℕ) → is_in_range h ≡ true → event_text h ++ more ≡ text
    → as_begun now found ≡ Some (h, more)
only_begins now text found is h more ranged same = is ∙ ap begun (sym same) ∙ begun-text h more ranged

pub none_begins : {B : Type 0} (now : B → List ℕ) (text : List ℕ) (found : Option (Event × B))
    → as_begun now found ≡ begun text → IfNone found (BeginsNone text)
none_begins now text None is =
    λ h more ranged same. none-some (h, more) (is ∙ ap begun (sym same) ∙ begun-text h more ranged)
none_begins now text (Some parts) is = tt

-- the text of a trace with one more happening
pub trace_text-push : (trace : List Event) (h : Event) → trace_text (trace ++ h ∷ []) ≡ trace_text trace ++ event_text h
trace_text-push [] h = append-nil (event_text h)
trace_text-push (t ∷ trace) h = ap (λ x. event_text t ++ x) (trace_text-push trace h)
    ∙ sym (append_assoc (event_text t) (trace_text trace) (event_text h))

pub are_in_range-push : (trace : List Event) (h : Event) → are_in_range trace ≡ true → is_in_range h ≡ true
    → are_in_range (trace ++ h ∷ []) ≡ true
are_in_range-push trace h are is = list_all-append is_in_range trace (h ∷ [])
    ∙ and_from (are_in_range trace) (is_in_range h && true) are (and_from (is_in_range h) true is refl)

few_by : (x : ℕ) (text : List ℕ) (b : Bool) → newlines text ≤ length text
    → length (cond b (x ∷ filter (λ c. c == 10) text) (filter (λ c. c == 10) text)) ≤ suc (length text)
few_by x text true few = omega (arith, few)
few_by x text false few = omega (arith, few)

-- a text has no more newlines than bytes
pub newlines-few : (text : List ℕ) → newlines text ≤ length text
newlines-few [] = omega arith
newlines-few (x ∷ text) = few_by x text (x == 10) (newlines-few text)

-- the text of a happening is not empty
lines_some : (h : Event) → 0 < line_count h
lines_some h = grind arith

pub event_text-some : (h : Event) → is_in_range h ≡ true → 0 < length (event_text h)
event_text-some h is = omega (arith, newlines-few (event_text h), newlines-event h is, lines_some h)

pub shorter : (h : Event) (more text : List ℕ) → is_in_range h ≡ true → event_text h ++ more ≡ text
    → length more < length text
shorter h more text is begins = omega (arith, event_text-some h is, length-append (event_text h) more, ap length begins)

joined_some : (h : Event) (texts rest : List ℕ) → is_in_range h ≡ true → [] ≡ (event_text h ++ texts) ++ rest → ⊥
joined_some h texts rest is same = omega (
  arith,
  event_text-some h is,
  length-append (event_text h) texts,
  length-append (event_text h ++ texts) rest,
  ap length same,
)

-- a text is that of at most one trace
pub one_trace : (trace other : List Event) → are_in_range trace ≡ true → are_in_range other ≡ true
    → trace_text trace ≡ trace_text other → trace ≡ other
one_trace [] [] one two same = refl
one_trace [] (o ∷ other) one two same = absurd (joined_some o (trace_text other) []
    (and_parts (is_in_range o) (are_in_range other) two).0 (same ∙ sym (append-nil (event_text o ++ trace_text other))))
one_trace (t ∷ trace) [] one two same = absurd (joined_some t (trace_text trace) [] (and_parts (is_in_range t)
    (are_in_range trace) one).0 (sym same ∙ sym (append-nil (event_text t ++ trace_text trace))))
one_trace (t ∷ trace) (o ∷ other) one two same =
    let left = and_parts (is_in_range t) (are_in_range trace) one in
    let right = and_parts (is_in_range o) (are_in_range other) two in
    let first = begins_one t o (trace_text trace) (trace_text other) left.0 right.0 same in
    rw (first.0, one_trace trace other left.1 right.1 first.1) refl

-- a text with a line, after those of a trace, at which no happening begins is not the text of a trace
pub no_trace : (before trace : List Event) (rest : List ℕ) → are_in_range before ≡ true → are_in_range trace ≡ true
    → rest ≢ [] → BeginsNone rest → trace_text trace ≡ trace_text before ++ rest → ⊥
no_trace [] [] rest one two some none same = some (sym same)
no_trace [] (t ∷ trace) rest one two some none same =
    none t (trace_text trace) (and_parts (is_in_range t) (are_in_range trace) two).0 same
no_trace (b ∷ before) [] rest one two some none same =
    joined_some b (trace_text before) rest (and_parts (is_in_range b) (are_in_range before) one).0 same
no_trace (b ∷ before) (t ∷ trace) rest one two some none same =
    let left = and_parts (is_in_range b) (are_in_range before) one in
    let right = and_parts (is_in_range t) (are_in_range trace) two in
    let first = begins_one t b (trace_text trace) (trace_text before ++ rest) right.0 left.0
    (same ∙ append_assoc (event_text b) (trace_text before) rest) in
    no_trace before trace rest left.1 right.1 some none first.1

-- the number of the line after a happening, which is within the text
pub counted_on : (before more rest text : List ℕ) (h : Event) (number : ℕ) → is_in_range h ≡ true
    → event_text h ++ more ≡ rest → before ++ rest ≡ text → number ≡ newlines before + 1
    → (number + line_count h ≡ newlines (before ++ event_text h) + 1) × (number + line_count h ≤ length text + 1)
counted_on before more rest text h number is begins whole counted =
    let both : newlines (before ++ event_text h) ≡ newlines before + newlines (event_text h) =
    newlines-append before (event_text h) in
    let few : newlines (before ++ event_text h) ≤ length (before ++ event_text h) =
    newlines-few (before ++ event_text h) in
    let front : length (before ++ event_text h) ≤ length text =
    omega (
      arith,
      length-append before (event_text h),
      length-append before rest,
      length-append (event_text h) more,
      ap length begins,
      ap length whole,
    ) in
    (omega (arith, both, newlines-event h is, counted), omega (arith, both, newlines-event h is, counted, few, front))

pub none_left : (front rest text : List ℕ) → front ++ rest ≡ text → rest ≡ [] → front ≡ text
none_left front rest text whole empty = sym (append-nil front) ∙ ap (λ r. front ++ r) (sym empty) ∙ whole

-- a happening has no more lines than its text has bytes
pub lines_within : (h : Event) (more rest : List ℕ) → is_in_range h ≡ true → event_text h ++ more ≡ rest
    → line_count h + length more ≤ length rest
lines_within h more rest is begins =
    omega (arith, newlines-few (event_text h), newlines-event h is, length-append (event_text h) more, ap length begins)
