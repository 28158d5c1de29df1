-- A whole text is read as at most one state, and the reasons for which it is rejected.
use Rattle.core_text.proofs.CommonWords.{◌≡◌, ◌≢◌, ℕ, ◌<◌, ◌^◌, true, false, not, ◌==◌, List, [], ◌∷◌, ◌++◌, length}
use Rattle.core_text.proofs.CommonWords.{append-nil, codes, Option, Some, None, refl, sym, ap, ◌∙◌, arith, lit<}
use Rattle.core_text.proofs.CommonWords.{length-append, list_all, starts_with, and_parts, lt-ltb, not-true}
use Rattle.core_text.proofs.CommonWords.{append_assoc, some_pair_parts, cut, has_byte, newlines, cut-append, StateFault}
use Rattle.core_text.proofs.CommonWords.{Version, PlainSlot, SavedState, body_lines, end_line, slot_line, text_in}
use Rattle.core_text.proofs.CommonWords.{text_of_lines, version_line, is_record, is_time, end_line_read, end_split}
use Rattle.core_text.proofs.CommonWords.{line_read, slot_line_read, table_read, version_read, BeginsAs, BeginsAsKnown}
use Rattle.core_text.proofs.CommonWords.{IsBody, IsBodyIn, IsCut, IsOtherVersion, Refused, RefusedBody, IsTextIn}
use Rattle.core_text.proofs.CommonWords.{IsTextOf, SaysNone, Whole, is_line}
use Rattle.trace_text.proofs.ReadTexts.{newlines-few}
use Rattle.core_text.specs.declared.state_fault.StateFault.TheVariants as fault
use Rattle.core_text.proofs.Bodies.{body_lines_are, fields_text, lost, newlines_are, of_version, split_back, split_own}
use Rattle.core_text.proofs.Bodies.{state_parts, steps_of, to_fields, version_back, version_own}
use Rattle.core_text.proofs.LineForms.{end_line_form, slot_front}
use Rattle.core_text.proofs.Whole.{records_text, table_text}
use Rattle.core_text.proofs.WordForms.{time_lacks, version_lacks}
use Rattle.core_text.proofs.Written.{text_of_lines-append}

-- a text is that of only one list of records
empty_records : (v : Version) (r : PlainSlot) (records : List PlainSlot) → [] ≡ records_text v (r ∷ records) → ⊥
unfolding records_text
empty_records v r records same = omega (
  arith,
  ap length same,
  length-append (slot_line v r ++ 10 ∷ []) (records_text v records),
  length-append (slot_line v r) (10 ∷ []),
)

pub same_records : (v : Version) (one two : List PlainSlot) → list_all (is_record v) one ≡ true
    → list_all (is_record v) two ≡ true → records_text v one ≡ records_text v two → one ≡ two
unfolding records_text
same_records v [] [] first second same = refl
same_records v [] (r ∷ two) first second same = absurd (empty_records v r two same)
same_records v (r ∷ one) [] first second same = absurd (empty_records v r one (sym same))
same_records v (r ∷ one) (s ∷ two) first second same =
    let left = and_parts (is_record v r) (list_all (is_record v) one) first in
    let right = and_parts (is_record v s) (list_all (is_record v) two) second in
    let both = some_pair_parts r s (records_text v one) (records_text v two) (sym ((slot_front v).back r (records_text v
    one) left.0) ∙ ap (line_read (slot_line_read v)) same ∙ (slot_front v).back s (records_text v two) right.0) in
    rw (both.0, same_records v one two left.1 right.1 both.1) refl

-- a text is that of only one state
same_in : (v : Version) (one two : SavedState) (text : List ℕ) → IsBodyIn v text one → IsBodyIn v text two → one ≡ two
same_in v one two text first second =
    let left = steps_of v one text first in
    let right = steps_of v two text second in
    let fields = to_fields v two text (fields_text one.fields ++ (table_text one.table ++ (records_text v one.records
    ++ []))) (table_text one.table ++ (records_text v one.records ++ [])) one.fields left.begins left.fields right in
    let table = some_pair_parts one.table two.table (records_text v one.records ++ [])
    (records_text v two.records ++ []) (sym left.table ∙ ap (table_read v) fields.1 ∙ right.table) in
    let texts = sym (append-nil (records_text v one.records)) ∙ table.1 ∙ append-nil (records_text v two.records) in
    let records = same_records v one.records two.records (state_parts v one first.0).records
    (state_parts v two second.0).records texts in
    rw (fields.0, table.0, records) refl

pub same_body : (one two : SavedState) (text : List ℕ) → IsBody text one → IsBody text two → one ≡ two
same_body one two text first second =
    same_in first.0 one two text first.1
    (of_version first.0 two text _ (steps_of first.0 one text first.1).begins second)

-- The whole text.

pub whole_text : (v : Version) (state : SavedState)
    → text_in v state ≡ text_of_lines (body_lines v state) ++ (end_line (length (body_lines v state)) ++ 10 ∷ [])
whole_text v state = text_of_lines-append (body_lines v state) (end_line (length (body_lines v state)) ∷ [])
    ∙ ap (λ t. text_of_lines (body_lines v state) ++ t) (append-nil (end_line (length (body_lines v state)) ++ 10 ∷ []))

counted : (v : Version) (state : SavedState) (text : List ℕ) → IsTextIn v text state → length text < 2 ^ 64
    → is_time (length (body_lines v state)) ≡ true
counted v state text says fits =
    let few = newlines-few (text_of_lines (body_lines v state)) in
    let lines = newlines_are (body_lines v state) (body_lines_are v state says.0) in
    let front =
    length-append (text_of_lines (body_lines v state)) (end_line (length (body_lines v state)) ++ 10 ∷ []) in
    lt-ltb (length (body_lines v state)) (2 ^ 64)
    (omega (arith, few, lines, front, ap length (sym (whole_text v state) ∙ says.1), fits))

pub split_in : (v : Version) (state : SavedState) (text : List ℕ) → IsTextIn v text state → length text < 2 ^ 64
    → end_split text ≡ Some (text_of_lines (body_lines v state), end_line (length (body_lines v state)))
split_in v state text says fits =
    let lacks : has_byte 10 (end_line (length (body_lines v state))) ≡ false =
    time_lacks 10 (lit< tt) (length (body_lines v state)) (counted v state text says fits) in
    split_back (body_lines v state) (end_line (length (body_lines v state))) text (body_lines_are v state says.0)
    (ap not lacks) refl (sym (whole_text v state) ∙ says.1)

pub no_split : (state : SavedState) (text : List ℕ) → IsTextOf text state → length text < 2 ^ 64 → end_split text ≡ None
    → ⊥
no_split state text says fits none = lost _ (sym none ∙ split_in says.0 state text says.1 fits)

-- the lines before the last one, in the text of a state
pub body_of : (state : SavedState) (text body last : List ℕ) → IsTextOf text state → length text < 2 ^ 64
    → end_split text ≡ Some (body, last) → IsBody body state × (end_line_read last ≡ Some (newlines body))
body_of state text body last says fits at =
    let v = says.0 in
    let both = some_pair_parts (text_of_lines (body_lines v state)) body (end_line (length (body_lines v state))) last
    (sym (split_in v state text says.1 fits) ∙ at) in
    let lines : newlines body ≡ length (body_lines v state) =
    ap newlines (sym both.0) ∙ newlines_are (body_lines v state) (body_lines_are v state says.1.0) in (
      (v, (says.1.0, both.0)),
      ap end_line_read (sym both.1)
          ∙ end_line_form.back (length (body_lines v state)) (counted v state text says.1 fits) ∙ ap Some (sym lines),
    )

pub says_of : (state : SavedState) (text body last : List ℕ) → end_split text ≡ Some (body, last) → IsBody body state
    → end_line_read last ≡ Some (newlines body) → IsTextOf text state
says_of state text body last at is end =
    let v = is.0 in
    let split = split_own text body last at in
    let own = end_line_form.own last (newlines body) end in
    let lines : length (body_lines v state) ≡ newlines body =
    sym (newlines_are (body_lines v state) (body_lines_are v state is.1.0)) ∙ ap newlines is.1.1 in
    let last_is : end_line (length (body_lines v state)) ≡ last = ap end_line lines ∙ own.0 in (
      v,
      (
        is.1.0,
        whole_text v state ∙ ap (λ l. text_of_lines (body_lines v state) ++ (l ++ 10 ∷ [])) last_is
            ∙ ap (λ b. b ++ (last ++ 10 ∷ [])) (is.1.1 ∙ sym split.body_is) ∙ split.whole,
      ),
    )

-- Why a text is rejected.

pub whole_of : (text body last : List ℕ) → end_split text ≡ Some (body, last) → Whole text
whole_of text body last at =
    let split = split_own text body last at in
    record {
      lines = split.lines;
      last = last;
      are_lines = split.are;
      is_last = split.is;
      begins = split.begins;
      whole = split.whole;
    }

pub cut_refused : (text : List ℕ) → end_split text ≡ None → IsCut text
cut_refused text none whole =
    lost _ (sym none ∙ split_back whole.lines whole.last text whole.are_lines whole.is_last whole.begins whole.whole)

known_of : (v : Version) (text body last rest : List ℕ) → end_split text ≡ Some (body, last)
    → version_read body ≡ Some (v, rest) → BeginsAs v text (rest ++ (last ++ 10 ∷ []))
known_of v text body last rest at read =
    let split = split_own text body last at in
    sym (append_assoc (version_line v) (10 ∷ rest) (last ++ 10 ∷ []))
    ∙ ap (λ b. b ++ (last ++ 10 ∷ [])) (version_own v body rest read ∙ sym split.body_is) ∙ split.whole

-- a text of an unknown version begins with an unknown line
pub other_body : (text body last : List ℕ) → end_split text ≡ Some (body, last) → IsOtherVersion text
    → version_read body ≡ None
other_body text body last at other = by (version_read body) refl
  where
    by : (o : Option (Version × List ℕ)) → version_read body ≡ o → o ≡ None
    by None is = refl
    by (Some p) is = absurd (other.1 p.0 (p.1 ++ (last ++ 10 ∷ [])) (known_of p.0 text body last p.1 at is))

-- cutting a text that begins with the version's line at its first newline
cut_version : (v : Version) (rest : List ℕ) → cut 10 (version_line v ++ 10 ∷ rest) ≡ Some (version_line v, rest)
cut_version v rest = cut-append 10 (version_line v) rest (version_lacks v refl)

no_version : (lines : List (List ℕ)) (last text body : List ℕ) (v : Version) (rest : List ℕ)
    → list_all is_line lines ≡ true → is_line last ≡ true → starts_with ◌==◌ last (codes "end ") ≡ true
    → text_of_lines lines ≡ body → text_of_lines lines ++ (last ++ 10 ∷ []) ≡ text
    → version_read body ≡ None → BeginsAs v text rest → ⊥
no_version [] last text body v rest are is begins here whole none known = grind arith
no_version (line ∷ lines) last text body v rest are is begins here whole none known =
    let lacks = not-true (has_byte 10 line) (and_parts (is_line line) (list_all is_line lines) are).0 in
    let regrouped : ((line ++ 10 ∷ []) ++ text_of_lines lines) ++ (last ++ 10 ∷ [])
    ≡ line ++ 10 ∷ (text_of_lines lines ++ (last ++ 10 ∷ [])) =
    append_assoc (line ++ 10 ∷ []) (text_of_lines lines) (last ++ 10 ∷ [])
    ∙ append_assoc line (10 ∷ []) (text_of_lines lines ++ (last ++ 10 ∷ [])) in
    let both = some_pair_parts line (version_line v) (text_of_lines lines ++ (last ++ 10 ∷ [])) rest
    (sym (cut-append 10 line (text_of_lines lines ++ (last ++ 10 ∷ [])) lacks)
    ∙ ap (cut 10) (sym regrouped ∙ whole ∙ sym known) ∙ cut_version v rest) in
    let read : version_read body ≡ Some (v, text_of_lines lines) = ap version_read
    (sym here ∙ append_assoc line (10 ∷ []) (text_of_lines lines) ∙ ap (λ l. l ++ 10 ∷ text_of_lines lines) both.0)
    ∙ version_back v (text_of_lines lines) in
    lost _ (sym none ∙ read)

record Named (body : List ℕ) : Type 0 where
  pub version : Version
  pub rest : List ℕ
  pub read : version_read body ≡ Some (version, rest)

some_version : (body : List ℕ) → version_read body ≢ None → Named body
some_version body known = grind arith

known_by : (text body last : List ℕ) → end_split text ≡ Some (body, last) → Named body → BeginsAsKnown text
known_by text body last at known =
    (known.version, (known.rest ++ (last ++ 10 ∷ []), known_of known.version text body last known.rest at known.read))

-- what rejects the lines before the last one rejects the text
pub body_refused : (text body last : List ℕ) (generation : ℕ) (why : StateFault) → length text < 2 ^ 64
    → end_split text ≡ Some (body, last) → RefusedBody body why → Refused text generation why
body_refused text body last generation fault.Cut fits at is = absurd is
body_refused text body last generation fault.Version fits at is =
    let split = split_own text body last at in (
      whole_of text body last at,
      λ v rest known.
          no_version split.lines last text body v rest split.are split.is split.begins split.body_is split.whole is
          known,
    )
body_refused text body last generation (fault.Line n) fits at is = (
  whole_of text body last at,
  known_by text body last at (some_version body is.0),
  λ state says. is.1 state (body_of state text body last says fits at).0,
)
body_refused text body last generation fault.Generation fits at is = absurd is
body_refused text body last generation fault.Unfit fits at is = is
body_refused text body last generation fault.Worn fits at is = is
body_refused text body last generation fault.Memory fits at is = tt

-- the text of a state is only rejected for lack of memory
pub body_never : (text body last : List ℕ) (state : SavedState) (why : StateFault) → length text < 2 ^ 64
    → end_split text ≡ Some (body, last) → IsTextOf text state → RefusedBody body why → why ≡ fault.Memory
body_never text body last state fault.Cut fits at says is = absurd is
body_never text body last state fault.Version fits at says is =
    let own = (body_of state text body last says fits at).0 in
    absurd (lost _ (sym is ∙ (steps_of own.0 state body own.1).begins))
body_never text body last state (fault.Line n) fits at says is =
    absurd (is.1 state (body_of state text body last says fits at).0)
body_never text body last state fault.Generation fits at says is = absurd is
body_never text body last state fault.Unfit fits at says is = absurd is
body_never text body last state fault.Worn fits at says is = absurd is
body_never text body last state fault.Memory fits at says is = refl

-- the last line gives a wrong number
pub end_refused : (text body last : List ℕ) (state : SavedState) → length text < 2 ^ 64
    → end_split text ≡ Some (body, last) → IsBody body state → end_line_read last ≢ Some (newlines body)
    → Whole text × BeginsAsKnown text × SaysNone text
end_refused text body last state fits at is other =
    let known : Named body = record { version = is.0; rest = _; read = (steps_of is.0 state body is.1).begins } in (
      whole_of text body last at,
      known_by text body last at known,
      λ one says. other (body_of one text body last says fits at).1,
    )

pub only_one : (text body last : List ℕ) (state one : SavedState) → length text < 2 ^ 64
    → end_split text ≡ Some (body, last) → IsBody body state → IsTextOf text one → state ≡ one
only_one text body last state one fits at is says =
    same_body state one body is (body_of one text body last says fits at).0
