-- A whole text, part by part: what is read from the text of a state, and that nothing else can be.
use Rattle.core_text.proofs.CommonWords.{◌≡◌, ◌≢◌, ℕ, ◌<◌, ◌^◌, true, ◌&&◌, List, [], ◌∷◌, ◌++◌, length, map}
use Rattle.core_text.proofs.CommonWords.{append-nil, Option, Some, None, refl, sym, ap, ◌∙◌, arith, lit<, length-append}
use Rattle.core_text.proofs.CommonWords.{list_all, and_parts, and_from, lt-ltb, append_assoc, list_all-append}
use Rattle.core_text.proofs.CommonWords.{option_and_then_some, some_pair_parts, Entry, table_parts, table_begun}
use Rattle.core_text.proofs.CommonWords.{fields_written, is_table, text_of, PlainSlot, Version, holds_table}
use Rattle.core_text.proofs.CommonWords.{slot_line, table_line, text_of_lines, is_record, line_read, slot_line_read}
use Rattle.core_text.proofs.CommonWords.{table_in, table_line_read, table_read}
use Rattle.inittab_text.proofs.LineLemmas.{begun_back, begun_own}
use Rattle.core_text.proofs.Forms.{checked_some, line_front}
use Rattle.core_text.proofs.LineForms.{slot_front, table_line_form}
use Rattle.core_text.proofs.WordForms.{time_lacks}
use Rattle.core_text.proofs.Written.{table_lines}

-- The table.

unfoldable pub table_text : List Entry → List ℕ
table_text table = text_of_lines (table_line (length table) ∷ map fields_written table)

count_fits : (table : List Entry) → is_table table ≡ true → length table < 2 ^ 64
count_fits table is = omega (arith, (table_parts table is).0)

counted : (table : List Entry) (rest : List ℕ) → is_table table ≡ true
    → line_read table_line_read (table_text table ++ rest) ≡ Some (length table, text_of table ++ rest)
unfolding table_text
counted table rest is =
    let front = line_front _ _ _ table_line_form (time_lacks 10 (lit< tt)) in
    let regrouped : table_text table ++ rest ≡ (table_line (length table) ++ 10 ∷ []) ++ (text_of table ++ rest) =
    append_assoc (table_line (length table) ++ 10 ∷ []) (text_of_lines (map fields_written table)) rest
    ∙ ap (λ t. (table_line (length table) ++ 10 ∷ []) ++ (t ++ rest)) (sym (table_lines table)) in
    ap (line_read table_line_read) regrouped
    ∙ front.back (length table) (text_of table ++ rest) (lt-ltb (length table) (2 ^ 64) (count_fits table is))

in_back : (v : Version) (table : List Entry) (rest : List ℕ) → is_table table ≡ true → holds_table v table ≡ true
    → table_in v (length table) (text_of table ++ rest) ≡ Some (table, rest)
in_back v table rest is holds = grind (arith, begun_back)

pub table_back : (v : Version) (table : List Entry) (rest : List ℕ) → is_table table ≡ true → holds_table v table ≡ true
    → table_read v (table_text table ++ rest) ≡ Some (table, rest)
table_back v table rest is holds = rw (counted table rest is) (in_back v table rest is holds)

pub table_own : (v : Version) (text rest : List ℕ) (table : List Entry) → table_read v text ≡ Some (table, rest)
    → (table_text table ++ rest ≡ text) × (is_table table ≡ true) × (holds_table v table ≡ true)
unfolding table_text
table_own v text rest table is =
    option_and_then_some (λ (p : ℕ × List ℕ). table_in v p.0 p.1) (line_read table_line_read text) (table, rest) is
    (λ p at made.
    checked_some (λ (q : List Entry × List ℕ). holds_table v q.0) (table_begun p.0 p.1) (table, rest) made
    (λ found holds.
    let front = line_front _ _ _ table_line_form (time_lacks 10 (lit< tt)) in
    let head = front.own text p.0 p.1 at in
    let tail = begun_own p.0 p.1 rest table found in (
      append_assoc (table_line (length table) ++ 10 ∷ []) (text_of_lines (map fields_written table)) rest
          ∙ ap (λ t. (table_line (length table) ++ 10 ∷ []) ++ (t ++ rest)) (sym (table_lines table))
          ∙ ap (λ t. (table_line (length table) ++ 10 ∷ []) ++ t) tail.0
          ∙ ap (λ n. (table_line n ++ 10 ∷ []) ++ p.1) (sym tail.2) ∙ head.0,
      tail.1,
      holds,
    )))

-- The records.

unfoldable pub records_text : Version → List PlainSlot → List ℕ
records_text v records = text_of_lines (map (slot_line v) records)

pub push_text : (v : Version) (records : List PlainSlot) (slot : PlainSlot)
    → records_text v (records ++ slot ∷ []) ≡ records_text v records ++ (slot_line v slot ++ 10 ∷ [])
unfolding records_text
push_text v [] slot = append-nil (slot_line v slot ++ 10 ∷ [])
push_text v (r ∷ records) slot = ap (λ t. (slot_line v r ++ 10 ∷ []) ++ t) (push_text v records slot)
    ∙ sym (append_assoc (slot_line v r ++ 10 ∷ []) (records_text v records) (slot_line v slot ++ 10 ∷ []))

pub push_records : (v : Version) (records : List PlainSlot) (slot : PlainSlot) → list_all (is_record v) records
    ≡ true → is_record v slot ≡ true → list_all (is_record v) (records ++ slot ∷ []) ≡ true
push_records v records slot are is = list_all-append (is_record v) records (slot ∷ []) ∙ and_from
    (list_all (is_record v) records) (is_record v slot && true) are (and_from (is_record v slot) true is refl)

-- one more line is read
pub one_record : (v : Version) (text rest more : List ℕ) (records : List PlainSlot) (slot : PlainSlot)
    → list_all (is_record v) records ≡ true → records_text v records ++ rest ≡ text
    → line_read (slot_line_read v) rest ≡ Some (slot, more)
    → (list_all (is_record v) (records ++ slot ∷ []) ≡ true) × (records_text v (records ++ slot ∷ []) ++ more ≡ text)
    × (length more < length rest)
one_record v text rest more records slot are whole read =
    let own = (slot_front v).own rest slot more read in (
      push_records v records slot are own.1,
      ap (λ t. t ++ more) (push_text v records slot) ∙ append_assoc (records_text v records)
          (slot_line v slot ++ 10 ∷ []) more ∙ ap (λ t. records_text v records ++ t) own.0 ∙ whole,
      omega (
        arith,
        ap length own.0,
        length-append (slot_line v slot ++ 10 ∷ []) more,
        length-append (slot_line v slot) (10 ∷ []),
      ),
    )

-- a text whose next line cannot be read is not that of any records
pub no_records : (v : Version) (before records : List PlainSlot) (rest : List ℕ)
    → list_all (is_record v) before ≡ true → list_all (is_record v) records ≡ true → rest ≢ []
    → line_read (slot_line_read v) rest ≡ None → records_text v records ≡ records_text v before ++ rest → ⊥
unfolding records_text
no_records v [] [] rest one two some none same = some (sym same)
no_records v [] (r ∷ records) rest one two some none same =
    let read =
    (slot_front v).back r (records_text v records) (and_parts (is_record v r) (list_all (is_record v) records) two).0 in
    lost (sym none ∙ ap (line_read (slot_line_read v)) (sym same) ∙ read)
  where
    lost : ◌≡◌ {A = Option (PlainSlot × List ℕ)} None (Some (r, records_text v records)) → ⊥
    lost e = cc
no_records v (b ∷ before) [] rest one two some none same =
    omega (
      arith,
      ap length same,
      length-append ((slot_line v b ++ 10 ∷ []) ++ records_text v before) rest,
      length-append (slot_line v b ++ 10 ∷ []) (records_text v before),
      length-append (slot_line v b) (10 ∷ []),
    )
no_records v (b ∷ before) (r ∷ records) rest one two some none same =
    let left = and_parts (is_record v b) (list_all (is_record v) before) one in
    let right = and_parts (is_record v r) (list_all (is_record v) records) two in
    let first = (slot_front v).back b (records_text v before ++ rest) left.0 in
    let second = (slot_front v).back r (records_text v records) right.0 in
    let begins : Some (r, records_text v records) ≡ Some (b, records_text v before ++ rest) =
    sym second ∙ ap (line_read (slot_line_read v))
    (same ∙ append_assoc (slot_line v b ++ 10 ∷ []) (records_text v before) rest) ∙ first in
    no_records v before records rest left.1 right.1 some none
    (some_pair_parts r b (records_text v records) (records_text v before ++ rest) begins).1

-- the state before the first record, and after the last one
pub start : (v : Version) (text : List ℕ)
    → record { are : list_all (is_record v) [] ≡ true; whole : records_text v [] ++ text ≡ text }
unfolding records_text
start v text = record { are = refl; whole = refl }

pub none_left : (v : Version) (text rest : List ℕ) (records : List PlainSlot) → records_text v records ++ rest ≡ text
    → rest ≡ [] → text_of_lines (map (slot_line v) records) ≡ text
unfolding records_text
none_left v text rest records whole empty = sym (append-nil (text_of_lines (map (slot_line v) records)))
    ∙ ap (λ r. text_of_lines (map (slot_line v) records) ++ r) (sym empty) ∙ whole

pub records_are : (v : Version) (records : List PlainSlot)
    → records_text v records ≡ text_of_lines (map (slot_line v) records)
unfolding records_text
records_are v records = refl
