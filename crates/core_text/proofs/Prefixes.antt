-- The text of a state represents only one state, and its second line names that state's generation.
use Rattle.core_text.proofs.CommonWords.{◌≡◌, ℕ, true, false, subst, List, [], ◌∷◌, ◌++◌, length, drop, Some, refl, sym}
use Rattle.core_text.proofs.CommonWords.{ap, ◌∙◌, arith, list_all, and_parts, append_assoc, some_pair_parts, has_byte}
use Rattle.core_text.proofs.CommonWords.{cut-append, CoreFields, PlainSlot, SavedState, Version, V1, V2, body_lines}
use Rattle.core_text.proofs.CommonWords.{end_line, generation_line, slot_line, state_lines, text_of_lines, version_line}
use Rattle.core_text.proofs.CommonWords.{are_fields, is_generation, is_record, generation_line_read, generation_of}
use Rattle.core_text.proofs.CommonWords.{fields_read, line_read, slot_line_read, table_read, IsTextIn, IsTextOf}
use Rattle.core_text.proofs.Bodies.{Steps, body_text, state_parts, steps}
use Rattle.core_text.proofs.LineForms.{generation_lacks, generation_line_form, slot_front}
use Rattle.core_text.proofs.Taken.{whole_text}
use Rattle.core_text.proofs.Whole.{records_text, table_text}
use Rattle.core_text.proofs.WordForms.{version_lacks}

first : List ℕ → ℕ
first [] = 0
first (b ∷ text) = b

-- the line of a record begins with another byte than the last line
first_slot : (v : Version) (r : PlainSlot) (records : List PlainSlot) (rest : List ℕ)
    → first (records_text v (r ∷ records) ++ rest) ≡ 115
unfolding first records_text
first_slot V1 r records rest = refl
first_slot V2 r records rest = refl

-- what is read from a text that begins like those of two states
record Alike (v : Version) (one two : SavedState) (more rest : List ℕ) : Type 0 where
  pub fields : one.fields ≡ two.fields
  pub table : one.table ≡ two.table
  pub ends : records_text v one.records ++ more ≡ records_text v two.records ++ rest

alike : (v : Version) (one two : SavedState) (text more rest : List ℕ) → Steps v one text more → Steps v two text rest
    → Alike v one two more rest
alike v one two text more rest left right =
    let begun = (some_pair_parts _ _ _ _ (sym left.begins ∙ right.begins)).1 in
    let fields = some_pair_parts one.fields two.fields (table_text one.table ++ (records_text v one.records ++ more))
    (table_text two.table ++ (records_text v two.records ++ rest))
    (sym left.fields ∙ ap fields_read begun ∙ right.fields) in
    let table = some_pair_parts one.table two.table (records_text v one.records ++ more)
    (records_text v two.records ++ rest) (sym left.table ∙ ap (table_read v) fields.1 ∙ right.table) in
    record { fields = fields.0; table = table.0; ends = table.1 }

-- the records of two such texts are the same
same_ends : (v : Version) (one two : List PlainSlot) (m n : ℕ) → list_all (is_record v) one ≡ true
    → list_all (is_record v) two ≡ true
    → records_text v one ++ (end_line m ++ 10 ∷ []) ≡ records_text v two ++ (end_line n ++ 10 ∷ []) → one ≡ two
unfolding first records_text
same_ends v [] [] m n left right same = refl
same_ends v [] (r ∷ two) m n left right same = let bytes : 101 ≡ 115 =
    ap first same ∙ first_slot v r two (end_line n ++ 10 ∷ []) in absurd (omega (arith, bytes))
same_ends v (r ∷ one) [] m n left right same = let bytes : 115 ≡ 101 =
    sym (first_slot v r one (end_line m ++ 10 ∷ [])) ∙ ap first same in absurd (omega (arith, bytes))
same_ends v (r ∷ one) (s ∷ two) m n left right same =
    let here = and_parts (is_record v r) (list_all (is_record v) one) left in
    let there = and_parts (is_record v s) (list_all (is_record v) two) right in
    let regrouped = sym (append_assoc (slot_line v r ++ 10 ∷ []) (records_text v one) (end_line m ++ 10 ∷ [])) ∙ same
    ∙ append_assoc (slot_line v s ++ 10 ∷ []) (records_text v two) (end_line n ++ 10 ∷ []) in
    let both =
    some_pair_parts r s (records_text v one ++ (end_line m ++ 10 ∷ [])) (records_text v two ++ (end_line n ++ 10 ∷ []))
    (sym ((slot_front v).back r (records_text v one ++ (end_line m ++ 10 ∷ [])) here.0) ∙ ap (line_read
    (slot_line_read v)) regrouped ∙ (slot_front v).back s (records_text v two ++ (end_line n ++ 10 ∷ [])) there.0) in
    rw (both.0, same_ends v one two m n here.1 there.1 both.1) refl

-- what is read from the text of a state in a version
steps_in : (v : Version) (state : SavedState) (text : List ℕ) → IsTextIn v text state
    → Steps v state text (end_line (length (body_lines v state)) ++ 10 ∷ [])
unfolding body_text
steps_in v state text says =
    steps v state text (end_line (length (body_lines v state)) ++ 10 ∷ []) says.0 (sym (whole_text v state) ∙ says.1)

same_in : (v : Version) (one two : SavedState) (text : List ℕ) → IsTextIn v text one → IsTextIn v text two → one ≡ two
same_in v one two text left right =
    let n = length (body_lines v one) in
    let m = length (body_lines v two) in
    let both = alike v one two text (end_line n ++ 10 ∷ []) (end_line m ++ 10 ∷ []) (steps_in v one text left)
    (steps_in v two text right) in
    let records = same_ends v one.records two.records n m (state_parts v one left.0).records
    (state_parts v two right.0).records both.ends in
    rw (both.fields, both.table, records) refl

pub one_state : (text : List ℕ) (one two : SavedState) → IsTextOf text one → IsTextOf text two → one ≡ two
one_state text one two first second =
    same_in second.0 one two text (subst (λ v. IsTextIn v text one) same first.1) second.1
  where
    same : first.0 ≡ second.0
    same = (some_pair_parts _ _ _ _
        (sym (steps_in first.0 one text first.1).begins ∙ (steps_in second.0 two text second.1).begins)).0

-- the generation in a state's text
said_by : (v : Version) (line more text : List ℕ) (generation : ℕ) → has_byte 10 line ≡ false
    → generation_line_read line ≡ Some generation → (version_line v ++ 10 ∷ []) ++ ((line ++ 10 ∷ []) ++ more) ≡ text
    → generation_of text ≡ Some generation
said_by v line more text generation lacks read whole = grind (arith, append_assoc, cut-append, version_lacks)

pub generation_said : (text : List ℕ) (state : SavedState) → IsTextOf text state
    → generation_of text ≡ Some state.fields.generation
generation_said text state says =
    let v = says.0 in
    let known = head_known state.fields (state_parts v state says.1.0).fields in
    said_by v (generation_line state.fields.generation)
    (text_of_lines (drop 2 (state_lines v state))) text state.fields.generation
    (generation_lacks state.fields.generation known) (generation_line_form.back state.fields.generation known) says.1.1
  where
    head_known : (h : CoreFields) → are_fields h ≡ true → is_generation h.generation ≡ true
    head_known h are = grind arith
