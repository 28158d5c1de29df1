-- Only the last line of a state's text begins with `end `, so no text that is cut short is whole.
use Rattle.core_text.proofs.CommonWords.{◌≡◌, ℕ, zero, suc, ◌+◌, ◌/◌, ◌%◌, ◌<◌, Bool, true, false, cond, not, ◌==◌}
use Rattle.core_text.proofs.CommonWords.{nat_lt, List, [], ◌∷◌, ◌++◌, length, drop, map, codes, decimal, refl, sym, ap}
use Rattle.core_text.proofs.CommonWords.{◌∙◌, subst, arith, lit<, length-append, list_all, starts_with, and_parts}
use Rattle.core_text.proofs.CommonWords.{ne_eqb, not-true, or_from, append_assoc, list_all-append, some_pair_parts}
use Rattle.core_text.proofs.CommonWords.{starts_is, cut, has_byte, cut-append, Entry, word_of, is_id_byte, id_parts}
use Rattle.core_text.proofs.CommonWords.{table_parts, parts, fields_written, is_written, levels_written, PlainSlot}
use Rattle.core_text.proofs.CommonWords.{SavedState, Version, body_lines, end_line, slot_line, text_of_lines, is_state}
use Rattle.core_text.proofs.CommonWords.{IsTextOf, Whole, is_line}
use Rattle.std.specs.Fmt.{digit_glyph, digits, digits_onto}
use Rattle.std.proofs.lemmas.Bool.Decides.{Decides-eqb}
use Rattle.core_text.proofs.Bodies.{body_lines_are, state_parts}
use Rattle.core_text.proofs.Taken.{whole_text}

-- The lines before the last one.

-- the line does not begin like the last line of a text
abbrev is_inner : List ℕ → Bool
is_inner line = not (starts_with ◌==◌ line (codes "end "))

falsely : false ≡ true → ⊥
falsely e = cc

first : List ℕ → ℕ
first [] = 0
first (b ∷ text) = b

-- an id has no blank, and is followed by a colon
no_end : (id rest more : List ℕ) → list_all is_id_byte id ≡ true → id ++ 58 ∷ rest ≡ codes "end " ++ more → ⊥
unfolding first
no_end [] rest more are same = let bytes : 58 ≡ 101 = ap first same in absurd (omega (arith, bytes))
no_end (a ∷ []) rest more are same = let bytes : 58 ≡ 110 = ap (λ t. first (drop 1 t)) same in
    absurd (omega (arith, bytes))
no_end (a ∷ b ∷ []) rest more are same = let bytes : 58 ≡ 100 = ap (λ t. first (drop 2 t)) same in
    absurd (omega (arith, bytes))
no_end (a ∷ b ∷ c ∷ []) rest more are same = let bytes : 58 ≡ 32 = ap (λ t. first (drop 3 t)) same in
    absurd (omega (arith, bytes))
no_end (a ∷ b ∷ c ∷ d ∷ id) rest more are same =
    let byte : d ≡ 32 = ap (λ t. first (drop 3 t)) same in
    let second = and_parts (is_id_byte a) (list_all is_id_byte (b ∷ c ∷ d ∷ id)) are in
    let third = and_parts (is_id_byte b) (list_all is_id_byte (c ∷ d ∷ id)) second.1 in
    let fourth = and_parts (is_id_byte c) (list_all is_id_byte (d ∷ id)) third.1 in
    let is = (and_parts (is_id_byte d) (list_all is_id_byte id) fourth.1).0 in
    falsely (subst (λ n. is_id_byte n ≡ true) byte is)

entry_inner : (e : Entry) → is_written e ≡ true → is_inner (fields_written e) ≡ true
entry_inner e written = by (starts_with ◌==◌ (fields_written e) (codes "end ")) refl
  where
    by : (b : Bool) → starts_with ◌==◌ (fields_written e) (codes "end ") ≡ b → not b ≡ true
    by true starts = absurd (no_end e.id (levels_written e.act e.levels.items ++ 58 ∷ (word_of e.act ++ 58
        ∷ e.process.items)) (drop 4 (fields_written e)) (id_parts e.id (parts e written).id).bytes
        ((starts_is Decides-eqb (fields_written e) (codes "end ") _ refl).0 starts))
    by false starts = refl

entries_inner : (table : List Entry) → list_all is_written table ≡ true
    → list_all is_inner (map fields_written table) ≡ true
entries_inner [] are = grind (arith, entry_inner)
entries_inner (e ∷ table) are = grind (arith, entries_inner table, entry_inner)

slots_inner : (v : Version) (records : List PlainSlot) → list_all is_inner (map (slot_line v) records) ≡ true
slots_inner v [] = grind arith
slots_inner v (r ∷ records) = grind (arith, slots_inner v records)

lines_inner : (v : Version) (state : SavedState) → is_state v state ≡ true
    → list_all is_inner (map fields_written state.table ++ map (slot_line v) state.records) ≡ true
lines_inner v state is = grind (arith, table_parts, state_parts, list_all-append, entries_inner, slots_inner)

body_inner : (v : Version) (state : SavedState) → is_state v state ≡ true
    → list_all is_inner (body_lines v state) ≡ true
body_inner v state is = grind (arith, lines_inner)

-- The last line.

-- a number contains no newline
module _ (byte : ℕ) (low : byte < 48) where
  glyph_lacks : (d : ℕ) (b : Bool) → (cond b (48 + d) (87 + d) == byte) ≡ false
  glyph_lacks d true = ne_eqb (48 + d) byte (λ same. omega (arith, low, same))
  glyph_lacks d false = ne_eqb (87 + d) byte (λ same. omega (arith, low, same))

  either : (b : Bool) (one two : List ℕ) → has_byte byte one ≡ false → has_byte byte two ≡ false
      → has_byte byte (cond b one two) ≡ false
  either true one two here there = here
  either false one two here there = there

  digits_lack : (k n : ℕ) (more : List ℕ) → has_byte byte more ≡ false
      → has_byte byte (digits_onto k 10 false n more) ≡ false
  digits_lack zero n more none = none
  digits_lack (suc k) n more none =
      let digit = digit_glyph false (n % 10) in
      let one : has_byte byte (digit ∷ more) ≡ false =
      or_from (digit == byte) (has_byte byte more) (glyph_lacks (n % 10) (nat_lt (n % 10) 10)) none in
      either (n / 10 == 0) (digit ∷ more) (digits_onto k 10 false (n / 10) (digit ∷ more)) one
      (digits_lack k (n / 10) (digit ∷ more) one)

  number_lacks : (n : ℕ) → has_byte byte (decimal n) ≡ false
  unfolding digits
  number_lacks n = digits_lack 64 n [] refl

end_lacks : (n : ℕ) → has_byte 10 (end_line n) ≡ false
end_lacks n = number_lacks 10 (lit< tt) n

-- Whole texts.

regrouped : (line : List ℕ) (lines : List (List ℕ)) (rest : List ℕ)
    → text_of_lines (line ∷ lines) ++ rest ≡ line ++ 10 ∷ (text_of_lines lines ++ rest)
regrouped line lines rest = append_assoc (line ++ 10 ∷ []) (text_of_lines lines) rest
    ∙ append_assoc line (10 ∷ []) (text_of_lines lines ++ rest)

-- two equal texts have the same first line
first_same : (one two rest more : List ℕ) → has_byte 10 one ≡ false → has_byte 10 two ≡ false
    → one ++ 10 ∷ rest ≡ two ++ 10 ∷ more → (one ≡ two) × (rest ≡ more)
first_same one two rest more here there same = some_pair_parts one two rest more
    (sym (cut-append 10 one rest here) ∙ ap (cut 10) same ∙ cut-append 10 two more there)

-- a line that begins like the last one is the last one
at_end : (lines body : List (List ℕ)) (last end more : List ℕ) → list_all is_line lines ≡ true → is_line last ≡ true
    → starts_with ◌==◌ last (codes "end ") ≡ true
    → list_all is_line body ≡ true → list_all is_inner body ≡ true → has_byte 10 end ≡ false
    → text_of_lines lines ++ (last ++ 10 ∷ more) ≡ text_of_lines body ++ (end ++ 10 ∷ []) → more ≡ []
at_end [] [] last end more are is begins own inner lacks same =
    (first_same last end more [] (not-true (has_byte 10 last) is) lacks same).1
at_end [] (b ∷ body) last end more are is begins own inner lacks same =
    let here = and_parts (is_line b) (list_all is_line body) own in
    let one = (first_same last b more (text_of_lines body ++ (end ++ 10 ∷ [])) (not-true (has_byte 10 last) is)
    (not-true (has_byte 10 b) here.0) (same ∙ regrouped b body (end ++ 10 ∷ []))).0 in
    let other = (and_parts (is_inner b) (list_all is_inner body) inner).0 in
    absurd (falsely (ap not (sym (subst (λ l. starts_with ◌==◌ l (codes "end ") ≡ true) one begins)) ∙ other))
at_end (l ∷ lines) [] last end more are is begins own inner lacks same =
    let here = and_parts (is_line l) (list_all is_line lines) are in
    let none = (first_same l end (text_of_lines lines ++ (last ++ 10 ∷ more)) [] (not-true (has_byte 10 l) here.0) lacks
    (sym (regrouped l lines (last ++ 10 ∷ more)) ∙ same)).1 in
    absurd (omega
    (arith, ap length none, length-append (text_of_lines lines) (last ++ 10 ∷ more), length-append last (10 ∷ more)))
at_end (l ∷ lines) (b ∷ body) last end more are is begins own inner lacks same =
    let here = and_parts (is_line l) (list_all is_line lines) are in
    let there = and_parts (is_line b) (list_all is_line body) own in
    let rest = (first_same l b (text_of_lines lines ++ (last ++ 10 ∷ more)) (text_of_lines body ++ (end ++ 10 ∷ []))
    (not-true (has_byte 10 l) here.0) (not-true (has_byte 10 b) there.0)
    (sym (regrouped l lines (last ++ 10 ∷ more)) ∙ same ∙ regrouped b body (end ++ 10 ∷ []))).1 in
    at_end lines body last end more here.1 is begins there.1
    (and_parts (is_inner b) (list_all is_inner body) inner).1 lacks rest

pub whole_ends : (text front more : List ℕ) (state : SavedState) → IsTextOf text state → front ++ more ≡ text
    → Whole front → more ≡ []
whole_ends text front more state says parts whole =
    let grouped : text_of_lines whole.lines ++ (whole.last ++ 10 ∷ more) ≡ front ++ more =
    sym (append_assoc (text_of_lines whole.lines) (whole.last ++ 10 ∷ []) more ∙ ap
    (λ t. text_of_lines whole.lines ++ t) (append_assoc whole.last (10 ∷ []) more)) ∙ ap (λ t. t ++ more) whole.whole in
    let v = says.0 in
    at_end whole.lines (body_lines v state) whole.last
    (end_line (length (body_lines v state))) more whole.are_lines whole.is_last whole.begins
    (body_lines_are v state says.1.0) (body_inner v state says.1.0) (end_lacks (length (body_lines v state)))
    (grouped ∙ parts ∙ sym says.1.1 ∙ whole_text v state)

-- the text of a state is whole, so it is not a proper prefix of another one
whole_state : (text : List ℕ) (state : SavedState) → IsTextOf text state → Whole text
whole_state text state says =
    let v = says.0 in
    record {
      lines = body_lines v state;
      last = end_line (length (body_lines v state));
      are_lines = body_lines_are v state says.1.0;
      is_last = ap not (end_lacks (length (body_lines v state)));
      begins = refl;
      whole = sym (whole_text v state) ∙ says.1.1;
    }

pub no_prefix : (one two : SavedState) (text more : List ℕ) → IsTextOf text one → IsTextOf (text ++ more) two
    → more ≡ []
no_prefix one two text more first second =
    whole_ends (text ++ more) text more two second refl (whole_state text one first)
