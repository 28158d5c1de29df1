-- Lemmas on cutting a text at the first occurrence of a byte, and on its lines.
use Rattle.text_lines.proofs.CommonWords.{◌≡◌, ◌⊎◌, ℕ, suc, ◌+◌, ◌<◌, Bool, true, false, cond, ◌==◌, List, [], ◌∷◌}
use Rattle.text_lines.proofs.CommonWords.{◌++◌, length, take, drop, slice_index, Option, Some, None, refl, sym, ◌∙◌}
use Rattle.text_lines.proofs.CommonWords.{arith, inl, inr, false_from_ne_true, or_parts, eqb-true, onto_first, cut}
use Rattle.text_lines.proofs.CommonWords.{has_byte, lines_of, skip_blanks}
use Rattle.std.specs.Option.{option_map}
use Rattle.std.proofs.lemmas.List.Folds.{list_any-append}

pub cut-none : (mark : ℕ) (text : List ℕ) → ((k : ℕ) → k < length text → (slice_index text k == mark) ≡ true → ⊥)
    → cut mark text ≡ None
cut-none mark [] h = refl
cut-none mark (b ∷ text) h =
    let here : (b == mark) ≡ false = false_from_ne_true (b == mark) (h 0 (omega arith)) in
    let rest : cut mark text ≡ None = cut-none mark text (λ k within is. h (suc k) (omega arith) is) in
    rw (here, rest) refl

pub cut-first : (mark : ℕ) (text : List ℕ) (k : ℕ) → k < length text → ((j : ℕ) → j < k → (slice_index text j == mark)
    ≡ true → ⊥) → (slice_index text k == mark) ≡ true → cut mark text ≡ Some (take k text, drop (k + 1) text)
cut-first mark (b ∷ text) (suc k) within before here =
    let other : (b == mark) ≡ false = false_from_ne_true (b == mark) (before 0 (omega arith)) in
    let rest : cut mark text ≡ Some (take k text, drop (k + 1) text) =
    cut-first mark text k (omega arith) (λ j within is. before (suc j) (omega arith) is) here in
    let more : suc k + 1 ≡ suc (k + 1) = omega arith in
    rw (other, rest, more) refl
cut-first mark text k within before here = grind arith

-- the cut of a text that begins with the byte
abbrev at_once : List ℕ → Option (List ℕ × List ℕ)
at_once text = Some ([], text)

-- a cut found the byte either at the start of the text or later
abbrev Began : ℕ → ℕ → List ℕ → List ℕ → List ℕ → Type 0
Began mark b text left right = ((left ≡ []) × (right ≡ text) × ((b == mark) ≡ true))
    ⊎ ((more : List ℕ) × (left ≡ b ∷ more) × (cut mark text ≡ Some (more, right)) × ((b == mark) ≡ false))

began_later : (mark b : ℕ) (text left right : List ℕ) (o : Option (List ℕ × List ℕ)) → cut mark text ≡ o
    → (b == mark) ≡ false → option_map (onto_first b) o ≡ Some (left, right) → Began mark b text left right
began_later mark b text left right o was other is = grind arith

began_by : (mark b : ℕ) (text left right : List ℕ) (x : Bool) → (b == mark) ≡ x → cond x (at_once text)
    (option_map (onto_first b) (cut mark text)) ≡ Some (left, right) → Began mark b text left right
began_by mark b text left right true here is = grind arith
began_by mark b text left right false other is = began_later mark b text left right (cut mark text) refl other is

began : (mark b : ℕ) (text left right : List ℕ) → cut mark (b ∷ text) ≡ Some (left, right)
    → Began mark b text left right
began mark b text left right is = began_by mark b text left right (b == mark) refl is

-- the two parts of a cut and the byte between them are the whole text, and the first part does not contain the byte
pub cut-parts : (mark : ℕ) (text left right : List ℕ) → cut mark text ≡ Some (left, right)
    → (text ≡ left ++ mark ∷ right) × (has_byte mark left ≡ false)
cut-parts mark [] left right is = absurd (cc)
cut-parts mark (b ∷ text) left right is =
    elim (began mark b text left right is) [
      | inl g ↦ (let byte : b ≡ mark = eqb-true b mark g.2 in rw (g.0, g.1, byte) refl, rw g.0 refl)
      | inr g ↦ (let rest = cut-parts mark text g.0 right g.2 in (rw (g.1, rest.0) refl, rw (g.1, g.3, rest.1) refl))
    ]

-- if there is no cut, the first byte is another one and there is no cut of the rest
none_by : (mark b : ℕ) (text : List ℕ) (x : Bool) (o : Option (List ℕ × List ℕ))
    → cond x (at_once text) (option_map (onto_first b) o) ≡ None → (x ≡ false) × (o ≡ None)
none_by mark b text true o is = absurd (cc)
none_by mark b text false None is = (refl, refl)
none_by mark b text false (Some p) is = absurd (cc)

pub cut-lacks : (mark : ℕ) (text : List ℕ) → cut mark text ≡ None → has_byte mark text ≡ false
cut-lacks mark [] is = grind arith
cut-lacks mark (b ∷ text) is = grind (arith, cut-lacks mark text)

-- cutting two parts joined by the byte gives the parts, if the first part does not contain it
pub cut-append : (mark : ℕ) (left right : List ℕ) → has_byte mark left ≡ false
    → cut mark (left ++ mark ∷ right) ≡ Some (left, right)
cut-append mark [] right lacks = grind arith
cut-append mark (b ∷ left) right lacks = grind (arith, cut-append mark left right)

-- the first line of a text, and the lines of the rest
pub lines_of-cut : (text left right : List ℕ) → cut 10 text ≡ Some (left, right) → lines_of text ≡ left ∷ lines_of right
lines_of-cut [] left right is = absurd (cc)
lines_of-cut (b ∷ text) left right is =
    elim (began 10 b text left right is) [
      | inl g ↦ rw (g.2, g.0, g.1) refl
      | inr g ↦ rw (g.3, g.1, lines_of-cut text g.0 right g.2) refl
    ]

-- a text without a newline is a single line
pub lines_of-last : (text : List ℕ) → 0 < length text → cut 10 text ≡ None → lines_of text ≡ text ∷ []
lines_of-last (b ∷ c ∷ text) some is =
    let parts = none_by 10 b (c ∷ text) (b == 10) (cut 10 (c ∷ text)) is in
    let rest : lines_of (c ∷ text) ≡ (c ∷ text) ∷ [] = lines_of-last (c ∷ text) (omega arith) parts.1 in
    rw (parts.0, rest) refl
lines_of-last text some is = grind (arith, none_by)

-- a line and a text joined by a newline have the line and then the lines of the text
pub lines_of-append : (left right : List ℕ) → has_byte 10 left ≡ false
    → lines_of (left ++ 10 ∷ right) ≡ left ∷ lines_of right
lines_of-append left right lacks = lines_of-cut (left ++ 10 ∷ right) left right (cut-append 10 left right lacks)

-- a byte that occurs in neither of two texts does not occur in both joined
pub has_byte-append : (byte : ℕ) (left right : List ℕ) → has_byte byte left ≡ false → has_byte byte right ≡ false
    → has_byte byte (left ++ right) ≡ false
has_byte-append byte left right first second = list_any-append (λ b. b == byte) left right ∙ rw (first, second) refl

-- a byte that does not occur in two texts joined occurs in neither
pub has_byte-parts : (byte : ℕ) (left right : List ℕ) → has_byte byte (left ++ right) ≡ false
    → (has_byte byte left ≡ false) × (has_byte byte right ≡ false)
has_byte-parts byte left right lacks =
    or_parts (has_byte byte left) (has_byte byte right) (sym (list_any-append (λ b. b == byte) left right) ∙ lacks)

pub has_byte-skip_blanks : (byte : ℕ) (line : List ℕ) → has_byte byte line ≡ false
    → has_byte byte (skip_blanks line) ≡ false
has_byte-skip_blanks byte [] lacks = grind arith
has_byte-skip_blanks byte (b ∷ line) lacks = grind (arith, has_byte-skip_blanks byte line)
