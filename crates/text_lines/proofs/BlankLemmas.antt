-- Lemmas on trimming blanks, and on the words of a line.
use Rattle.text_lines.proofs.CommonWords.{◌≡◌, ◌⊎◌, ℕ, suc, ◌+◌, ◌<◌, ◌≤◌, Bool, true, false, cond, List, [], ◌∷◌, ◌++◌}
use Rattle.text_lines.proofs.CommonWords.{length, take, drop, get_or, reverse, refl, sym, ap, ◌∙◌, arith, inl, inr}
use Rattle.text_lines.proofs.CommonWords.{reverse-append, reverse-reverse, skip_blanks, is_blank, word_length, words_of}
use Rattle.text_lines.specs.Lines.{trim_end}

-- trimming a text to which one byte was appended: a blank is dropped, another byte is kept
trim_end-blank : (text : List ℕ) (b : ℕ) → is_blank b ≡ true → trim_end (text ++ b ∷ []) ≡ trim_end text
unfolding trim_end
trim_end-blank text b blank = rw (reverse-append text (b ∷ []), blank) refl

trim_end-other : (text : List ℕ) (b : ℕ) → is_blank b ≡ false → trim_end (text ++ b ∷ []) ≡ text ++ b ∷ []
unfolding trim_end
trim_end-other text b other =
    let back : reverse (text ++ b ∷ []) ≡ b ∷ reverse text = reverse-append text (b ∷ []) in
    rw (back, other) (ap reverse (sym back) ∙ reverse-reverse (text ++ b ∷ []))

take-last : (text : List ℕ) (n : ℕ) → n < length text → take (n + 1) text ≡ take n text ++ get_or text n 0 ∷ []
take-last (b ∷ text) (suc n) within =
    let more : suc n + 1 ≡ suc (n + 1) = omega arith in
    rw more (ap (λ t. b ∷ t) (take-last text n (omega arith)))
take-last text n within = grind arith

-- a prefix that ends with a blank is trimmed to the same text as the prefix without that blank
pub trim_end-shorter : (text : List ℕ) (n : ℕ) → n < length text → is_blank (get_or text n 0) ≡ true
    → trim_end (take (n + 1) text) ≡ trim_end (take n text)
trim_end-shorter text n within blank =
    ap trim_end (take-last text n within) ∙ trim_end-blank (take n text) (get_or text n 0) blank

-- a prefix that ends with another byte is already trimmed
pub trim_end-done : (text : List ℕ) (n : ℕ) → n < length text → is_blank (get_or text n 0) ≡ false
    → trim_end (take (n + 1) text) ≡ take (n + 1) text
trim_end-done text n within other = ap trim_end (take-last text n within)
    ∙ trim_end-other (take n text) (get_or text n 0) other ∙ sym (take-last text n within)

pub trim_end-nil : trim_end [] ≡ []
unfolding trim_end
trim_end-nil = refl

words_skip : (b : ℕ) (text : List ℕ) (x : Bool) → is_blank b ≡ x → words_of (skip_blanks text) ≡ words_of text
    → words_of (cond x (skip_blanks text) (b ∷ text)) ≡ words_of (b ∷ text)
words_skip b text true is rest = rest ∙ rw is refl
words_skip b text false is rest = refl

-- leading blanks do not change the words of a text
pub words_of-skip : (text : List ℕ) → words_of (skip_blanks text) ≡ words_of text
words_of-skip [] = refl
words_of-skip (b ∷ text) = words_skip b text (is_blank b) refl (words_of-skip text)

word_by : (b c : ℕ) (text : List ℕ) (x : Bool) → is_blank c ≡ x → is_blank b ≡ false → (is_blank c ≡ false → words_of
    (c ∷ text) ≡ (c ∷ take (word_length text) text) ∷ words_of (drop (word_length text) text)) → words_of (b ∷ c ∷ text)
    ≡ (b ∷ take (word_length (c ∷ text)) (c ∷ text)) ∷ words_of (drop (word_length (c ∷ text)) (c ∷ text))
word_by b c text true is other rest = rw (other, is, is) refl
word_by b c text false is other rest = grind arith

-- the words of a text that begins with another byte than a blank: the first word, then the words of the rest
pub words_of-first : (b : ℕ) (text : List ℕ) → is_blank b ≡ false
    → words_of (b ∷ text) ≡ (b ∷ take (word_length text) text) ∷ words_of (drop (word_length text) text)
words_of-first b [] other = rw other refl
words_of-first b (c ∷ text) other = word_by b c text (is_blank c) refl other (words_of-first c text)

-- a text without its leading blanks is empty or begins with another byte than a blank
abbrev Left : List ℕ → Type 0
Left rest = (rest ≡ []) ⊎ ((b : ℕ) × (more : List ℕ) × (rest ≡ b ∷ more) × (is_blank b ≡ false))

left_by : (b : ℕ) (text : List ℕ) (x : Bool) → is_blank b ≡ x → Left (skip_blanks text)
    → Left (cond x (skip_blanks text) (b ∷ text))
left_by b text true is rest = rest
left_by b text false is rest = inr (b, text, refl, is)

left : (text : List ℕ) → Left (skip_blanks text)
left [] = inl refl
left (b ∷ text) = left_by b text (is_blank b) refl (left text)

next_by : (rest : List ℕ) → 0 < length rest → Left rest
    → (words_of rest ≡ take (word_length rest) rest ∷ words_of (drop (word_length rest) rest)) × (0 < word_length rest)
next_by rest some h = grind (arith, words_of-first)

-- the first word of a text that may begin with blanks
pub words_of-next : (text : List ℕ) → 0 < length (skip_blanks text) → words_of text ≡ take (word_length
    (skip_blanks text)) (skip_blanks text) ∷ words_of (drop (word_length (skip_blanks text)) (skip_blanks text))
words_of-next text some = sym (words_of-skip text) ∙ (next_by (skip_blanks text) some (left text)).0

pub word_length-some : (text : List ℕ) → 0 < length (skip_blanks text) → 0 < word_length (skip_blanks text)
word_length-some text some = (next_by (skip_blanks text) some (left text)).1

none_left : (text : List ℕ) → length text ≡ 0 → words_of text ≡ []
none_left [] none = refl
none_left (b ∷ text) none = absurd (omega arith)

-- a text of blanks has no words
pub words_of-none : (text : List ℕ) → length (skip_blanks text) ≡ 0 → words_of text ≡ []
words_of-none text none = sym (words_of-skip text) ∙ none_left (skip_blanks text) none

length_skip_by : (b : ℕ) (text : List ℕ) (x : Bool) → length (skip_blanks text) ≤ length text
    → length (cond x (skip_blanks text) (b ∷ text)) ≤ length (b ∷ text)
length_skip_by b text true rest = omega arith
length_skip_by b text false rest = omega arith

pub length-skip_blanks : (text : List ℕ) → length (skip_blanks text) ≤ length text
length-skip_blanks [] = omega arith
length-skip_blanks (b ∷ text) = length_skip_by b text (is_blank b) (length-skip_blanks text)
