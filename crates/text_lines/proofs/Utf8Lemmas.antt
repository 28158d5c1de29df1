-- Parts of a UTF-8 text are UTF-8 if it is cut at ASCII bytes, such as blanks and tabs.
use Rattle.text_lines.proofs.CommonWords.{◌≡◌, ℕ, zero, suc, ◌+◌, ◌<◌, ◌≤◌, Bool, true, false, cond, ◌||◌, ◌==◌, List}
use Rattle.text_lines.proofs.CommonWords.{[], ◌∷◌, ◌++◌, length, take, drop, get_or, refl, ap, subst, arith}
use Rattle.text_lines.proofs.CommonWords.{IsCharBoundary, eqb-true, IsCharBoundary-after_ascii, IsUtf8-drop}
use Rattle.text_lines.proofs.CommonWords.{IsUtf8-take, IsUtf8-nil, is_blank, skip_blanks, trim, trim_end, word_length}
use Rattle.std.specs.Str.{IsUtf8}
use Rattle.text_lines.proofs.BlankLemmas.{trim_end-done, trim_end-nil, trim_end-shorter}

-- a blank is an ASCII byte
blank_by : (b : ℕ) (x : Bool) → (b == 32) ≡ x → x || (b == 9) ≡ true → b < 128
blank_by b true here is = let e = eqb-true b 32 here in omega arith
blank_by b false here is = let e = eqb-true b 9 is in omega arith

blank_is_ascii : (b : ℕ) → is_blank b ≡ true → b < 128
blank_is_ascii b is = blank_by b (b == 32) refl is

-- the text after a leading ASCII byte
pub behind_ascii : (b : ℕ) (text : List ℕ) → b < 128 → IsUtf8 (b ∷ text) → IsUtf8 text
behind_ascii b text low utf8 =
    IsUtf8-drop (b ∷ text) 1 utf8 (IsCharBoundary-after_ascii (b ∷ text) 0 utf8 (omega arith) low)

skip_by : (b : ℕ) (text : List ℕ) (x : Bool) → is_blank b ≡ x → IsUtf8 (b ∷ text)
    → (IsUtf8 text → IsUtf8 (skip_blanks text)) → IsUtf8 (cond x (skip_blanks text) (b ∷ text))
skip_by b text true is utf8 rest = rest (behind_ascii b text (blank_is_ascii b is) utf8)
skip_by b text false is utf8 rest = utf8

pub skip_blanks-utf8 : (text : List ℕ) → IsUtf8 text → IsUtf8 (skip_blanks text)
skip_blanks-utf8 [] utf8 = utf8
skip_blanks-utf8 (b ∷ text) utf8 = skip_by b text (is_blank b) refl utf8 (skip_blanks-utf8 text)

-- a word ends at a blank or at the end of the text
word_end_by : (b : ℕ) (text : List ℕ) (x : Bool) → is_blank b ≡ x → (word_length text < length text
    → is_blank (get_or text (word_length text) 0) ≡ true) → cond x 0 (suc (word_length text)) < length (b ∷ text)
    → is_blank (get_or (b ∷ text) (cond x 0 (suc (word_length text))) 0) ≡ true
word_end_by b text true is rest within = is
word_end_by b text false is rest within = rest (omega arith)

word_end : (text : List ℕ) → word_length text < length text → is_blank (get_or text (word_length text) 0) ≡ true
word_end [] within = absurd (omega arith)
word_end (b ∷ text) within = word_end_by b text (is_blank b) refl (word_end text) within

word_within_by : (x : Bool) (n m : ℕ) → n ≤ m → cond x 0 (suc n) ≤ suc m
word_within_by true n m less = omega arith
word_within_by false n m less = omega arith

word_within : (text : List ℕ) → word_length text ≤ length text
word_within [] = omega arith
word_within (b ∷ text) = word_within_by (is_blank b) (word_length text) (length text) (word_within text)

-- a character boundary is at the end of the text and before each ASCII byte
boundary : (text : List ℕ) (n : ℕ) → n ≤ length text → (n < length text → get_or text n 0 < 128) → IsCharBoundary text n
boundary text n within low = (within, λ inside high. absurd (let less = low inside in omega arith))

pub word-utf8 : (text : List ℕ) → IsUtf8 text
    → IsUtf8 (take (word_length text) text) × IsUtf8 (drop (word_length text) text)
word-utf8 text utf8 =
    let at = boundary text (word_length text) (word_within text)
    (λ within. blank_is_ascii (get_or text (word_length text) 0) (word_end text within)) in
    (IsUtf8-take text (word_length text) utf8 at, IsUtf8-drop text (word_length text) utf8 at)

-- the two parts around an ASCII byte inside the text
get_or-seam : (left : List ℕ) (mark : ℕ) (right : List ℕ) → get_or (left ++ mark ∷ right) (length left) 0 ≡ mark
get_or-seam [] mark right = refl
get_or-seam (b ∷ left) mark right = get_or-seam left mark right

drop-seam : (left : List ℕ) (mark : ℕ) (right : List ℕ) → drop (length left + 1) (left ++ mark ∷ right) ≡ right
drop-seam [] mark right = refl
drop-seam (b ∷ left) mark right = let e : suc (length left) + 1 ≡ suc (length left + 1) = omega arith in
    rw e (drop-seam left mark right)

length-seam : (left : List ℕ) (mark : ℕ) (right : List ℕ) → length left < length (left ++ mark ∷ right)
length-seam [] mark right = omega arith
length-seam (b ∷ left) mark right = let less = length-seam left mark right in omega arith

pub behind-utf8 : (left : List ℕ) (mark : ℕ) (right : List ℕ) → mark < 128 → IsUtf8 (left ++ mark ∷ right)
    → IsUtf8 right
behind-utf8 left mark right low utf8 =
    let whole = left ++ mark ∷ right in
    let at = IsCharBoundary-after_ascii whole (length left) utf8 (length-seam left mark right)
    (omega (arith, get_or-seam left mark right)) in
    subst (λ t. IsUtf8 t) (drop-seam left mark right) (IsUtf8-drop whole (length left + 1) utf8 at)

-- the text without its trailing blanks
end_by : (text : List ℕ) (n : ℕ) (x : Bool) → is_blank (get_or text n 0) ≡ x → n < length text → IsUtf8 text
    → IsCharBoundary text (suc n) → (IsCharBoundary text n → IsUtf8 (trim_end (take n text)))
    → IsUtf8 (trim_end (take (n + 1) text))
end_by text n true is within utf8 at rest =
    let here = boundary text n (omega arith) (λ inside. blank_is_ascii (get_or text n 0) is) in
    rw (trim_end-shorter text n within is) (rest here)
end_by text n false is within utf8 at rest =
    let e : n + 1 ≡ suc n = omega arith in
    rw (trim_end-done text n within is) (rw e (IsUtf8-take text (suc n) utf8 at))

end-utf8 : (text : List ℕ) (n : ℕ) → n ≤ length text → IsUtf8 text → IsCharBoundary text n
    → IsUtf8 (trim_end (take n text))
end-utf8 text zero within utf8 at = rw trim_end-nil IsUtf8-nil
end-utf8 text (suc n) within utf8 at =
    let e : suc n ≡ n + 1 = omega arith in
    rw e (end_by text n (is_blank (get_or text n 0)) refl (omega arith) utf8 at (end-utf8 text n (omega arith) utf8))

take_whole : (text : List ℕ) → take (length text) text ≡ text
take_whole [] = refl
take_whole (b ∷ text) = ap (λ t. b ∷ t) (take_whole text)

trim_end-utf8 : (text : List ℕ) → IsUtf8 text → IsUtf8 (trim_end text)
trim_end-utf8 text utf8 =
    subst (λ t. IsUtf8 (trim_end t)) (take_whole text) (end-utf8 text (length text) (omega arith) utf8
    (boundary text (length text) (omega arith) (λ inside. absurd (omega arith))))

pub trim-utf8 : (text : List ℕ) → IsUtf8 text → IsUtf8 (trim text)
trim-utf8 text utf8 = trim_end-utf8 (skip_blanks text) (skip_blanks-utf8 text utf8)
