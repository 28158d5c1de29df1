-- A text split into pieces or lines: the parts together are the whole text.
use Rattle.text_lines.proofs.CommonWords.{◌≡◌, ℕ, zero, suc, ◌+◌, ◌-◌, ◌<◌, Bool, true, false, cond, not, ◌==◌, List}
use Rattle.text_lines.proofs.CommonWords.{[], ◌∷◌, ◌++◌, length, take, filter, slice_get, Option, Some, None, refl, sym}
use Rattle.text_lines.proofs.CommonWords.{ap, ◌∙◌, arith, length-append, not-true, append_assoc, cut, ended, has_byte}
use Rattle.text_lines.proofs.CommonWords.{newlines, after_lines, pieces_of}
use Rattle.std.specs.List.{join_with_byte, list_all}
use Rattle.std.proofs.lemmas.Option.{option_and_then_some, same_Some}
use Rattle.text_lines.proofs.CutLemmas.{cut-parts, cut-lacks}

-- the first piece of a text, and the pieces of the rest
pub pieces_of-at : (mark : ℕ) (word rest : List ℕ) → has_byte mark word ≡ false
    → pieces_of mark (word ++ mark ∷ rest) ≡ word ∷ pieces_of mark rest
pieces_of-at mark [] rest lacks = grind arith
pieces_of-at mark (b ∷ word) rest lacks = grind (arith, pieces_of-at mark word rest)

pub pieces_of-last : (mark : ℕ) (word : List ℕ) → has_byte mark word ≡ false → pieces_of mark word ≡ word ∷ []
pieces_of-last mark [] lacks = grind arith
pieces_of-last mark (b ∷ word) lacks = grind (arith, pieces_of-last mark word)

pub pieces_of-cut : (mark : ℕ) (text word rest : List ℕ) → cut mark text ≡ Some (word, rest)
    → pieces_of mark text ≡ word ∷ pieces_of mark rest
pieces_of-cut mark text word rest is =
    let parts = cut-parts mark text word rest is in
    ap (pieces_of mark) parts.0 ∙ pieces_of-at mark word rest parts.1

pub pieces_of-whole : (mark : ℕ) (text : List ℕ) → cut mark text ≡ None → pieces_of mark text ≡ text ∷ []
pieces_of-whole mark text is = pieces_of-last mark text (cut-lacks mark text is)

-- pieces that do not contain the byte are recovered after they are joined by it
pub pieces_of-joined : (mark : ℕ) (word : List ℕ) (words : List (List ℕ))
    → list_all (λ w. not (has_byte mark w)) (word ∷ words) ≡ true
    → pieces_of mark (join_with_byte mark (word ∷ words)) ≡ word ∷ words
pieces_of-joined mark word [] lack = grind (arith, pieces_of-last, not-true, pieces_of-at)
pieces_of-joined mark word (next ∷ words) lack =
    grind (arith, pieces_of-joined mark word words, pieces_of-last, not-true, pieces_of-at)

-- the newlines of two texts joined are those of the first plus those of the second
newlines_by : (b : ℕ) (left right : List ℕ) (x : Bool) → newlines (left ++ right) ≡ newlines left + newlines right
    → length (cond x (b ∷ filter (λ c. c == 10) (left ++ right)) (filter (λ c. c == 10) (left ++ right)))
    ≡ length (cond x (b ∷ filter (λ c. c == 10) left) (filter (λ c. c == 10) left)) + newlines right
newlines_by b left right true rest = omega (arith, rest)
newlines_by b left right false rest = rest

pub newlines-append : (left right : List ℕ) → newlines (left ++ right) ≡ newlines left + newlines right
newlines-append [] right = omega arith
newlines-append (b ∷ left) right = newlines_by b left right (b == 10) (newlines-append left right)

pub newlines-none : (text : List ℕ) → has_byte 10 text ≡ false → newlines text ≡ 0
newlines-none [] lacks = grind arith
newlines-none (b ∷ text) lacks = grind (arith, newlines-none text)

pub newlines-line : (line : List ℕ) → has_byte 10 line ≡ false → newlines (line ++ 10 ∷ []) ≡ 1
newlines-line line lacks = newlines-append line (10 ∷ []) ∙ ap (λ n. n + 1) (newlines-none line lacks)

-- the text after a number of lines is a suffix, and the prefix before it has that number of newlines
pub record Front (count : ℕ) (text rest : List ℕ) : Type 0 where
  pub front : List ℕ
  pub whole : text ≡ front ++ rest
  pub counted : newlines front ≡ count

pub after_lines-front : (count : ℕ) (text rest : List ℕ) → after_lines count text ≡ Some rest → Front count text rest
after_lines-front zero text rest is = grind arith
after_lines-front (suc n) text rest is =
    option_and_then_some (λ (parts : List ℕ × List ℕ). after_lines n parts.1) (cut 10 text) rest is (λ parts at more.
    let first = cut-parts 10 text parts.0 parts.1 at in
    let behind = after_lines-front n parts.1 rest more in
    record {
      front = (parts.0 ++ 10 ∷ []) ++ behind.front;
      whole = first.0 ∙ sym (append_assoc parts.0 (10 ∷ []) parts.1) ∙ ap (λ t. (parts.0 ++ 10 ∷ []) ++ t) behind.whole
          ∙ sym (append_assoc (parts.0 ++ 10 ∷ []) behind.front rest);
      counted =
          newlines-append (parts.0 ++ 10 ∷ []) behind.front
          ∙ omega (arith, newlines-line parts.0 first.1, behind.counted);
    })

-- the prefix before a suffix, by length
pub take-front : (front rest : List ℕ) → take (length (front ++ rest) - length rest) (front ++ rest) ≡ front
take-front front rest = short (length (front ++ rest) - length rest) (omega (arith, length-append front rest))
  where
    taken : (xs : List ℕ) → take (length xs) (xs ++ rest) ≡ xs
    taken [] = refl
    taken (x ∷ xs) = ap (λ ys. x ∷ ys) (taken xs)

    short : (n : ℕ) → n ≡ length front → take n (front ++ rest) ≡ front
    short n same = ap (λ k. take k (front ++ rest)) same ∙ taken front

-- after the first line, one line fewer is to be skipped
pub after_lines-step : (n : ℕ) (text line rest : List ℕ) → 0 < n → cut 10 text ≡ Some (line, rest)
    → after_lines n text ≡ after_lines (n - 1) rest
after_lines-step zero text line rest some is = absurd (omega arith)
after_lines-step (suc n) text line rest some is = grind arith

-- a text without a newline has no text after one or more lines
pub after_lines-short : (n : ℕ) (text : List ℕ) → 0 < n → cut 10 text ≡ None → after_lines n text ≡ None
after_lines-short zero text some is = absurd (omega arith)
after_lines-short (suc n) text some is = rw is refl

-- a text that ends with a newline is not changed by `ended`
pub ended-closed : (text : List ℕ) → slice_get text (length text - 1) ≡ Some 10 → ended text ≡ text
ended-closed (b ∷ c ∷ text) last = ap (λ t. b ∷ t) (ended-closed (c ∷ text) (behind b c text (Some 10) last))
  where
    behind : (b c : ℕ) (text : List ℕ) (o : Option ℕ) → slice_get (b ∷ c ∷ text) (length (b ∷ c ∷ text) - 1) ≡ o
        → slice_get (c ∷ text) (length (c ∷ text) - 1) ≡ o
    behind b c text o is = grind arith
ended-closed text last = grind (arith, same_Some)

pub ended-open : (text : List ℕ) (byte : ℕ) → slice_get text (length text - 1) ≡ Some byte → (byte == 10) ≡ false
    → ended text ≡ text ++ 10 ∷ []
ended-open [] byte last other = absurd (cc)
ended-open (b ∷ []) byte last other = grind arith
ended-open (b ∷ c ∷ text) byte last other =
    let less : length (b ∷ c ∷ text) - 1 ≡ suc (length (c ∷ text) - 1) = omega arith in
    ap (λ t. b ∷ t) (ended-open (c ∷ text) byte (sym (ap (slice_get (b ∷ c ∷ text)) less) ∙ last) other)
