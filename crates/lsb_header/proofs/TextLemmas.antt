-- Lemmas on cutting a UTF-8 text at blanks, tabs and colons.
use Rattle.lsb_header.proofs.Words.{◌≡◌, ℕ, ◌-◌, ◌<◌, ◌≤◌, Bool, true, false, cond, if◌then◌else◌, ◌&&◌, ◌==◌, List}
use Rattle.lsb_header.proofs.Words.{[], ◌∷◌, ◌++◌, drop, take, length, get_or, Option, Some, None, is_some}
use Rattle.lsb_header.proofs.Words.{refl, sym, ap, subst, ◌∙◌, arith, suc, reverse, MatchOption}
use Rattle.lsb_header.proofs.Words.{IsUtf8, is_utf8, IsCharBoundary, cut, trim, words_of, trim-utf8}
use Rattle.std.specs.Option.{option_map, option_and_then}
use Rattle.std.specs.Str.Pattern.{FindsChar}
use Rattle.std.proofs.Math.Seq.{take-append_seam}
use Rattle.std.proofs.lemmas.Bool.{and_parts, eqb-true, false_from_ne_true}
use Rattle.std.proofs.lemmas.List.{take-append-drop, reverse-append, reverse-reverse, length-append, length-take-le}
use Rattle.std.proofs.lemmas.Str.{IsUtf8-from_is_utf8, is_utf8-from_IsUtf8, IsCharBoundary-from_drop}
use Rattle.std.proofs.lemmas.Str.{IsCharBoundary-from_take}
use Rattle.std.proofs.lemmas.Str.Pattern.{finds_char_after}
use Rattle.text_lines.specs.Lines.{has_byte, is_blank, skip_blanks, trim_end, word_length}
use Rattle.text_lines.proofs.BlankLemmas.{length-skip_blanks, words_of-next, words_of-none}
use Rattle.text_lines.proofs.CutLemmas.{cut-parts}
use Rattle.text_lines.proofs.Utf8Lemmas.{skip_blanks-utf8, word-utf8}
use Rattle.lsb_header.specs.declared.keywords.Keyword.{Keyword}
use Rattle.lsb_header.specs.Forms.{args_in, field_of, is_word, known_of}
use Rattle.lsb_header.specs.Keywords.{keyword_read, same_keyword}

pub not_utf8 : (line : List ℕ) → (IsUtf8 line → ⊥) → is_utf8 line ≡ false
not_utf8 line other = false_from_ne_true (is_utf8 line) (λ is. other (IsUtf8-from_is_utf8 line is))

pub utf8_text : (line : List ℕ) → IsUtf8 line → is_utf8 line ≡ true
utf8_text line utf8 = is_utf8-from_IsUtf8 line utf8

-- a text without its leading blanks is a suffix of the text
drop_by : (b : ℕ) (text : List ℕ) (x : Bool) → drop (length text - length (skip_blanks text)) text ≡ skip_blanks text
    → drop (length (b ∷ text) - length (cond x (skip_blanks text) (b ∷ text))) (b ∷ text)
    ≡ cond x (skip_blanks text) (b ∷ text)
drop_by b text true rest =
    let more : length (b ∷ text) - length (skip_blanks text) ≡ suc (length text - length (skip_blanks text)) =
    omega (arith, length-skip_blanks text) in
    rw more rest
drop_by b text false rest = let none : length (b ∷ text) - length (b ∷ text) ≡ 0 = omega arith in rw none refl

drop-blanks : (text : List ℕ) → drop (length text - length (skip_blanks text)) text ≡ skip_blanks text
drop-blanks [] = refl
drop-blanks (b ∷ text) = drop_by b text (is_blank b) (drop-blanks text)

pub blanks_within : (text : List ℕ) → length (skip_blanks text) ≤ length text
blanks_within text = length-skip_blanks text

pub blanks_cut : (text rest : List ℕ) → IsUtf8 text → rest ≡ skip_blanks text → (length rest ≤ length text)
    × IsCharBoundary text (length text - length rest) × (drop (length text - length rest) text ≡ skip_blanks text)
blanks_cut text rest utf8 is =
    let end = drop-blanks text in
    rw is (
      length-skip_blanks text,
      IsCharBoundary-from_drop text (length text - length (skip_blanks text))
          (omega arith) (rw end (skip_blanks-utf8 text utf8)),
      end,
    )

-- a text without its trailing blanks is a prefix of the text
trim_end-front : (text : List ℕ) → (tail : List ℕ) × (text ≡ trim_end text ++ tail)
unfolding trim_end
trim_end-front text =
    let back = reverse text in
    let count = length back - length (skip_blanks back) in (
      reverse (take count back),
      sym (reverse-reverse text) ∙ ap reverse (sym (take-append-drop count back))
          ∙ reverse-append (take count back) (drop count back)
          ∙ ap (λ t. reverse t ++ reverse (take count back)) (drop-blanks back),
    )

pub end_cut : (text rest front : List ℕ) → IsUtf8 text → rest ≡ skip_blanks text → front ≡ trim_end rest
    → IsCharBoundary rest (length front) × (take (length front) rest ≡ trim text)
end_cut text rest front utf8 is same =
    let found = trim_end-front (skip_blanks text) in
    let lengths = ap length found.1 in
    let short : length (trim text) ≤ length (skip_blanks text) =
    omega (arith, lengths, length-append (trim text) found.0) in
    let whole : take (length (trim text)) (skip_blanks text) ≡ trim text =
    subst (λ t. take (length (trim text)) t ≡ trim text) (sym found.1) (take-append_seam (trim text) found.0) in
    rw (same, is) (
      IsCharBoundary-from_take (skip_blanks text) (length (trim text)) (skip_blanks-utf8 text utf8) short
          (rw whole (trim-utf8 text utf8)),
      whole,
    )

-- the first word is a prefix of a text without its leading blanks
word-within : (text : List ℕ) → word_length text ≤ length text
word-within [] = omega arith
word-within (b ∷ text) = grind (arith, word-within text)

heads : (word more other : List ℕ) (words others : List (List ℕ)) → word ∷ words ≡ other ∷ others → word ≡ other
heads word more other words others is = grind arith

some_by : (n : ℕ) → (n ≡ 0 → ⊥) → 0 < n
some_by n other = omega (arith, other)

word_parts : (text word : List ℕ) (words : List (List ℕ)) → IsUtf8 text → words_of text ≡ word ∷ words → (length word
    ≡ word_length (skip_blanks text)) × IsCharBoundary (skip_blanks text) (word_length (skip_blanks text))
    × (words_of text ≡ take (word_length (skip_blanks text)) (skip_blanks text)
    ∷ words_of (drop (word_length (skip_blanks text)) (skip_blanks text)))
word_parts text word words utf8 is =
    let rest = skip_blanks text in
    let some : 0 < length rest =
    some_by (length rest) (λ none. absurd (let e = sym is ∙ words_of-none text none in cc)) in
    let next = words_of-next text some in
    let word_is = heads word [] (take (word_length rest) rest) words (words_of (drop (word_length rest) rest))
    (sym is ∙ next) in (
      ap length word_is ∙ length-take-le (word_length rest) rest (word-within rest),
      IsCharBoundary-from_take rest
          (word_length rest) (skip_blanks-utf8 text utf8) (word-within rest)
          (word-utf8 rest (skip_blanks-utf8 text utf8)).0,
      next,
    )

pub word_cut : (text rest word : List ℕ) (words : List (List ℕ)) → IsUtf8 text → rest ≡ skip_blanks text
    → words_of text ≡ word ∷ words → IsCharBoundary rest (length word)
    × (words_of text ≡ take (length word) rest ∷ words_of (drop (length word) rest))
word_cut text rest word words utf8 same is =
    let found = word_parts text word words utf8 is in
    rw (same, found.0) (found.1, found.2)

-- a line with a keyword has a colon, and its text is what follows the first one
abbrev Args : Keyword → Option (List ℕ × List ℕ) → Option (List ℕ)
Args word parts =
    option_and_then (λ (known : Keyword × List ℕ). if same_keyword word known.0 then Some known.1 else None)
    (option_and_then (λ (found : List ℕ × List ℕ). option_map (λ k. (k, found.1)) (keyword_read found.0))
    (option_and_then (λ (found : List ℕ × List ℕ). if is_word found.0 then Some found else None) parts))

parts_by : (word : Keyword) (parts : Option (List ℕ × List ℕ)) (args : List ℕ) → Args word parts ≡ Some args
    → (left : List ℕ) × (parts ≡ Some (left, args))
parts_by word None args is = absurd (cc)
parts_by word (Some (left, right)) args is =
    let same : right ≡ args = grind arith in
    (left, ap (λ t. Some (left, t)) same)

args_by : (word : Keyword) (a b : ℕ) (rest args : List ℕ) (x : Bool) → ((a == 35) && (b == 32)) ≡ x
    → Args word (option_and_then (cut 58) (cond x (Some rest) None)) ≡ Some args
    → (front : List ℕ) × (a ∷ b ∷ rest ≡ front ++ 58 ∷ args) × (has_byte 58 front ≡ false)
args_by word a b rest args true is some =
    let both = and_parts (a == 35) (b == 32) is in
    let found = parts_by word (cut 58 rest) args some in
    let seam = cut-parts 58 rest found.0 args found.1 in
    rw (eqb-true a 35 both.0, eqb-true b 32 both.1)
    (35 ∷ 32 ∷ found.0, ap (λ t. 35 ∷ 32 ∷ t) seam.0, seam.1)
args_by word a b rest args false is some = absurd (cc)

args_in-colon : (word : Keyword) (line args : List ℕ) → args_in word line ≡ Some args
    → (front : List ℕ) × (line ≡ front ++ 58 ∷ args) × (has_byte 58 front ≡ false)
unfolding args_in known_of field_of
args_in-colon word [] args is = absurd (cc)
args_in-colon word (a ∷ []) args is = absurd (cc)
args_in-colon word (a ∷ b ∷ rest) args is = args_by word a b rest args ((a == 35) && (b == 32)) refl
    (grind arith)

lacks_at : (front : List ℕ) (i : ℕ) → has_byte 58 front ≡ false → i < length front → get_or front i 0 ≡ 58 → ⊥
lacks_at (b ∷ front) (suc i) lacks within is = grind (arith, lacks_at front i)
lacks_at front i lacks within is = grind arith

colon_by : (word : Keyword) (line : List ℕ) (o : Option (List ℕ)) (found : Option (ℕ × ℕ)) → args_in word line ≡ o
    → is_some o ≡ true → FindsChar 58 line found → MatchOption found ⊥ (λ p. Some (drop p.1 line) ≡ o)
colon_by word line (Some args) None is some finds =
    let at = args_in-colon word line args is in
    finds_char_after 58 line at.0 args None finds (omega arith) at.1 (λ i within same. lacks_at at.0 i at.2 within same)
colon_by word line (Some args) (Some p) is some finds =
    let at = args_in-colon word line args is in
    ap Some (finds_char_after 58 line at.0 args (Some p) finds (omega arith) at.1 (λ i within same. lacks_at at.0 i at.2
    within same)).1
colon_by word line None found is some finds = absurd (cc)

pub args_in_cut : (word : Keyword) (line : List ℕ) (found : Option (ℕ × ℕ)) → is_some (args_in word line) ≡ true
    → FindsChar 58 line found → MatchOption found ⊥ (λ p. Some (drop p.1 line) ≡ args_in word line)
args_in_cut word line found some finds = colon_by word line (args_in word line) found refl some finds
