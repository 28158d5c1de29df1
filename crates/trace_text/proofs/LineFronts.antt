-- Complete lines at the start of a text do not change when more text follows.
use Rattle.trace_text.proofs.CommonWords.{◌≡◌, ℕ, zero, suc, ◌+◌, ◌≤◌, List, [], ◌∷◌, ◌++◌, Option, Some, None}
use Rattle.trace_text.proofs.CommonWords.{option_and_then, refl, ap, ◌∙◌, arith, append_assoc, none-some, cut, newlines}
use Rattle.trace_text.proofs.CommonWords.{after_lines, cut-parts, cut-lacks, cut-append, newlines-append, newlines-none}

-- the first line of a longer text
pub cut-more : (text more line rest : List ℕ) → cut 10 text ≡ Some (line, rest)
    → cut 10 (text ++ more) ≡ Some (line, rest ++ more)
cut-more text more line rest is =
    let parts = cut-parts 10 text line rest is in
    ap (λ t. cut 10 (t ++ more)) parts.0 ∙ ap (cut 10) (append_assoc line (10 ∷ rest) more)
    ∙ cut-append 10 line (rest ++ more) parts.1

-- the rest after the first line has one newline fewer
pub newlines-cut : (text line rest : List ℕ) → cut 10 text ≡ Some (line, rest) → newlines text ≡ newlines rest + 1
newlines-cut text line rest is =
    let parts = cut-parts 10 text line rest is in
    let whole : newlines text ≡ newlines line + newlines (10 ∷ rest) =
    ap newlines parts.0 ∙ newlines-append line (10 ∷ rest) in
    let front : newlines (10 ∷ rest) ≡ newlines (10 ∷ []) + newlines rest = newlines-append (10 ∷ []) rest in
    omega (arith, whole, front, newlines-none line parts.1, newlines-one)
  where
    newlines-one : newlines (10 ∷ []) ≡ 1
    newlines-one = refl

pub newlines-uncut : (text : List ℕ) → cut 10 text ≡ None → newlines text ≡ 0
newlines-uncut text is = newlines-none text (cut-lacks 10 text is)

-- the text after `n + 1` lines is that after `n` lines of the rest
after_cut : (n : ℕ) (text line rest : List ℕ) → cut 10 text ≡ Some (line, rest)
    → after_lines (suc n) text ≡ after_lines n rest
after_cut n text line rest is = ap (λ o. option_and_then (λ (parts : List ℕ × List ℕ). after_lines n parts.1) o) is

after_uncut : (n : ℕ) (text : List ℕ) → cut 10 text ≡ None → after_lines (suc n) text ≡ None
after_uncut n text is = ap (λ o. option_and_then (λ (parts : List ℕ × List ℕ). after_lines n parts.1) o) is

-- a text with at least `n` newlines has a text after `n` lines
pub after_lines-some : (n : ℕ) (text : List ℕ) → n ≤ newlines text → (rest : List ℕ) × (after_lines n text ≡ Some rest)
after_lines-some zero text enough = (text, refl)
after_lines-some (suc n) text enough = by (cut 10 text) refl (λ rest less. after_lines-some n rest less) where
  by : (o : Option (List ℕ × List ℕ)) → cut 10 text ≡ o → ((rest : List ℕ) → n ≤ newlines rest → (behind : List ℕ)
      × (after_lines n rest ≡ Some behind)) → (rest : List ℕ) × (after_lines (suc n) text ≡ Some rest)
  by o is further = grind (arith, newlines-uncut, newlines-cut, after_cut)

pub after_lines-more : (n : ℕ) (text more rest : List ℕ) → after_lines n text ≡ Some rest
    → after_lines n (text ++ more) ≡ Some (rest ++ more)
after_lines-more zero text more rest is = grind arith
after_lines-more (suc n) text more rest is = by (cut 10 text) refl (λ t h. after_lines-more n t more rest h) where
  by : (o : Option (List ℕ × List ℕ)) → cut 10 text ≡ o → ((t : List ℕ) → after_lines n t ≡ Some rest
      → after_lines n (t ++ more) ≡ Some (rest ++ more)) → after_lines (suc n) (text ++ more) ≡ Some (rest ++ more)
  by o at further = grind (arith, none-some, after_uncut, after_cut, cut-more)
