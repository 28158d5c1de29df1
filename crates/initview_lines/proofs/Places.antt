-- Lemmas on the text after some lines, reached from a position in the text.
use Rattle.std.specs.Prelude.{option_and_then}
use Rattle.std.proofs.Common.{zero, suc, ◌-◌, slice_get}
use Rattle.std.proofs.lemmas.Option.{option_and_then_some, same_Some}
use Rattle.text_lines.specs.Lines.{after_lines, cut}
use Rattle.init_words.specs.Parts.{NamedText}
use Rattle.initview_lines.specs.declared.lint.Cursor.{Cursor}
use Rattle.initview_lines.specs.Lint.{IsCursor, text_of}
use Rattle.initview_lines.proofs.CommonWords.{◌≡◌, ℕ, ◌≤◌, List, Some, sym, ap, ◌∙◌, arith}

-- the text after all lines is the text after the remaining lines of what follows the first ones
pub after_lines-from : (passed count : ℕ) (text rest : List ℕ) → after_lines passed text ≡ Some rest → passed ≤ count
    → after_lines count text ≡ after_lines (count - passed) rest
after_lines-from zero count text rest is within =
    let all : count - 0 ≡ count = omega arith in
    ap (after_lines count) (same_Some text rest is) ∙ ap (λ n. after_lines n rest) (sym all)
after_lines-from (suc n) zero text rest is within = absurd (omega arith)
after_lines-from (suc n) (suc count) text rest is within =
    let less : suc count - suc n ≡ count - n = omega arith in
    option_and_then_some (λ (parts : List ℕ × List ℕ). after_lines n parts.1) (cut 10 text) rest is (λ parts found more.
    ap (option_and_then (λ (p : List ℕ × List ℕ). after_lines count p.1)) found
    ∙ after_lines-from n count parts.1 rest more (omega arith)
    ∙ ap (λ k. after_lines k rest) (sym less))

-- the same from a position in the file that is no later
pub from_near : (parts : List NamedText) (near : Cursor) (part before : ℕ) → near.part ≡ part → near.before ≤ before
    → IsCursor parts near
    → after_lines before (text_of (slice_get parts part)) ≡ after_lines (before - near.before) near.rest.now
from_near parts near part before same within is =
    after_lines-from near.before before (text_of (slice_get parts part)) near.rest.now
    (ap (λ p. after_lines near.before (text_of (slice_get parts p))) (sym same) ∙ is) within
