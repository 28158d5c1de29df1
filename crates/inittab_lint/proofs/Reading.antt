-- Lemmas on reading one more character of a process.
use Rattle.inittab_lint.proofs.Words.{◌≡◌, refl, ap, sym, ◌∙◌, ℕ, Bool, true, false, not, List, ◌∷◌, None}
use Rattle.inittab_lint.proofs.Words.{operator_in, operator_of}
use Rattle.inittab_lint.specs.Shell.{innermost, is_comment, is_deep, is_two, next_in, operator_at, parts_after}
use Rattle.inittab_lint.specs.Shell.{starts_word, early_in, expands_early, in_commands, shell_expands}
use Rattle.inittab_lint.proofs.Words.{◌&&◌}
use Rattle.text_lines.specs.Lines.{cut}

pub not_so : (so : Bool) → true ≡ not so → so ≡ false
not_so false e = refl
not_so true e = e

one_on : (parts text : List ℕ) (start : Bool) (b : ℕ) → is_comment (innermost parts) start b ≡ false
    → operator_at (innermost parts) b (next_in text) ≡ None → is_deep parts b (next_in text) ≡ false
    → operator_in parts false start (b ∷ text)
    ≡ operator_in (parts_after parts b (next_in text)) (is_two (innermost parts) b (next_in text))
    (starts_word (innermost parts) b (next_in text)) text
one_on parts text start b e1 e2 e3 = rw (e1, e2, e3) refl

pub read_on : (parts later whole rest text : List ℕ) (start was_read starts : Bool) (b : ℕ) → rest ≡ b ∷ text
    → is_comment (innermost parts) start b ≡ false → operator_at (innermost parts) b (next_in text) ≡ None
    → is_deep parts b (next_in text) ≡ false → later ≡ parts_after parts b (next_in text)
    → was_read ≡ is_two (innermost parts) b (next_in text) → starts ≡ starts_word (innermost parts) b (next_in text)
    → operator_in parts false start rest ≡ operator_of whole
    → operator_in later was_read starts text ≡ operator_of whole
read_on parts later whole rest text start was_read starts b e0 e1 e2 e3 e4 e5 e6 so =
    rw (e4, e5, e6) (sym (one_on parts text start b e1 e2 e3) ∙ ap (operator_in parts false start) (sym e0) ∙ so)

early_on : (parts text : List ℕ) (start : Bool) (b : ℕ) → is_comment (innermost parts) start b ≡ false
    → (start && (in_commands (innermost parts) && shell_expands (cut 32 (b ∷ text)))) ≡ false
    → is_deep parts b (next_in text) ≡ false
    → early_in parts false start (b ∷ text)
    ≡ early_in (parts_after parts b (next_in text)) (is_two (innermost parts) b (next_in text))
    (starts_word (innermost parts) b (next_in text)) text
early_on parts text start b e1 e2 e3 = rw (e1, e2, e3) refl

pub read_early : (parts later whole rest text : List ℕ) (start was_read starts : Bool) (b : ℕ) → rest ≡ b ∷ text
    → is_comment (innermost parts) start b ≡ false
    → (start && (in_commands (innermost parts) && shell_expands (cut 32 (b ∷ text)))) ≡ false
    → is_deep parts b (next_in text) ≡ false → later ≡ parts_after parts b (next_in text)
    → was_read ≡ is_two (innermost parts) b (next_in text) → starts ≡ starts_word (innermost parts) b (next_in text)
    → early_in parts false start rest ≡ expands_early whole
    → early_in later was_read starts text ≡ expands_early whole
read_early parts later whole rest text start was_read starts b e0 e1 e2 e3 e4 e5 e6 so =
    rw (e4, e5, e6) (sym (early_on parts text start b e1 e2 e3) ∙ ap (early_in parts false start) (sym e0) ∙ so)
