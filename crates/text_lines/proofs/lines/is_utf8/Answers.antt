use Rattle.text_lines.proofs.CommonWords.{◌≡◌, sym, ◌∙◌, Result, Ok, Err, is_utf8, false_from_ne_true}
use Rattle.text_lines.proofs.CommonWords.{is_utf8-from_IsUtf8, IsUtf8-from_is_utf8}
use Rattle.std.specs.Result.{MatchResult, is_ok}
use Rattle.std.specs.Str.{IsUtf8}
use Rattle.text_lines.proofs.lines.is_utf8.Goals as goal

-- a result that is `Ok` exactly for UTF-8 texts decides `is_utf8`
answered : {T E : Type 0} (A : T → Type 0) (B : E → Type 0) (line : _) (r : Result T E)
    → MatchResult r (λ s. A s × IsUtf8 line) (λ e. (IsUtf8 line → ⊥) × B e) → is_ok r ≡ is_utf8 line
answered A B line (Ok x) h = sym (is_utf8-from_IsUtf8 line h.1)
answered A B line (Err e) h = sym (false_from_ne_true (is_utf8 line) (λ is. h.0 (IsUtf8-from_is_utf8 line is)))

pub returns : goal.returns
returns c = c.is_ok.ensures.value ∙ answered _ _ c.args.text.now c.from_utf8.result c.from_utf8.ensures.cases
