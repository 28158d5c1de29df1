use Rattle.text_lines.proofs.CommonWords.{◌∙◌}
use Rattle.text_lines.proofs.NumberLemmas.{no_text, no_number, same_text}
use Rattle.text_lines.proofs.numbers.read_number.Goals as goal

pub returns-in_err-ok : goal.returns-in_err-ok
returns-in_err-ok c = c.from_residual.ensures
    ∙ no_text c.args.text.now _ _ c.from_utf8.result c.from_utf8.ensures.cases c.in_err-ok.ensures.variant

pub returns-in_err-number : goal.returns-in_err-number
returns-in_err-number c =
    let same = same_text c.args.text.now _ _ c.from_utf8.result c.in_ok-ok.field-0 c.from_utf8.ensures.cases
    c.in_ok-ok.ensures.value in
    c.from_residual-in_err-number.ensures
    ∙ no_number c.args.text.now c.parse.result (rw same at c.parse.ensures.value.0) c.in_err-number.ensures.variant
