use Rattle.text_lines.proofs.CommonWords.{◌≡◌, length, skip_blanks}
use Rattle.text_lines.proofs.blanks.without_blanks.Given as goal

abbrev pub invariant-loop-rest : goal.invariant-loop-rest
invariant-loop-rest l = skip_blanks l.rest ≡ skip_blanks l.text

abbrev pub decreases-loop-rest : goal.decreases-loop-rest
decreases-loop-rest l = length l.rest
