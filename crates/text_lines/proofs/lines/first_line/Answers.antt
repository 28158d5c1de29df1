use Rattle.text_lines.proofs.CommonWords.{sym, ap, length, arith, length-append}
use Rattle.text_lines.proofs.CutLemmas.{cut-parts, cut-lacks, lines_of-cut, lines_of-last}
use Rattle.text_lines.proofs.lines.first_line.Goals as goal

pub returns-in-Some-clause-lines : goal.returns-in-Some-clause-lines
returns-in-Some-clause-lines c =
    lines_of-cut c.args.text.now c.in-Some.parts.0.now c.in-Some.parts.1.now (sym c.in-Some.ensures)

pub returns-in-Some-clause-one : goal.returns-in-Some-clause-one
returns-in-Some-clause-one c =
    (cut-parts 10 c.args.text.now c.in-Some.parts.0.now c.in-Some.parts.1.now (sym c.in-Some.ensures)).1

pub returns-in-Some-clause-shorter : goal.returns-in-Some-clause-shorter
returns-in-Some-clause-shorter c =
    let whole = (cut-parts 10 c.args.text.now c.in-Some.parts.0.now c.in-Some.parts.1.now (sym c.in-Some.ensures)).0 in
    omega (arith, simp length-append at (ap length whole))

pub returns-in-None-clause-lines : goal.returns-in-None-clause-lines
returns-in-None-clause-lines c = lines_of-last c.args.text.now c.requires (sym c.in-None.ensures)

pub returns-in-None-clause-one : goal.returns-in-None-clause-one
returns-in-None-clause-one c = cut-lacks 10 c.args.text.now (sym c.in-None.ensures)
