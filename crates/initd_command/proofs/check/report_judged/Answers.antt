use Rattle.initd_command.proofs.Words.{string_bytes, count_message}
use Rattle.initd_command.proofs.Reported.{reported_text}
use Rattle.initd_command.proofs.check.report_judged.Goals as goal

pub returns : goal.returns
returns g c =
    let first = g.E.Reporter.reports c.report_within.new.err in
    let mid = g.E.Reporter.reports c.report_made.new.err in
    let told = reported_text c.format.result (λ text. string_bytes text) (count_message c.args.judged.count) first mid
    c.format.ensures.ok c.report_made.ensures.made c.report_made.ensures.unmade in
    (first, c.report_within.ensures, mid, told, c.report_open_line.ensures)
