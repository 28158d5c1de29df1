use Rattle.rc_links.proofs.Words.{◌∙◌, ◌+◌, sym, ap, drop, missing_from, position_in}
use Rattle.rc_links.proofs.NameLemmas.{cut_at, missing-is, missing-next, missing-told}
use Rattle.rc_links.proofs.PlanLemmas.{FaultSatisfies-weaker}
use Rattle.rc_links.proofs.tables.check_missing.Goals as goal

pub returns-in-Some-clause-missing : goal.returns-in-Some-clause-missing
returns-in-Some-clause-missing g c =
    let all = c.args.scripts.now in
    let s = c.script-item.result in
    let cut = cut_at all c.loop-script.script-index s c.loop-script-test.true c.script-item.is in
    let is = missing-is (position_in c.args.table.now) all s c.requires in
    let same = ap (λ xs. missing_from all xs) (sym cut.0) ∙ c.loop-script.invariant in
    let due = c.in-Some.ensures ∙ is in
    FaultSatisfies-weaker c.missing_told.result (λ wrong told.
    (told.0, missing-told all (drop (c.loop-script.script-index + 1) all) s told.0 same (sym told.1 ∙ due), told.2))
    c.missing_told.ensures

pub loop-script-preserved : goal.loop-script-preserved
loop-script-preserved g c =
    let all = c.args.scripts.now in
    let s = c.script-item.result in
    let cut = cut_at all c.loop-script.script-index s c.loop-script-test.true c.script-item.is in
    let is = missing-is (position_in c.args.table.now) all s c.requires in
    missing-next all (drop (c.loop-script.script-index + 1) all) s
    (ap (λ xs. missing_from all xs) (sym cut.0) ∙ c.loop-script.invariant) (sym is ∙ sym c.in_default.ensures)
