use Rattle.level_core.proofs.Words.{sym, arith}
use Rattle.level_core.proofs.Starts.{along_none, along_past, along_found, along_owed, along_pass}
use Rattle.level_core.proofs.walking.start_at.Goals as goal

pub returns-in_default-clause-ends : goal.returns-in_default-clause-ends
returns-in_default-clause-ends g c =
    along_none c.args.stage c.args.now c.args.table.now c.args.slots.now c.args.position (sym c.in_default.ensures)

pub returns-then-position-slots-clause-ends : goal.returns-then-position-slots-clause-ends
returns-then-position-slots-clause-ends g c =
    along_past c.args.stage c.args.now c.args.table.now c.args.slots.now c.args.position c.if-position-slots.true

pub returns-in-Some-start_step-clause-ends : goal.returns-in-Some-start_step-clause-ends
returns-in-Some-start_step-clause-ends g c = along_found c.args.stage c.args.now c.args.table.now c.args.slots.now
    c.args.position c.in-Some.entry.now c.index-slots-position.result (sym c.in-Some.ensures) (omega
    (arith, c.if-position-slots.false)) c.index-slots-position.is c.in-Some-start_step.step c.in-Some-start_step.ensures

pub returns-then-is_owed-clause-ends : goal.returns-then-is_owed-clause-ends
returns-then-is_owed-clause-ends g c = along_owed c.args.stage c.args.now c.args.table.now c.args.slots.now
    c.args.position c.in-Some.entry.now c.index-slots-position.result (sym c.in-Some.ensures) (omega
    (arith, c.if-position-slots.false)) c.index-slots-position.is c.in_default-start_step.ensures c.if-is_owed.ensures

pub returns-clause-goes_on : goal.returns-clause-goes_on
returns-clause-goes_on g c none = along_pass c.args.stage c.args.now c.args.table.now c.args.slots.now c.args.position
    c.in-Some.entry.now c.index-slots-position.result (sym c.in-Some.ensures) (omega (arith, c.if-position-slots.false))
    c.index-slots-position.is c.in_default-start_step.ensures c.if-is_owed.ensures
