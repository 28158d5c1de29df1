use Rattle.level_core.proofs.Words.{sym, ◌∙◌}
use Rattle.level_core.proofs.Ruled.{starts_none, starts_past, starts_fault, starts_pass}
use Rattle.level_core.proofs.rules.are_starts_along.Goals as goal

pub returns-in_default : goal.returns-in_default
returns-in_default g c = starts_none c.args.stage c.args.table.now c.args.slots.now c.loop-position.position
    c.loop-position.owed c.loop-position.invariant (sym c.in_default.ensures)

pub returns-then-not-is_start_in_turn : goal.returns-then-not-is_start_in_turn
returns-then-not-is_start_in_turn g c = starts_fault c.args.stage c.args.table.now c.args.slots.now
    c.loop-position.position c.loop-position.owed c.loop-position.invariant c.in-Some.entry.now
    c.index-slots-position.result (sym c.in-Some.ensures) c.loop-position-test.true c.index-slots-position.is
    (sym c.is_start_in_turn.ensures ∙ c.if-not-is_start_in_turn.true)

pub loop-position-preserved : goal.loop-position-preserved
loop-position-preserved g c = rw c.is_owed-owed.ensures (starts_pass c.args.stage c.args.table.now c.args.slots.now
    c.loop-position.position c.loop-position.owed c.loop-position.invariant c.in-Some.entry.now
    c.index-slots-position.result (sym c.in-Some.ensures) c.loop-position-test.true c.index-slots-position.is
    (sym c.is_start_in_turn.ensures ∙ c.if-not-is_start_in_turn.false))

pub returns : goal.returns
returns g c = starts_past c.args.stage c.args.table.now c.args.slots.now c.loop-position.position c.loop-position.owed
    c.loop-position.invariant c.loop-position-test.false
