use Rattle.trace_check.proofs.Words.{sym, ◌∙◌, is_owed_in}
use Rattle.trace_check.proofs.Walks.{first_next, first_end, first_found}
use Rattle.trace_check.proofs.judge.Judge.find_owed.Goals as goal

pub returns-then-eq : goal.returns-then-eq
returns-then-eq g c = first_end (is_owed_in c.args.self.now) c.args.id.now c.args.table.now c.loop-position.position
    c.entry_at-entry.result.now c.entry_at-entry.ensures c.loop-position.invariant (sym c.eq.ensures ∙ c.if-eq.true)

pub returns-then-is_owed : goal.returns-then-is_owed
returns-then-is_owed g c = first_found (is_owed_in c.args.self.now) c.args.id.now c.args.table.now
    c.loop-position.position c.entry_at-entry.result.now c.entry_at-entry.ensures c.loop-position.invariant
    (sym c.eq.ensures ∙ c.if-eq.false) (sym c.is_owed.ensures ∙ c.if-is_owed.true)

pub loop-position-preserved : goal.loop-position-preserved
loop-position-preserved g c = first_next (is_owed_in c.args.self.now) c.args.id.now c.args.table.now
    c.loop-position.position c.entry_at-entry.result.now c.entry_at-entry.ensures c.loop-position.invariant
    (sym c.eq.ensures ∙ c.if-eq.false) (sym c.is_owed.ensures ∙ c.if-is_owed.false)
