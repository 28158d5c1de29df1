use Rattle.trace_check.proofs.Words.{sym, ◌∙◌, is_owed_in}
use Rattle.trace_check.proofs.Unowed.{one_further}
use Rattle.trace_check.proofs.judge.Judge.unowed_from.Goals as goal

pub loop-position-preserved : goal.loop-position-preserved
loop-position-preserved g c = one_further (is_owed_in c.args.self.now) c.args.table.now c.loop-position.position
    c.entry_at.result.now c.entry_at.ensures (sym c.is_owed.ensures ∙ c.if-is_owed.false) c.loop-position.invariant
