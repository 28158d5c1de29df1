use Rattle.trace_check.proofs.Words.{sym, ◌∙◌}
use Rattle.trace_check.proofs.Calm.{calm_none}
use Rattle.trace_check.proofs.judge.Judge.none_excluded.Goals as goal

pub returns-then-calm : goal.returns-then-calm
returns-then-calm g c =
    c.if-calm.true ∙ sym (calm_none c.args.calm c.args.table.now c.args.self.now c.requires c.if-calm.true)
