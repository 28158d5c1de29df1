use Rattle.level_core.proofs.Words.{sym, ◌∙◌}
use Rattle.level_core.proofs.Starts.{along_past}
use Rattle.level_core.proofs.walking.start_from.Goals as goal

pub returns : goal.returns
returns g c = along_past c.args.stage c.args.now c.args.table.now c.args.slots.now c.loop-position.position
    c.loop-position-test.false ∙ sym c.loop-position.invariant
