use Rattle.level_core.proofs.Words.{sym, ◌∙◌}
use Rattle.level_core.proofs.Ruled.{each_timely}
use Rattle.level_core.proofs.rules.do_records_obey.Goals as goal

pub returns-then-not-has_excluded-clause-timely : goal.returns-then-not-has_excluded-clause-timely
returns-then-not-has_excluded-clause-timely g c kept =
    each_timely c.args.stage c.args.table.now c.args.now c.args.slots.now (sym c.is_each_kept.ensures ∙ kept)
