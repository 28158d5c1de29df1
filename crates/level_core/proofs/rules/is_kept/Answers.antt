use Rattle.level_core.proofs.Words.{sym, ◌∙◌, CLOCK_LIMIT, timely_later}
use Rattle.level_core.proofs.Ruled.{clock_kept}
use Rattle.level_core.proofs.rules.is_kept.Goals as goal

pub returns-then-do_fields_obey-clause-timely : goal.returns-then-do_fields_obey-clause-timely
returns-then-do_fields_obey-clause-timely g c kept = timely_later c.args.fields.now.time CLOCK_LIMIT
    (clock_kept c.args.fields.now (sym c.do_fields_obey.ensures ∙ c.if-do_fields_obey.true)) c.args.slots.now
    (c.do_records_obey.ensures.timely kept)
