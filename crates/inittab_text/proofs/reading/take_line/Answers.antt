use Rattle.inittab_text.proofs.Words.{◌∙◌, ap, sym, Ok}
use Rattle.inittab_text.proofs.ReadLemmas.{kept_entry}
use Rattle.inittab_text.proofs.reading.take_line.Goals as goal

pub push-requires-clause-new : goal.push-requires-clause-new
push-requires-clause-new g c = (kept_entry c.args.table.now c.args.line.now c.in-Ok-Some.entry
    (sym c.verdict_of.ensures ∙ c.in-Ok-Some.is ∙ ap Ok c.in-Ok-Some.field-0-is) c.requires).0

pub push-requires-clause-written : goal.push-requires-clause-written
push-requires-clause-written g c = (kept_entry c.args.table.now c.args.line.now c.in-Ok-Some.entry
    (sym c.verdict_of.ensures ∙ c.in-Ok-Some.is ∙ ap Ok c.in-Ok-Some.field-0-is) c.requires).1

pub push-requires-clause-room : goal.push-requires-clause-room
push-requires-clause-room g c = (kept_entry c.args.table.now c.args.line.now c.in-Ok-Some.entry
    (sym c.verdict_of.ensures ∙ c.in-Ok-Some.is ∙ ap Ok c.in-Ok-Some.field-0-is) c.requires).2
