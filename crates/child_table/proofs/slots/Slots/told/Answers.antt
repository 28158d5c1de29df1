use Rattle.child_table.proofs.Words.{sym, record_by_id}
use Rattle.child_table.proofs.Found.{taken_has}
use Rattle.child_table.proofs.slots.Slots.told.Goals as goal

pub note_told-requires-clause-known : goal.note_told-requires-clause-known
note_told-requires-clause-known g c =
    taken_has (record_by_id c.args.id c.args.self.now) c.args.answer (sym c.in_ok-refusal.ensures)
