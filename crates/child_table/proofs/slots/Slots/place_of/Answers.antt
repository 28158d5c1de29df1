use Rattle.child_table.proofs.Words.{◌∙◌, ap}
use Rattle.std.proofs.Common.{is_some}
use Rattle.child_table.proofs.Found.{looked_up, placed}
use Rattle.child_table.proofs.slots.Slots.place_of.Goals as goal

-- the map has a position for the id exactly if the list has a record of it
pub returns-clause-found : goal.returns-clause-found
returns-clause-found g c = c.get_index_of.ensures.found ∙ ap is_some
    (looked_up c.args.id.now c.self.inside.records.entries c.args.self.now c.self.invariant.0 c.self.view_is)

-- the record at that position of the list is that of the id
pub returns-clause-position : goal.returns-clause-position
returns-clause-position g c = placed c.args.id.now c.self.inside.records.entries c.args.self.now c.self.invariant.0
    c.self.view_is c.get_index_of.result c.get_index_of.ensures.value
