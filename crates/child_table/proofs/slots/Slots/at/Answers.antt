use Rattle.child_table.proofs.Words.{sym, values_of, CLOCK_LIMIT}
use Rattle.child_table.proofs.Found.{at_position}
use Rattle.child_table.proofs.Timely.{timely_at}
use Rattle.child_table.proofs.slots.Slots.at.Goals as goal

pub returns-clause-value : goal.returns-clause-value
returns-clause-value g c = rw (← c.self.view_is)
    (at_position c.self.inside.records.entries c.args.position _ c.in_ok-slot.slot.now c.in_ok-slot.ensures.entry)

pub returns-clause-timely : goal.returns-clause-timely
returns-clause-timely g c = timely_at CLOCK_LIMIT c.in_ok-slot.slot.now
    (values_of c.self.inside.records.entries) c.args.position c.self.invariant.1
    (sym (at_position c.self.inside.records.entries c.args.position _ c.in_ok-slot.slot.now c.in_ok-slot.ensures.entry))
