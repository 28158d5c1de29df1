use Rattle.child_table.proofs.Adopted.{entries_distinct, adopt_distinct}
use Rattle.child_table.proofs.slots.Slots.adopt.Goals as goal

pub push_entries-requires : goal.push_entries-requires
push_entries-requires g c =
    rw c.in_ok-next.ensures (entries_distinct c.args.table.now c.args.self.now c.len.ensures.distinct)

pub push_left-requires : goal.push_left-requires
push_left-requires g c = rw (c.in_ok-push_entries.ensures, c.in_ok-next.ensures)
    (adopt_distinct c.args.table.now c.args.self.now c.len.ensures.distinct c.len-2.ensures.distinct)
