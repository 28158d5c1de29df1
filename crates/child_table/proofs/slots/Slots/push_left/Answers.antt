use Rattle.child_table.proofs.Words.{◌++◌, ◌+◌, drop, left_records}
use Rattle.child_table.proofs.Adopted.{one_left, new_any}
use Rattle.child_table.proofs.slots.Slots.push_left.Goals as goal

pub push_any-requires-clause-new : goal.push_any-requires-clause-new
push_any-requires-clause-new g c =
    let all = c.args.self.now ++ left_records c.args.table.now c.args.before.now in
    new_any c.loop-position.self c.left_record.result
    (left_records c.args.table.now (drop (c.loop-position.position + 1) c.args.before.now)) all
    (one_left c.args.table.now c.loop-position.self c.args.before.now c.loop-position.position c.left_record.result all
    c.left_record.ensures.value c.loop-position.invariant) c.requires

pub loop-position-preserved : goal.loop-position-preserved
loop-position-preserved g c =
    rw c.in_ok-push_any.ensures
    (one_left c.args.table.now c.loop-position.self c.args.before.now c.loop-position.position c.left_record.result
    (c.args.self.now ++ left_records c.args.table.now c.args.before.now) c.left_record.ensures.value
    c.loop-position.invariant)
