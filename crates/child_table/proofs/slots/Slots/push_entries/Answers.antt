use Rattle.child_table.proofs.Words.{◌++◌, ◌+◌, map, drop, Entry, record_by_id, adopted, entry_records, one_made}
use Rattle.child_table.proofs.Adopted.{new_of}
use Rattle.child_table.proofs.slots.Slots.push_entries.Goals as goal

pub push-requires-clause-new : goal.push-requires-clause-new
push-requires-clause-new g c =
    let made = λ (e : Entry). adopted e (record_by_id e.id c.args.before.now) in
    let all = c.args.self.now ++ entry_records c.args.table.now c.args.before.now in
    new_of c.loop-position.self c.adopted_record.result
    (map made (drop (c.loop-position.position + 1) c.args.table.now)) all
    (one_made made c.loop-position.self c.args.table.now c.loop-position.position c.adopted_record.result all
    c.adopted_record.ensures.value c.loop-position.invariant) c.requires

pub loop-position-preserved : goal.loop-position-preserved
loop-position-preserved g c =
    rw c.in_ok-push.ensures.pushed
    (one_made (λ (e : Entry). adopted e (record_by_id e.id c.args.before.now)) c.loop-position.self c.args.table.now
    c.loop-position.position c.adopted_record.result (c.args.self.now
    ++ entry_records c.args.table.now c.args.before.now) c.adopted_record.ensures.value c.loop-position.invariant)
