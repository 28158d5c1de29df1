use Rattle.trace_check.proofs.Words.{Entry, has_id, among, is_changed}
use Rattle.trace_check.proofs.Walks.{one_dropped}
use Rattle.trace_check.proofs.parts.drop_brought.Goals as goal

pub loop-position-preserved : goal.loop-position-preserved
loop-position-preserved g c id =
    one_dropped (has_id id) (λ (e : Entry). is_changed e.id c.args.next.now c.args.before.now) c.args.next.now
    c.loop-position.position c.entry_at-entry.result.now c.is_changed.result
    (among id c.loop-position.asked.keys) (among id c.drop_if.new.ids.keys) (among id c.args.asked.now.keys)
    c.entry_at-entry.ensures c.is_changed.ensures (c.drop_if.ensures id) (c.loop-position.invariant id)
