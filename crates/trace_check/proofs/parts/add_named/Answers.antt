use Rattle.trace_check.proofs.Words.{◌&&◌, arith, Entry, has_id, starts_in, among, is_named}
use Rattle.trace_check.proofs.Walks.{one_added}
use Rattle.trace_check.proofs.parts.add_named.Goals as goal

pub loop-position-preserved : goal.loop-position-preserved
loop-position-preserved g c = (
  λ id. one_added (has_id id) (λ (e : Entry). is_named c.args.happening.now e && starts_in e c.args.stage)
      c.args.table.now c.loop-position.position c.entry_at-entry.result.now c.is_called.result
      (among id c.loop-position.called.keys) (among id c.add_if.new.ids.keys) (among id c.args.called.now.keys)
      c.entry_at-entry.ensures c.is_called.ensures (c.add_if.ensures.added id) (c.loop-position.invariant.0 id),
  omega (arith, c.add_if.ensures.room, c.loop-position.invariant.1),
)
