use Rattle.trace_check.proofs.Words.{◌≡◌, subst, JudgeState, StateAfterHappening}
use Rattle.trace_check.proofs.judge.Judge.take.Goals as goal

pub returns-clause-ok : goal.returns-clause-ok
returns-clause-ok g c =
    let roomy : JudgeState = record {
      stage = c.self.inside.stage;
      grace = c.self.inside.grace;
      time = c.self.inside.time;
      orders = c.room_for_one.new.map.entries;
      kept = c.room_for.new.ids.keys;
      asked = c.room_for-2.new.ids.keys;
      called = c.self.inside.called.keys;
      sent = c.room_for-3.new.ids.keys;
      starts = c.room_for_one-2.new.map.entries;
      holds = c.room_for_one-3.new.map.entries;
      children = c.room_for_one-4.new.map.entries;
      termed = c.room_for_one-5.new.map.entries;
    } in
    let same : roomy ≡ c.args.self.now =
    rw (
      c.room_for_one.ensures.same,
      c.room_for.ensures.same,
      c.room_for-2.ensures.same,
      c.room_for-3.ensures.same,
      c.room_for_one-2.ensures.same,
      c.room_for_one-3.ensures.same,
      c.room_for_one-4.ensures.same,
      c.room_for_one-5.ensures.same,
    ) c.self.view_is in
    let after : JudgeState = record {
      stage = c.stage_after-self-inside.result;
      grace = c.grace_after-self-inside.result;
      time = c.time_after-self-inside.result;
      orders = c.take_order.new.orders.entries;
      kept = c.take_kept.new.kept.keys;
      asked = c.take_asked.new.asked.keys;
      called = c.take_called.new.called.keys;
      sent = c.take_sent.new.sent.keys;
      starts = c.take_start.new.starts.entries;
      holds = c.take_hold.new.holds.entries;
      children = c.take_child.new.children.entries;
      termed = c.take_term.new.termed.entries;
    } in
    let taken : StateAfterHappening c.args.table.now roomy after c.args.happening.now = record {
      stage = c.stage_after-self-inside.ensures;
      grace = c.grace_after-self-inside.ensures;
      time = c.time_after-self-inside.ensures;
      orders = c.take_order.ensures;
      kept = c.take_kept.ensures;
      asked = c.take_asked.ensures;
      called = c.in_ok-take_called.ensures.ok;
      sent = c.take_sent.ensures;
      starts = c.take_start.ensures;
      holds = c.take_hold.ensures;
      children = c.take_child.ensures;
      termed = c.take_term.ensures;
    } in
    subst (λ before. StateAfterHappening c.args.table.now before after c.args.happening.now) same taken
