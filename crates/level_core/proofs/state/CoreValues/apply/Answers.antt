use Rattle.level_core.proofs.Words.{◌∙◌, refl, after_hold, timely_changed, order_changed, is_named, decide_allowed}
use Rattle.level_core.proofs.Kept.{kept_called, held_in}
use Rattle.level_core.proofs.Places.{none_behind}
use Rattle.level_core.proofs.Moved.{seen_called, seen_held, passed_held}
use Rattle.level_core.proofs.Stops.{unsignalled_called, unsignalled_held}
use Rattle.level_core.proofs.state.CoreValues.apply.Goals as goal

pub invariant_of-self : goal.invariant_of-self
invariant_of-self g c =
    let kept = kept_called c.self.inside.fields.time c.self.inside.table (is_named c.args.step.now
    c.self.inside.fields.stage) c.self.inside.slots (c.self.invariant.1, c.self.invariant.2) in (
      c.self.invariant.0,
      rw c.call_named.ensures kept.0,
      rw c.call_named.ensures kept.1,
      rw c.call_named.ensures (seen_called (is_named c.args.step.now c.self.inside.fields.stage) c.self.inside.table
          c.self.inside.slots c.self.inside.looks_from c.self.invariant.3),
      rw c.all-self-inside.ensures none_behind,
      rw c.call_named.ensures (unsignalled_called c.self.inside.fields.grace c.self.inside.fields.time (is_named
          c.args.step.now c.self.inside.fields.stage) c.self.inside.table c.self.inside.slots c.self.inside.stops_from
          c.self.invariant.5),
    )

pub invariant_of-self-in-Call : goal.invariant_of-self-in-Call
invariant_of-self-in-Call g c =
    let kept = kept_called c.self-in-Call.inside.fields.time c.self-in-Call.inside.table
    (is_named c.args.step.now c.self-in-Call.inside.fields.stage) c.self-in-Call.inside.slots
    (c.self-in-Call.invariant.1, c.self-in-Call.invariant.2) in (
      c.self-in-Call.invariant.0,
      rw c.call_named-in-Call.ensures kept.0,
      rw c.call_named-in-Call.ensures kept.1,
      rw c.call_named-in-Call.ensures
          (seen_called (is_named c.args.step.now c.self-in-Call.inside.fields.stage) c.self-in-Call.inside.table
          c.self-in-Call.inside.slots c.self-in-Call.inside.looks_from c.self-in-Call.invariant.3),
      rw c.all-self-inside-in-Call.ensures none_behind,
      rw c.call_named-in-Call.ensures (unsignalled_called c.self-in-Call.inside.fields.grace
          c.self-in-Call.inside.fields.time (is_named c.args.step.now c.self-in-Call.inside.fields.stage)
          c.self-in-Call.inside.table c.self-in-Call.inside.slots c.self-in-Call.inside.stops_from
          c.self-in-Call.invariant.5),
    )

pub order-requires-clause-allowed : goal.order-requires-clause-allowed
order-requires-clause-allowed g c = decide_allowed c.args.self.now c.requires.order c.requires.distinct c.in-Order.id
    c.in-Order.ask (c.requires.decided ∙ c.in-Order.is)

pub hold-requires-clause-known : goal.hold-requires-clause-known
hold-requires-clause-known g c = held_in c.args.self.now _ c.self-in-Hold.view_is c.self-in-Hold.invariant.2
    c.in-Hold.id (c.requires.decided ∙ c.in-Hold.is)

pub invariant_of-self-in-Hold : goal.invariant_of-self-in-Hold
invariant_of-self-in-Hold g c = (
  c.self-in-Hold.invariant.0,
  rw c.hold.ensures (timely_changed c.self-in-Hold.inside.fields.time c.in-Hold.id
      (after_hold c.self-in-Hold.inside.fields.time)
      (λ slot h. h) c.self-in-Hold.inside.slots c.self-in-Hold.invariant.1),
  rw c.hold.ensures (order_changed c.in-Hold.id (after_hold c.self-in-Hold.inside.fields.time) (λ s. refl)
      (λ s. refl) c.self-in-Hold.inside.table c.self-in-Hold.inside.slots c.self-in-Hold.invariant.2),
  rw c.hold.ensures (seen_held c.in-Hold.id c.self-in-Hold.inside.fields.time c.self-in-Hold.inside.slots
      c.self-in-Hold.inside.looks_from c.self-in-Hold.invariant.3),
  rw c.hold.ensures (passed_held c.self-in-Hold.inside.fields.stage c.in-Hold.id c.self-in-Hold.inside.fields.time
      c.self-in-Hold.inside.table c.self-in-Hold.inside.slots c.self-in-Hold.inside.starts c.self-in-Hold.invariant.4),
  rw c.hold.ensures (unsignalled_held c.self-in-Hold.inside.fields.grace c.self-in-Hold.inside.fields.time
      c.in-Hold.id c.self-in-Hold.inside.slots c.self-in-Hold.inside.stops_from c.self-in-Hold.invariant.5),
)
