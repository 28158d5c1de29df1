use Rattle.level_core.proofs.Words.{sym, arith, ap, ◌∙◌, CoreState, zip, is_passed_at, are_distinct, can_ask}
use Rattle.level_core.proofs.Words.{after_order, timely_changed, timely_order, order_changed, act-after_order}
use Rattle.level_core.proofs.Words.{id-after_order}
use Rattle.level_core.proofs.Moved.{seen_ordered, passed_ordered, still_ordered, at_position, can_found}
use Rattle.level_core.proofs.Stops.{unsignalled_ordered}
use Rattle.level_core.proofs.state.CoreValues.order.Goals as goal

pub invariant_of-self : goal.invariant_of-self
invariant_of-self g c = (
  c.self.invariant.0,
  rw c.ask.ensures (timely_changed c.self.inside.fields.time c.args.id
      (after_order c.args.ask c.self.inside.fields.time) (λ slot h. timely_order c.args.ask c.self.inside.fields.time
      c.self.inside.fields.time (omega arith) slot h) c.self.inside.slots c.self.invariant.1),
  rw c.ask.ensures (order_changed c.args.id (after_order c.args.ask c.self.inside.fields.time)
      (id-after_order c.args.ask c.self.inside.fields.time)
      (act-after_order c.args.ask c.self.inside.fields.time) c.self.inside.table c.self.inside.slots
      c.self.invariant.2),
  rw c.ask.ensures (seen_ordered c.args.id c.args.ask c.self.inside.fields.time c.self.inside.slots
      c.self.inside.looks_from c.self.invariant.3),
  c.with_if-self-inside.ensures
      (is_passed_at c.self.inside.fields.stage c.self.inside.fields.time (zip c.self.inside.table c.ask.new.self))
      (λ counts. rw c.ask.ensures
      (passed_ordered c.self.inside.fields.stage c.self.inside.fields.time c.args.id c.args.ask
      c.self.inside.table c.self.inside.slots c.self.inside.starts c.in-Some.position
      (ap (λ (x : CoreState). are_distinct x.slots) c.self.view_is ∙ c.requires.distinct) (at_position c.args.id
      c.self.inside.slots c.in-Some.position c.in-Some.ensures.position c.in-Some.ensures.found) c.self.invariant.4))
      (λ other. rw c.ask.ensures (still_ordered c.self.inside.fields.stage c.self.inside.fields.time c.args.id
      c.args.ask c.self.inside.table c.self.inside.slots c.self.inside.starts (ap (λ (x : CoreState).
      are_distinct x.slots) c.self.view_is ∙ c.requires.distinct) (ap (λ (x : CoreState). can_ask c.args.id c.args.ask
      x.fields.time x.slots) c.self.view_is ∙ c.requires.allowed) (sym c.is_start.ensures ∙ other) c.self.invariant.4)),
  rw c.ask.ensures (unsignalled_ordered c.self.inside.fields.grace c.self.inside.fields.time c.args.id c.args.ask
      c.self.inside.slots c.self.inside.stops_from c.self.invariant.5),
)

pub unreachable-requires : goal.unreachable-requires
unreachable-requires g c = can_found c.args.id c.args.ask c.self.inside.fields.time c.self.inside.slots
    (ap (λ (x : CoreState). can_ask c.args.id c.args.ask x.fields.time x.slots) c.self.view_is ∙ c.requires.allowed)
    c.in_default.ensures.found
