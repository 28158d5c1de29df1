use Rattle.level_core.proofs.Words.{sym, ◌∙◌, arith, zip, is_passed_at, timely_told, order_told}
use Rattle.level_core.proofs.Moved.{seen_told, passed_told, still_told, at_position}
use Rattle.level_core.proofs.Stops.{unsignalled_told}
use Rattle.level_core.proofs.state.CoreValues.answer_by_state.Goals as goal

pub invariant_of-self-2 : goal.invariant_of-self-2
invariant_of-self-2 g c = (
  c.self.invariant.0,
  rw c.in_ok-told.ensures.told (timely_told c.args.id c.args.answer c.self.inside.fields.time c.self.inside.fields.time
      (omega arith) c.self.inside.slots c.self.invariant.1),
  rw c.in_ok-told.ensures.told (order_told c.args.id c.args.answer c.self.inside.fields.time c.self.inside.table
      c.self.inside.slots c.self.invariant.2),
  rw (c.saturating_sub-self-inside.ensures, c.in_ok-told.ensures.told)
      (seen_told c.args.id c.args.answer c.self.inside.fields.time c.self.inside.slots c.self.inside.looks_from
      c.in-Some.ensures.distinct c.self.invariant.3),
  c.with_if-self-inside.ensures (is_passed_at c.self.inside.fields.stage c.self.inside.fields.time
      (zip c.self.inside.table c.told.new.self)) (λ counts. rw c.in_ok-told.ensures.told (passed_told
      c.self.inside.fields.stage c.self.inside.fields.time c.args.id c.args.answer c.self.inside.table
      c.self.inside.slots
      c.self.inside.starts c.in-Some.position c.self.invariant.2 c.in-Some.ensures.distinct
      (at_position c.args.id
      c.self.inside.slots c.in-Some.position c.in-Some.ensures.position c.in-Some.ensures.found) c.self.invariant.4))
      (λ other. rw c.in_ok-told.ensures.told (still_told c.self.inside.fields.stage c.self.inside.fields.time c.args.id
      c.args.answer c.self.inside.table c.self.inside.slots c.self.inside.starts c.in-Some.ensures.distinct
      c.in_ok-told.ensures.refused (sym c.changes_starts.ensures ∙ other) c.self.invariant.4)),
  rw (← c.as_slice.ensures.value) c.unsignalled_with-self-inside.ensures,
)

pub unsignalled_with-self-inside-requires : goal.unsignalled_with-self-inside-requires
unsignalled_with-self-inside-requires g c i lt other =
    rw (c.as_slice.ensures.value, c.in_ok-told.ensures.told) (unsignalled_told c.self.inside.fields.grace
    c.self.inside.fields.time c.args.id c.args.answer c.self.inside.slots c.self.inside.stops_from c.in-Some.position
    c.in-Some.ensures.distinct (at_position c.args.id c.self.inside.slots c.in-Some.position
    c.in-Some.ensures.position c.in-Some.ensures.found) c.self.invariant.5 i (rw c.saturating_sub-to.ensures at lt)
    other)
