use Rattle.child_table.proofs.Words.{◌≡◌, ◌∷◌, [], length, refl, sym, ◌∙◌, ap, append_assoc, arith, true}
use Rattle.child_table.proofs.Words.{into_iter_items}
use Rattle.child_table.proofs.Words.{CLOCK_LIMIT, has_record_of}
use Rattle.child_table.proofs.Rebuilt.{timely_next, doubled, distinct_next}
use Rattle.child_table.proofs.slots.Slots.rebuilt.Goals as goal

pub loop-slot-init : goal.loop-slot-init
loop-slot-init g c = (
  rw c.in_ok-slots.ensures c.into_iter-slot-iterator.ensures.into_iter_gives.0,
  c.into_iter-slot-iterator.ensures.into_iter_gives.1 ∙ c.args.given.ok.0
      ∙ ap length (sym c.into_iter-slot-iterator.ensures.into_iter_gives.0),
  rw c.in_ok-slots.ensures refl,
)

pub push-requires-clause-timely : goal.push-requires-clause-timely
push-requires-clause-timely g c =
    let steps : into_iter_items c.loop-slot.slot-iterator ≡ c.in-Some.slot ∷ into_iter_items c.next.new.self =
    c.in-Some.ensures.steps.0 in
    timely_next CLOCK_LIMIT c.loop-slot.slots c.in-Some.slot (into_iter_items c.next.new.self) c.args.given.items
    (rw steps at c.loop-slot.invariant.0) c.requires

pub loop-slot-preserved : goal.loop-slot-preserved
loop-slot-preserved g c =
    let steps : into_iter_items c.loop-slot.slot-iterator ≡ c.in-Some.slot ∷ into_iter_items c.next.new.self =
    c.in-Some.ensures.steps.0 in (
      rw c.in_ok-push.ensures.pushed
          (append_assoc c.loop-slot.slots (c.in-Some.slot ∷ []) _ ∙ rw (← steps) c.loop-slot.invariant.0),
      let was = c.loop-slot.invariant.1 in
          let gone = c.in-Some.ensures.steps.1 in
          let short = ap length steps in
          omega arith,
      rw c.in_ok-push.ensures.pushed (distinct_next c.loop-slot.slots c.in-Some.slot
          (rw (← c.id.ensures, ← c.place_of.ensures.found) (sym c.if-is_some.ensures)) c.loop-slot.invariant.2),
    )

pub returns-then-is_some : goal.returns-then-is_some
returns-then-is_some g c =
    let steps : into_iter_items c.loop-slot.slot-iterator ≡ c.in-Some.slot ∷ into_iter_items c.next.new.self =
    c.in-Some.ensures.steps.0 in
    let has : has_record_of c.in-Some.slot.id c.loop-slot.slots ≡ true =
    rw (← c.id.ensures, ← c.place_of.ensures.found) (sym c.if-is_some.ensures) in
    rw (doubled c.loop-slot.slots c.in-Some.slot (into_iter_items c.next.new.self) c.args.given.items
    (rw steps at c.loop-slot.invariant.0) has) refl
