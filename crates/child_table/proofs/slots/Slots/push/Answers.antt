use Rattle.child_table.proofs.Words.{◌≡◌, length, ap, sym, ◌∙◌, arith, CLOCK_LIMIT, counts_of, child_of, termed_of}
use Rattle.std.proofs.lemmas.Map.Entries.{length-values_of}
use Rattle.child_table.proofs.Counted.{few_pushed, pushed_count}
use Rattle.child_table.proofs.Found.{distinct_pushed, pushed}
use Rattle.child_table.proofs.Indexes.{push_room, pushed_index}
use Rattle.child_table.proofs.slots.Slots.push.Goals as goal

pub add-requires : goal.add-requires
add-requires g c =
    let many : length c.args.self.now ≡ length c.self.inside.records.entries =
    sym (ap length c.self.view_is) ∙ length-values_of c.self.inside.records.entries in
    let left = pushed c.args.slot c.id-id.result c.self.inside.records c.insert.new.self c.args.self.now c.id-id.ensures
    c.self.invariant.0 c.self.view_is c.requires.new c.in_ok-insert.ensures.entries in
    (pushed_count c.insert.new.self c.args.slot c.args.self.now c.self.inside.counts c.of-counts.result
    (few_pushed c.args.slot c.args.self.now c.insert.new.self.entries _ left.values
    (omega (arith, many, c.in_ok-make_room.ensures.room, c.len-records.ensures.len))
    c.make_room.new.items.small) left.values
    (c.self.invariant.2 ∙ ap counts_of c.self.view_is) c.of-counts.ensures).small

pub put-requires-clause-room : goal.put-requires-clause-room
put-requires-clause-room g c =
    let many : length c.args.self.now ≡ length c.self.inside.records.entries =
    sym (ap length c.self.view_is) ∙ length-values_of c.self.inside.records.entries in
    push_room child_of c.args.slot c.self.inside.children c.make_room.new.items c.child_of-child.result c.self.view_is
    c.child_of-child.ensures c.make_room.ensures.items
    (omega (arith, many, c.in_ok-make_room.ensures.room, c.len-records.ensures.len)) c.self.invariant.3

pub put-requires-2-clause-room : goal.put-requires-2-clause-room
put-requires-2-clause-room g c =
    let many : length c.args.self.now ≡ length c.self.inside.records.entries =
    sym (ap length c.self.view_is) ∙ length-values_of c.self.inside.records.entries in
    push_room termed_of c.args.slot c.self.inside.termed c.make_room-2.new.items c.termed_of-termed.result
    c.self.view_is c.termed_of-termed.ensures c.make_room-2.ensures.items
    (omega (arith, many, c.in_ok-make_room-2.ensures.room, c.len-records.ensures.len)) c.self.invariant.4

pub invariant_of-self-2 : goal.invariant_of-self-2
invariant_of-self-2 g c =
    let many : length c.args.self.now ≡ length c.self.inside.records.entries =
    sym (ap length c.self.view_is) ∙ length-values_of c.self.inside.records.entries in
    let left = pushed c.args.slot c.id-id.result c.self.inside.records c.insert.new.self c.args.self.now c.id-id.ensures
    c.self.invariant.0 c.self.view_is c.requires.new c.in_ok-insert.ensures.entries in (
      left.own,
      left.timely CLOCK_LIMIT c.requires.timely (rw c.self.view_is at c.self.invariant.1),
      c.add.ensures ∙ (pushed_count c.insert.new.self c.args.slot c.args.self.now c.self.inside.counts
          c.of-counts.result (few_pushed c.args.slot c.args.self.now c.insert.new.self.entries _ left.values
          (omega (arith, many, c.in_ok-make_room.ensures.room, c.len-records.ensures.len))
          c.make_room.new.items.small) left.values
          (c.self.invariant.2 ∙ ap counts_of c.self.view_is) c.of-counts.ensures).exact
          ∙ sym (ap counts_of left.values),
      pushed_index child_of c.args.slot c.self.inside.children c.make_room.new.items c.put.new.items
          c.child_of-child.result c.self.view_is left.values c.child_of-child.ensures c.make_room.ensures.items
          (omega (arith, many, c.in_ok-make_room.ensures.room, c.len-records.ensures.len)) c.put.ensures.counts
          c.put.ensures.sorted c.put.ensures.room c.self.invariant.3,
      pushed_index termed_of c.args.slot c.self.inside.termed c.make_room-2.new.items c.put-2.new.items
          c.termed_of-termed.result c.self.view_is left.values c.termed_of-termed.ensures c.make_room-2.ensures.items
          (omega (arith, many, c.in_ok-make_room-2.ensures.room, c.len-records.ensures.len)) c.put-2.ensures.counts
          c.put-2.ensures.sorted c.put-2.ensures.room c.self.invariant.4,
      rw left.values (distinct_pushed c.args.slot c.args.self.now c.requires.new
          (rw c.self.view_is at c.self.invariant.5)),
    )

pub returns-clause-pushed : goal.returns-clause-pushed
returns-clause-pushed g c = (pushed c.args.slot c.id-id.result c.self.inside.records c.insert.new.self c.args.self.now
    c.id-id.ensures c.self.invariant.0 c.self.view_is c.requires.new c.in_ok-insert.ensures.entries).values
