use Rattle.child_table.proofs.Words.{arith, vec_capacity, termed_of}
use Rattle.child_table.proofs.Indexes.{taken_room, taken_those}
use Rattle.child_table.proofs.index.index_termed.Goals as goal

pub put-requires-clause-room : goal.put-requires-clause-room
put-requires-clause-room g c = taken_room termed_of c.args.slots.now c.loop-slot.slot-index c.slot-item.result
    c.termed_of.result c.loop-slot.items.items (vec_capacity c.loop-slot.items) c.loop-slot-test.true
    c.termed_of.ensures c.loop-slot.invariant.those c.loop-slot.invariant.room

pub loop-slot-preserved : goal.loop-slot-preserved
loop-slot-preserved g c = record {
  sorted = c.put.ensures.sorted;
  those = taken_those termed_of c.args.slots.now c.loop-slot.slot-index c.slot-item.result c.termed_of.result
      c.loop-slot.items.items c.put.new.items.items c.loop-slot-test.true c.slot-item.is c.termed_of.ensures
      c.loop-slot.invariant.those c.put.ensures.counts;
  room = omega (arith, c.loop-slot.invariant.room, c.put.ensures.room);
}
