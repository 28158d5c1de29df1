-- What the changes of a record do not change: its id, and that its times are no later than now.
use Rattle.child_table.proofs.Words.{◌≡◌, refl, ℕ, true, false, List, arith, Entry, Stage, OrderKind, Answer}
use Rattle.child_table.proofs.Words.{SlotState, child_of, termed_of, changes_child, changes_stop, is_timely}
use Rattle.child_table.proofs.Words.{after_order}
use Rattle.child_table.proofs.Words.{after_answer, after_enter, after_judge}
use Rattle.child_table.proofs.Timely.{timely_parts, timely_from}

pub id-after_order : (ask : OrderKind) (now : ℕ) (slot : SlotState) → (after_order ask now slot).id ≡ slot.id
id-after_order ask now slot = grind arith

pub id-after_answer : (answer : Answer) (now : ℕ) (slot : SlotState) → (after_answer answer now slot).id ≡ slot.id
id-after_answer answer now slot = grind arith

pub id-after_judge : (table : List Entry) (stage : Stage) (slot : SlotState)
    → (after_judge table stage slot).id ≡ slot.id
id-after_judge table stage slot = grind arith

pub order-after_judge : (table : List Entry) (stage : Stage) (slot : SlotState)
    → (after_judge table stage slot).order ≡ slot.order
order-after_judge table stage slot = grind arith

pub child-after_order : (ask : OrderKind) (now : ℕ) (slot : SlotState)
    → child_of (after_order ask now slot) ≡ child_of slot
child-after_order ask now slot = grind arith

pub termed-after_order : (ask : OrderKind) (now : ℕ) (slot : SlotState)
    → termed_of (after_order ask now slot) ≡ termed_of slot
termed-after_order ask now slot = grind arith

-- an answer that does not move the child does not change its item
pub child-after_answer : (answer : Answer) (now : ℕ) (slot : SlotState) → changes_child answer ≡ false
    → child_of (after_answer answer now slot) ≡ child_of slot
child-after_answer answer now slot h = grind arith

-- an answer that does not move the stop does not change its item
pub termed-after_answer : (answer : Answer) (now : ℕ) (slot : SlotState) → changes_stop answer ≡ false
    → termed_of (after_answer answer now slot) ≡ termed_of slot
termed-after_answer answer now slot h = grind arith

pub child-after_judge : (table : List Entry) (stage : Stage) (slot : SlotState)
    → child_of (after_judge table stage slot) ≡ child_of slot
child-after_judge table stage slot = grind arith

pub timely_judge : (now : ℕ) (table : List Entry) (stage : Stage) (slot : SlotState) → is_timely now slot ≡ true
    → is_timely now (after_judge table stage slot) ≡ true
timely_judge now table stage slot all = grind arith

pub timely_enter : (now : ℕ) (slot : SlotState) → is_timely now slot ≡ true → is_timely now (after_enter slot) ≡ true
timely_enter now slot all = timely_from now (after_enter slot) refl (timely_parts now slot all).1
