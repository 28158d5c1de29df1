-- Records in record order: each change keeps the order, and adopting a table establishes it.
use Rattle.child_table.proofs.Words.{◌≡◌, refl, ◌∙◌, Bool, true, ℕ, List, [], ◌∷◌, ◌++◌, map, filter, Option, Some}
use Rattle.child_table.proofs.Words.{None, is_none, arith, list_all, Entry, OrderKind, Answer, Stage, entry_of}
use Rattle.child_table.proofs.Words.{KnownChild, SlotState, new_record, after_order, after_answer, is_over}
use Rattle.child_table.proofs.Words.{is_excluded, judged, judged_child, after_judge, record_by_id, changed}
use Rattle.child_table.proofs.Words.{with_changed, without, after_answer_to, adopted, left_over, is_left_over}
use Rattle.child_table.proofs.Words.{entry_records, left_records, after_adopt}
use Rattle.child_table.specs.Order.{IsInOrder}
use Rattle.child_table.proofs.Adopted.{id-adopted}
use Rattle.child_table.proofs.Changed.{id-after_answer}

-- none of the records has an entry in the table
abbrev pub are_left : List SlotState → Bool
are_left slots = list_all (λ (slot : SlotState). is_none slot.table_act) slots

-- a change that keeps the ids and the table's actions keeps the order
pub order_map : (change : SlotState → SlotState) → ((s : SlotState) → (change s).id ≡ s.id)
    → ((s : SlotState) → (change s).table_act ≡ s.table_act) → (table : List Entry) (slots : List SlotState)
    → IsInOrder table slots → IsInOrder table (map change slots)
order_map change ids acts [] [] h = refl
order_map change ids acts [] (slot ∷ slots) h = grind (arith, order_map change ids acts [] slots)
order_map change ids acts (e ∷ table) [] h = absurd h
order_map change ids acts (e ∷ table) (slot ∷ slots) h =
    (ids slot ∙ h.0, acts slot ∙ h.1, order_map change ids acts table slots h.2)

-- what a change keeps for every record, it keeps when applied to one
pub kept_by_one : {X : Type 0} (field : SlotState → X) (id : List ℕ) (change : SlotState → SlotState)
    → ((s : SlotState) → field (change s) ≡ field s) → (s : SlotState) → field (changed id change s) ≡ field s
kept_by_one field id change keeps s = grind arith

pub order_changed : (id : List ℕ) (change : SlotState → SlotState) → ((s : SlotState) → (change s).id ≡ s.id)
    → ((s : SlotState) → (change s).table_act ≡ s.table_act) → (table : List Entry) (slots : List SlotState)
    → IsInOrder table slots → IsInOrder table (with_changed id change slots)
order_changed id change ids acts table slots h = order_map (changed id change) (kept_by_one (λ s. s.id) id change ids)
    (kept_by_one (λ s. s.table_act) id change acts) table slots h

pub act-after_order : (ask : OrderKind) (now : ℕ) (slot : SlotState)
    → (after_order ask now slot).table_act ≡ slot.table_act
act-after_order ask now slot = grind arith

pub act-after_answer : (answer : Answer) (now : ℕ) (slot : SlotState)
    → (after_answer answer now slot).table_act ≡ slot.table_act
act-after_answer answer now slot = grind arith

pub act-after_judge : (table : List Entry) (stage : Stage) (slot : SlotState)
    → (after_judge table stage slot).table_act ≡ slot.table_act
act-after_judge table stage slot = child slot.child
  where
    by : (b : Bool) → (judged b slot).table_act ≡ slot.table_act
    by b = grind arith

    child : (child : Option KnownChild) → (judged_child stage table child slot).table_act ≡ slot.table_act
    child None = refl
    child (Some living) = by (is_excluded stage living.act (entry_of slot.id table))

-- removing a record without an entry keeps the others
left_without : (id : List ℕ) (slots : List SlotState) → are_left slots ≡ true → are_left (without id slots) ≡ true
left_without id [] h = refl
left_without id (slot ∷ slots) h = grind (arith, left_without id slots)

order_without : (id : List ℕ) (found : SlotState) (table : List Entry) (slots : List SlotState) → record_by_id id
    slots ≡ Some found → is_none found.table_act ≡ true → IsInOrder table slots → IsInOrder table (without id slots)
order_without id found [] slots is none h = left_without id slots h
order_without id found (e ∷ table) [] is none h = absurd h
order_without id found (e ∷ table) (slot ∷ slots) is none h = grind (arith, order_without id found table slots)

pub over_none : (answer : Answer) (slot : SlotState) → is_over answer slot ≡ true → is_none slot.table_act ≡ true
over_none answer slot h = grind arith

pub order_told : (id : List ℕ) (answer : Answer) (now : ℕ) (table : List Entry) (slots : List SlotState)
    → IsInOrder table slots → IsInOrder table (after_answer_to id answer now slots)
order_told id answer now table slots h =
    grind (arith, order_changed, id-after_answer, act-after_answer, order_without, over_none)

-- adopting a table establishes the order of that table
left_made : (slots : List SlotState) → are_left (map left_over slots) ≡ true
left_made [] = refl
left_made (slot ∷ slots) = left_made slots

adopted_act : (e : Entry) (before : Option SlotState) → (adopted e before).table_act ≡ Some e.act
adopted_act e None = refl
adopted_act e (Some slot) = refl

order_joined : (table : List Entry) (before rest : List SlotState) → are_left rest ≡ true
    → IsInOrder table (entry_records table before ++ rest)
order_joined [] before rest h = h
order_joined (e ∷ table) before rest h = (
  id-adopted e (record_by_id e.id before),
  adopted_act e (record_by_id e.id before),
  order_joined table before rest h,
)

pub order_adopt : (table : List Entry) (slots : List SlotState) → IsInOrder table (after_adopt table slots)
order_adopt table slots =
    order_joined table slots (left_records table slots) (left_made (filter (is_left_over table) slots))

pub order_new : (table : List Entry) → IsInOrder table (map new_record table)
order_new [] = refl
order_new (e ∷ table) = (refl, refl, order_new table)
