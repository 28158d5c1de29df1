-- The list of records, one per id, in record order: how to find or change a record, and how an answer changes the list.
use Rattle.std.specs.Prelude.{ℕ, Bool, true, false, not, ◌&&◌, ◌==◌, if◌then◌else◌, List, [], ◌∷◌, map, filter, find}
use Rattle.std.specs.Prelude.{Option, Some, None, is_some, Result, Ok, Err}
use Rattle.std.specs.List.{list_any}
use Rattle.std.specs.Option.{option_map}
use Rattle.init_words.specs.declared.orders.OrderKind.{OrderKind}
use Rattle.init_words.specs.declared.orders.OrderKind.TheVariants.{Look}
use Rattle.init_words.specs.declared.orders.Answer.{Answer}
use Rattle.init_words.specs.declared.refusals.Refusal.{Refusal}
use Rattle.init_words.specs.declared.refusals.Refusal.TheVariants.{NotAsked, WrongAnswer}
use Rattle.init_words.specs.Ids.{same_id}
use Rattle.init_words.specs.Orders.{same_ask, answers}
use Rattle.child_table.specs.declared.children.KnownChild.{KnownChild}
use Rattle.child_table.specs.State.{SlotState}
use Rattle.child_table.specs.Changes.{can_be_asked, after_answer, is_over}

-- the ids of the records, in order
abbrev pub ids_of_records : List SlotState → List (List ℕ)
ids_of_records slots = map (λ (slot : SlotState). slot.id) slots

-- the record has this id
abbrev pub is_record_of : List ℕ → SlotState → Bool
is_record_of id slot = same_id id slot.id

-- no id has two records
abbrev pub are_distinct : List SlotState → Bool
are_distinct [] = true
are_distinct (slot ∷ slots) = not (list_any (is_record_of slot.id) slots) && are_distinct slots

-- the record of an id
abbrev pub record_by_id : List ℕ → List SlotState → Option SlotState
record_by_id id slots = find (is_record_of id) slots

-- the id has a record
abbrev pub has_record_of : List ℕ → List SlotState → Bool
has_record_of id slots = is_some (record_by_id id slots)

-- there is a record, and init may give this order for it now
abbrev pub can_ask_of : OrderKind → ℕ → Option SlotState → Bool
can_ask_of ask now None = false
can_ask_of ask now (Some slot) = can_be_asked ask now slot

-- init may give this order for the id now
abbrev pub can_ask : List ℕ → OrderKind → ℕ → List SlotState → Bool
can_ask id ask now slots = can_ask_of ask now (record_by_id id slots)

-- the open order of a record, if there is one
abbrev pub order_of : Option SlotState → Option OrderKind
order_of None = None
order_of (Some slot) = slot.order

-- the open order of an id
abbrev pub order_in : List ℕ → List SlotState → Option OrderKind
order_in id slots = order_of (record_by_id id slots)

-- there is a child, and it has this number
abbrev pub is_numbered : ℕ → Option KnownChild → Bool
is_numbered number None = false
is_numbered number (Some child) = child.number == number

-- the id of the first record whose child has this number
abbrev pub id_of_child : ℕ → List SlotState → Option (List ℕ)
id_of_child number slots =
    option_map (λ (slot : SlotState). slot.id) (find (λ (slot : SlotState). is_numbered number slot.child) slots)

-- there is an open order, and it is a start or a signal
abbrev pub is_busy : Option OrderKind → Bool
is_busy None = false
is_busy (Some ask) = not (same_ask Look ask)

-- a quiet point: no start and no signal is open
abbrev pub is_quiet : List SlotState → Bool
is_quiet slots = not (list_any (λ (slot : SlotState). is_busy slot.order) slots)

-- the record after the change if it has this id, otherwise unchanged
abbrev pub changed : List ℕ → (SlotState → SlotState) → SlotState → SlotState
changed id change slot = if is_record_of id slot then change slot else slot

-- the records after a change to the id's record
abbrev pub with_changed : List ℕ → (SlotState → SlotState) → List SlotState → List SlotState
with_changed id change slots = map (changed id change) slots

-- the records without the id's record
abbrev pub without : List ℕ → List SlotState → List SlotState
without id slots = filter (λ (slot : SlotState). not (is_record_of id slot)) slots

-- whether an answer is accepted: an order must be open, and the answer must fit an order of its kind
abbrev pub refusal_of : Option OrderKind → Answer → Result (Unit {0}) Refusal
refusal_of None answer = Err NotAsked
refusal_of (Some ask) answer = if answers answer ask then Ok tt else Err WrongAnswer

-- there is a record, and the answer removes it
abbrev pub ends_record : Answer → Option SlotState → Bool
ends_record answer None = false
ends_record answer (Some slot) = is_over answer slot

-- the answer removes the id's record
abbrev pub is_over_in : List ℕ → Answer → List SlotState → Bool
is_over_in id answer slots = ends_record answer (record_by_id id slots)

-- the records after an answer for the id at this time: the answer removes the id's record or changes it
abbrev pub after_answer_to : List ℕ → Answer → ℕ → List SlotState → List SlotState
after_answer_to id answer now slots =
    if is_over_in id answer slots then without id slots else with_changed id (after_answer answer now) slots
