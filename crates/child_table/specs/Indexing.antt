-- Indexes of the records by a key: the number of the child, or the time at which the child was sent SIGTERM.
use Rattle.std.specs.Prelude.{◌≡◌, ◌≤◌, ℕ, Bool, true, false, ◌==◌, not, ◌&&◌, if◌then◌else◌, List, [], ◌∷◌, filter}
use Rattle.std.specs.Prelude.{length, nat_lt, Option, Some, None, Vec}
use Rattle.std.specs.List.{list_any, count_by, filter_map}
use Rattle.std.specs.Option.{option_map}
use Rattle.std.specs.Vec.{vec_capacity}
use Rattle.child_table.specs.declared.children.KnownChild.{KnownChild}
use Rattle.child_table.specs.declared.children.Stop.{Stop}
use Rattle.child_table.specs.declared.children.Stop.TheVariants.{Termed}
use Rattle.init_words.specs.declared.orders.Answer.{Answer}
use Rattle.init_words.specs.declared.orders.Answer.TheVariants.{Born, Ended, Hit}
use Rattle.init_words.specs.Ids.{same_id}
use Rattle.child_table.specs.declared.index.Keyed.{Keyed}
use Rattle.child_table.specs.declared.index.Found.{Found}
use Rattle.child_table.specs.declared.index.Found.TheVariants as found
use Rattle.child_table.specs.State.{SlotState}
use Rattle.child_table.specs.Changes.{after_nudge}

-- the index item of a record's child, if it has one: the key is the child's number
abbrev pub child_of : SlotState → Option Keyed
child_of slot = option_map (λ (child : KnownChild). record { key = child.number; id = slot.id }) slot.child

-- the index item for a stop whose last signal was SIGTERM: the key is the time at which SIGTERM was sent
abbrev pub termed_at : List ℕ → Option Stop → Option Keyed
termed_at id (Some (Termed time)) = Some (record { key = time; id = id })
termed_at id _ = None

-- the index item for a record whose child was last sent SIGTERM: the key is the time at which it was sent
abbrev pub termed_of : SlotState → Option Keyed
termed_of slot = termed_at slot.id slot.stop

-- the items of all records, in record order
abbrev pub keys_of : (SlotState → Option Keyed) → List SlotState → List Keyed
keys_of key_of slots = filter_map key_of slots

-- the items are sorted by key
abbrev pub are_sorted : List Keyed → Bool
are_sorted [] = true
are_sorted (c ∷ cs) = not (list_any (λ (d : Keyed). nat_lt d.key c.key) cs) && are_sorted cs

-- the list has exactly the items of the records, in any order: for every test, as many items of the list pass it as
-- items of the records
abbrev pub AreKeysOf : (SlotState → Option Keyed) → List SlotState → List Keyed → Type 0
AreKeysOf key_of slots cs = (test : Keyed → Bool) → count_by test cs ≡ count_by test (keys_of key_of slots)

-- the vector is the index of the records: it has their items, sorted, and room for one item per record
pub record IsIndex {A : Type 0}
    (key_of : SlotState → Option Keyed) (slots : List SlotState) (v : Vec Keyed A) : Type 0 where
  pub sorted : are_sorted v.items ≡ true
  pub those : AreKeysOf key_of slots v.items
  pub room : length slots ≤ vec_capacity v

-- one of the items has the record's id
abbrev pub is_among : List Keyed → SlotState → Bool
is_among cs slot = list_any (λ (c : Keyed). same_id c.id slot.id) cs

-- the record after a round begins for the ids of the items: it changes only if one of the items has its id
abbrev pub begun_among : List Keyed → SlotState → SlotState
begun_among cs slot = if is_among cs slot then after_nudge slot else slot

-- the number of items that pass a test, given at most one item: 0 or 1
abbrev pub passes : (Keyed → Bool) → Option Keyed → ℕ
passes test None = 0
passes test (Some c) = if test c then 1 else 0

-- the items, without those for the id
abbrev pub without_id : List ℕ → List Keyed → List Keyed
without_id id cs = filter (λ (c : Keyed). not (same_id id c.id)) cs

-- the number of items that have this id
abbrev pub count_for : List ℕ → List Keyed → ℕ
count_for id cs = count_by (λ (c : Keyed). same_id id c.id) cs

-- there is an item, and it has this id
abbrev pub is_for : List ℕ → Option Keyed → Bool
is_for id None = false
is_for id (Some c) = same_id id c.id

-- the answer can change which child the id has
abbrev pub changes_child : Answer → Bool
changes_child (Born number) = true
changes_child (Ended status) = true
changes_child _ = false

-- the answer can change the stop of the id's child
abbrev pub changes_stop : Answer → Bool
changes_stop (Born number) = true
changes_stop (Ended status) = true
changes_stop Hit = true
changes_stop _ = false

-- there is an item, and it has this key
abbrev pub is_at : ℕ → Option Keyed → Bool
is_at key None = false
is_at key (Some c) = c.key == key

-- the key of the first item
abbrev pub first_key : List Keyed → Option ℕ
first_key [] = None
first_key (c ∷ cs) = Some c.key

-- the result of a search for a key: no item has it; exactly one item has it, with this id; or several may have it
abbrev pub IsFound : ℕ → List Keyed → Found → Type 0
IsFound key cs found.None = count_by (λ (c : Keyed). c.key == key) cs ≡ 0
IsFound key cs (found.One id) = (count_by (λ (c : Keyed). c.key == key) cs ≡ 1)
    × (count_by (λ (c : Keyed). c.key == key && same_id id c.id) cs ≡ 1)
IsFound key cs found.Several = Unit {0}
