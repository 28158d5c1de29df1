-- How each change of the records changes an index by any key.
use Rattle.child_table.proofs.Words.{◌≡◌, refl, sym, ◌∙◌, ap, subst, cond, Bool, true, false, not, ◌&&◌, ℕ, ◌+◌, ◌≤◌}
use Rattle.child_table.proofs.Words.{◌<◌, List, [], ◌∷◌, ◌++◌, map, filter, take, get_or, length, Option, Some, arith}
use Rattle.child_table.proofs.Words.{count_by, cons_option, IfSome, vec_capacity, Vec, sum_by-cons, length-filter}
use Rattle.child_table.proofs.Words.{count_by-le-length, length-map, length_push, length-take-le, take_more, same_id}
use Rattle.child_table.proofs.Words.{Keyed, SlotState, are_distinct, record_by_id, changed, with_changed, without}
use Rattle.child_table.proofs.Words.{are_sorted, AreKeysOf, IsIndex, passes, without_id}
use Rattle.child_table.specs.Indexing.{keys_of}
use Rattle.child_table.proofs.Found.{others, rest_distinct, unchanged, without_none}

count-cons : (test : Keyed → Bool) (c : Keyed) (cs : List Keyed)
    → count_by test (c ∷ cs) ≡ cond (test c) 1 0 + count_by test cs
count-cons test c cs = sum_by-cons (λ (d : Keyed). cond (test d) 1 0) c cs

count-option : (test : Keyed → Bool) (o : Option Keyed) (cs : List Keyed)
    → count_by test (cons_option o cs) ≡ passes test o + count_by test cs
count-option test o cs = grind (arith, count-cons)

count-filter : (test q : Keyed → Bool) (cs : List Keyed)
    → count_by test (filter q cs) ≡ count_by (λ c. q c && test c) cs
count-filter test q [] = refl
count-filter test q (c ∷ cs) =
    here (q c) (count-filter test q cs) ∙ sym (sum_by-cons (λ (d : Keyed). cond (q d && test d) 1 0) c cs)
  where
    here : (b : Bool) → count_by test (filter q cs) ≡ count_by (λ c. q c && test c) cs → count_by test
        (cond b (c ∷ filter q cs) (filter q cs)) ≡ cond (b && test c) 1 0 + count_by (λ c. q c && test c) cs
    here b later = grind (arith, count-cons)

count-all : (cs : List Keyed) → count_by (λ _. true) cs ≡ length cs
count-all [] = refl
count-all (c ∷ cs) = count-cons (λ _. true) c cs ∙ ap (λ n. 1 + n) (count-all cs) ∙ omega arith

few : (o : Option Keyed) → passes (λ _. true) o ≤ 1
few o = grind arith

-- a test that items of the id do not pass
abbrev not_of : List ℕ → (Keyed → Bool) → Keyed → Bool
not_of id test c = not (same_id id c.id) && test c

-- the items of the records
module _ (key_of : SlotState → Option Keyed) where
  pub count-slot : (test : Keyed → Bool) (slot : SlotState) (slots : List SlotState)
      → count_by test (keys_of key_of (slot ∷ slots)) ≡ passes test (key_of slot) + count_by test (keys_of key_of slots)
  count-slot test slot slots = count-option test (key_of slot) (keys_of key_of slots)

  -- the records with that of an id changed
  count-with : (test : Keyed → Bool) (id : List ℕ) (change : SlotState → SlotState) (slot : SlotState)
      (slots : List SlotState) → are_distinct slots ≡ true → record_by_id id slots ≡ Some slot
      → count_by test (keys_of key_of (with_changed id change slots))
      ≡ count_by test (keys_of key_of (without id slots)) + passes test (key_of (change slot))
  count-with test id change slot [] distinct is = absurd (cc)
  count-with test id change slot (first ∷ slots) distinct is =
      grind (arith, rest_distinct, others, unchanged, without_none, count-slot, count-with test id change slot slots)

  count-push : (test : Keyed → Bool) (slot : SlotState) (slots : List SlotState) → count_by test
      (keys_of key_of (slots ++ slot ∷ [])) ≡ count_by test (keys_of key_of slots) + passes test (key_of slot)
  count-push test slot [] = count-slot test slot [] ∙ omega arith
  count-push test slot (first ∷ slots) = count-slot test first (slots ++ slot ∷ []) ∙ ap
      (λ n. passes test (key_of first) + n) (count-push test slot slots) ∙ omega (arith, count-slot test first slots)

  few_keys : (slots : List SlotState) → count_by (λ _. true) (keys_of key_of slots) ≤ length slots
  few_keys [] = omega arith
  few_keys (slot ∷ slots) = omega (arith, count-slot (λ _. true) slot slots, few (key_of slot), few_keys slots)

  -- there are no more items than records
  length_within : (slots : List SlotState) (cs : List Keyed) → AreKeysOf key_of slots cs → length cs ≤ length slots
  length_within slots cs those = omega (arith, count-all cs, those (λ _. true), few_keys slots)

  -- the items with one more record
  pushed_those : (slot : SlotState) (slots : List SlotState) (cs : List Keyed) → AreKeysOf key_of slots cs → (test :
      Keyed → Bool) → count_by test cs + passes test (key_of slot) ≡ count_by test (keys_of key_of (slots ++ slot ∷ []))
  pushed_those slot slots cs those test =
      ap (λ n. n + passes test (key_of slot)) (those test) ∙ sym (count-push test slot slots)

  pub pushed_room : (slot : SlotState) (slots : List SlotState) (cs : List Keyed) → AreKeysOf key_of slots cs
      → length cs + passes (λ _. true) (key_of slot) ≤ length slots + 1
  pushed_room slot slots cs those = omega (arith, length_within slots cs those, few (key_of slot))

  -- the items of the records so far, and of the next one, have room
  pub taken_room : (slots : List SlotState) (i : ℕ) (slot : SlotState) (item : Option Keyed) (cs : List Keyed)
      (room : ℕ) → i < length slots → item ≡ key_of slot → AreKeysOf key_of (take i slots) cs → length slots ≤ room
      → length cs + passes (λ _. true) item ≤ room
  taken_room slots i slot item cs room within one those most =
      rw one (omega (arith, pushed_room slot (take i slots) cs those, length-take-le i slots (omega arith)))

  pub taken_those : (slots : List SlotState) (i : ℕ) (slot : SlotState) (item : Option Keyed) (cs new : List Keyed)
      → i < length slots → slot ≡ get_or slots i slot → item ≡ key_of slot → AreKeysOf key_of (take i slots) cs
      → ((test : Keyed → Bool) → count_by test new ≡ count_by test cs + passes test item)
      → AreKeysOf key_of (take (i + 1) slots) new
  taken_those slots i slot item cs new within is one those counts test =
      let next : take (i + 1) slots ≡ take i slots ++ slot ∷ [] =
      take_more slots i slot within ∙ ap (λ s. take i slots ++ s ∷ []) (sym is) in
      rw next ((rw one at counts test) ∙ pushed_those slot (take i slots) cs those test)

  -- a change that keeps the keys keeps the items
  same_keys : (change : SlotState → SlotState) → ((slot : SlotState) → key_of (change slot) ≡ key_of slot)
      → (slots : List SlotState) → keys_of key_of (map change slots) ≡ keys_of key_of slots
  same_keys change keeps [] = refl
  same_keys change keeps (slot ∷ slots) = λ i. cons_option (keeps slot i) (same_keys change keeps slots i)

  same_those : (change : SlotState → SlotState) → ((slot : SlotState) → key_of (change slot) ≡ key_of slot)
      → (slots : List SlotState) (cs : List Keyed) → AreKeysOf key_of slots cs
      → AreKeysOf key_of (map change slots) cs
  same_those change keeps slots cs those test = those test ∙ sym (ap (count_by test) (same_keys change keeps slots))

  same_one : (id : List ℕ) (change : SlotState → SlotState) → ((slot : SlotState)
      → key_of (change slot) ≡ key_of slot) → (slot : SlotState) → key_of (changed id change slot) ≡ key_of slot
  same_one id change keeps slot = grind arith

-- each item has the id of its record
abbrev pub HasOwnIds : (SlotState → Option Keyed) → Type 0
HasOwnIds key_of = (slot : SlotState) → IfSome (key_of slot) (λ c. c.id ≡ slot.id)

module _ (key_of : SlotState → Option Keyed) (own_ids : HasOwnIds key_of) where
  count-without : (test : Keyed → Bool) (id : List ℕ) (slots : List SlotState)
      → count_by test (keys_of key_of (without id slots)) ≡ count_by (not_of id test) (keys_of key_of slots)
  count-without test id [] = refl
  count-without test id (slot ∷ slots) = grind (arith, count-slot, count-without test id slots)

  -- the items without that of the id are the items of the records without that of the id
  without_those : (id : List ℕ) (slots : List SlotState) (cs : List Keyed) → AreKeysOf key_of slots cs
      → AreKeysOf key_of (without id slots) (without_id id cs)
  without_those id slots cs those test =
      count-filter test (λ c. not (same_id id c.id)) cs ∙ those (not_of id test) ∙ sym (count-without test id slots)

  -- with the item of the changed record added, they are the items of the records with that of the id changed
  changed_those : (id : List ℕ) (change : SlotState → SlotState) (slot : SlotState) (slots : List SlotState)
      (cs : List Keyed) → are_distinct slots ≡ true → record_by_id id slots ≡ Some slot → AreKeysOf key_of slots cs
      → (test : Keyed → Bool) → count_by test (without_id id cs) + passes test (key_of (change slot))
      ≡ count_by test (keys_of key_of (with_changed id change slots))
  changed_those id change slot slots cs distinct is those test = ap (λ n. n + passes test (key_of (change slot)))
      (without_those id slots cs those test) ∙ sym (count-with key_of test id change slot slots distinct is)

-- the indexes
module _ (key_of : SlotState → Option Keyed) {A : Type 0} where
  of_same : {was slots : List SlotState} (index : Vec Keyed A) → was ≡ slots → IsIndex key_of was index
      → IsIndex key_of slots index
  of_same index is h = subst (λ xs. IsIndex key_of xs index) is h

  -- an index stays right if all records change, or one, but no key does
  pub same_index : (change : SlotState → SlotState) → ((slot : SlotState) → key_of (change slot) ≡ key_of slot)
      → {was slots now : List SlotState} (index : Vec Keyed A) → was ≡ slots → now ≡ map change slots
      → IsIndex key_of was index → IsIndex key_of now index
  same_index change keeps {slots} index is done h = grind (arith, of_same, same_those, length-map)

  pub same_index_at : (id : List ℕ) (change : SlotState → SlotState) → ((slot : SlotState)
      → key_of (change slot) ≡ key_of slot) → {was slots now : List SlotState} (index : Vec Keyed A) → was ≡ slots
      → now ≡ with_changed id change slots → IsIndex key_of was index → IsIndex key_of now index
  same_index_at id change keeps index is done h =
      same_index (changed id change) (same_one key_of id change keeps) index is done h

  -- room for the item of one more record, and the index with it
  pub push_room : (slot : SlotState) {was slots : List SlotState} (old reserved : Vec Keyed A) (item : Option Keyed)
      → was ≡ slots → item ≡ key_of slot → reserved.items ≡ old.items → length slots + 1 ≤ vec_capacity reserved
      → IsIndex key_of was old → length reserved.items + passes (λ _. true) item ≤ vec_capacity reserved
  push_room slot {slots = slots} old reserved item is one same room h = grind (arith, pushed_room, of_same)

  pub pushed_index : (slot : SlotState) {was slots now : List SlotState} (old reserved new : Vec Keyed A)
      (item : Option Keyed) → was ≡ slots → now ≡ slots ++ slot ∷ [] → item ≡ key_of slot → reserved.items ≡ old.items
      → length slots + 1 ≤ vec_capacity reserved
      → ((test : Keyed → Bool) → count_by test new.items ≡ count_by test reserved.items + passes test item)
      → are_sorted new.items ≡ true → vec_capacity reserved ≤ vec_capacity new
      → IsIndex key_of was old → IsIndex key_of now new
  pushed_index slot {slots = slots} old reserved new item is done one same room counts sorted more h =
      grind (arith, length_push, of_same, pushed_those)

module _ (key_of : SlotState → Option Keyed) (own_ids : HasOwnIds key_of) {A : Type 0} where
  -- the index without the record of an id
  pub removed_index : (id : List ℕ) {was slots now : List SlotState} (old new : Vec Keyed A) → was ≡ slots
      → now ≡ without id slots → new.items ≡ without_id id old.items → are_sorted new.items ≡ true
      → vec_capacity new ≡ vec_capacity old → IsIndex key_of was old → IsIndex key_of now new
  removed_index id {slots = slots} old new is done left sorted room h =
      grind (arith, of_same, count_by-le-length, without_those, length-filter)

  -- the index after the record of an id was changed, for which the item is replaced if the change moves it
  module _ (id : List ℕ) (change : SlotState → SlotState) (slot left : SlotState) {was slots : List SlotState}
      (old : Vec Keyed A) (item : Option Keyed) (is : was ≡ slots) (distinct : are_distinct slots ≡ true)
      (found : record_by_id id slots ≡ Some slot) (done : left ≡ change slot) (one : item ≡ key_of left) where
    pub note_room : IsIndex key_of was old
        → length (without_id id old.items) + passes (λ _. true) item ≤ vec_capacity old
    note_room h =
        let own = of_same key_of old is h in
        let size : length (with_changed id change slots) ≡ length slots = length-map slots (changed id change) in
        rw (one, done) (omega (
          arith,
          count-all (without_id id old.items),
          changed_those key_of own_ids id change slot slots old.items distinct found own.those (λ _. true),
          few_keys key_of (with_changed id change slots),
          own.room,
        ))

    pub noted_index : (moves : Bool) {now : List SlotState} (new : Vec Keyed A) → now ≡ with_changed id change slots
        → (moves ≡ false → (s : SlotState) → key_of (change s) ≡ key_of s)
        → ((test : Keyed → Bool) → count_by test new.items ≡ cond moves (count_by test (without_id id old.items) +
        passes test item) (count_by test old.items)) → are_sorted new.items ≡ true → vec_capacity old ≤ vec_capacity new
        → IsIndex key_of was old → IsIndex key_of now new
    noted_index moves new written keeps counts sorted more h =
        let own = of_same key_of old is h in
        let size : length (with_changed id change slots) ≡ length slots = length-map slots (changed id change) in
        of_same key_of new (sym written) (record {
          sorted = sorted;
          those = λ test. by moves keeps own.those test (rw (one, done) at counts test);
          room = omega (arith, size, own.room, more);
        })
      where
        by : (b : Bool) → (b ≡ false → (s : SlotState) → key_of (change s) ≡ key_of s)
            → AreKeysOf key_of slots old.items → (test : Keyed → Bool)
            → count_by test new.items ≡ cond b
            (count_by test (without_id id old.items) + passes test (key_of (change slot))) (count_by test old.items)
            → count_by test new.items ≡ count_by test (keys_of key_of (with_changed id change slots))
        by true keeps those test e =
            e ∙ changed_those key_of own_ids id change slot slots old.items distinct found those test
        by false keeps those test e = e
            ∙ same_those key_of (changed id change) (same_one key_of id change (keeps refl)) slots old.items those test
