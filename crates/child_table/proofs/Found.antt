-- A map whose keys are the ids of its records behaves like the list of its records when one is found, changed or
-- removed.
use Rattle.child_table.proofs.Words.{◌≡◌, refl, sym, ◌∙◌, ap, subst, Bool, true, false, not, List, [], ◌∷◌, ◌++◌, ℕ}
use Rattle.child_table.proofs.Words.{zero, suc, map, slice_get, Option, Some, None, Ok, arith, list_any}
use Rattle.child_table.proofs.Words.{AllByRecursion, IfSome, option_copied, values_of, lookup, set_value, remove_entry}
use Rattle.child_table.proofs.Words.{and_parts, and_from, or_from, not-true, not_from_false, same_id, Answer}
use Rattle.child_table.proofs.Words.{◌&&◌, ◌||◌, same_id-sym}
use Rattle.child_table.proofs.Words.{same_id-is, lookup-find, values-push, keys-push, IndexMap, IsUnique}
use Rattle.child_table.proofs.Words.{WritesThrough, insert_entry, SlotState, is_timely, are_timely, ids_of_records}
use Rattle.child_table.proofs.Words.{is_record_of, are_distinct, record_by_id, order_of, refusal_of, with_changed}
use Rattle.child_table.proofs.Words.{without}
use Rattle.std.specs.Borrow.{Bor}
use Rattle.indexmap.proofs.CallerLemmas.{insert_entry-new}
use Rattle.std.proofs.Common.{is_some}
use Rattle.std.specs.List.{IsDistinct}
use Rattle.std.specs.Map.{keys_of}
use Rattle.child_table.proofs.Timely.{timely_changed, timely_filter, timely_found, timely_map, timely_push}

-- the entries of a map
abbrev pub Kept : Type 0
Kept = List (List ℕ × SlotState)

abbrev pub IsOwn : Kept → Type 0
IsOwn kept = keys_of kept ≡ ids_of_records (values_of kept)

-- one of the records is that of the id
abbrev pub is_listed : List ℕ → List SlotState → Bool
is_listed id slots = list_any (is_record_of id) slots

-- if no key is the id, no record is that of the id
none_same : (id : List ℕ) (slots : List SlotState) → AllByRecursion (λ k. same_id id k ≡ false) (ids_of_records slots)
    → is_listed id slots ≡ false
none_same id [] h = refl
none_same id (slot ∷ slots) h = or_from (is_record_of id slot) (is_listed id slots) h.0 (none_same id slots h.1)

distinct_ids : (slots : List SlotState) → IsDistinct same_id (ids_of_records slots) → are_distinct slots ≡ true
unfolding IsDistinct
distinct_ids [] h = refl
distinct_ids (slot ∷ slots) h = and_from (not (is_listed slot.id slots)) (are_distinct slots)
    (not_from_false (is_listed slot.id slots) (none_same slot.id slots h.0)) (distinct_ids slots h.1)

pub distinct_kept : (kept : Kept) → IsOwn kept → IsDistinct same_id (keys_of kept)
    → are_distinct (values_of kept) ≡ true
distinct_kept kept own h = distinct_ids (values_of kept) (subst (IsDistinct same_id) own h)

pub distinct_in : {S : Type 0} (m : IndexMap (List ℕ) SlotState S) (slots : List SlotState) → IsOwn m.entries
    → IsUnique same_id m → values_of m.entries ≡ slots → are_distinct slots ≡ true
distinct_in m slots own unique is = rw (← is) (distinct_kept m.entries own unique)

-- whether records are distinct depends on their ids alone
abbrev distinct_list : List (List ℕ) → Bool
distinct_list [] = true
distinct_list (id ∷ ids) = not (list_any (same_id id) ids) && distinct_list ids

listed_ids : (id : List ℕ) (slots : List SlotState) → is_listed id slots ≡ list_any (same_id id) (ids_of_records slots)
listed_ids id [] = refl
listed_ids id (slot ∷ slots) = ap (λ b. same_id id slot.id || b) (listed_ids id slots)

distinct_by_ids : (slots : List SlotState) → are_distinct slots ≡ distinct_list (ids_of_records slots)
distinct_by_ids [] = refl
distinct_by_ids (slot ∷ slots) =
    ap (λ b. not b && are_distinct slots) (listed_ids slot.id slots)
    ∙ ap (λ b. not (list_any (same_id slot.id) (ids_of_records slots)) && b) (distinct_by_ids slots)

pub same_distinct : (slots others : List SlotState) → ids_of_records slots ≡ ids_of_records others
    → are_distinct slots ≡ true → are_distinct others ≡ true
same_distinct slots others same distinct =
    distinct_by_ids others ∙ sym (ap distinct_list same) ∙ sym (distinct_by_ids slots) ∙ distinct

-- a change of each record that keeps its id keeps the records distinct
ids-mapped : (change : SlotState → SlotState) → ((slot : SlotState) → (change slot).id ≡ slot.id)
    → (slots : List SlotState) → ids_of_records slots ≡ ids_of_records (map change slots)
ids-mapped change keeps [] = refl
ids-mapped change keeps (slot ∷ slots) = grind (arith, ids-mapped change keeps slots)

pub distinct_mapped : (change : SlotState → SlotState) → ((slot : SlotState) → (change slot).id ≡ slot.id)
    → (slots : List SlotState) → are_distinct slots ≡ true → are_distinct (map change slots) ≡ true
distinct_mapped change keeps slots distinct =
    same_distinct slots (map change slots) (ids-mapped change keeps slots) distinct

-- no record after that of an id has the same id
pub others : (id : List ℕ) (slot : SlotState) (slots : List SlotState) → are_distinct (slot ∷ slots) ≡ true
    → is_record_of id slot ≡ true → is_listed id slots ≡ false
others id slot slots distinct is = subst (λ k. is_listed k slots ≡ false) (sym (same_id-is id slot.id is))
    (not-true (is_listed slot.id slots) (and_parts (not (is_listed slot.id slots)) (are_distinct slots) distinct).0)

pub rest_distinct : (slot : SlotState) (slots : List SlotState) → are_distinct (slot ∷ slots) ≡ true
    → are_distinct slots ≡ true
rest_distinct slot slots distinct = (and_parts (not (is_listed slot.id slots)) (are_distinct slots) distinct).1

-- fewer records are still distinct
none_without : (id other : List ℕ) (slots : List SlotState) → is_listed id slots ≡ false
    → is_listed id (without other slots) ≡ false
none_without id other [] h = refl
none_without id other (slot ∷ slots) h = grind (arith, none_without id other slots)

pub distinct_without : (id : List ℕ) (slots : List SlotState) → are_distinct slots ≡ true
    → are_distinct (without id slots) ≡ true
distinct_without id [] distinct = refl
distinct_without id (slot ∷ slots) distinct =
    grind (arith, rest_distinct, others, none_without slot.id id slots, distinct_without id slots)

-- without a record of the id, nothing is changed
pub unchanged : (id : List ℕ) (change : SlotState → SlotState) (slots : List SlotState)
    → is_listed id slots ≡ false → with_changed id change slots ≡ slots
unchanged id change [] h = refl
unchanged id change (slot ∷ slots) h = grind (arith, unchanged id change slots)

-- writing to the record that was found changes the record of the id
pub values-changed : (id : List ℕ) (change : SlotState → SlotState) (slot : SlotState) (kept : Kept) → IsOwn kept
    → are_distinct (values_of kept) ≡ true → lookup (same_id id) kept ≡ Some slot
    → values_of (set_value (same_id id) kept (change slot)) ≡ with_changed id change (values_of kept)
values-changed id change slot [] own distinct is = absurd (cc)
values-changed id change slot (e ∷ kept) own distinct is =
    grind (arith, rest_distinct, others, unchanged, values-changed id change slot kept)

-- a change that keeps the id of a record keeps all ids
pub ids-changed : (id : List ℕ) (change : SlotState → SlotState) → ((slot : SlotState) → (change slot).id
    ≡ slot.id) → (slots : List SlotState) → ids_of_records (with_changed id change slots) ≡ ids_of_records slots
ids-changed id change keeps [] = refl
ids-changed id change keeps (slot ∷ slots) = grind (arith, ids-changed id change keeps slots)

pub distinct_changed : (id : List ℕ) (change : SlotState → SlotState) → ((slot : SlotState) → (change slot).id
    ≡ slot.id) → (slots : List SlotState) → are_distinct slots ≡ true
    → are_distinct (with_changed id change slots) ≡ true
distinct_changed id change keeps slots distinct =
    same_distinct slots (with_changed id change slots) (sym (ids-changed id change keeps slots)) distinct

-- looking up an id in the map finds the record of the id in the list
pub looked_up : (id : List ℕ) (kept : Kept) (slots : List SlotState) → IsOwn kept → values_of kept ≡ slots
    → lookup (same_id id) kept ≡ record_by_id id slots
looked_up id kept slots own is = lookup-find (λ (s : SlotState). s.id) (same_id id) kept own ∙ ap (record_by_id id) is

-- the position that the map gives is that of the record in the list
pub placed : (id : List ℕ) (kept : Kept) (slots : List SlotState) → IsOwn kept → values_of kept ≡ slots
    → (found : Option ℕ) → IfSome found (λ i. slice_get (values_of kept) i ≡ lookup (same_id id) kept)
    → IfSome found (λ i. slice_get slots i ≡ record_by_id id slots)
placed id kept slots own is None h = tt
placed id kept slots own is (Some i) h = ap (λ s. slice_get s i) (sym is) ∙ h ∙ looked_up id kept slots own is

-- the record at a position
pub at_position : (kept : Kept) (position : ℕ) (id : List ℕ) (slot : SlotState)
    → Some (id, slot) ≡ slice_get kept position → Some slot ≡ slice_get (values_of kept) position
at_position [] position id slot is = absurd (cc)
at_position (e ∷ kept) zero id slot is = let same : (id, slot) ≡ e = cc in
    ap (λ (x : List ℕ × SlotState). Some x.1) same
at_position (e ∷ kept) (suc position) id slot is = at_position kept position id slot is

-- if no record is found, none is that of the id
pub none_found : (id : List ℕ) (slots : List SlotState) → record_by_id id slots ≡ None → is_listed id slots ≡ false
none_found id [] is = refl
none_found id (slot ∷ slots) is = grind (arith, none_found id slots)

-- the map after the record that was found was changed: its records, that its keys are their ids, and that their times
-- are within a limit if the change keeps them so
pub record Left (id : List ℕ) (change : SlotState → SlotState) (slots : List SlotState) (new : Kept) : Type 0
  where
    pub values : values_of new ≡ with_changed id change slots
    pub own : IsOwn new
    pub timely : (limit : ℕ) → ((s : SlotState) → is_timely limit s ≡ true → is_timely limit (change s) ≡ true)
        → are_timely limit slots ≡ true → are_timely limit (values_of new) ≡ true

pub written : {S : Type 0} (id : List ℕ) (change : SlotState → SlotState) (slot left : SlotState)
    (m n : IndexMap (List ℕ) SlotState S) (slots : List SlotState) → ((s : SlotState) → (change s).id ≡ s.id)
    → IsOwn m.entries → IsUnique same_id m → values_of m.entries ≡ slots → Some slot ≡ lookup (same_id id) m.entries
    → left ≡ change slot → WritesThrough same_id (same_id id) m left n → Left id change slots n.entries
written id change slot left m n slots keeps own unique is found done wrote =
    grind (arith, values-changed, distinct_kept, ids-changed, timely_changed)

-- the record that was found in the map is that of the id in the list
pub found_in : (id : List ℕ) (slot : SlotState) (kept : Kept) (slots : List SlotState) → IsOwn kept
    → values_of kept ≡ slots → Some slot ≡ lookup (same_id id) kept → record_by_id id slots ≡ Some slot
found_in id slot kept slots own is found = sym (looked_up id kept slots own is) ∙ sym found

pub absent_in : (id : List ℕ) (found : Option SlotState) (kept : Kept) (slots : List SlotState) → IsOwn kept
    → values_of kept ≡ slots → found ≡ lookup (same_id id) kept → found ≡ None → record_by_id id slots ≡ None
absent_in id found kept slots own is look none = sym (looked_up id kept slots own is) ∙ sym look ∙ none

-- an id for which an answer is accepted has a record
pub taken_has : (found : Option SlotState) (answer : Answer) → refusal_of (order_of found) answer ≡ Ok tt
    → is_some found ≡ true
taken_has found answer is = grind arith

-- the records and their ids, without the record of an id
pub without_none : (id : List ℕ) (slots : List SlotState) → is_listed id slots ≡ false → without id slots ≡ slots
without_none id [] h = refl
without_none id (slot ∷ slots) h = grind (arith, without_none id slots)

values-removed : (id : List ℕ) (kept : Kept) → IsOwn kept → lookup (same_id id) (remove_entry (same_id id) kept) ≡ None
    → values_of (remove_entry (same_id id) kept) ≡ without id (values_of kept)
values-removed id [] own gone = refl
values-removed id (e ∷ kept) own gone = grind (arith, without_none, none_found, looked_up, values-removed id kept)

own-removed : (test : List ℕ → Bool) (kept : Kept) → IsOwn kept → IsOwn (remove_entry test kept)
own-removed test [] own = refl
own-removed test (e ∷ kept) own = grind (arith, own-removed test kept)

pub record LeftWithout (id : List ℕ) (slots : List SlotState) (new : Kept) : Type 0 where
  pub values : values_of new ≡ without id slots
  pub own : IsOwn new
  pub timely : (limit : ℕ) → are_timely limit slots ≡ true → are_timely limit (values_of new) ≡ true

-- the map after the record of an id was removed
pub removed : {S : Type 0} (id : List ℕ) (m n : IndexMap (List ℕ) SlotState S) (slots : List SlotState)
    → IsOwn m.entries → values_of m.entries ≡ slots → n.entries ≡ remove_entry (same_id id) m.entries
    → lookup (same_id id) n.entries ≡ None → LeftWithout id slots n.entries
removed id m n slots own is left gone = grind (arith, values-removed, own-removed, timely_filter)

-- the records after each was changed
pub mapped_values : (change : SlotState → SlotState) (kept : Kept)
    → values_of (map (λ (e : List ℕ × SlotState). (e.0, change e.1)) kept) ≡ map change (values_of kept)
mapped_values change [] = refl
mapped_values change (e ∷ kept) = ap (λ slots. change e.1 ∷ slots) (mapped_values change kept)

mapped_own : (change : SlotState → SlotState) → ((s : SlotState) → (change s).id ≡ s.id) → (kept : Kept)
    → IsOwn kept → IsOwn (map (λ (e : List ℕ × SlotState). (e.0, change e.1)) kept)
mapped_own change keeps [] own = refl
mapped_own change keeps (e ∷ kept) own = grind (arith, mapped_own change keeps kept)

pub record LeftAll (change : SlotState → SlotState) (slots : List SlotState) (new : Kept) : Type 0 where
  pub values : values_of new ≡ map change slots
  pub own : IsOwn new
  pub timely : (limit : ℕ) → ((s : SlotState) → is_timely limit s ≡ true → is_timely limit (change s) ≡ true)
      → are_timely limit slots ≡ true → are_timely limit (values_of new) ≡ true

-- the map after each record was changed
pub all_written : (change : SlotState → SlotState) (kept new : Kept) (slots : List SlotState)
    → ((s : SlotState) → (change s).id ≡ s.id) → IsOwn kept → values_of kept ≡ slots
    → new ≡ map (λ (e : List ℕ × SlotState). (e.0, change e.1)) kept → LeftAll change slots new
all_written change kept new slots keeps own is mapped =
    let values : values_of new ≡ map change slots =
    ap values_of mapped ∙ mapped_values change kept ∙ ap (map change) is in
    record {
      values = values;
      own = subst IsOwn (sym mapped) (mapped_own change keeps kept own);
      timely = λ limit kept all. rw values (timely_map limit change kept slots all);
    }

-- the map after a record with a new id was appended
pub record LeftPushed (slot : SlotState) (slots : List SlotState) (new : Kept) : Type 0 where
  pub values : values_of new ≡ slots ++ slot ∷ []
  pub own : IsOwn new
  pub timely : (limit : ℕ) → is_timely limit slot ≡ true → are_timely limit slots ≡ true
      → are_timely limit (values_of new) ≡ true

pub pushed : {S : Type 0} (slot : SlotState) (id : List ℕ) (m n : IndexMap (List ℕ) SlotState S)
    (slots : List SlotState) → id ≡ slot.id → IsOwn m.entries → values_of m.entries ≡ slots → record_by_id slot.id
    slots ≡ None → n.entries ≡ insert_entry same_id m.entries id slot → LeftPushed slot slots n.entries
pushed slot id m n slots own_id own is new inserted =
    let absent : lookup (same_id id) m.entries ≡ None =
    looked_up id m.entries slots own is ∙ ap (λ k. record_by_id k slots) own_id ∙ new in
    let grown : n.entries ≡ m.entries ++ (slot.id, slot) ∷ [] =
    inserted ∙ insert_entry-new same_id m id slot absent ∙ ap (λ (k : List ℕ). m.entries ++ (k, slot) ∷ []) own_id in
    let values : values_of n.entries ≡ slots ++ slot ∷ [] =
    ap values_of grown ∙ values-push m.entries slot.id slot ∙ ap (λ xs. xs ++ slot ∷ []) is in
    record {
      values = values;
      own = subst IsOwn (sym grown) (keys-push (λ (s : SlotState). s.id) m.entries slot own);
      timely = λ limit last all. rw values (timely_push limit slots slot all last);
    }

-- a record with a new id leaves the records distinct
none_pushed : (id : List ℕ) (slot : SlotState) (slots : List SlotState) → is_listed id slots ≡ false
    → same_id id slot.id ≡ false → is_listed id (slots ++ slot ∷ []) ≡ false
none_pushed id slot [] none other = or_from (same_id id slot.id) false other refl
none_pushed id slot (first ∷ slots) none other = grind (arith, none_pushed id slot slots)

pub distinct_pushed : (slot : SlotState) (slots : List SlotState) → record_by_id slot.id slots ≡ None
    → are_distinct slots ≡ true → are_distinct (slots ++ slot ∷ []) ≡ true
distinct_pushed slot [] new distinct = refl
distinct_pushed slot (first ∷ slots) new distinct =
    grind (arith, rest_distinct, same_id-sym, none_found, none_pushed first.id slot slots, distinct_pushed slot slots)

-- the times of a record that was found are within the limit
pub timely_some : (limit : ℕ) (id : List ℕ) (slots : List SlotState) (found : Option (Bor SlotState))
    → option_copied found ≡ record_by_id id slots → are_timely limit slots ≡ true
    → IfSome found (λ slot. is_timely limit slot.now ≡ true)
timely_some limit id slots found is all = grind (arith, timely_found)
