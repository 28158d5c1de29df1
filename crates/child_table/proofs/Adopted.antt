-- The records after another table was read: no id has two, and they are created one after another.
use Rattle.child_table.proofs.Words.{◌≡◌, refl, sym, ◌∙◌, subst, Bool, true, false, ℕ, zero, suc, ◌+◌, List, [], ◌∷◌}
use Rattle.child_table.proofs.Words.{◌++◌, drop, slice_get, Option, None, is_none, append_assoc, arith, list_any}
use Rattle.child_table.proofs.Words.{list_all, option_to_list, IfSome, list_any-append, list_all-append, Entry}
use Rattle.child_table.proofs.Words.{same_id-sym, has_id, entry_of, is_distinct, drop-slice_get, SlotState}
use Rattle.child_table.proofs.Words.{is_timely, are_timely, are_distinct, record_by_id, adopted, left_over, left_one}
use Rattle.child_table.proofs.Words.{entry_records, left_records, after_adopt}
use Rattle.child_table.proofs.Found.{is_listed}
use Rattle.child_table.proofs.Timely.{timely_parts, timely_from, timely_map, timely_filter, timely_found}

-- the record of an entry has the id of the entry
pub id-adopted : (e : Entry) (before : Option SlotState) → (adopted e before).id ≡ e.id
id-adopted e before = grind arith

is_listed-entries : (id : List ℕ) (table : List Entry) (slots : List SlotState)
    → is_listed id (entry_records table slots) ≡ list_any (has_id id) table
is_listed-entries id [] slots = refl
is_listed-entries id (e ∷ table) slots =
    rw (id-adopted e (record_by_id e.id slots), is_listed-entries id table slots) refl

-- none of the records is that of an entry
abbrev pub are_apart : List Entry → List SlotState → Bool
are_apart table slots = list_all (λ (slot : SlotState). is_none (entry_of slot.id table)) slots

apart_parts : (e : Entry) (table : List Entry) (slots : List SlotState) → are_apart (e ∷ table) slots ≡ true
    → (is_listed e.id slots ≡ false) × (are_apart table slots ≡ true)
apart_parts e table [] h = (refl, refl)
apart_parts e table (slot ∷ slots) h = grind (arith, is_listed, same_id-sym, apart_parts e table slots)

distinct_joined : (table : List Entry) (before slots : List SlotState) → is_distinct table ≡ true → are_distinct slots
    ≡ true → are_apart table slots ≡ true → are_distinct (entry_records table before ++ slots) ≡ true
distinct_joined [] before slots table_ok distinct apart = distinct
distinct_joined (e ∷ table) before slots table_ok distinct apart = grind
    (arith, apart_parts, is_listed, list_any-append, is_listed-entries, id-adopted, distinct_joined table before slots)

-- the records that stay without an entry are not those of entries
left_apart : (table : List Entry) (slots : List SlotState) → are_apart table (left_records table slots) ≡ true
left_apart table [] = refl
left_apart table (slot ∷ slots) = grind (arith, left_apart table slots)

left_has : (id : List ℕ) (table : List Entry) (slots : List SlotState) → is_listed id slots ≡ false
    → is_listed id (left_records table slots) ≡ false
left_has id table [] h = refl
left_has id table (slot ∷ slots) h = grind (arith, left_has id table slots)

left_distinct : (table : List Entry) (slots : List SlotState) → are_distinct slots ≡ true
    → are_distinct (left_records table slots) ≡ true
left_distinct table [] h = refl
left_distinct table (slot ∷ slots) h = grind (arith, is_listed, left_has, left_distinct table slots)

-- no id has two records after the table was read
pub adopt_distinct : (table : List Entry) (slots : List SlotState) → is_distinct table ≡ true
    → are_distinct slots ≡ true → are_distinct (after_adopt table slots) ≡ true
adopt_distinct table slots table_ok distinct = distinct_joined table slots (left_records table slots) table_ok
    (left_distinct table slots distinct) (left_apart table slots)

-- no id has two records among those of the entries
pub entries_distinct : (table : List Entry) (slots : List SlotState) → is_distinct table ≡ true
    → are_distinct (entry_records table slots) ≡ true
entries_distinct [] slots table_ok = refl
entries_distinct (e ∷ table) slots table_ok =
    grind (arith, is_listed, is_listed-entries, id-adopted, entries_distinct table slots)

-- the next record has an id that none before it has
new_before : (made : List SlotState) (slot : SlotState) (rest : List SlotState)
    → are_distinct (made ++ slot ∷ rest) ≡ true → record_by_id slot.id made ≡ None
new_before [] slot rest distinct = refl
new_before (first ∷ made) slot rest distinct =
    grind (arith, is_listed, list_any-append, same_id-sym, new_before made slot rest)

pub new_of : (made : List SlotState) (slot : SlotState) (rest all : List SlotState)
    → (made ++ slot ∷ []) ++ rest ≡ all → are_distinct all ≡ true → record_by_id slot.id made ≡ None
new_of made slot rest all is distinct = new_before made slot rest
    (subst (λ slots. are_distinct slots ≡ true) (sym is ∙ append_assoc made (slot ∷ []) rest) distinct)

pub new_any : (made : List SlotState) (found : Option SlotState) (rest all : List SlotState) → (made
    ++ option_to_list found) ++ rest ≡ all → are_distinct all ≡ true → IfSome found (λ s. record_by_id s.id made ≡ None)
new_any made found rest all is distinct = grind (arith, new_of)

drop_past : {X : Type 0} (xs : List X) (i : ℕ) → slice_get xs i ≡ None → drop (i + 1) xs ≡ drop i xs
drop_past [] zero none = refl
drop_past [] (suc i) none = let more : suc i + 1 ≡ suc (i + 1) = omega arith in rw more refl
drop_past (x ∷ xs) zero none = absurd (cc)
drop_past (x ∷ xs) (suc i) none = grind (arith, drop_past xs i)

-- the records that stay without an entry, one at a time
pub one_left : (table : List Entry) (made slots : List SlotState) (i : ℕ) (found : Option SlotState)
    (all : List SlotState) → found ≡ left_one table (slice_get slots i) → made ++ left_records table (drop i slots)
    ≡ all → (made ++ option_to_list found) ++ left_records table (drop (i + 1) slots) ≡ all
one_left table made slots i found all here so_far = grind (arith, append_assoc, drop_past, drop-slice_get)

-- the record of an entry keeps its times within the limit
pub timely_adopted : (limit : ℕ) (e : Entry) (before : Option SlotState)
    → IfSome before (λ s. is_timely limit s ≡ true) → is_timely limit (adopted e before) ≡ true
timely_adopted limit e before h = grind arith

pub timely_left : (limit : ℕ) (slot : SlotState) → is_timely limit slot ≡ true
    → is_timely limit (left_over slot) ≡ true
timely_left limit slot h = timely_from limit (left_over slot) refl (timely_parts limit slot h).1

timely_entries : (limit : ℕ) (table : List Entry) (slots : List SlotState) → are_timely limit slots ≡ true
    → are_timely limit (entry_records table slots) ≡ true
timely_entries limit [] slots all = refl
timely_entries limit (e ∷ table) slots all =
    grind (arith, timely_adopted, timely_found, timely_entries limit table slots)

-- no time in the records is later than now after a table was read
pub timely_adopt : (limit : ℕ) (table : List Entry) (slots : List SlotState) → are_timely limit slots ≡ true
    → are_timely limit (after_adopt table slots) ≡ true
timely_adopt limit table slots all =
    grind (arith, list_all-append, timely_entries, timely_map, timely_left, timely_filter)
