-- How each change of the records changes the counts.
use Rattle.child_table.proofs.Words.{◌≡◌, refl, sym, ◌∙◌, ap, subst, cond, Bool, true, false, not, ◌||◌, ℕ, ◌+◌, ◌-◌}
use Rattle.child_table.proofs.Words.{◌≤◌, ◌<◌, List, [], ◌∷◌, ◌++◌, map, length, Some, ◌==◌, ◌^◌, arith, list_any}
use Rattle.child_table.proofs.Words.{count_by, false_from_ne_true, eqb-true, length-map, sum_by-cons, sum_by_push}
use Rattle.child_table.proofs.Words.{count_by-le-length, values_of, lookup, remove_entry, IndexMap, IsUnique}
use Rattle.child_table.proofs.Words.{index_map_len, same_id, Counts, SlotState, are_distinct, record_by_id, is_busy}
use Rattle.child_table.proofs.Words.{is_record_of, length_push}
use Rattle.child_table.proofs.Words.{changed, with_changed, is_stop_due, counts_of, plus, minus, IsWithin, AreSmall}
use Rattle.std.proofs.Common.{is_some}
use Rattle.child_table.proofs.Found.{Kept, IsOwn, distinct_in, found_in, others, rest_distinct, unchanged}

-- for any list, the count is 0 exactly if no value passes the test
module _ {X : Type 0} (p : X → Bool) where
  pub none_counted : (xs : List X) → (count_by p xs == 0) ≡ not (list_any p xs)
  none_counted [] = refl
  none_counted (x ∷ xs) = here (p x) refl (none_counted xs)
    where
      more : count_by p (x ∷ xs) ≡ cond (p x) 1 0 + count_by p xs
      more = sum_by-cons (λ y. cond (p y) 1 0) x xs

      here : (b : Bool) → p x ≡ b → (count_by p xs == 0) ≡ not (list_any p xs)
          → (count_by p (x ∷ xs) == 0) ≡ not (b || list_any p xs)
      here true is later =
          let one : count_by p (x ∷ xs) ≡ 1 + count_by p xs = more ∙ ap (λ (c : Bool). cond c 1 0 + count_by p xs) is in
          false_from_ne_true (count_by p (x ∷ xs) == 0)
          (λ none. let is_none : count_by p (x ∷ xs) ≡ 0 = eqb-true (count_by p (x ∷ xs)) 0 none in omega arith)
      here false is later = grind arith

  pub some_counted : (xs : List X) → not (count_by p xs == 0) ≡ list_any p xs
  some_counted xs = grind (arith, none_counted)

-- the number of records that pass a test: for a list with one more record, and for one record alone
module _ (p : SlotState → Bool) where
  count-cons : (slot : SlotState) (slots : List SlotState)
      → count_by p (slot ∷ slots) ≡ cond (p slot) 1 0 + count_by p slots
  count-cons slot slots = sum_by-cons (λ (s : SlotState). cond (p s) 1 0) slot slots

  count-one : (slot : SlotState) → count_by p (slot ∷ []) ≡ cond (p slot) 1 0
  count-one slot = count-cons slot [] ∙ omega arith

  -- the record of an id is counted
  count_found : (id : List ℕ) (slot : SlotState) (slots : List SlotState) → record_by_id id slots ≡ Some slot
      → cond (p slot) 1 0 ≤ count_by p slots
  count_found id slot [] is = absurd (cc)
  count_found id slot (first ∷ slots) is = grind (arith, count-cons, count_found id slot slots)

  -- when the record of an id is changed, the new record is counted and the old one is not
  count_changed : (id : List ℕ) (change : SlotState → SlotState) (slot : SlotState) (slots : List SlotState)
      → are_distinct slots ≡ true → record_by_id id slots ≡ Some slot
      → count_by p (with_changed id change slots) + cond (p slot) 1 0 ≡ count_by p slots + cond (p (change slot)) 1 0
  count_changed id change slot [] distinct is = absurd (cc)
  count_changed id change slot (first ∷ slots) distinct is =
      grind (arith, rest_distinct, unchanged, others, count-cons, count_changed id change slot slots)

  -- when an entry of the map is removed, its record is no longer counted
  count_removed : (test : List ℕ → Bool) (slot : SlotState) (kept : Kept) → lookup test kept ≡ Some slot
      → count_by p (values_of (remove_entry test kept)) + cond (p slot) 1 0 ≡ count_by p (values_of kept)
  count_removed test slot [] is = absurd (cc)
  count_removed test slot (e ∷ kept) is = grind (arith, count-cons, count_removed test slot kept)

  -- a change after which each record passes exactly if it passed before does not change the count
  count_same : (change : SlotState → SlotState) → ((slot : SlotState) → p (change slot) ≡ p slot)
      → (slots : List SlotState) → count_by p (map change slots) ≡ count_by p slots
  count_same change keeps [] = refl
  count_same change keeps (slot ∷ slots) = grind (arith, count-cons, count_same change keeps slots)

  -- after a change by which no record passes, the count is 0
  count_none : (change : SlotState → SlotState) → ((slot : SlotState) → p (change slot) ≡ false)
      → (slots : List SlotState) → count_by p (map change slots) ≡ 0
  count_none change none [] = refl
  count_none change none (slot ∷ slots) = grind (arith, count-cons, count_none change none slots)

-- the record of an id is counted in each of the counts, so subtracting it never goes below 0
pub found_within : (id : List ℕ) (slot : SlotState) (slots : List SlotState) → record_by_id id slots ≡ Some slot
    → IsWithin (counts_of (slot ∷ [])) (counts_of slots)
found_within id slot slots is = (
  at (λ s. is_some s.order),
  at (λ s. is_busy s.order),
  at (λ s. is_some s.stop),
  at (λ s. is_stop_due s.stop),
  at (λ s. s.missed),
)
  where
    at : (p : SlotState → Bool) → count_by p (slot ∷ []) ≤ count_by p slots
    at p = omega (arith, count-one p slot, count_found p id slot slots is)

-- an index has room for an item per record, so the number of records fits in a machine word
pub few_kept : (kept : Kept) (room : ℕ) → length (values_of kept) ≤ room → room < 2 ^ 63 → length kept < 2 ^ 63
few_kept kept room fits small = omega (arith, length-map kept (λ (e : List ℕ × SlotState). e.1))

pub few_pushed : (slot : SlotState) (slots : List SlotState) (kept : Kept) (room : ℕ)
    → values_of kept ≡ slots ++ slot ∷ [] → length slots + 1 ≤ room → room < 2 ^ 63 → length kept < 2 ^ 63
few_pushed slot slots kept room is fits small =
    omega (arith, length-map kept (λ (e : List ℕ × SlotState). e.1), ap length is, length_push slots slot)

-- the counts fit in a machine word if the number of records does
pub counts_small : (slots : List SlotState) → length slots < 2 ^ 63 → AreSmall (counts_of slots)
counts_small slots few = grind (arith, count_by-le-length)

-- after the record of an id was changed, the counts are those before, minus the old record, plus the new one
recounted : (id : List ℕ) (change : SlotState → SlotState) (slot : SlotState) (slots : List SlotState)
    → are_distinct slots ≡ true → record_by_id id slots ≡ Some slot
    → plus (minus (counts_of slots) (counts_of (slot ∷ []))) (counts_of (change slot ∷ []))
    ≡ counts_of (with_changed id change slots)
recounted id change slot slots distinct is = λ i. record {
  orders = at (λ s. is_some s.order) i;
  busy = at (λ s. is_busy s.order) i;
  excluded = at (λ s. is_some s.stop) i;
  due = at (λ s. is_stop_due s.stop) i;
  missed = at (λ s. s.missed) i;
}
  where
    at : (p : SlotState → Bool) → count_by p slots - count_by p (slot ∷ []) + count_by p (change slot ∷ [])
        ≡ count_by p (with_changed id change slots)
    at p = omega (
      arith,
      count-one p slot,
      count-one p (change slot),
      count_found p id slot slots is,
      count_changed p id change slot slots distinct is,
    )

-- the counts are those of the records, and do not overflow
pub record Recount (slots : List SlotState) (counts : Counts) : Type 0 where
  pub exact : counts ≡ counts_of slots
  pub small : AreSmall counts

-- `recounted` in the form of the code: the map `m` has the records `slots`, of which `slot` was found and became
-- `left`; `less` and `more` are the counts of these two
pub recount : {S : Type 0} (m : IndexMap (List ℕ) SlotState S) (id : List ℕ) (change : SlotState → SlotState)
    (slot left : SlotState) (slots : List SlotState) (counts less fewer more : Counts)
    → IsOwn m.entries → IsUnique same_id m → index_map_len m < 2 ^ 63 → values_of m.entries ≡ slots
    → Some slot ≡ lookup (same_id id) m.entries
    → counts ≡ counts_of (values_of m.entries) → less ≡ counts_of (slot ∷ []) → fewer ≡ minus counts less
    → left ≡ change slot → more ≡ counts_of (left ∷ []) → Recount (with_changed id change slots) (plus fewer more)
recount m id change slot left slots counts less fewer more own unique few is found old one taken done put =
    let exact : plus fewer more ≡ counts_of (with_changed id change slots) =
    rw (taken, one, put, done, old, is) (recounted id change slot slots (distinct_in m slots own unique is)
    (found_in id slot m.entries slots own is found)) in
    let same : length (with_changed id change slots) ≡ length slots = length-map slots (changed id change) in
    let many : length slots ≡ length m.entries =
    sym (ap length is) ∙ length-map m.entries (λ (e : List ℕ × SlotState). e.1) in
    record {
      exact = exact;
      small = subst AreSmall (sym exact) (counts_small (with_changed id change slots) (omega arith));
    }

-- the counts minus those of an id's record are the counts of the other records
pub removed_counts : (test : List ℕ → Bool) (slot : SlotState) (kept : Kept) → lookup test kept ≡ Some slot
    → minus (counts_of (values_of kept)) (counts_of (slot ∷ [])) ≡ counts_of (values_of (remove_entry test kept))
removed_counts test slot kept is = λ i. record {
  orders = at (λ s. is_some s.order) i;
  busy = at (λ s. is_busy s.order) i;
  excluded = at (λ s. is_some s.stop) i;
  due = at (λ s. is_stop_due s.stop) i;
  missed = at (λ s. s.missed) i;
}
  where
    at : (p : SlotState → Bool)
        → count_by p (values_of kept) - count_by p (slot ∷ []) ≡ count_by p (values_of (remove_entry test kept))
    at p = omega (arith, count-one p slot, count_removed p test slot kept is)

-- the counts plus those of one more record are the counts of the records with it appended
pub pushed_count : {S : Type 0} (n : IndexMap (List ℕ) SlotState S) (slot : SlotState) (slots : List SlotState)
    (counts more : Counts)
    → index_map_len n < 2 ^ 63 → values_of n.entries ≡ slots ++ slot ∷ [] → counts ≡ counts_of slots
    → more ≡ counts_of (slot ∷ []) → Recount (slots ++ slot ∷ []) (plus counts more)
pushed_count n slot slots counts more few is old put = grind (arith, count-one, sum_by_push, length-map, counts_small)

-- a change that keeps orders, stops and misses keeps the counts
pub same_counts : (change : SlotState → SlotState) → ((slot : SlotState) → (change slot).order ≡ slot.order)
    → ((slot : SlotState) → (change slot).stop ≡ slot.stop)
    → ((slot : SlotState) → (change slot).missed ≡ slot.missed) → (slots : List SlotState)
    → counts_of slots ≡ counts_of (map change slots)
same_counts change orders stops misses slots = grind (arith, count_same)

-- a change that keeps orders and stops, and after which no signal has missed, changes only the count of misses
pub unmissed_counts : (change : SlotState → SlotState)
    → ((slot : SlotState) → (change slot).order ≡ slot.order)
    → ((slot : SlotState) → (change slot).stop ≡ slot.stop)
    → ((slot : SlotState) → (change slot).missed ≡ false) → (slots : List SlotState)
    → record (counts_of slots) { missed = 0 } ≡ counts_of (map change slots)
unmissed_counts change orders stops misses slots = grind (arith, count_same, count_none)

-- changing one record in this way keeps the counts, too
pub same_changed : (id : List ℕ) (change : SlotState → SlotState)
    → ((slot : SlotState) → (change slot).order ≡ slot.order)
    → ((slot : SlotState) → (change slot).stop ≡ slot.stop)
    → ((slot : SlotState) → (change slot).missed ≡ slot.missed) → (slots : List SlotState)
    → counts_of slots ≡ counts_of (with_changed id change slots)
same_changed id change orders stops misses slots =
    same_counts (changed id change) (keeps (λ s. s.order) orders) (keeps (λ s. s.stop) stops)
    (keeps (λ s. s.missed) misses) slots
  where
    keeps : {X : Type 0} (f : SlotState → X) → ((slot : SlotState) → f (change slot) ≡ f slot)
        → (slot : SlotState) → f (changed id change slot) ≡ f slot
    keeps f h slot = at (is_record_of id slot)
      where
        at : (b : Bool) → f (cond b (change slot) slot) ≡ f slot
        at true = h slot
        at false = refl

-- if a change keeps the orders, only the counts of stops and misses must be computed again
pub judged_counts : (change : SlotState → SlotState) → ((slot : SlotState) → (change slot).order ≡ slot.order)
    → (slots : List SlotState) (counts : Counts) (excluded due missed : ℕ) → counts ≡ counts_of slots
    → excluded ≡ count_by (λ (s : SlotState). is_some s.stop) (map change slots)
    → due ≡ count_by (λ (s : SlotState). is_stop_due s.stop) (map change slots)
    → missed ≡ count_by (λ (s : SlotState). s.missed) (map change slots)
    → record counts { excluded = excluded; due = due; missed = missed } ≡ counts_of (map change slots)
judged_counts change orders slots counts excluded due missed is stops dues misses = grind (arith, count_same)
