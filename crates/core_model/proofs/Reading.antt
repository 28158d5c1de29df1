-- What the records say about ids and entries is what the past says about them.
use Rattle.core_model.proofs.Words.{◌≡◌, ◌≤◌, refl, sym, ◌∙◌, ap, cond, arith, ℕ, ◌+◌, Bool, true, false, not, ◌&&◌}
use Rattle.core_model.proofs.Words.{◌||◌, List, [], ◌∷◌, ◌++◌, map, zip, filter, find, length, Option, Some, None}
use Rattle.core_model.proofs.Words.{is_some, is_none, list_any, list_all, option_map_or, false≢true, and_parts}
use Rattle.core_model.proofs.Words.{and_from, or_parts, not-true, Entry, OrderKind, Look, same_id, same_ask, same_id-is}
use Rattle.core_model.proofs.Words.{same_id-self, same_id-sym, same_tests, passing, any_less, any_same, any_filter}
use Rattle.core_model.proofs.Words.{ids_of, has_id, entry_of, is_distinct, Goal, Event, table_of, Child, is_child_of}
use Rattle.core_model.proofs.Words.{has_child, open_of, open_orders, kept_children, known_children, is_asked, is_called}
use Rattle.core_model.proofs.Words.{spell_hits, removed_ids, record_ids, is_sound, sound_holds, open_listed}
use Rattle.core_model.proofs.Words.{excluded_known, known_single, open_in_records, child_in_records, SlotState}
use Rattle.core_model.proofs.Words.{is_busy, has_excluded, LastStatuses, known_child, stop_after, stop_known, stop_of}
use Rattle.core_model.proofs.Words.{asked_of, called_of, limiter_of, limits_of, records_of}
use Rattle.trace_events.specs.Past.{is_quiet, is_idle}
use Rattle.trace_events.specs.Wanted.{is_excluded}
use Rattle.child_table.specs.Lists as lists
use Rattle.core_model.specs.Decide as core
use Rattle.core_model.specs.Fit.{record_of}
use Rattle.core_model.proofs.Acts.{child_some}

-- the property holds for each entry
abbrev pub Each : (Entry → Type 0) → List Entry → Type 0
Each P [] = Unit {0}
Each P (e ∷ es) = P e × Each P es

-- each entry of a table without repeated ids is the one found for its id
abbrev pub IsOwn : List Entry → Entry → Type 0
IsOwn table e = entry_of e.id table ≡ Some e

none_has : (id : List ℕ) (es : List Entry) → list_any (has_id id) es ≡ false → Each (λ x. same_id x.id id ≡ false) es
none_has id [] h = grind (arith, or_parts, same_id-sym)
none_has id (x ∷ es) h = grind (arith, none_has id es, or_parts, same_id-sym)

own_behind : (e : Entry) (es xs : List Entry) → Each (λ x. same_id x.id e.id ≡ false) xs → Each (IsOwn es) xs
    → Each (IsOwn (e ∷ es)) xs
own_behind e es [] apart own = tt
own_behind e es (x ∷ xs) apart own = (rw apart.0 own.0, own_behind e es xs apart.1 own.1)

pub each_own : (es : List Entry) → is_distinct es ≡ true → Each (IsOwn es) es
each_own [] h = tt
each_own (e ∷ es) h =
    let parts = and_parts (not (list_any (has_id e.id) es)) (is_distinct es) h in (
      rw (same_id-self e.id) refl,
      own_behind e es es (none_has e.id es (not-true (list_any (has_id e.id) es) parts.0)) (each_own es parts.1),
    )

-- the first records are those of the table's entries
pub table_front : (f : List ℕ → SlotState) (es : List Entry) (rest : List (List ℕ))
    → zip es (map f (ids_of es ++ rest)) ≡ zip es (map (λ (e : Entry). f e.id) es)
table_front f [] rest = refl
table_front f (e ∷ es) rest = ap (λ ps. (e, f e.id) ∷ ps) (table_front f es rest)

pub table_pairs : (lasts : LastStatuses) → (past : List Event) → zip (table_of past) (records_of lasts past)
    ≡ zip (table_of past) (map (λ (e : Entry). record_of lasts past e.id) (table_of past))
table_pairs lasts past = table_front (record_of lasts past) (table_of past)
    (filter (λ id. has_child id (known_children past)) (removed_ids past))

-- a test of the entries with their records is a test of the entries
pub pairs_all : (f : Entry → SlotState) (P : Entry → Type 0) (q : Entry → Bool) (p : Entry × SlotState → Bool)
    → ((e : Entry) → P e → q e ≡ p (e, f e)) → (es : List Entry) → Each P es
    → list_all q es ≡ list_all p (zip es (map f es))
pairs_all f P q p same [] each = refl
pairs_all f P q p same (e ∷ es) each = rw (same e each.0, pairs_all f P q p same es each.1) refl

pub any_map : {X Y : Type 0} (f : X → Y) (p : Y → Bool) (xs : List X)
    → list_any p (map f xs) ≡ list_any (λ x. p (f x)) xs
any_map f p [] = refl
any_map f p (x ∷ xs) = ap (λ b. p (f x) || b) (any_map f p xs)

-- if at most one element passes a test, some of them passes another test exactly if the one found does
pub none_left : {X : Type 0} (xs : List X) → 1 + length xs ≤ 1 → xs ≡ []
none_left [] h = refl
none_left (x ∷ xs) h = absurd (omega arith)

pub any_found : {X : Type 0} (p q : X → Bool) (xs : List X) → length (filter p xs) ≤ 1
    → list_any (λ x. p x && q x) xs ≡ option_map_or q (find p xs) false
any_found p q [] one = refl
any_found {X} p q (x ∷ xs) one = grind (arith, any_found p q xs, any_filter, none_left)

none_by_some : {X : Type 0} (o : Option X) → is_none o ≡ not (is_some o)
none_by_some o = grind arith

pub child_none : (id : List ℕ) (past : List Event)
    → is_none (known_child id past) ≡ not (has_child id (known_children past))
child_none id past = none_by_some (known_child id past) ∙ ap not (child_some id past)

-- an entry of the table in force
module _ (past : List Event) (e : Entry) (own : entry_of e.id (table_of past) ≡ Some e) where
  pub asked_own : asked_of e.id past ≡ is_asked e.id past
  asked_own = rw own refl

  pub called_own : called_of e.id past ≡ is_called e past
  called_own = rw own refl

  pub limits_own : limits_of e.id past ≡ limiter_of e past
  limits_own = rw own refl

module _ (lasts : LastStatuses) (goal : Goal) (past : List Event) (sound : is_sound goal past ≡ true) where
  pub table_own : Each (IsOwn (table_of past)) (table_of past)
  table_own = each_own (table_of past) (sound_holds goal past sound).distinct

  -- which orders are open
  orders_same : (p : OrderKind → Bool) → list_any (λ order. p order.ask) (open_orders past)
      ≡ list_any (λ id. option_map_or p (open_of id past) false) (record_ids past)
  orders_same p = same_tests (list_any (λ order. p order.ask) (open_orders past))
      (list_any (λ id. option_map_or p (open_of id past) false) (record_ids past)) there back
    where
      placed : (id : List ℕ) (o : Option OrderKind) → open_of id past ≡ o → option_map_or p o false ≡ true
          → list_any (λ id. option_map_or p (open_of id past) false) (record_ids past) ≡ true
      placed id None is passes = absurd (false≢true passes)
      placed id (Some ask) is passes =
          let found = passing (same_id id) (record_ids past) (open_in_records goal past sound id ask is) in
          found.within (λ id. option_map_or p (open_of id past) false) (ap (λ i. option_map_or p (open_of i past) false)
          (sym (same_id-is id found.item found.passes)) ∙ ap (λ o. option_map_or p o false) is ∙ passes)

      there : list_any (λ order. p order.ask) (open_orders past) ≡ true
          → list_any (λ id. option_map_or p (open_of id past) false) (record_ids past) ≡ true
      there h =
          let found = passing (λ order. p order.ask) (open_orders past) h in
          let id : List ℕ = found.item.id in
          placed id (open_of id past) refl (sym (open_listed p id past) ∙ found.within (λ order. same_id id order.id
          && p order.ask) (and_from (same_id id id) (p found.item.ask) (same_id-self id) found.passes))

      back : list_any (λ id. option_map_or p (open_of id past) false) (record_ids past) ≡ true
          → list_any (λ order. p order.ask) (open_orders past) ≡ true
      back h =
          let found = passing (λ id. option_map_or p (open_of id past) false) (record_ids past) h in
          any_less (λ order. same_id found.item order.id && p order.ask) (λ order. p order.ask)
          (λ order both. (and_parts (same_id found.item order.id) (p order.ask) both).1) (open_orders past)
          (open_listed p found.item past ∙ found.passes)

  pub quiet_same : is_quiet past ≡ lists.is_quiet (records_of lasts past)
  quiet_same = ap not (orders_same (λ ask. not (same_ask Look ask))
      ∙ any_same (λ id. option_map_or (λ ask. not (same_ask Look ask)) (open_of id past) false)
      (λ id. is_busy (open_of id past)) (λ id. busy (open_of id past)) (record_ids past)
      ∙ sym (any_map (record_of lasts past) (λ (slot : SlotState). is_busy slot.order) (record_ids past)))
    where
      busy : (o : Option OrderKind) → option_map_or (λ ask. not (same_ask Look ask)) o false ≡ is_busy o
      busy None = refl
      busy (Some ask) = refl

  pub idle_same : is_idle past ≡ core.is_idle (records_of lasts past)
  idle_same = ap not (orders_same (λ ask. true) ∙ any_same (λ id. option_map_or (λ ask. true) (open_of id past) false)
      (λ id. is_some (open_of id past)) (λ id. given (open_of id past)) (record_ids past)
      ∙ sym (any_map (record_of lasts past) (λ (slot : SlotState). is_some slot.order) (record_ids past)))
    where
      given : (o : Option OrderKind) → option_map_or (λ ask. true) o false ≡ is_some o
      given None = refl
      given (Some ask) = refl

  -- a known child is excluded exactly if the record of its id has a stop
  stop_begun : (id : List ℕ)
      → list_any (λ child. is_child_of id child && is_excluded past child) (known_children past)
      ≡ is_some (stop_of id past)
  stop_begun id = any_found (is_child_of id) (is_excluded past) (known_children past) (known_single goal past sound id)
      ∙ at (find (is_child_of id) (known_children past))
    where
      begun : (b : Bool) (child : Child) → b ≡ is_some (cond b (Some (stop_after (spell_hits child past))) None)
      begun true child = refl
      begun false child = refl

      at : (o : Option Child) → option_map_or (is_excluded past) o false ≡ is_some (stop_known past o)
      at None = refl
      at (Some child) = begun (is_excluded past child) child

  pub excluded_same : list_any (is_excluded past) (known_children past) ≡ has_excluded (records_of lasts past)
  excluded_same = same_tests (list_any (is_excluded past) (known_children past))
      (list_any (λ id. is_some (stop_of id past)) (record_ids past)) there back
      ∙ sym (any_map (record_of lasts past) (λ (slot : SlotState). is_some slot.stop) (record_ids past))
    where
      there : list_any (is_excluded past) (known_children past) ≡ true
          → list_any (λ id. is_some (stop_of id past)) (record_ids past) ≡ true
      there h =
          let found = passing (is_excluded past) (known_children past) h in
          let id : List ℕ = found.item.id in
          let placed = passing (same_id id) (record_ids past)
          (child_in_records goal past sound id (found.within (is_child_of id) (same_id-self id))) in
          placed.within (λ id. is_some (stop_of id past)) (ap (λ i. is_some (stop_of i past)) (sym (same_id-is id
          placed.item placed.passes)) ∙ sym (stop_begun id)
          ∙ found.within (λ child. is_child_of id child && is_excluded past
          child) (and_from (same_id id id) (is_excluded past found.item) (same_id-self id) found.passes))

      back : list_any (λ id. is_some (stop_of id past)) (record_ids past) ≡ true
          → list_any (is_excluded past) (known_children past) ≡ true
      back h =
          let found = passing (λ id. is_some (stop_of id past)) (record_ids past) h in
          any_less (λ child. is_child_of found.item child && is_excluded past child) (is_excluded past)
          (λ child both. (and_parts (is_child_of found.item child) (is_excluded past child) both).1)
          (known_children past)
          (stop_begun found.item ∙ found.passes)

  pub kept_excluded_same : list_any (is_excluded past) (kept_children past) ≡ has_excluded (records_of lasts past)
  kept_excluded_same = excluded_known goal past sound ∙ excluded_same
