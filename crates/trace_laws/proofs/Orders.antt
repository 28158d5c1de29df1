-- What holds of the orders and the children in any list of happenings.
use Rattle.trace_laws.proofs.Words.{◌≡◌, refl, sym, ◌∙◌, ap, ◌⊎◌, inl, inr, ℕ, Bool, true, false, not, ◌&&◌, ◌||◌, cond}
use Rattle.trace_laws.proofs.Words.{List, [], ◌∷◌, ◌++◌, filter, Option, Some, None, arith, list_any, option_map_or}
use Rattle.trace_laws.proofs.Words.{and_parts, and_from, or_right, or_parts, not_from_true, not-true, filter-append}
use Rattle.trace_laws.proofs.Words.{append-nil, list_any-append, none-some, OrderKind, Look, same_id, same_ask, Asked}
use Rattle.trace_laws.proofs.Words.{Birth, NoBirth, Reaped, Still, NoLook, Hit, Miss, Told, Event, Child, is_child_of}
use Rattle.trace_laws.proofs.Words.{is_child, has_child, open_of, undone_of, is_untold, Open, open_orders, is_quiet}
use Rattle.trace_laws.proofs.Words.{is_idle, newborn, unreaped_children, kept_children, known_children, targets}
use Rattle.trace_laws.proofs.Words.{same_id-is, same_id-from, same_id-apart, Passing, passing, or_false, both_ways}
use Rattle.trace_laws.proofs.Words.{not_from, any_less, any_filter, any_within, any_without, any_filtered}
use Rattle.trace_laws.proofs.Words.{filter_within, filter_without}

-- an order that was cleared for one id is still there for any other
pub cleared : {A : Type 0} {P : Type 0} (b : Bool) (o : Option A) (a : A) → (b ≡ false → o ≡ Some a → P)
    → cond b None o ≡ Some a → P
cleared b o a rest h = grind arith

-- an order that is not carried out yet is open
pub undone_is_open : (id : List ℕ) (ask : OrderKind) (past : List Event) → undone_of id past ≡ Some ask
    → open_of id past ≡ Some ask
undone_is_open id ask [] h = h
undone_is_open id ask (Asked i given ∷ past) h = grind (arith, undone_is_open id ask past)
undone_is_open id ask (Told i ∷ past) h = grind (arith, undone_is_open id ask past)
undone_is_open id ask (Birth i n ∷ past) h =
    cleared (same_id id i) (undone_of id past) ask (λ _. undone_is_open id ask past) h
undone_is_open id ask (NoBirth i ∷ past) h =
    cleared (same_id id i) (undone_of id past) ask (λ _. undone_is_open id ask past) h
undone_is_open id ask (Reaped i n status ∷ past) h =
    cleared (same_id id i) (undone_of id past) ask (λ _. undone_is_open id ask past) h
undone_is_open id ask (Still i ∷ past) h =
    cleared (same_id id i) (undone_of id past) ask (λ _. undone_is_open id ask past) h
undone_is_open id ask (NoLook i ∷ past) h =
    cleared (same_id id i) (undone_of id past) ask (λ _. undone_is_open id ask past) h
undone_is_open id ask (Hit i ∷ past) h =
    cleared (same_id id i) (undone_of id past) ask (λ _. undone_is_open id ask past) h
undone_is_open id ask (Miss i ∷ past) h =
    cleared (same_id id i) (undone_of id past) ask (λ _. undone_is_open id ask past) h
undone_is_open id ask (_ ∷ past) h = undone_is_open id ask past h

-- removing the orders of id `i` from a list leaves no order of it, and leaves those of any other id
listed_but : (p : OrderKind → Bool) (id i : List ℕ) (orders : List Open) (b : Bool) → same_id id i ≡ b
    → list_any (λ order. same_id id order.id && p order.ask) (filter (λ order. not (same_id i order.id)) orders)
    ≡ cond b false (list_any (λ order. same_id id order.id && p order.ask) orders)
listed_but p id i orders true same =
    any_without own apart (λ order h. not_from_true (same_id i order.id) (same_id-from i order.id (sym
    (same_id-is id i same) ∙ same_id-is id order.id (and_parts (same_id id order.id) (p order.ask) h).0))) orders where
      own : Open → Bool
      own order = same_id id order.id && p order.ask

      apart : Open → Bool
      apart order = not (same_id i order.id)
listed_but p id i orders false differ = any_within own apart (λ order h. not_from (same_id i order.id)
    (same_id-apart id i order.id differ (and_parts (same_id id order.id) (p order.ask) h).0)) orders where
      own : Open → Bool
      own order = same_id id order.id && p order.ask

      apart : Open → Bool
      apart order = not (same_id i order.id)

-- the list of open orders has one of the id that passes a test exactly if the open order of the id passes it
pub open_listed : (p : OrderKind → Bool) (id : List ℕ) (past : List Event) → list_any
    (λ order. same_id id order.id && p order.ask) (open_orders past) ≡ option_map_or p (open_of id past) false
open_listed p id [] = refl
open_listed p id (Asked i ask ∷ past) =
    split (same_id id i) (listed_but p id i (open_orders past) (same_id id i) refl) (open_listed p id past) where
      split : (b : Bool) → list_any (λ order. same_id id order.id && p order.ask) (filter (λ order. not
          (same_id i order.id)) (open_orders past))
          ≡ cond b false (list_any (λ order. same_id id order.id && p order.ask)
          (open_orders past))
          → list_any (λ order. same_id id order.id && p order.ask) (open_orders past) ≡ option_map_or p
          (open_of id past) false
          → (b && p ask || list_any (λ order. same_id id order.id && p order.ask) (filter (λ order.
          not (same_id i order.id)) (open_orders past))) ≡ option_map_or p (cond b (Some ask) (open_of id past)) false
      split true rest before = rw rest (or_false (p ask))
      split false rest before = rest ∙ before
open_listed p id (Told i ∷ past) =
    split (same_id id i) (listed_but p id i (open_orders past) (same_id id i) refl) (open_listed p id past) where
      split : (b : Bool) → list_any (λ order. same_id id order.id && p order.ask) (filter
          (λ order. not (same_id i order.id)) (open_orders past)) ≡ cond b false (list_any (λ order. same_id id order.id
          && p order.ask) (open_orders past))
          → list_any (λ order. same_id id order.id && p order.ask) (open_orders past)
          ≡ option_map_or p (open_of id past) false → list_any (λ order. same_id id order.id && p order.ask) (filter
          (λ order. not (same_id i order.id)) (open_orders past))
          ≡ option_map_or p (cond b None (open_of id past)) false
      split true rest before = rest
      split false rest before = rest ∙ before
open_listed p id (_ ∷ past) = open_listed p id past

-- the open order of an id is in the list of open orders
open_among : (p : OrderKind → Bool) (id : List ℕ) (ask : OrderKind) (past : List Event) → open_of id past ≡ Some ask
    → p ask ≡ true → list_any (λ order. p order.ask) (open_orders past) ≡ true
open_among p id ask past is holds =
    let own : Open → Bool = λ order. same_id id order.id && p order.ask in
    let all : Open → Bool = λ order. p order.ask in
    any_less own all (λ order h. (and_parts (same_id id order.id) (p order.ask) h).1) (open_orders past)
    (open_listed p id past ∙ rw is holds)

-- at a quiet point only Looks are open
pub quiet_looks : (id : List ℕ) (ask : OrderKind) (past : List Event) → is_quiet past ≡ true
    → open_of id past ≡ Some ask → same_ask Look ask ≡ true
quiet_looks id ask past quiet is = split (same_ask Look ask) refl where
  busy : OrderKind → Bool
  busy a = not (same_ask Look a)

  split : (b : Bool) → same_ask Look ask ≡ b → b ≡ true
  split true h = refl
  split false h = both_ways (list_any (λ order. busy order.ask) (open_orders past)) (open_among busy id ask past is
      (not_from (same_ask Look ask) h)) (not-true (list_any (λ order. busy order.ask) (open_orders past)) quiet)

-- at an idle point no id has an open order
pub idle_none : (id : List ℕ) (past : List Event) → is_idle past ≡ true → open_of id past ≡ None
idle_none id past idle = split (open_of id past) refl where
  any : OrderKind → Bool
  any a = true

  split : (o : Option OrderKind) → open_of id past ≡ o → o ≡ None
  split None h = refl
  split (Some ask) h = both_ways (list_any (λ order. any order.ask) (open_orders past))
      (open_among any id ask past h refl) (not-true (list_any (λ order. any order.ask) (open_orders past)) idle)

-- after a `told`, the children of its id are the unreaped ones, and those of any other id are as before
pub told_same : (id i : List ℕ) (there before : List Child) → same_id id i ≡ true → filter (is_child_of id)
    (filter (is_child_of i) there ++ filter (λ child. not (is_child_of i child)) before) ≡ filter (is_child_of id) there
told_same id i there before same = filter-append (is_child_of id) (filter (is_child_of i) there) (filter other before)
    ∙ rw
    (filter_within (is_child_of id) (is_child_of i) inside there, filter_without (is_child_of id) other outside before)
    (append-nil (filter (is_child_of id) there)) where
      other : Child → Bool
      other child = not (is_child_of i child)

      inside : (child : Child) → is_child_of id child ≡ true → is_child_of i child ≡ true
      inside child h = same_id-from i child.id (sym (same_id-is id i same) ∙ same_id-is id child.id h)

      outside : (child : Child) → is_child_of id child ≡ true → other child ≡ false
      outside child h = not_from_true (is_child_of i child) (inside child h)

pub told_other : (id i : List ℕ) (there before : List Child) → same_id id i ≡ false → filter (is_child_of id)
    (filter (is_child_of i) there ++ filter (λ child. not (is_child_of i child)) before)
    ≡ filter (is_child_of id) before
told_other id i there before differ = grind (arith, filter-append, filter_without, filter_within, same_id-apart)

-- a reaping for another id removes no child of this id
pub reaped_other : (id i : List ℕ) (n : ℕ) (there : List Child) → same_id id i ≡ false
    → filter (is_child_of id) (filter (λ child. not (is_child i n child)) there) ≡ filter (is_child_of id) there
reaped_other id i n there differ = grind (arith, filter_within, same_id-apart)

-- the known children of an id without untold acts are its unreaped ones
pub told_known : (id : List ℕ) (past : List Event) → is_untold id past ≡ false
    → filter (is_child_of id) (known_children past) ≡ filter (is_child_of id) (unreaped_children past)
told_known id [] h = refl
told_known id (Told i ∷ past) h = split (same_id id i) refl h (told_known id past) where
  split : (b : Bool) → same_id id i ≡ b → (not b && is_untold id past) ≡ false → (is_untold id past ≡ false
      → filter (is_child_of id) (known_children past) ≡ filter (is_child_of id) (unreaped_children past))
      → filter (is_child_of id)
      (filter (is_child_of i) (unreaped_children past)
      ++ filter (λ child. not (is_child_of i child)) (known_children past))
      ≡ filter (is_child_of id) (unreaped_children past)
  split true same h before = told_same id i (unreaped_children past) (known_children past) same
  split false differ h before = told_other id i (unreaped_children past) (known_children past) differ ∙ before h
told_known id (Birth i n ∷ past) h = grind (arith, told_known id past)
told_known id (Reaped i n status ∷ past) h =
    let parts = or_parts (same_id id i) (is_untold id past) h in
    told_known id past parts.1 ∙ sym (reaped_other id i n (unreaped_children past) parts.0)
told_known id (NoBirth i ∷ past) h = told_known id past (or_parts (same_id id i) (is_untold id past) h).1
told_known id (Still i ∷ past) h = told_known id past (or_parts (same_id id i) (is_untold id past) h).1
told_known id (NoLook i ∷ past) h = told_known id past (or_parts (same_id id i) (is_untold id past) h).1
told_known id (Hit i ∷ past) h = told_known id past (or_parts (same_id id i) (is_untold id past) h).1
told_known id (Miss i ∷ past) h = told_known id past (or_parts (same_id id i) (is_untold id past) h).1
told_known id (_ ∷ past) h = told_known id past h

-- a child found after a `told` was found before it, among the unreaped children of its id or the known children of the
-- others
pub told_any : (p : Child → Bool) (i : List ℕ) (there before : List Child) → list_any p (filter (is_child_of i) there
    ++ filter (λ child. not (is_child_of i child)) before) ≡ true
    → (list_any (λ child. is_child_of i child && p child) there
    ≡ true) ⊎ (list_any (λ child. not (is_child_of i child) && p child) before ≡ true)
told_any p i there before h = grind (arith, list_any-append, any_filter)

pub told_finds : (p : Child → Bool) (i : List ℕ) (there before : List Child)
    → (list_any (λ child. is_child_of i child && p child) there ≡ true)
    ⊎ (list_any (λ child. not (is_child_of i child) && p child)
    before ≡ true)
    → list_any p (filter (is_child_of i) there ++ filter (λ child. not (is_child_of i child)) before) ≡ true
told_finds p i there before h = grind (arith, list_any-append, any_filter)

-- the unreaped children are kept
pub unreaped_kept : (p : Child → Bool) (past : List Event) → list_any p (unreaped_children past) ≡ true
    → list_any p (kept_children past) ≡ true
unreaped_kept p [] h = h
unreaped_kept p (Birth i n ∷ past) h = grind (arith, unreaped_kept p past)
unreaped_kept p (Reaped i n status ∷ past) h =
    unreaped_kept p past (any_filtered p (λ child. not (is_child i n child)) (unreaped_children past) h)
unreaped_kept p (Told i ∷ past) h = told_finds p i (unreaped_children past) (kept_children past)
    (split (is_child_of i found.item) refl (unreaped_kept others past)) where
      others : Child → Bool
      others child = not (is_child_of i child) && p child

      found : Passing p (unreaped_children past)
      found = passing p (unreaped_children past) h

      split : (b : Bool) → is_child_of i found.item ≡ b
          → (list_any others (unreaped_children past) ≡ true → list_any others
          (kept_children past) ≡ true)
          → (list_any (λ child. is_child_of i child && p child) (unreaped_children past) ≡ true)
          ⊎ (list_any others (kept_children past) ≡ true)
      split true own before = inl
          (found.within (λ child. is_child_of i child && p child)
          (and_from (is_child_of i found.item) (p found.item) own found.passes))
      split false other before = inr (before (found.within others
          (and_from (not (is_child_of i found.item)) (p found.item)
          (not_from (is_child_of i found.item) other) found.passes)))
unreaped_kept p (_ ∷ past) h = unreaped_kept p past h

-- `told` adds no kept child
pub kept_before_told : (p : Child → Bool) (i : List ℕ) (past : List Event)
    → list_any p (kept_children (Told i ∷ past)) ≡ true → list_any p (kept_children past) ≡ true
kept_before_told p i past h = grind (arith, told_any, unreaped_kept, any_less)

-- the known children are kept
pub known_kept : (p : Child → Bool) (past : List Event) → list_any p (known_children past) ≡ true
    → list_any p (kept_children past) ≡ true
known_kept p [] h = h
known_kept p (Birth i n ∷ past) h =
    or_right (p (newborn i n past)) (list_any p (kept_children past)) (known_kept p past h)
known_kept p (Told i ∷ past) h = told_finds p i (unreaped_children past) (kept_children past)
    (split (told_any p i (unreaped_children past) (known_children past) h) (known_kept others past)) where
      others : Child → Bool
      others child = not (is_child_of i child) && p child

      split : (list_any (λ child. is_child_of i child && p child) (unreaped_children past) ≡ true)
          ⊎ (list_any others (known_children past) ≡ true)
          → (list_any others (known_children past) ≡ true → list_any others
          (kept_children past) ≡ true)
          → (list_any (λ child. is_child_of i child && p child) (unreaped_children past) ≡ true)
          ⊎ (list_any others (kept_children past) ≡ true)
      split v0 before = grind arith
known_kept p (_ ∷ past) h = known_kept p past h

-- two lists with the same children of an id agree on whether some child of it passes a test
pub same_of : (id : List ℕ) (p : Child → Bool) (xs ys : List Child)
    → filter (is_child_of id) xs ≡ filter (is_child_of id) ys
    → list_any (λ child. is_child_of id child && p child) xs ≡ list_any (λ child. is_child_of id child && p child) ys
same_of id p xs ys same =
    sym (any_filter p (is_child_of id) xs) ∙ ap (list_any p) same ∙ any_filter p (is_child_of id) ys

pub same_has : (id : List ℕ) (xs ys : List Child) → filter (is_child_of id) xs ≡ filter (is_child_of id) ys
    → has_child id xs ≡ has_child id ys
same_has id xs ys same =
    sym (any_within (is_child_of id) (is_child_of id) (λ child own. own) xs) ∙ ap (has_child id) same
    ∙ any_within (is_child_of id) (is_child_of id) (λ child own. own) ys

-- the children known when the open order was given are still the known ones
pub targets_known : (id : List ℕ) (ask : OrderKind) (past : List Event) → open_of id past ≡ Some ask
    → targets id past ≡ filter (is_child_of id) (known_children past)
targets_known id ask [] h = absurd (none-some ask h)
targets_known id ask (Asked i given ∷ past) h = split (same_id id i) h (targets_known id ask past) where
  split : (b : Bool) → cond b (Some given) (open_of id past) ≡ Some ask
      → (open_of id past ≡ Some ask → targets id past ≡ filter (is_child_of id) (known_children past))
      → cond b (filter (is_child_of id) (known_children past)) (targets id past)
      ≡ filter (is_child_of id) (known_children past)
  split true h before = refl
  split false h before = before h
targets_known id ask (Told i ∷ past) h = cleared (same_id id i) (open_of id past) ask (λ differ is.
    targets_known id ask past is ∙ sym (told_other id i (unreaped_children past) (known_children past) differ)) h
targets_known id ask (_ ∷ past) h = targets_known id ask past h
