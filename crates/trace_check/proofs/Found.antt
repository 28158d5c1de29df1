-- The entries of a table without repeated ids are found by their ids.
use Rattle.trace_check.proofs.Words.{arith, ◌≡◌, refl, sym, ◌∙◌, ap, ℕ, zero, suc, take, Bool, true, false, not, ◌&&◌}
use Rattle.trace_check.proofs.Words.{◌||◌, cond, List}
use Rattle.trace_check.proofs.Words.{[], ◌∷◌, find, Some, list_any, list_all, option_map_or, and_parts, or_parts}
use Rattle.trace_check.proofs.Words.{not-true, Entry, same_id, has_id, entry_of, is_distinct, entries_before}
use Rattle.trace_check.proofs.Words.{same_id-is, same_id-self, same_id-sym, falsely, any_less, or_none}

-- the property holds for each entry
abbrev Each : (Entry → Type 0) → List Entry → Type 0
Each P [] = Unit {0}
Each P (e ∷ es) = P e × Each P es

each_weaker : (P Q : Entry → Type 0) (r : Entry → Bool) → ((e : Entry) → r e ≡ false → P e → Q e) → (es : List Entry)
    → list_any r es ≡ false → Each P es → Each Q es
each_weaker P Q r weaker [] none each = tt
each_weaker P Q r weaker (e ∷ es) none each =
    let parts = or_parts (r e) (list_any r es) none in
    (weaker e parts.0 each.0, each_weaker P Q r weaker es parts.1 each.1)

each_found : (es : List Entry) → is_distinct es ≡ true → Each (λ e. entry_of e.id es ≡ Some e) es
each_found [] distinct = grind (arith, same_id-self, each_weaker, not-true, same_id-sym)
each_found (x ∷ es) distinct = grind (arith, each_found es, same_id-self, each_weaker, not-true, same_id-sym)

each_any : (p q : Entry → Bool) (es : List Entry) → Each (λ e. p e ≡ q e) es → list_any p es ≡ list_any q es
each_any p q [] same = refl
each_any p q (e ∷ es) same = rw (same.0, each_any p q es same.1) refl

each_find : (p q : Entry → Bool) (es : List Entry) → Each (λ e. p e ≡ q e) es → find p es ≡ find q es
each_find p q [] same = refl
each_find p q (e ∷ es) same = rw (same.0, each_find p q es same.1) refl

each_all : (p q : Entry → Bool) (es : List Entry) → Each (λ e. p e ≡ q e) es → list_all p es ≡ list_all q es
each_all p q [] same = refl
each_all p q (e ∷ es) same = rw (same.0, each_all p q es same.1) refl

each_none : (p q : Entry → Bool) (count : ℕ) (es : List Entry) → Each (λ e. p e ≡ false → q e ≡ false) es
    → list_any p (take count es) ≡ false → list_any q (take count es) ≡ false
each_none p q zero es each none = refl
each_none p q (suc count) [] each none = refl
each_none p q (suc count) (e ∷ es) each none =
    let parts = or_parts (p e) (list_any p (take count es)) none in
    rw (each.0 parts.0, each_none p q count es each.1 parts.1) refl

each_map : (P Q : Entry → Type 0) → ((e : Entry) → P e → Q e) → (es : List Entry) → Each P es → Each Q es
each_map P Q f [] each = tt
each_map P Q f (e ∷ es) each = (f e each.0, each_map P Q f es each.1)

each_before : (P : Entry → Type 0) (id : List ℕ) (es : List Entry) → Each P es → Each P (entries_before id es)
each_before P id [] each = tt
each_before P id (e ∷ es) each = split (same_id id e.id) (each_before P id es each.1) where
  split : (b : Bool) → Each P (entries_before id es) → Each P (cond b [] (e ∷ entries_before id es))
  split true rest = tt
  split false rest = (each.0, rest)

-- two tests that agree on every entry found by its id agree on the whole table
pub found_all : (p q : Entry → Bool) (es : List Entry) → is_distinct es ≡ true
    → ((e : Entry) → entry_of e.id es ≡ Some e → p e ≡ q e) → list_all p es ≡ list_all q es
found_all p q es distinct same =
    each_all p q es (each_map (λ e. entry_of e.id es ≡ Some e) (λ e. p e ≡ q e) same es (each_found es distinct))

-- if none of the first entries passes p, and every entry found by its id that fails p also fails q, none of them passes
-- q
pub found_taken : (p q : Entry → Bool) (count : ℕ) (es : List Entry) → is_distinct es ≡ true
    → ((e : Entry) → entry_of e.id es ≡ Some e → p e ≡ false → q e ≡ false)
    → list_any p (take count es) ≡ false → list_any q (take count es) ≡ false
found_taken p q count es distinct fails = each_none p q count es (each_map (λ e. entry_of e.id es ≡ Some e)
    (λ e. p e ≡ false → q e ≡ false) fails es (each_found es distinct))

pub found_before : (p q : Entry → Bool) (id : List ℕ) (es : List Entry) → is_distinct es ≡ true → ((e : Entry)
    → entry_of e.id es ≡ Some e → p e ≡ q e) → list_any p (entries_before id es) ≡ list_any q (entries_before id es)
found_before p q id es distinct same = each_any p q (entries_before id es) (each_before (λ e. p e ≡ q e) id es
    (each_map (λ e. entry_of e.id es ≡ Some e) (λ e. p e ≡ q e) same es (each_found es distinct)))

pub first_before : (p q : Entry → Bool) (id : List ℕ) (es : List Entry) → is_distinct es ≡ true → ((e : Entry)
    → entry_of e.id es ≡ Some e → p e ≡ q e) → find p (entries_before id es) ≡ find q (entries_before id es)
first_before p q id es distinct same = each_find p q (entries_before id es) (each_before (λ e. p e ≡ q e) id es
    (each_map (λ e. entry_of e.id es ≡ Some e) (λ e. p e ≡ q e) same es (each_found es distinct)))

-- some entry with the id passes exactly if the one found by the id does
pub entry_any : (id : List ℕ) (q : Entry → Bool) (es : List Entry) → is_distinct es ≡ true
    → list_any (λ e. has_id id e && q e) es ≡ option_map_or q (entry_of id es) false
entry_any id q [] distinct = refl
entry_any id q (x ∷ es) distinct = split (same_id id x.id) refl (entry_any id q es parts.1) where
  parts : (not (list_any (has_id x.id) es) ≡ true) × (is_distinct es ≡ true)
  parts = and_parts (not (list_any (has_id x.id) es)) (is_distinct es) distinct

  none_later : same_id id x.id ≡ true → list_any (λ e. has_id id e && q e) es ≡ false
  none_later same = falsely (list_any (λ e. has_id id e && q e) es) (list_any (has_id x.id) es) (any_less
      (λ e. has_id id e && q e) (has_id x.id) (λ e both. ap (λ i. same_id i e.id) (sym (same_id-is id x.id same))
      ∙ (and_parts (has_id id e) (q e) both).0) es) (not-true (list_any (has_id x.id) es) parts.0)

  split : (b : Bool) → same_id id x.id ≡ b
      → list_any (λ e. has_id id e && q e) es ≡ option_map_or q (entry_of id es) false
      → (b && q x || list_any (λ e. has_id id e && q e) es) ≡ option_map_or q (cond b (Some x) (entry_of id es)) false
  split true same rest = or_none (q x) (list_any (λ e. has_id id e && q e) es) (none_later same)
  split false differ rest = rest

-- a test that depends on ids alone passes for some entry with the id exactly if there is one and the id passes
pub id_any : (id : List ℕ) (f : List ℕ → Bool) (es : List Entry)
    → list_any (λ e. has_id id e && f e.id) es ≡ (list_any (has_id id) es && f id)
id_any id f [] = refl
id_any id f (x ∷ es) = split (same_id id x.id) refl (id_any id f es) where
  turn : (a b : Bool) → (b || (a && b)) ≡ b
  turn true true = refl
  turn false true = refl
  turn true false = refl
  turn false false = refl

  split : (b : Bool) → same_id id x.id ≡ b → list_any (λ e. has_id id e && f e.id) es ≡ (list_any (has_id id) es
      && f id) → (b && f x.id || list_any (λ e. has_id id e && f e.id) es) ≡ ((b || list_any (has_id id) es) && f id)
  split true same rest = rw (sym (ap f (same_id-is id x.id same)), rest) (turn (list_any (has_id id) es) (f id))
  split false differ rest = rest
