-- The first entry of the table that init waits for.
use Rattle.trace_view.proofs.Words.{◌≡◌, refl, sym, ◌∙◌, ap, ℕ, Bool, true, ◌&&◌, ◌||◌, cond, List, [], ◌∷◌, ◌++◌, find}
use Rattle.trace_view.proofs.Words.{Option, Some, None, length, arith, list_any, option_or, find-append, Entry, Start}
use Rattle.trace_view.proofs.Words.{waited_by, same_id, same_id-self, same_id-flip, entry_of, has_id, is_distinct}
use Rattle.trace_view.proofs.Words.{Event, has_child, kept_children, open_of, table_of, entries_before, is_order}
use Rattle.trace_view.proofs.Words.{is_owed, is_wanted, entry_id, first_awaited}
use Rattle.std.specs.Option.{option_map}

pub owed_is : (e : Entry) (past : List Event) (waited kept starting wanted : Bool) → waited ≡ waited_by e.act
    → kept ≡ has_child e.id (kept_children past) → starting ≡ is_order Start (open_of e.id past)
    → wanted ≡ is_wanted e past → (waited && (kept || starting || wanted)) ≡ is_owed e past
owed_is e past waited kept starting wanted e1 e2 e3 e4 = rw (e1, e2, e3, e4) refl

last_in : (id : List ℕ) (front : List Entry) (last : Entry) → same_id id last.id ≡ true
    → list_any (has_id id) (front ++ last ∷ []) ≡ true
last_in id [] last is = grind arith
last_in id (x ∷ front) last is = grind (arith, last_in id front last)

-- the entries before the last one are all others
before_last : (front : List Entry) (last : Entry) → is_distinct (front ++ last ∷ []) ≡ true
    → entries_before last.id (front ++ last ∷ []) ≡ front
before_last [] last distinct = grind (arith, same_id-self, last_in, same_id-flip)
before_last (x ∷ front) last distinct = grind (arith, before_last front last, same_id-self, last_in, same_id-flip)

-- the last entry is found by its id
pub found_last : (front : List Entry) (last : Entry) → is_distinct (front ++ last ∷ []) ≡ true
    → entry_of last.id (front ++ last ∷ []) ≡ Some last
found_last [] last distinct = grind (arith, same_id-self, last_in, same_id-flip)
found_last (x ∷ front) last distinct = grind (arith, found_last front last, same_id-self, last_in, same_id-flip)

last_or : (p : Entry → Bool) (o : Option Entry) (last : Entry) → option_map entry_id (option_or o
    (cond (p last) (Some last) None)) ≡ option_or (option_map entry_id o) (cond (p last) (Some last.id) None)
last_or p o last = grind arith

pub awaited_is : (past : List Event) (table front : List Entry) (last : Entry) (before : Option (List ℕ)) (so : Bool)
    → table ≡ front ++ last ∷ [] → table ≡ table_of past → is_distinct table ≡ true
    → before ≡ option_map entry_id (find (λ e. is_owed e past) (entries_before last.id (table_of past)))
    → so ≡ is_owed last past → option_or before (cond so (Some last.id) None) ≡ option_map entry_id (first_awaited past)
awaited_is past table front last before so is now distinct first owed = grind (arith, before_last, last_or, find-append)

pub none_awaited : (past : List Event) (table : List Entry) → table ≡ [] → table ≡ table_of past
    → None ≡ option_map entry_id (first_awaited past)
none_awaited past table none now = ap (λ t. option_map entry_id (find (λ e. is_owed e past) t)) (sym none ∙ now)

pub empty_is : {X : Type 0} (xs : List X) → length xs ≡ 0 → xs ≡ []
empty_is [] is = refl
empty_is (x ∷ xs) is = absurd (omega (arith, is))
