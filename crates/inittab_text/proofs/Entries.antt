-- Lists of entries: an entry appended, and the rest of a list from a position on.
use Rattle.inittab_text.proofs.Words.{◌≡◌, refl, sym, ◌∙◌, ap, cond, zero, suc, ◌+◌, ◌<◌, ◌≤◌, Bool, true, false, not}
use Rattle.inittab_text.proofs.Words.{List, [], ◌∷◌, ◌++◌, length, drop, slice_get, length-append, ℕ, map, Option, Some}
use Rattle.inittab_text.proofs.Words.{None, find, subst, arith, keys_of, values_of, lookup, list_any, list_all}
use Rattle.inittab_text.proofs.Words.{option_or, and_parts, and_from, or_parts, or_from, not-true, not_from_false}
use Rattle.inittab_text.proofs.Words.{length_push, ENTRY_LIMIT, Entry, same_id, entry_of, has_id, is_distinct}
use Rattle.inittab_text.proofs.Words.{default_level_of, default_of, is_written, is_table, text_of, line_of}
use Rattle.std.proofs.Common.{option_map, append_assoc}
use Rattle.std.specs.Cmp.Lexicographic.{nat_list_eq_equiv}
use Rattle.std.proofs.lemmas.List.Folds.{list_any-append, list_all-append}

-- Looking up an id in a map whose keys are the ids of its values finds the value with that id.
pub lookup-find : {K X : Type 0} (key : X → K) (test : K → Bool) (es : List (K × X))
    → keys_of es ≡ map key (values_of es) → lookup test es ≡ find (λ x. test (key x)) (values_of es)
lookup-find key test [] own = refl
lookup-find {K} {X} key test (e ∷ es) own = grind (arith, lookup-find key test es)

pub values-push : {K X : Type 0} (es : List (K × X)) (k : K) (x : X)
    → values_of (es ++ (k, x) ∷ []) ≡ values_of es ++ x ∷ []
values-push [] k x = refl
values-push (e ∷ es) k x = ap (λ xs. e.1 ∷ xs) (values-push es k x)

pub keys-push : {K X : Type 0} (key : X → K) (es : List (K × X)) (x : X) → keys_of es ≡ map key (values_of es)
    → keys_of (es ++ (key x, x) ∷ []) ≡ map key (values_of (es ++ (key x, x) ∷ []))
keys-push key [] x own = refl
keys-push {K} {X} key (e ∷ es) x own = grind (arith, keys-push key es x)

-- the rest from a position on begins with the element at that position
pub drop-slice_get : {X : Type 0} (xs : List X) (i : ℕ) (x : X) → slice_get xs i ≡ Some x
    → drop i xs ≡ x ∷ drop (i + 1) xs
drop-slice_get [] i x is = absurd (cc)
drop-slice_get (y ∷ xs) zero x is = grind arith
drop-slice_get (y ∷ xs) (suc i) x is = grind (arith, drop-slice_get xs i x)

-- an item appended to a list that is built along another, one item at a time
pub one_made : {X Y : Type 0} (f : X → Y) (made : List Y) (xs : List X) (i : ℕ) (y : Y) (all : List Y)
    → Some y ≡ option_map f (slice_get xs i) → made ++ map f (drop i xs) ≡ all
    → (made ++ y ∷ []) ++ map f (drop (i + 1) xs) ≡ all
one_made {X} {Y} f made xs i y all here so_far = at (slice_get xs i) refl
  where
    at : (found : Option X) → slice_get xs i ≡ found → (made ++ y ∷ []) ++ map f (drop (i + 1) xs) ≡ all
    at None is = let none : Some y ≡ None = here ∙ ap (option_map f) is in cc
    at (Some x) is =
        let made_of : Some y ≡ Some (f x) = here ∙ ap (option_map f) is in
        let is_made : y ≡ f x = cc in
        rw (append_assoc made (y ∷ []) (map f (drop (i + 1) xs)), is_made)
        (ap (λ rest. made ++ map f rest) (sym (drop-slice_get xs i x is)) ∙ so_far)

pub default_level_of-drop : (es : List Entry) (i : ℕ) (e : Entry) → slice_get es i ≡ Some e
    → default_level_of (drop i es) ≡ option_or (default_of e) (default_level_of (drop (i + 1) es))
default_level_of-drop es i e is = ap default_level_of (drop-slice_get es i e is)

pub text_of-drop : (es : List Entry) (i : ℕ) (e : Entry) → slice_get es i ≡ Some e
    → text_of (drop i es) ≡ line_of e ++ text_of (drop (i + 1) es)
text_of-drop es i e is = ap text_of (drop-slice_get es i e is)

-- if no entry has the id, neither the first nor any of the rest has it
found_none : (id : List ℕ) (x : Entry) (b : Bool) (o : Option Entry) → cond b (Some x) o ≡ None
    → (b ≡ false) × (o ≡ None)
found_none id x true o is = absurd (cc)
found_none id x false o is = (refl, is)

pub is_distinct-push : (es : List Entry) (e : Entry) → is_distinct es ≡ true → entry_of e.id es ≡ None
    → is_distinct (es ++ e ∷ []) ≡ true
is_distinct-push [] e distinct new = refl
is_distinct-push (x ∷ es) e distinct new =
    let parts = and_parts (not (list_any (has_id x.id) es)) (is_distinct es) distinct in
    let other = found_none e.id x (has_id e.id x) (entry_of e.id es) new in
    let back : same_id x.id e.id ≡ false = nat_list_eq_equiv.symm x.id e.id ∙ other.0 in
    let none : list_any (has_id x.id) (es ++ e ∷ []) ≡ false =
    list_any-append (has_id x.id) es (e ∷ []) ∙ or_from (list_any (has_id x.id) es) (list_any (has_id x.id) (e ∷ []))
    (not-true (list_any (has_id x.id) es) parts.0) (or_from (has_id x.id e) false back refl) in
    and_from (not (list_any (has_id x.id) (es ++ e ∷ []))) (is_distinct (es ++ e ∷ []))
    (not_from_false (list_any (has_id x.id) (es ++ e ∷ [])) none) (is_distinct-push es e parts.1 other.1)

-- the three conditions that make a list a table
pub table_parts : (es : List Entry) → is_table es ≡ true
    → (length es ≤ ENTRY_LIMIT) × (is_distinct es ≡ true) × (list_all is_written es ≡ true)
table_parts es is = grind arith

pub table_from : (es : List Entry) → length es ≤ ENTRY_LIMIT → is_distinct es ≡ true → list_all is_written es ≡ true
    → is_table es ≡ true
table_from es few distinct written = grind arith

pub is_table-push : (es : List Entry) (e : Entry) → is_table es ≡ true → entry_of e.id es ≡ None → is_written e ≡ true
    → length es < ENTRY_LIMIT → is_table (es ++ e ∷ []) ≡ true
is_table-push es e is new written room =
    grind (arith, table_parts, table_from, length_push, is_distinct-push, list_all-append)

-- the id of an entry of a table differs from all earlier ids
pub distinct-new : (before : List Entry) (e : Entry) (table : List Entry) → is_distinct (before ++ e ∷ table) ≡ true
    → entry_of e.id before ≡ None
distinct-new [] e table distinct = refl
distinct-new (x ∷ before) e table distinct =
    let parts =
    and_parts (not (list_any (has_id x.id) (before ++ e ∷ table))) (is_distinct (before ++ e ∷ table)) distinct in
    let none = or_parts (list_any (has_id x.id) before) (list_any (has_id x.id) (e ∷ table)) (sym (list_any-append
    (has_id x.id) before (e ∷ table)) ∙ not-true (list_any (has_id x.id) (before ++ e ∷ table)) parts.0) in
    let here : same_id x.id e.id ≡ false = (or_parts (has_id x.id e) (list_any (has_id x.id) table) none.1).0 in
    let back : has_id e.id x ≡ false = nat_list_eq_equiv.symm e.id x.id ∙ here in
    rw back (distinct-new before e table parts.1)

-- an entry at any position of a table is a written one, its id is new, and there is room for it
pub known : (before : List Entry) (e : Entry) (table : List Entry) → is_table (before ++ e ∷ table) ≡ true
    → (is_written e ≡ true) × (entry_of e.id before ≡ None) × (length before < ENTRY_LIMIT)
known before e table is =
    let all = table_parts (before ++ e ∷ table) is in
    let tail = and_parts (list_all is_written before) (list_all is_written (e ∷ table))
    (sym (list_all-append is_written before (e ∷ table)) ∙ all.2) in (
      (and_parts (is_written e) (list_all is_written table) tail.1).0,
      distinct-new before e table all.1,
      omega (arith, all.0, length-append before (e ∷ table)),
    )

-- when a table is copied up to a position, its entry there is the next one
pub copied : (es copy : List Entry) (i : ℕ) (e : Entry) → copy ++ drop i es ≡ es → slice_get es i ≡ Some e
    → copy ++ e ∷ drop (i + 1) es ≡ es
copied es copy i e so_far is = ap (λ t. copy ++ t) (sym (drop-slice_get es i e is)) ∙ so_far

-- the next entry to copy is a written one, its id is new, and there is room for it
pub copied_known : (es copy : List Entry) (i : ℕ) (e : Entry) → is_table es ≡ true → copy ++ drop i es ≡ es
    → slice_get es i ≡ Some e → (is_written e ≡ true) × (entry_of e.id copy ≡ None) × (length copy < ENTRY_LIMIT)
copied_known es copy i e table so_far is =
    known copy e (drop (i + 1) es) (subst (λ xs. is_table xs ≡ true) (sym (copied es copy i e so_far is)) table)
