-- One more entry in a walk over a table.
use Rattle.trace_check.proofs.Words.{◌≡◌, refl, sym, ◌∙◌, ap, ℕ, ◌+◌, Bool, true, false, not, ◌&&◌, ◌||◌, cond, List}
use Rattle.trace_check.proofs.Words.{[], ◌∷◌, take, drop, slice_get, find, Some, None, list_any, list_any_more}
use Rattle.trace_check.proofs.Words.{slice_get_within, get_or_from_slice_get, Entry, same_id, entries_before}
use Rattle.inittab_text.proofs.Entries.{drop-slice_get}

pub any_taken : {X : Type 0} (p : X → Bool) (xs : List X) (i : ℕ) (x : X) → slice_get xs i ≡ Some x
    → list_any p (take (i + 1) xs) ≡ (list_any p (take i xs) || p x)
any_taken p xs i x is = list_any_more p xs i x (slice_get_within xs i x is)
    ∙ ap (λ y. list_any p (take i xs) || p y) (get_or_from_slice_get xs i x x is)

or_turn : (a b c : Bool) → (b || (a || c)) ≡ (a || b || c)
or_turn true true c = refl
or_turn true false c = refl
or_turn false b c = refl

and_turn : (a b c : Bool) → (not b && (not a && c)) ≡ (not (a || b) && c)
and_turn true true c = refl
and_turn true false c = refl
and_turn false b c = refl

-- one more entry, which is added if the test holds
pub one_added : {X : Type 0} (has test : X → Bool) (xs : List X) (i : ℕ) (x : X) (flag was now first : Bool)
    → slice_get xs i ≡ Some x → flag ≡ test x → now ≡ (has x && flag || was) → was ≡ (list_any (λ y. has y && test y)
    (take i xs) || first) → now ≡ (list_any (λ y. has y && test y) (take (i + 1) xs) || first)
one_added has test xs i x flag was now first is tested step so_far =
    step ∙ ap (λ b. has x && b || was) tested ∙ ap (λ b. has x && test x || b) so_far
    ∙ or_turn (list_any (λ y. has y && test y) (take i xs)) (has x && test x) first
    ∙ ap (λ b. b || first) (sym (any_taken (λ y. has y && test y) xs i x is))

-- one more entry, which is removed if the test holds
pub one_dropped : {X : Type 0} (has test : X → Bool) (xs : List X) (i : ℕ) (x : X) (flag was now first : Bool)
    → slice_get xs i ≡ Some x → flag ≡ test x → now ≡ (not (has x && flag) && was) → was ≡ (not (list_any (λ y. has y
    && test y) (take i xs)) && first) → now ≡ (not (list_any (λ y. has y && test y) (take (i + 1) xs)) && first)
one_dropped has test xs i x flag was now first is tested step so_far =
    step ∙ ap (λ b. not (has x && b) && was) tested ∙ ap (λ b. not (has x && test x) && b) so_far
    ∙ and_turn (list_any (λ y. has y && test y) (take i xs)) (has x && test x) first
    ∙ ap (λ b. not b && first) (sym (any_taken (λ y. has y && test y) xs i x is))

-- one step of a search before an id's entry: it continues, reaches the id, or finds the entry
first_step : (p : Entry → Bool) (id : List ℕ) (es : List Entry) (i : ℕ) (e : Entry) → slice_get es i ≡ Some e → find p
    (entries_before id (drop i es)) ≡ find p (cond (same_id id e.id) [] (e ∷ entries_before id (drop (i + 1) es)))
first_step p id es i e is = ap (λ xs. find p (entries_before id xs)) (drop-slice_get es i e is)

first_other : (p : Entry → Bool) (id : List ℕ) (es : List Entry) (i : ℕ) (e : Entry) → slice_get es i ≡ Some e
    → same_id id e.id ≡ false
    → find p (entries_before id (drop i es)) ≡ cond (p e) (Some e) (find p (entries_before id (drop (i + 1) es)))
first_other p id es i e is differ =
    first_step p id es i e is ∙ ap (λ b. find p (cond b [] (e ∷ entries_before id (drop (i + 1) es)))) differ

pub first_next : (p : Entry → Bool) (id : List ℕ) (es : List Entry) (i : ℕ) (e : Entry) → slice_get es i ≡ Some e
    → find p (entries_before id (drop i es)) ≡ find p (entries_before id es) → same_id id e.id ≡ false → p e ≡ false
    → find p (entries_before id (drop (i + 1) es)) ≡ find p (entries_before id es)
first_next p id es i e is so_far differ fails = sym (first_other p id es i e is differ
    ∙ ap (λ b. cond b (Some e) (find p (entries_before id (drop (i + 1) es)))) fails) ∙ so_far

pub first_end : (p : Entry → Bool) (id : List ℕ) (es : List Entry) (i : ℕ) (e : Entry) → slice_get es i ≡ Some e
    → find p (entries_before id (drop i es)) ≡ find p (entries_before id es) → same_id id e.id ≡ true
    → None ≡ find p (entries_before id es)
first_end p id es i e is so_far same = sym
    (first_step p id es i e is ∙ ap (λ b. find p (cond b [] (e ∷ entries_before id (drop (i + 1) es)))) same) ∙ so_far

pub first_found : (p : Entry → Bool) (id : List ℕ) (es : List Entry) (i : ℕ) (e : Entry) → slice_get es i ≡ Some e
    → find p (entries_before id (drop i es)) ≡ find p (entries_before id es) → same_id id e.id ≡ false → p e ≡ true
    → Some e ≡ find p (entries_before id es)
first_found p id es i e is so_far differ passes = sym (first_other p id es i e is differ
    ∙ ap (λ b. cond b (Some e) (find p (entries_before id (drop (i + 1) es)))) passes) ∙ so_far
