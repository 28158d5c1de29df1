-- What is found by id in a list.
use Rattle.trace_check.proofs.Words.{arith, ◌≡◌, refl, sym, ℕ, Bool, true, false, not, cond, List, [], ◌∷◌, filter}
use Rattle.trace_check.proofs.Words.{Option, Some, None, same_id, same_id-is, at}

pub none_both : {X : Type 0} (b : Bool) → cond {A = Option X} b None None ≡ None
none_both true = refl
none_both false = refl

-- after filtering by a test of the ids, an id that passes has the same value, and any other id has none
pub filtered_at : {X : Type 0} (keep : List ℕ → Bool) (id : List ℕ) (es : List (List ℕ × X))
    → at id (filter (λ p. keep p.0) es) ≡ cond (keep id) (at id es) None
filtered_at keep id [] = sym (none_both (keep id))
filtered_at {X} keep id (e ∷ es) = split (same_id id e.0) refl (keep e.0) refl (filtered_at keep id es) where
  kept : List (List ℕ × X)
  kept = filter (λ p. keep p.0) es

  split : (a : Bool) → same_id id e.0 ≡ a → (b : Bool) → keep e.0 ≡ b → at id kept ≡ cond (keep id) (at id es) None
      → at id (cond b (e ∷ kept) kept) ≡ cond (keep id) (cond a (Some e.1) (at id es)) None
  split true same true stays rest = grind (arith, same_id-is)
  split true same false goes rest = grind (arith, same_id-is)
  split false differ true stays rest = rw differ rest
  split false differ false goes rest = rest

pub unless : {X : Type 0} (b : Bool) (x : Option X) → cond (not b) x None ≡ cond b None x
unless true x = refl
unless false x = refl
