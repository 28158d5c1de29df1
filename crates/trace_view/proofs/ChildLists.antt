-- How a list of children changes when a child is added, when the children of an id are removed, and when those that are
-- gone are removed from memory.
use Rattle.trace_view.proofs.Words.{◌≡◌, refl, sym, ◌∙◌, ap, ℕ, ◌+◌, ◌≤◌, Bool, true, false, not, cond, List, [], ◌∷◌}
use Rattle.trace_view.proofs.Words.{◌++◌, reverse, find, Some, None, arith, same_id, same_id-is, same_id-flip}
use Rattle.trace_view.proofs.Words.{same_id-self, Child, is_child_of, at, append-nil}
use Rattle.std.specs.Prelude.{filter, unwrap_or}
use Rattle.std.proofs.lemmas.List.{reverse-append}
use Rattle.std.proofs.lemmas.List.Elements.{filter-append}
use Rattle.trace_view.specs.ChildLists.{IsListed, are_below, stays, staying}
use Rattle.trace_view.specs.declared.child_lists.Arrival.{Arrival}

-- the reverse of a list
turned : {X : Type 0} (x : X) (xs : List X) → reverse (x ∷ xs) ≡ reverse xs ++ x ∷ []
turned x xs = reverse-append (x ∷ []) xs

pub turned_more : {X : Type 0} (xs : List X) (x : X) → reverse (xs ++ x ∷ []) ≡ x ∷ reverse xs
turned_more xs x = reverse-append xs (x ∷ [])

kept_one : {X : Type 0} (p : X → Bool) (x : X) (xs : List X)
    → reverse (cond (p x) (x ∷ filter p xs) (filter p xs)) ≡ reverse (filter p xs) ++ cond (p x) (x ∷ []) []
kept_one {X} p x xs = split (p x) where
  split : (b : Bool) → reverse (cond b (x ∷ filter p xs) (filter p xs)) ≡ reverse (filter p xs) ++ cond b (x ∷ []) []
  split true = turned x (filter p xs)
  split false = sym (append-nil (reverse (filter p xs)))

turned_filter : {X : Type 0} (p : X → Bool) (xs : List X) → reverse (filter p xs) ≡ filter p (reverse xs)
turned_filter p [] = refl
turned_filter p (x ∷ xs) = kept_one p x xs ∙ ap (λ ys. ys ++ cond (p x) (x ∷ []) []) (turned_filter p xs)
    ∙ sym (ap (filter p) (turned x xs) ∙ filter-append p (reverse xs) (x ∷ []))

filtered_twice : {X : Type 0} (p : X → Bool) (xs : List X) → filter p (filter p xs) ≡ filter p xs
filtered_twice p [] = refl
filtered_twice {X} p (x ∷ xs) = grind (arith, filtered_twice p xs)

below_filter : (next : ℕ) (p : Arrival → Bool) (xs : List Arrival) → are_below next xs ≡ true
    → are_below next (filter p xs) ≡ true
below_filter next p [] h = refl
below_filter next p (x ∷ xs) h = grind (arith, below_filter next p xs)

below_more : (next : ℕ) (xs : List Arrival) → are_below next xs ≡ true → are_below (next + 1) xs ≡ true
below_more next [] h = refl
below_more next (x ∷ xs) h = grind (arith, below_more next xs)

-- the arrivals that are gone are removed from memory
pub same_room : (gone : List (List ℕ × ℕ)) (xs ys : List Arrival) → ys ≡ filter (stays gone) xs
    → staying gone (reverse ys) ≡ staying gone (reverse xs)
same_room gone xs ys is = grind (arith, turned_filter, filtered_twice)

pub below_room : (gone : List (List ℕ × ℕ)) (xs ys : List Arrival) → ys ≡ filter (stays gone) xs → (next : ℕ)
    → are_below next (reverse xs) ≡ true → are_below next (reverse ys) ≡ true
below_room gone xs ys is next h = grind (arith, turned_filter, below_filter)

pub listed_room : (gone : List (List ℕ × ℕ)) (xs ys : List Arrival) (youngest : List (List ℕ × Child)) (next : ℕ)
    → staying gone ys ≡ staying gone xs → (are_below next xs ≡ true → are_below next ys ≡ true)
    → IsListed gone xs youngest next → IsListed gone ys youngest next
listed_room gone xs ys youngest next same below listed = record {
  below = below listed.below;
  marks = listed.marks;
  found = λ id. listed.found id ∙ ap (find (is_child_of id)) (sym same);
}

-- a child is added
stays_new : (gone : List (List ℕ × ℕ)) (child : Child) (next : ℕ) → ((id : List ℕ) → unwrap_or (at id gone) 0 ≤ next)
    → stays gone (record { child = child; number = next }) ≡ true
stays_new gone child next marks = grind (arith, marks child.id)

pub more_staying : (gone : List (List ℕ × ℕ)) (xs : List Arrival) (child : Child) (next : ℕ)
    → ((id : List ℕ) → unwrap_or (at id gone) 0 ≤ next)
    → staying gone (record { child = child; number = next } ∷ xs) ≡ child ∷ staying gone xs
more_staying gone xs child next marks = grind (arith, stays_new gone child next marks)

pub listed_more : (gone : List (List ℕ × ℕ)) (xs : List Arrival) (before after : List (List ℕ × Child)) (child : Child)
    (next : ℕ) → ((id : List ℕ) → at id after ≡ cond (same_id id child.id) (Some child) (at id before))
    → IsListed gone xs before next
    → IsListed gone (record { child = child; number = next } ∷ xs) after (next + 1)
listed_more gone xs before after child next puts listed = record {
  below = grind (arith, below_more next xs listed.below);
  marks = λ id. omega (arith, listed.marks id);
  found = λ id. puts id ∙ ap (cond (same_id id child.id) (Some child)) (listed.found id)
      ∙ sym (ap (find (is_child_of id)) (more_staying gone xs child next listed.marks));
}

-- the children of an id are removed
pub gone_staying : (id : List ℕ) (next : ℕ) (before after : List (List ℕ × ℕ)) (xs : List Arrival)
    → ((i : List ℕ) → at i after ≡ cond (same_id i id) (Some next) (at i before)) → are_below next xs ≡ true
    → staying after xs ≡ filter (λ (child : Child). not (is_child_of id child)) (staying before xs)
gone_staying id next before after [] puts below = refl
gone_staying id next before after (x ∷ xs) puts below =
    grind (arith, gone_staying id next before after xs puts, puts x.child.id, same_id-flip)

found_left : (id i : List ℕ) (xs : List Child)
    → find (is_child_of i) (filter (λ (child : Child). not (is_child_of id child)) xs)
    ≡ cond (same_id i id) None (find (is_child_of i) xs)
found_left id i [] = grind arith
found_left id i (x ∷ xs) = grind (arith, found_left id i xs, same_id-is, same_id-self, same_id-flip)

pub listed_gone : (id : List ℕ) (next : ℕ) (before after : List (List ℕ × ℕ)) (xs : List Arrival)
    (first last : List (List ℕ × Child)) → ((i : List ℕ) → at i after ≡ cond (same_id i id) (Some next) (at i before))
    → ((i : List ℕ) → at i last ≡ cond (same_id i id) None (at i first)) → IsListed before xs first next
    → IsListed after xs last next
listed_gone id next before after xs first last puts drops listed = record {
  below = listed.below;
  marks = λ i. grind (arith, puts i, listed.marks i);
  found = λ i. drops i ∙ ap (cond (same_id i id) None) (listed.found i) ∙ sym (found_left id i (staying before xs))
      ∙ sym (ap (find (is_child_of i)) (gone_staying id next before after xs puts listed.below));
}

-- a child is added after those that are gone may have been removed from memory
pub listed_push : (gone : List (List ℕ × ℕ)) (xs ys zs : List Arrival) (before same after : List (List ℕ × Child))
    (child : Child) (next then : ℕ) → staying gone (reverse ys) ≡ staying gone (reverse xs)
    → (are_below next (reverse xs) ≡ true → are_below next (reverse ys) ≡ true) → same ≡ before
    → zs ≡ ys ++ record { child = child; number = next } ∷ [] → then ≡ next + 1
    → ((id : List ℕ) → at id after ≡ cond (same_id id child.id) (Some child) (at id same))
    → IsListed gone (reverse xs) before next → IsListed gone (reverse zs) after then
listed_push gone xs ys zs before same after child next then stay below is pushed more puts listed =
    rw (pushed, more, turned_more ys (record { child = child; number = next }))
    (listed_more gone (reverse ys) before after child next
    (λ id. puts id ∙ ap (λ es. cond (same_id id child.id) (Some child) (at id es)) is)
    (listed_room gone (reverse xs) (reverse ys) before next stay below listed))

pub push_is : (gone : List (List ℕ × ℕ)) (xs ys zs : List Arrival) (child : Child) (next : ℕ)
    → staying gone (reverse ys) ≡ staying gone (reverse xs) → ((id : List ℕ) → unwrap_or (at id gone) 0 ≤ next)
    → zs ≡ ys ++ record { child = child; number = next } ∷ []
    → staying gone (reverse zs) ≡ child ∷ staying gone (reverse xs)
push_is gone xs ys zs child next stay marks pushed =
    ap (λ l. staying gone (reverse l)) pushed
    ∙ ap (staying gone) (turned_more ys (record { child = child; number = next }))
    ∙ more_staying gone (reverse ys) child next marks ∙ ap (λ cs. child ∷ cs) stay
