-- There are at most as many records as entries, and known children of ids without an entry.
use Rattle.core_model.proofs.Words.{◌≡◌, ◌≤◌, ◌+◌, refl, sym, ◌∙◌, ap, subst, ℕ, Bool, true, false, not, ◌&&◌, ◌||◌}
use Rattle.core_model.proofs.Words.{cond, List, [], ◌∷◌, ◌++◌, filter, map, length, lit≤, le_trans, arith, and_parts}
use Rattle.core_model.proofs.Words.{not-true, filter-append, list_any, Entry, same_id, same_id-is, same_id-sym}
use Rattle.core_model.proofs.Words.{any_within, has_id, ids_of, is_distinct, NewTable, Goal, Event, Child, table_of}
use Rattle.core_model.proofs.Words.{is_child_of, has_child, known_children, removed_ids, record_ids, may_come, is_sound}
use Rattle.core_model.proofs.Words.{sound_holds, sound_ind, left_apart, Fits, is_without_entry, CoreState}
use Rattle.std.proofs.lemmas.List.{length-append}
use Rattle.core_model.specs.Fit.{record_of}

-- ---- lists of ids in which no id occurs twice

few_kept : (p q : List ℕ → Bool) (xs : List (List ℕ)) → length (filter p (filter q xs)) ≤ length (filter p xs)
few_kept p q [] = lit≤ tt
few_kept p q (x ∷ xs) = grind (arith, few_kept p q xs)

few_either : (p q : List ℕ → Bool) (xs : List (List ℕ))
    → length (filter (λ x. p x || q x) xs) ≤ length (filter p xs) + length (filter q xs)
few_either p q [] = lit≤ tt
few_either p q (x ∷ xs) = grind (arith, few_either p q xs)

childless : (xs : List (List ℕ)) → length (filter (λ x. has_child x []) xs) ≡ 0
childless [] = refl
childless (x ∷ xs) = childless xs

-- of such ids, no more have a child than there are children
few_parents : (ids : List (List ℕ)) (children : List Child)
    → ((id : List ℕ) → length (filter (λ x. same_id x id) ids) ≤ 1)
    → length (filter (λ x. has_child x children) ids) ≤ length children
few_parents ids [] once = rw (childless ids) (lit≤ tt)
few_parents ids (child ∷ children) once =
    grind (
      arith,
      few_either (λ x. same_id x child.id) (λ x. has_child x children) ids,
      once child.id,
      few_parents ids children once,
    )

-- ---- the ids that have left the table

table_once : (table : List Entry) (id : List ℕ) → is_distinct table ≡ true
    → length (filter (λ x. same_id x id) (ids_of table)) ≤ 1
table_once [] id distinct = lit≤ tt
table_once (e ∷ table) id distinct = at (same_id e.id id) refl (table_once table id parts.1)
  where
    parts : (not (list_any (has_id e.id) table) ≡ true) × (is_distinct table ≡ true)
    parts = and_parts (not (list_any (has_id e.id) table)) (is_distinct table) distinct

    none : (es : List Entry) → list_any (has_id e.id) es ≡ false → filter (λ x. same_id x e.id) (ids_of es) ≡ []
    none [] h = refl
    none (x ∷ es) h = grind (arith, same_id-sym, none es)

    at : (b : Bool) → same_id e.id id ≡ b → length (filter (λ x. same_id x id) (ids_of table)) ≤ 1
        → length (cond b (e.id ∷ filter (λ x. same_id x id) (ids_of table))
        (filter (λ x. same_id x id) (ids_of table))) ≤ 1
    at true same rest = subst (λ y. length (e.id ∷ filter (λ x. same_id x y) (ids_of table)) ≤ 1)
        (same_id-is e.id id same) (grind (arith, none table (not-true (list_any (has_id e.id) table) parts.0)))
    at false other rest = rest

left_once : (goal : Goal) (past : List Event) → is_sound goal past ≡ true → (id : List ℕ)
    → length (filter (λ x. same_id x id) (removed_ids past)) ≤ 1
left_once goal past sound = sound_ind goal
    (λ before. (id : List ℕ) → length (filter (λ x. same_id x id) (removed_ids before)) ≤ 1)
    (λ table distinct id. lit≤ tt) next past sound
  where
    both : (before : List Event) → is_sound goal before ≡ true → (id : List ℕ)
        → length (filter (λ x. same_id x id) (removed_ids before)) ≤ 1 → (b : Bool)
        → list_any (has_id id) (table_of before) ≡ b
        → length (filter (λ x. same_id x id) (ids_of (table_of before) ++ removed_ids before)) ≤ 1
    both before sound id rest true there = rw (
      filter-append (λ x. same_id x id) (ids_of (table_of before)) (removed_ids before),
      length-append
          (filter (λ x. same_id x id) (ids_of (table_of before))) (filter (λ x. same_id x id) (removed_ids before)),
    )
        (grind (
          arith,
          table_once (table_of before) id (sound_holds goal before sound).distinct,
          gone
              (removed_ids before) (left_apart goal before sound id there),
        ))
      where
        gone : (xs : List (List ℕ)) → list_any (same_id id) xs ≡ false → length (filter (λ x. same_id x id) xs) ≡ 0
        gone [] h = refl
        gone (x ∷ xs) h = grind (arith, same_id-sym, gone xs)
    both before sound id rest false none = rw (
      filter-append (λ x. same_id x id) (ids_of (table_of before)) (removed_ids before),
      length-append
          (filter (λ x. same_id x id) (ids_of (table_of before))) (filter (λ x. same_id x id) (removed_ids before)),
    )
        (grind (arith, rest, gone (table_of before) none))
      where
        gone : (es : List Entry) → list_any (has_id id) es ≡ false → length (filter (λ x. same_id x id) (ids_of es)) ≡ 0
        gone [] h = refl
        gone (e ∷ es) h = grind (arith, same_id-sym, gone es)

    next : (happening : Event) (before : List Event) → may_come goal happening before ≡ true
        → is_sound goal before ≡ true → ((id : List ℕ) → length (filter (λ x. same_id x id) (removed_ids before)) ≤ 1)
        → (id : List ℕ) → length (filter (λ x. same_id x id) (removed_ids (happening ∷ before))) ≤ 1
    next (NewTable table) before may sound rest id = le_trans
        (few_kept (λ x. same_id x id) (λ x. not (list_any (has_id x) table))
        (ids_of (table_of before) ++ removed_ids before))
        (both before sound id (rest id) (list_any (has_id id) (table_of before)) refl)
    next happening before may sound rest id = rest id

-- an id that has left the table has no entry
left_gone : (past : List Event) (p : List ℕ → Bool)
    → list_any (λ id. p id && list_any (has_id id) (table_of past)) (removed_ids past) ≡ false
left_gone [] p = refl
left_gone (NewTable table ∷ past) p = none (ids_of (table_of past) ++ removed_ids past)
  where
    none : (ids : List (List ℕ))
        → list_any (λ id. p id && list_any (has_id id) table)
        (filter (λ id. not (list_any (has_id id) table)) ids) ≡ false
    none [] = refl
    none (id ∷ ids) = grind (arith, none ids)
left_gone (happening ∷ past) p = left_gone past p

-- ids without an entry have a child exactly if they have one among the children without an entry
own_parents : (table : List Entry) (children : List Child) (ids : List (List ℕ))
    → list_any (λ id. list_any (has_id id) table) ids ≡ false
    → filter (λ id. has_child id children) ids ≡ filter
    (λ id. has_child id (filter (is_without_entry table) children)) ids
own_parents table children [] none = refl
own_parents table children (id ∷ ids) none = grind (arith, own_parents table children ids, same)
  where
    own : list_any (has_id id) table ≡ false → (child : Child) → is_child_of id child ≡ true
        → is_without_entry table child ≡ true
    own gone child is = ap (λ y. not (list_any (has_id y) table)) (sym (same_id-is id child.id is)) ∙ ap not gone

    same : list_any (has_id id) table ≡ false
        → has_child id (filter (is_without_entry table) children) ≡ has_child id children
    same gone = any_within (is_child_of id) (is_without_entry table) (own gone) children

pub bounded : (core : CoreState) (goal : Goal) (past : List Event) → is_sound goal past ≡ true → Fits core goal past
    → length core.slots ≤ length (table_of past) + length
    (filter (is_without_entry (table_of past)) (known_children past))
bounded core goal past sound fits = subst
    (λ n. n ≤ length (table_of past) + length (filter (is_without_entry (table_of past)) (known_children past)))
    (sym count)
    (grind (
      arith,
      few_parents (removed_ids past) (filter (is_without_entry (table_of past)) (known_children past))
          (left_once goal past sound),
      own_parents (table_of past) (known_children past) (removed_ids past)
          (left_gone past (λ id. true)),
    ))
  where
    mapped : (ids : List (List ℕ)) → length (map (record_of fits.lasts past) ids) ≡ length ids
    mapped [] = refl
    mapped (id ∷ ids) = grind (arith, mapped ids)

    entries : (table : List Entry) → length (ids_of table) ≡ length table
    entries [] = refl
    entries (e ∷ es) = grind (arith, entries es)

    count : length core.slots ≡ length (table_of past) + length
        (filter (λ id. has_child id (known_children past)) (removed_ids past))
    count = ap (λ (c : CoreState). length c.slots) fits.kept ∙ mapped (record_ids past)
        ∙ length-append (ids_of (table_of past)) (filter (λ id. has_child id (known_children past)) (removed_ids past))
        ∙ ap (λ n. n + length (filter (λ id. has_child id (known_children past)) (removed_ids past)))
        (entries (table_of past))
