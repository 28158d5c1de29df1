-- The children that a core waits for are the ones that init waits for in each trace that the core fits.
use Rattle.core_waiting.proofs.Words.{◌≡◌, ◌≤◌, refl, sym, ◌∙◌, ap, subst, ℕ, Bool, true, false, not, ◌&&◌, cond, List}
use Rattle.core_waiting.proofs.Words.{[], ◌∷◌, ◌++◌, map, filter, filter_map, find, length, Option, Some, None}
use Rattle.core_waiting.proofs.Words.{option_and_then, arith, list_any, cons_option, option_map, option_map_or}
use Rattle.core_waiting.proofs.Words.{and_parts, and_from, Entry, Stage, same_id, wanted_by, same_id-is, same_id-self}
use Rattle.core_waiting.proofs.Words.{same_tests, any_less, any_filtered, filter_both, passing, entry_of, Goal, Event}
use Rattle.core_waiting.proofs.Words.{Child, is_child_of, has_child, is_quiet, table_of, stage_of, kept_children}
use Rattle.core_waiting.proofs.Words.{known_children, starts_in, has_no_running_child, is_asked, is_called, is_wanted}
use Rattle.core_waiting.proofs.Words.{is_excluded, spell_hits, record_ids, is_sound, quiet_known, quiet_start}
use Rattle.core_waiting.proofs.Words.{has_known, known_single, child_in_records, at_moment, CoreState, is_wanted_record}
use Rattle.core_waiting.proofs.Words.{LastStatuses, Fits, child_known, living, stop_after, stop_of, stop_known}
use Rattle.core_waiting.proofs.Words.{record_of, fit_records, fit_table, fit_stage, any_found, Excluded, why_of_entry}
use Rattle.core_waiting.proofs.Words.{why_awaited, is_awaited, awaited_children, with_why, in_record_order}
use Rattle.core_waiting.proofs.Words.{awaited_known, is_wanted_in, why_by_entry, why_of_record, awaited_of_record}
use Rattle.core_waiting.proofs.Words.{awaited_by, found_own}
use Rattle.std.proofs.Common.{is_some}
use Rattle.std.proofs.lemmas.List.Elements.{filter_agree}
use Rattle.child_table.specs.declared.children.KnownChild.{KnownChild}
use Rattle.child_table.specs.declared.children.Stop.{Stop}
use Rattle.core_model.proofs.Ranks.{wanted_same}
use Rattle.core_waiting.specs.declared.rests.Awaited.{Awaited}
use Rattle.core_waiting.proofs.Settled.{found_id}

same_filter_map : {X Y : Type 0} (f g : X → Option Y) → ((x : X) → f x ≡ g x) → (xs : List X)
    → filter_map f xs ≡ filter_map g xs
same_filter_map f g same xs = grind arith

filter_map_map : {X Y Z : Type 0} (f : Y → Option Z) (g : X → Y) (xs : List X)
    → filter_map f (map g xs) ≡ filter_map (λ x. f (g x)) xs
filter_map_map f g [] = refl
filter_map_map f g (x ∷ xs) = ap (cons_option (f (g x))) (filter_map_map f g xs)

any_filter_map : {X Y : Type 0} (test : Y → Bool) (f : X → Option Y) (xs : List X)
    → list_any test (filter_map f xs) ≡ list_any (λ x. option_map_or test (f x) false) xs
any_filter_map test f [] = refl
any_filter_map {X} {Y} test f (x ∷ xs) = grind (arith, any_filter_map test f xs)

no_more : {X : Type 0} (p : X → Bool) (xs : List X) → length (filter p xs) ≤ length xs
no_more p [] = grind arith
no_more p (x ∷ xs) = grind (arith, no_more p xs)

-- finding by id and filtering can be exchanged
module _ {X : Type 0} (p q : X → Bool) where
  found_filter : (xs : List X) → find p (filter q xs) ≡ find q (filter p xs)
  found_filter [] = grind arith
  found_filter (x ∷ xs) = grind (arith, found_filter xs)

-- among at most one child with the id, the result is that of this child, if children that init does not wait for give
-- no result
abbrev head_of : {X : Type 0} → List X → Option X
head_of [] = None
head_of (x ∷ xs) = Some x

found_head : {X : Type 0} (p : X → Bool) (xs : List X) → find p xs ≡ head_of (filter p xs)
found_head p [] = refl
found_head {X} p (x ∷ xs) = grind (arith, found_head p xs)

one_found : {X Y : Type 0} (f : X → Option Y) (q : X → Bool) → ((x : X) → q x ≡ false → f x ≡ None) → (xs : List X)
    → length xs ≤ 1 → option_and_then f (find q xs) ≡ option_and_then f (head_of xs)
one_found f q none [] few = grind arith
one_found f q none (happening ∷ xs) few = grind (arith, one_found f q none xs)

turned : (a b : Bool) → (a && b) ≡ (b && a)
turned true true = refl
turned true false = refl
turned false true = refl
turned false false = refl

-- a child that init does not wait for gives no result
unsaid : (past : List Event) (child : Child) → is_awaited past child ≡ false → with_why past child ≡ None
unsaid past child h = grind arith

module _ (goal : Goal) (past : List Event) (sound : is_sound goal past ≡ true) where
  known_found : (id : List ℕ) → option_and_then (with_why past) (find (is_child_of id) (awaited_known past))
      ≡ option_and_then (with_why past) (child_known id past)
  known_found id = grind (arith, found_filter, one_found, unsaid, known_single, found_head)

  quiet_found : is_quiet past ≡ true → (id : List ℕ)
      → find (is_child_of id) (awaited_children past) ≡ find (is_child_of id) (awaited_known past)
  quiet_found quiet id = grind (arith, found_filter, quiet_known)

  -- an entry of the table in force is wanted if its record says so
  wanted_in : (lasts : LastStatuses) (id : List ℕ) (e : Entry) → entry_of id (table_of past) ≡ Some e
      → is_wanted_in (stage_of past) e (record_of lasts past id) ≡ is_wanted e past
  wanted_in lasts id e found = at (stage_of past) refl where
    same : id ≡ e.id
    same = found_id id (table_of past) e found

    at : (o : Option Stage) → stage_of past ≡ o → is_wanted_in o e (record_of lasts past id) ≡ is_wanted e past
    at None is = sym (ap (λ o. starts_in e o
        && wanted_by e.act (has_no_running_child e.id past) (not (is_asked e.id past)) (is_called e past)) is)
    at (Some now) is = ap (λ i. is_wanted_record now e (record_of lasts past i)) same
        ∙ sym (wanted_same lasts goal past sound now is e (ap (λ i. entry_of i (table_of past)) (sym same) ∙ found))

  by_entry : (lasts : LastStatuses) (id : List ℕ) (o : Option Entry) → entry_of id (table_of past) ≡ o
      → why_by_entry (stage_of past) o (record_of lasts past id) ≡ why_of_entry o past
  by_entry lasts id o is = grind (arith, wanted_in)

  -- so the reasons for waiting for its child are the same
  whys_same : (lasts : LastStatuses) (id : List ℕ) (child : Child) → child_known id past ≡ Some child
      → why_of_record (stage_of past) (table_of past) (record_of lasts past id) ≡ why_awaited past child
  whys_same lasts id child there = λ i. cond (stopped i) (Some Excluded) (entry i) where
    given : (b : Bool) (stop : Stop) → is_some (cond b (Some stop) None) ≡ b
    given true stop = refl
    given false stop = refl

    stopped : is_some (stop_of id past) ≡ is_excluded past child
    stopped = ap (λ o. is_some (stop_known past o)) there
        ∙ given (is_excluded past child) (stop_after (spell_hits child past))

    entry : why_by_entry (stage_of past) (entry_of id (table_of past)) (record_of lasts past id)
        ≡ why_of_entry (entry_of child.id (table_of past)) past
    entry = by_entry lasts id (entry_of id (table_of past)) refl
        ∙ ap (λ i. why_of_entry (entry_of i (table_of past)) past) (found_own id (known_children past) child there)

  one_same : (lasts : LastStatuses) (id : List ℕ) → awaited_of_record (stage_of past) (table_of past)
      (record_of lasts past id) ≡ option_and_then (with_why past) (child_known id past)
  one_same lasts id = at (child_known id past) refl where
    at : (o : Option Child) → child_known id past ≡ o → option_and_then (λ (child : KnownChild). option_map
        (λ why. record { id = id; number = child.number; why = why }) (why_of_record (stage_of past) (table_of past)
        (record_of lasts past id))) (option_map living o) ≡ option_and_then (with_why past) o
    at None is = refl
    at (Some child) is = λ i. option_map
        (λ why. record { id = found_own id (known_children past) child is i; number = child.number; why = why })
        (whys_same lasts id child is i)

  pub known_same : (core : CoreState) → Fits core goal past
      → awaited_by core ≡ in_record_order (awaited_known past) past
  known_same core fits = (λ i. filter_map (awaited_of_record (fit_stage core goal past fits i)
      (fit_table core goal past fits i)) (fit_records core goal past fits i))
      ∙ filter_map_map (awaited_of_record (stage_of past) (table_of past)) (record_of fits.lasts past) (record_ids past)
      ∙ same_filter_map (λ id. awaited_of_record (stage_of past) (table_of past) (record_of fits.lasts past id))
      (λ id. option_and_then (with_why past) (find (is_child_of id) (awaited_known past)))
      (λ id. one_same fits.lasts id ∙ sym (known_found id)) (record_ids past)

  -- at a quiet point the kept children are known
  pub quiet_same : is_quiet past ≡ true
      → in_record_order (awaited_children past) past ≡ in_record_order (awaited_known past) past
  quiet_same quiet =
      same_filter_map (λ id. option_and_then (with_why past) (find (is_child_of id) (awaited_children past)))
      (λ id. option_and_then (with_why past) (find (is_child_of id) (awaited_known past)))
      (λ id. ap (option_and_then (with_why past)) (quiet_found quiet id)) (record_ids past)

  -- and none is omitted
  module _ (quiet : is_quiet past ≡ true) (test : Awaited → Bool) where
    abbrev says : Child → Bool
    says child = option_map_or test (with_why past child) false

    abbrev at_id : List ℕ → Bool
    at_id id =
        option_map_or test (option_and_then (with_why past) (find (is_child_of id) (awaited_children past))) false

    then_or : (o : Option Child)
        → option_map_or test (option_and_then (with_why past) o) false ≡ option_map_or says o false
    then_or o = grind arith

    few : (id : List ℕ) → length (filter (is_child_of id) (awaited_children past)) ≤ 1
    few id =
        let kept : length (filter (is_child_of id) (kept_children past)) ≤ 1 =
        subst (λ xs. length xs ≤ 1) (sym (quiet_known goal past sound quiet id)) (known_single goal past sound id) in
        let fewer : length (filter (is_awaited past) (filter (is_child_of id) (kept_children past))) ≤ length
        (filter (is_child_of id) (kept_children past)) =
        no_more (is_awaited past) (filter (is_child_of id) (kept_children past)) in
        rw (swapped id) (omega arith)
      where
        swapped : (id : List ℕ) → filter (is_child_of id) (awaited_children past)
            ≡ filter (is_awaited past) (filter (is_child_of id) (kept_children past))
        swapped id =
            filter_both (is_child_of id) (is_awaited past) (kept_children past) ∙ filter_agree (λ x. is_awaited past
            x && is_child_of id x) (λ x. is_child_of id x && is_awaited past x)
            (λ x. turned (is_awaited past x) (is_child_of id x))
            (kept_children past) ∙ sym (filter_both (is_awaited past) (is_child_of id) (kept_children past))

    at_known : (id : List ℕ) → at_id id ≡ list_any (λ x. is_child_of id x && says x) (awaited_children past)
    at_known id = then_or (find (is_child_of id) (awaited_children past))
        ∙ sym (any_found (is_child_of id) says (awaited_children past) (few id))

    there : list_any at_id (record_ids past) ≡ true → list_any says (awaited_children past) ≡ true
    there h =
        let found = passing at_id (record_ids past) h in
        any_less (λ x. is_child_of found.item x && says x) says
        (λ x both. (and_parts (is_child_of found.item x) (says x) both).1)
        (awaited_children past) (sym (at_known found.item) ∙ found.passes)

    back : list_any says (awaited_children past) ≡ true → list_any at_id (record_ids past) ≡ true
    back h =
        let found = passing says (awaited_children past) h in
        let id : List ℕ = found.item.id in
        let own : list_any (λ x. is_child_of id x && says x) (awaited_children past) ≡ true = found.within
        (λ x. is_child_of id x && says x)
        (and_from (is_child_of id found.item) (says found.item) (same_id-self id) found.passes) in
        let kept : has_child id (kept_children past) ≡ true =
        any_filtered (is_child_of id) (is_awaited past) (kept_children past)
        (found.within (is_child_of id) (same_id-self id)) in
        let listed = passing (same_id id) (record_ids past)
        (child_in_records goal past sound id (sym (has_known goal past sound id (quiet_start id past quiet)) ∙ kept)) in
        listed.within at_id (ap at_id (sym (same_id-is id listed.item listed.passes)) ∙ at_known id ∙ own)

    pub none_left_out : list_any test (in_record_order (awaited_children past) past)
        ≡ list_any test (filter_map (with_why past) (awaited_children past))
    none_left_out = grind (arith, any_filter_map, same_tests, there, back)

pub awaits_known : (core : CoreState) (goal : Goal) (past : List Event) → is_sound goal past ≡ true
    → Fits core goal past → awaited_by core ≡ in_record_order (awaited_known past) past
awaits_known core goal past sound fits = known_same goal past sound core fits

pub awaits_all : (core : CoreState) (goal : Goal) (past : List Event) → is_sound goal past ≡ true → Fits core goal past
    → is_quiet past ≡ true → awaited_by core ≡ in_record_order (awaited_children past) past
awaits_all core goal past sound fits quiet =
    known_same goal past sound core fits ∙ sym (quiet_same goal past sound quiet)

pub awaits_none_else : (goal : Goal) (later past : List Event) → is_sound goal (later ++ past) ≡ true
    → is_quiet past ≡ true → (test : Awaited → Bool) → list_any test (in_record_order (awaited_children past) past)
    ≡ list_any test (filter_map (with_why past) (awaited_children past))
awaits_none_else goal later past sound = at_moment goal (λ x. is_quiet x ≡ true → (test : Awaited → Bool) → list_any
    test (in_record_order (awaited_children x) x) ≡ list_any test (filter_map (with_why x) (awaited_children x)))
    (λ quiet test. refl) (λ x ok quiet test. none_left_out goal x ok quiet test) later past sound
