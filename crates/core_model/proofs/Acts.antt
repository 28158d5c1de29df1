-- An act of the system or a death does not change the records.
use Rattle.core_model.proofs.Words.{arith, ◌≡◌, refl, sym, ◌∙◌, ap, ℕ, Bool, true, false, not, ◌&&◌, ◌||◌, cond, List}
use Rattle.core_model.proofs.Words.{[], ◌∷◌, map, find, Option, Some, None, is_some, list_any, option_map}
use Rattle.core_model.proofs.Words.{option_map_or, false≢true, none-some, same_Some, same_id, same_id-is, both_ways}
use Rattle.core_model.proofs.Words.{falsely, found_any, Birth, NoBirth, Death, Reaped, Still, Goal, Event, Child}
use Rattle.core_model.proofs.Words.{is_child_of}
use Rattle.core_model.proofs.Words.{has_child, kept_children, known_children, spell_hits, is_missed, record_ids}
use Rattle.core_model.proofs.Words.{wants_look, is_sound, known_kept, birth_ready, is_still, spell_still, missed_still}
use Rattle.core_model.proofs.Words.{spell_birth, missed_none, record_by_id, LastStatuses, child_known, living}
use Rattle.core_model.proofs.Words.{known_child, stop_known, stop_of, is_to_look, was_missed, records_of}
use Rattle.trace_events.specs.declared.happenings.Happening.TheVariants.{NoLook, Hit, Miss}
use Rattle.trace_events.specs.Wanted.{is_excluded}
use Rattle.core_model.specs.Fit.{record_of, is_act}

-- the child found for an id has this id
pub found_own : (id : List ℕ) (xs : List Child) (child : Child) → find (is_child_of id) xs ≡ Some child → child.id ≡ id
found_own id [] child there = absurd (none-some child there)
found_own id (x ∷ xs) child there = split (same_id id x.id) refl there (found_own id xs child) where
  split : (b : Bool) → same_id id x.id ≡ b → cond b (Some x) (find (is_child_of id) xs) ≡ Some child
      → (find (is_child_of id) xs ≡ Some child → child.id ≡ id) → child.id ≡ id
  split true same there rest = ap (λ (y : Child). y.id) (sym (same_Some x child there)) ∙ sym (same_id-is id x.id same)
  split false differ there rest = rest there

-- a record has a child exactly if its id has a known one
pub child_some : (id : List ℕ) (past : List Event) → is_some (known_child id past) ≡ has_child id (known_children past)
child_some id past = found_any living (is_child_of id) (known_children past)

-- among the records of some ids, the record of an id is found if it is one of these ids
found_if : (lasts : LastStatuses) → (past : List Event) (id : List ℕ) (ids : List (List ℕ)) → record_by_id id
    (map (record_of lasts past) ids) ≡ cond (list_any (same_id id) ids) (Some (record_of lasts past id)) None
found_if lasts past id [] = refl
found_if lasts past id (x ∷ ids) = split (same_id id x) refl (found_if lasts past id ids) where
  split : (b : Bool) → same_id id x ≡ b → record_by_id id (map (record_of lasts past) ids) ≡ cond (list_any
      (same_id id) ids) (Some (record_of lasts past id)) None → cond b (Some (record_of lasts past x)) (record_by_id id
      (map (record_of lasts past) ids)) ≡ cond (b || list_any (same_id id) ids) (Some (record_of lasts past id)) None
  split true same rest = ap (λ y. Some (record_of lasts past y)) (sym (same_id-is id x same))
  split false differ rest = rest

pub found_record : (lasts : LastStatuses) → (past : List Event) (id : List ℕ) (ids : List (List ℕ)) → list_any
    (same_id id) ids ≡ true → record_by_id id (map (record_of lasts past) ids) ≡ Some (record_of lasts past id)
found_record lasts past id ids there =
    found_if lasts past id ids ∙ ap (λ b. cond b (Some (record_of lasts past id)) None) there

pub no_record : (lasts : LastStatuses) → (past : List Event) (id : List ℕ) (ids : List (List ℕ))
    → list_any (same_id id) ids ≡ false → record_by_id id (map (record_of lasts past) ids) ≡ None
no_record lasts past id ids none =
    found_if lasts past id ids ∙ ap (λ b. cond b (Some (record_of lasts past id)) None) none

-- a child that is excluded as before, and has the same Hits, has the same stop; likewise for the Misses
pub stop_same : (next past : List Event) (o : Option Child)
    → ((child : Child) → o ≡ Some child → is_excluded next child ≡ is_excluded past child) → ((child : Child)
    → o ≡ Some child → spell_hits child next ≡ spell_hits child past) → stop_known next o ≡ stop_known past o
stop_same next past o excluded hits = grind arith

pub missed_same : (next past : List Event) (o : Option Child)
    → ((child : Child) → o ≡ Some child → is_missed child next ≡ is_missed child past)
    → option_map_or (λ child. is_missed child next) o false ≡ option_map_or (λ child. is_missed child past) o false
missed_same next past o misses = grind arith

-- a happening that does not end or change any spell
stop_still : (happening : Event) (past : List Event) → is_still happening ≡ true
    → ((child : Child) → is_excluded (happening ∷ past) child ≡ is_excluded past child) → (id : List ℕ)
    → stop_known (happening ∷ past) (child_known id past) ≡ stop_of id past
stop_still happening past still excluded id = stop_same (happening ∷ past) past (child_known id past)
    (λ child there. excluded child) (λ child there. spell_still child happening past still)

still_missed : (happening : Event) (past : List Event) → is_still happening ≡ true → (id : List ℕ)
    → option_map_or (λ child. is_missed child (happening ∷ past)) (child_known id past) false ≡ was_missed id past
still_missed happening past still id =
    missed_same (happening ∷ past) past (child_known id past) (λ child there. missed_still child happening past still)

-- a birth is for an id without a known child
module _ (i : List ℕ) (n : ℕ) (past : List Event) (childless : has_child i (known_children past) ≡ false) where
  of_other : (id : List ℕ) (child : Child) → child_known id past ≡ Some child → same_id child.id i ≡ false
  of_other id child there = falsely (same_id child.id i) false
      (λ same. both_ways (has_child i (known_children past)) (has same) childless) refl where
        has : same_id child.id i ≡ true → has_child i (known_children past) ≡ true
        has same = ap (λ x. has_child x (known_children past)) (sym (same_id-is child.id i same) ∙ found_own id
            (known_children past) child there) ∙ sym (child_some id past)
            ∙ ap (λ o. is_some (option_map living o)) there

  birth_stop : (id : List ℕ) → stop_known (Birth i n ∷ past) (child_known id past) ≡ stop_of id past
  birth_stop id = stop_same (Birth i n ∷ past) past (child_known id past) (λ child there. refl) (λ child there.
      spell_birth child i n past ∙ ap (λ b. cond b [] (spell_hits child past)) (of_other id child there))

  birth_missed : (id : List ℕ)
      → option_map_or (λ child. is_missed child (Birth i n ∷ past)) (child_known id past) false ≡ was_missed id past
  birth_missed id = grind (arith, missed_same, of_other, missed_none)

  birth_look : (id : List ℕ)
      → (has_child id (known_children past) && (not (same_id id i) && wants_look id past)) ≡ is_to_look id past
  birth_look id = split (same_id id i) refl (has_child id (known_children past)) refl where
    split : (b : Bool) → same_id id i ≡ b → (c : Bool) → has_child id (known_children past) ≡ c
        → (c && (not b && wants_look id past)) ≡ (c && wants_look id past)
    split true same true there = both_ways (has_child i (known_children past))
        (ap (λ x. has_child x (known_children past)) (sym (same_id-is id i same)) ∙ there) childless
    split true same false none = refl
    split false differ c there = refl

pub act_records : (lasts : LastStatuses) → (goal : Goal) (happening : Event) (past : List Event) → is_act happening
    ≡ true → is_sound goal (happening ∷ past) ≡ true → records_of lasts (happening ∷ past) ≡ records_of lasts past
act_records lasts goal (Birth i n) past act sound = λ k. map (λ id. record (record_of lasts past id) {
  stop = birth_stop i n past childless id k;
  look = birth_look i n past childless id k;
  missed = birth_missed i n past childless id k;
}) (record_ids past) where
  childless : has_child i (known_children past) ≡ false
  childless =
      falsely (has_child i (known_children past)) (has_child i (kept_children past)) (known_kept (is_child_of i) past)
      (birth_ready goal [] i n past sound).childless
act_records lasts goal (NoBirth i) past act sound = λ k. map (λ id. record (record_of lasts past id) {
  stop = stop_still (NoBirth i) past refl (λ child. refl) id k;
  missed = still_missed (NoBirth i) past refl id k;
}) (record_ids past)
act_records lasts goal (Death n) past act sound = λ k. map (λ id. record (record_of lasts past
    id) { stop = stop_still (Death n) past refl (λ child. refl) id k; missed = still_missed (Death n) past refl id k })
    (record_ids past)
act_records lasts goal (Reaped i n status) past act sound = λ k. map (λ id. record (record_of lasts past id) {
  stop = stop_still (Reaped i n status) past refl (λ child. refl) id k;
  missed = still_missed (Reaped i n status) past refl id k;
}) (record_ids past)
act_records lasts goal (Still i) past act sound = λ k. map (λ id. record (record_of lasts past
    id) { stop = stop_still (Still i) past refl (λ child. refl) id k; missed = still_missed (Still i) past refl id k })
    (record_ids past)
act_records lasts goal (NoLook i) past act sound = λ k. map (λ id. record (record_of lasts past id) {
  stop = stop_still (NoLook i) past refl (λ child. refl) id k;
  missed = still_missed (NoLook i) past refl id k;
}) (record_ids past)
act_records lasts goal (Hit i) past act sound = λ k. map (λ id. record (record_of lasts past
    id) { stop = stop_still (Hit i) past refl (λ child. refl) id k; missed = still_missed (Hit i) past refl id k })
    (record_ids past)
act_records lasts goal (Miss i) past act sound = λ k. map (λ id. record (record_of lasts past
    id) { stop = stop_still (Miss i) past refl (λ child. refl) id k; missed = still_missed (Miss i) past refl id k })
    (record_ids past)
act_records lasts goal _ past act sound = absurd (false≢true act)
