-- The unreaped children are those of the records, corrected by the answers under way.
use Rattle.core_model.proofs.Words.{arith, ◌≡◌, ◌≤◌, refl, sym, ◌∙◌, ap, ℕ, Bool, true, false, not, ◌&&◌, ◌||◌, ◌==◌}
use Rattle.core_model.proofs.Words.{List, [], ◌∷◌, length, filter, find, Option, is_some, list_any, option_map}
use Rattle.core_model.proofs.Words.{option_map_or, and_right, same_id, same_id-is, Goal, Event, Child, is_child_of}
use Rattle.core_model.proofs.Words.{is_child}
use Rattle.core_model.proofs.Words.{unreaped_children, known_children, record_ids, is_sound, agrees_at, one_child}
use Rattle.core_model.proofs.Words.{known_single, child_in_records, SlotState, is_record_of, is_numbered, CoreState}
use Rattle.core_model.proofs.Words.{Fits, child_known, known_child, living, has_record, is_recorded}
use Rattle.trace_events.specs.Agreement.{has_untold_birth, has_untold_end, is_unreaped, is_known}
use Rattle.core_model.specs.Fit.{record_of}
use Rattle.core_model.proofs.Fitted.{fit_records}
use Rattle.core_model.proofs.Acts.{child_some}
use Rattle.core_model.proofs.Reading.{any_map, any_found}

-- a test of one id among several
one_id : (id : List ℕ) (p : List ℕ → Bool) (ids : List (List ℕ))
    → list_any (λ i. same_id id i && p i) ids ≡ (list_any (same_id id) ids && p id)
one_id id p [] = refl
one_id id p (i ∷ ids) = at (same_id id i) refl (one_id id p ids)
  where
    here : (a b : Bool) → a ≡ b → (a || b) ≡ b
    here true b same = same
    here false b same = refl

    all : (x y : Bool) → (x || y && x) ≡ x
    all true y = refl
    all false true = refl
    all false false = refl

    at : (b : Bool) → same_id id i ≡ b → list_any (λ i. same_id id i && p i) ids ≡ (list_any (same_id id) ids && p id)
        → (b && p i || list_any (λ i. same_id id i && p i) ids) ≡ ((b || list_any (same_id id) ids) && p id)
    at true is rest = ap (λ x. p i || x) rest ∙ ap (λ x. p x || list_any (same_id id) ids && p id)
        (sym (same_id-is id i is)) ∙ all (p id) (list_any (same_id id) ids)
    at false is rest = rest

numbered_known : (n : ℕ) (o : Option Child)
    → is_numbered n (option_map living o) ≡ option_map_or (λ (child : Child). n == child.number) o false
numbered_known n o = grind arith

numbered_some : (n : ℕ) (o : Option Child) → is_numbered n (option_map living o) ≡ true
    → is_some (option_map living o) ≡ true
numbered_some n o h = grind arith

module _ (goal : Goal) (past : List Event) (c : CoreState) (sound : is_sound goal past ≡ true) (fits : Fits c goal past)
  where
    -- a record has a child exactly if it is known
    recorded_known : (id : List ℕ) (n : ℕ) → has_record id n c ≡ is_known id n past
    recorded_known id n = ap (list_any (λ (slot : SlotState). is_record_of id slot && is_numbered n slot.child))
        (fit_records c goal past fits)
        ∙ any_map (record_of fits.lasts past) (λ (slot : SlotState). is_record_of id slot && is_numbered n slot.child)
        (record_ids past)
        ∙ one_id id (λ i. is_numbered n (known_child i past)) (record_ids past)
        ∙ listed (is_numbered n (known_child id past)) refl
        ∙ numbered_known n (child_known id past)
        ∙ sym (any_found (is_child_of id) (λ (child : Child). n == child.number) (known_children past)
        (known_single goal past sound id))
      where
        listed : (b : Bool) → is_numbered n (known_child id past) ≡ b → (list_any (same_id id) (record_ids past)
            && is_numbered n (known_child id past)) ≡ is_numbered n (known_child id past)
        listed true is = ap (λ b. b && is_numbered n (known_child id past))
            (child_in_records goal past sound id (sym (child_some id past) ∙ numbered_some n (child_known id past) is))
        listed false is = ap (λ b. list_any (same_id id) (record_ids past) && b) is
            ∙ and_right (list_any (same_id id) (record_ids past)) false refl ∙ sym is

    pub unreaped_recorded : (id : List ℕ) (n : ℕ) → is_unreaped id n past ≡ is_recorded id n c past
    unreaped_recorded id n = agrees_at goal [] past id n sound
        ∙ ap (λ b. b && not (has_untold_end id n past) || has_untold_birth id n past) (sym (recorded_known id n))

    -- no id has two children
    single_number : (id : List ℕ) (m n : ℕ) (xs : List Child) → length (filter (is_child_of id) xs) ≤ 1
        → list_any (is_child id m) xs ≡ true → list_any (is_child id n) xs ≡ true → m ≡ n
    single_number id m n xs one has_m has_n =
        by (find (is_child_of id) xs)
        (sym (any_found (is_child_of id) (λ (child : Child). m == child.number) xs one) ∙ has_m)
        (sym (any_found (is_child_of id) (λ (child : Child). n == child.number) xs one) ∙ has_n)
      where
        by : (o : Option Child) → option_map_or (λ (child : Child). m == child.number) o false ≡ true
            → option_map_or (λ (child : Child). n == child.number) o false ≡ true → m ≡ n
        by o h k = grind arith

    pub one_recorded : (id : List ℕ) (m n : ℕ) → is_recorded id m c past ≡ true → is_recorded id n c past ≡ true → m ≡ n
    one_recorded id m n has_m has_n = single_number id m n (unreaped_children past) (one_child goal past sound id)
        (unreaped_recorded id m ∙ has_m) (unreaped_recorded id n ∙ has_n)
