-- The unreaped children are the known ones, without those whose end is not told yet, and with those whose birth is not
-- told yet.
use Rattle.trace_laws.proofs.Words.{◌≡◌, refl, sym, ◌∙◌, ap, ℕ, Bool, true, false, not, ◌&&◌, ◌||◌, ◌==◌, List, [], ◌∷◌}
use Rattle.trace_laws.proofs.Words.{◌++◌, filter, arith, list_any, and_parts, or_parts, eqb-true, Look, same_id, Birth}
use Rattle.trace_laws.proofs.Words.{NoBirth, Reaped, Still, NoLook, Hit, Miss, Told, Goal, Event, Child, is_child_of}
use Rattle.trace_laws.proofs.Words.{is_child, undone_of, is_untold, unreaped_children, known_children, is_order}
use Rattle.trace_laws.proofs.Words.{may_come, is_sound, has_untold_birth, has_untold_end, is_unreaped, is_known, Agrees}
use Rattle.trace_laws.proofs.Words.{same_id-is, same_id-from, any_within, any_without}
use Rattle.std.proofs.lemmas.Bool.{eq-eqb}
use Rattle.trace_laws.proofs.Tests.{is_order-is}
use Rattle.trace_laws.proofs.Orders.{told_same, told_other}
use Rattle.trace_laws.proofs.Keeps.{look_undone, sound_holds, sound_ind}
use Rattle.trace_laws.proofs.Births.{at_moment}

-- an id without untold acts has no untold birth
born_told : (id : List ℕ) (n : ℕ) (past : List Event) → is_untold id past ≡ false → has_untold_birth id n past ≡ false
born_told id n [] h = refl
born_told id n (Told i ∷ past) h = grind (arith, born_told id n past)
born_told id n (Birth i m ∷ past) h = grind (arith, born_told id n past)
born_told id n (NoBirth i ∷ past) h = born_told id n past (or_parts (same_id id i) (is_untold id past) h).1
born_told id n (Reaped i m status ∷ past) h = born_told id n past (or_parts (same_id id i) (is_untold id past) h).1
born_told id n (Still i ∷ past) h = born_told id n past (or_parts (same_id id i) (is_untold id past) h).1
born_told id n (NoLook i ∷ past) h = born_told id n past (or_parts (same_id id i) (is_untold id past) h).1
born_told id n (Hit i ∷ past) h = born_told id n past (or_parts (same_id id i) (is_untold id past) h).1
born_told id n (Miss i ∷ past) h = born_told id n past (or_parts (same_id id i) (is_untold id past) h).1
born_told id n (_ ∷ past) h = born_told id n past h

-- a child is found by id and number in two lists alike, if both have the same children of the id
same_pair : (id : List ℕ) (n : ℕ) (xs ys : List Child) → filter (is_child_of id) xs ≡ filter (is_child_of id) ys
    → list_any (is_child id n) xs ≡ list_any (is_child id n) ys
same_pair id n xs ys same = grind (arith, any_within)

-- Boolean identities: how a birth and a reaping change the two sides of the agreement
born_agrees : (born u k e b : Bool) → u ≡ (k && not e || b) → (born || u) ≡ (k && not e || (born || b))
born_agrees born u k e b h = grind arith

reaped_agrees : (x u k e b : Bool) → u ≡ (k && not e || b) → (x ≡ true → b ≡ false)
    → (not x && u) ≡ (k && not (x || e) || b)
reaped_agrees x u k e b h none = grind arith

told_agrees : (u : Bool) → u ≡ (u && true || false)
told_agrees u = grind arith

-- a reaping removes only the child with its id and number
pub reaped_pair : (id i : List ℕ) (n m : ℕ) (xs : List Child) (b : Bool) → (same_id id i && n == m) ≡ b
    → list_any (is_child id n) (filter (λ child. not (is_child i m child)) xs) ≡ (not b && list_any (is_child id n) xs)
reaped_pair id i n m xs b same = grind (arith, any_without, same_id-is, eqb-true, any_within, same_id-from, eq-eqb)

sound_agrees : (goal : Goal) (past : List Event) → is_sound goal past ≡ true → (id : List ℕ) (n : ℕ) → Agrees id n past
sound_agrees goal past h = sound_ind goal (λ before. (id : List ℕ) (n : ℕ) → Agrees id n before)
    (λ table distinct id n. refl) next past h where
      next : (happening : Event) (before : List Event) → may_come goal happening before ≡ true
          → is_sound goal before ≡ true
          → ((id : List ℕ) (n : ℕ) → Agrees id n before) → (id : List ℕ) (n : ℕ) → Agrees id n (happening ∷ before)
      next (Birth i m) before may sound rest id n = born_agrees (same_id id i && n == m) (is_unreaped id n before)
          (is_known id n before) (has_untold_end id n before) (has_untold_birth id n before) (rest id n)
      next (Reaped i m status) before may sound rest id n = reaped_pair id i n m (unreaped_children before)
          (same_id id i && n == m) refl ∙ reaped_agrees (same_id id i && n == m) (is_unreaped id n before)
          (is_known id n before) (has_untold_end id n before) (has_untold_birth id n before) (rest id n) told where
            looked : is_order Look (undone_of i before) ≡ true
            looked = (look_undone goal i m status before may).0

            told : (same_id id i && n == m) ≡ true → has_untold_birth id n before ≡ false
            told same = born_told id n before (ap (λ x. is_untold x before) (same_id-is id i (and_parts (same_id id i)
                (n == m) same).0)
                ∙ (sound_holds goal before sound).done i Look (is_order-is Look (undone_of i before) looked))
      next (Told i) before may sound rest id n = at_id (same_id id i) refl where
        at_id : (b : Bool) → same_id id i ≡ b → is_unreaped id n before ≡ (is_known id n (Told i ∷ before)
            && not (not b && has_untold_end id n before) || not b && has_untold_birth id n before)
        at_id true same = told_agrees (is_unreaped id n before)
            ∙ ap (λ k. k && true || false) (sym (same_pair id n (known_children (Told i ∷ before))
            (unreaped_children before) (told_same id i (unreaped_children before) (known_children before) same)))
        at_id false differ = rest id n ∙ ap (λ k. k && not (has_untold_end id n before) || has_untold_birth id n before)
            (sym (same_pair id n (known_children (Told i ∷ before)) (known_children before)
            (told_other id i (unreaped_children before) (known_children before) differ)))
      next (_) before may sound rest id n = rest id n

pub agrees_at : (goal : Goal) (later past : List Event) (id : List ℕ) (n : ℕ) → is_sound goal (later ++ past) ≡ true
    → Agrees id n past
agrees_at goal later past id n h =
    at_moment goal (Agrees id n) refl (λ before sound. sound_agrees goal before sound id n) later past h
