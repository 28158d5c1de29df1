-- No two unreaped children have the same number.
use Rattle.simulator.proofs.Words.{◌≡◌, refl, ◌∙◌, ap, ℕ, ◌==◌, Bool, true, false, not, ◌||◌, cond, List, [], ◌∷◌}
use Rattle.simulator.proofs.Words.{filter, list_any, and_parts, not-true, Birth, Reaped, Goal, Event, Start, Child}
use Rattle.simulator.proofs.Words.{is_child, has_number, undone_of, unreaped_children, is_order, may_come, is_sound}
use Rattle.simulator.proofs.Words.{both_ways, any_less, none_filtered, is_lone, lone_filter}
use Rattle.std.proofs.lemmas.Bool.{eqb-true}
use Rattle.trace_laws.proofs.Keeps.{sound_ind}

-- no number has two unreaped children
pub one_number : (goal : Goal) (past : List Event) → is_sound goal past ≡ true → (number : ℕ)
    → is_lone (has_number number) (unreaped_children past) ≡ true
one_number goal past h = sound_ind goal (λ before. (number : ℕ)
    → is_lone (has_number number) (unreaped_children before) ≡ true) (λ table distinct number. refl) next past h where
      next : (happening : Event) (before : List Event) → may_come goal happening before ≡ true
          → is_sound goal before ≡ true
          → ((number : ℕ) → is_lone (has_number number) (unreaped_children before) ≡ true) → (number : ℕ)
          → is_lone (has_number number) (unreaped_children (happening ∷ before)) ≡ true
      next (Birth i n) before may sound one number = at_number (number == n) refl where
        at_number : (b : Bool) → (number == n) ≡ b
            → cond b (not (list_any (has_number number) (unreaped_children before)))
            (is_lone (has_number number) (unreaped_children before)) ≡ true
        at_number true same =
            ap (λ m. not (list_any (has_number m) (unreaped_children before))) (eqb-true number n same) ∙ (and_parts
            (is_order Start (undone_of i before)) (not (list_any (has_number n) (unreaped_children before))) may).1
        at_number false differ = one number
      next (Reaped i n status) before may sound one number =
          lone_filter (has_number number) (λ child. not (is_child i n child)) (unreaped_children before) (one number)
      next _ before may sound one number = one number

-- if at most one child passes `p`, and one passes `r`, which implies `p`, none that passes `p` is left once those that
-- pass `r` are removed
pub lone_gone : (p r : Child → Bool) → ((x : Child) → r x ≡ true → p x ≡ true) → (xs : List Child) → is_lone p xs ≡ true
    → list_any r xs ≡ true → list_any p (filter (λ x. not (r x)) xs) ≡ false
lone_gone p r within [] h there = refl
lone_gone p r within (x ∷ xs) h there = split (p x) (r x) refl refl (lone_gone p r within xs) h there where
  split : (b c : Bool) → p x ≡ b → r x ≡ c → (is_lone p xs ≡ true → list_any r xs ≡ true → list_any p
      (filter (λ y. not (r y)) xs) ≡ false) → cond b (not (list_any p xs)) (is_lone p xs) ≡ true → (c || list_any r xs)
      ≡ true → list_any p (cond (not c) (x ∷ filter (λ y. not (r y)) xs) (filter (λ y. not (r y)) xs)) ≡ false
  split true true is own rest h there = none_filtered p (λ y. not (r y)) xs h
  split true false is own rest h there =
      both_ways (list_any p xs) (any_less r p within xs there) (not-true (list_any p xs) h)
  split false true is own rest h there = both_ways (p x) (within x own) is
  split false false is own rest h there = rw is (rest h there)
