-- From each rest without a pending power event or letter, a settled level can be reached.
use Rattle.core_waiting.proofs.Words.{◌≡◌, ◌≤◌, refl, sym, ◌∙◌, ap, subst, ℕ, true, false, List, [], ◌∷◌, ◌++◌, length}
use Rattle.core_waiting.proofs.Words.{Some, arith, Run, Goal, Event, is_idle, stage_of, goal_of, are_calls_pending}
use Rattle.core_waiting.proofs.Words.{is_sound}
use Rattle.core_waiting.proofs.Words.{AtRest, is_level_announced, after_rounds, AreRoundsWithoutRequests}
use Rattle.core_waiting.proofs.Words.{undisturbed_among}
use Rattle.core_waiting.proofs.Words.{destination, rounds_to_come}
use Rattle.std.proofs.Common.{append_assoc}
use Rattle.core_waiting.proofs.Arriving.{arrives, arrives_there}
use Rattle.core_waiting.proofs.Existing.{rounds_exist}

-- the rounds as one stretch
abbrev in_one : List (List Event) → List Event
in_one [] = []
in_one (round ∷ earlier) = round ++ in_one earlier

one_stretch : (rounds : List (List Event)) (past : List Event) → after_rounds rounds past ≡ in_one rounds ++ past
one_stretch [] past = refl
one_stretch (round ∷ earlier) past =
    ap (λ x. round ++ x) (one_stretch earlier past) ∙ sym (append_assoc round (in_one earlier) past)

abbrev Reached : Goal → List Event → List Event → Type 0
Reached goal past now = (is_sound goal now ≡ true) × (is_level_announced now ≡ true)
    × (stage_of now ≡ Some (Run (destination (goal_of goal past).level (stage_of past))))

pub reached : (goal : Goal) (later past : List Event) → is_sound goal (later ++ past) ≡ true → AtRest goal past
    → is_idle past ≡ true → are_calls_pending past ≡ false
    → (onward : List Event) × (is_sound goal (onward ++ past) ≡ true) × (is_level_announced (onward ++ past) ≡ true)
    × (stage_of (onward ++ past) ≡ Some (Run (destination (goal_of goal past).level (stage_of past))))
reached goal later past sound rest idle news =
    by (rounds_exist goal later past (rounds_to_come goal past) sound rest idle news) where
      by : (rounds : List (List Event)) × (length rounds ≡ rounds_to_come goal past)
          × (is_sound goal (after_rounds rounds
          past) ≡ true) × AreRoundsWithoutRequests goal rounds past
          × (undisturbed_among rounds past ≡ rounds_to_come goal past)
          → (onward : List Event) × (is_sound goal (onward ++ past) ≡ true)
          × (is_level_announced (onward ++ past) ≡ true)
          × (stage_of (onward ++ past) ≡ Some (Run (destination (goal_of goal past).level (stage_of past))))
      by some = (in_one some.0, there.0, there.1, there.2) where
        enough : rounds_to_come goal past ≤ undisturbed_among some.0 past
        enough = same (undisturbed_among some.0 past) (rounds_to_come goal past) some.4 where
          same : (a b : ℕ) → a ≡ b → b ≤ a
          same a b is = omega arith

        told : is_level_announced (after_rounds some.0 past) ≡ true
        told = arrives goal [] some.0 past some.2 some.3 enough

        there : Reached goal past (in_one some.0 ++ past)
        there = subst (Reached goal past) (one_stretch some.0 past)
            (some.2, told, arrives_there goal [] some.0 past some.2 some.3 told)
