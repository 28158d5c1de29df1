-- How the algorithm assigns numbers, pass by pass. 0 means no number.
use Rattle.std.specs.Prelude.{◌≡◌, ℕ, ◌+◌, ◌<◌, ◌≤◌, ◌==◌, ◌||◌, ◌&&◌, max, if◌then◌else◌, List, [], ◌∷◌, get_or}
use Rattle.std.specs.Prelude.{length}
use Rattle.rc_numbers.specs.Numbering.{Needs, AtMostAny}

-- the height of a place after one more needed place with this number: 0 if the height was 0 or the needed place has no
-- number
abbrev pub raised : ℕ → ℕ → ℕ
raised height number = if height == 0 || number == 0 then 0 else max height (number + 1)

-- the height of place `a`, given a first height, after all edges that begin at the place
abbrev pub height_from : List ℕ → ℕ → ℕ → List (ℕ × ℕ) → ℕ
height_from numbers a height [] = height
height_from numbers a height (edge ∷ edges) =
    height_from numbers a (if edge.0 == a then raised height (get_or numbers edge.1 0) else height) edges

-- the last place in these edges that place `a` needs and that has no number; `found` if there is none
abbrev pub need_from : List ℕ → ℕ → ℕ → List (ℕ × ℕ) → ℕ
need_from numbers a found [] = found
need_from numbers a found (edge ∷ edges) =
    need_from numbers a (if edge.0 == a && get_or numbers edge.1 0 == 0 then edge.1 else found) edges

-- the heights of the places: for each, one more than the greatest number among the places that it needs, or 0 if one of
-- them has no number
abbrev pub AreHeights : List (ℕ × ℕ) → List ℕ → List ℕ → Type 0
AreHeights edges numbers heights =
    (a : ℕ) → a < length numbers → get_or heights a 0 ≡ height_from numbers a 1 edges

-- for each place, the last place that it needs and that has no number
abbrev pub AreBlockers : List (ℕ × ℕ) → List ℕ → List ℕ → Type 0
AreBlockers edges numbers found =
    (a : ℕ) → a < length numbers → get_or found a 0 ≡ need_from numbers a 0 edges

-- the numbers, where each place that had no number now has its height as its number
abbrev pub settled : List ℕ → List ℕ → List ℕ
settled [] heights = []
settled (x ∷ numbers) [] = x ∷ numbers
settled (x ∷ numbers) (h ∷ heights) = (if x == 0 then h else x) ∷ settled numbers heights

-- the number of places without a number
abbrev pub zeros : List ℕ → ℕ
zeros [] = 0
zeros (x ∷ xs) = (if x == 0 then 1 else 0) + zeros xs

-- the numbers assigned so far: each is at most the place's number in any numbering, and greater than the numbers of the
-- places that the place needs
pub record IsPartial (count : ℕ) (edges : List (ℕ × ℕ)) (numbers : List ℕ) : Type 0 where
  pub size : length numbers ≡ count
  pub small : (a : ℕ) → get_or numbers a 0 + zeros numbers ≤ count
  pub rises : (a b : ℕ) → Needs edges a b → 0 < get_or numbers a 0
      → (0 < get_or numbers b 0) × (get_or numbers b 0 < get_or numbers a 0)
  pub least : AtMostAny edges numbers

-- each place without a number needs a place without a number
abbrev pub IsStuck : ℕ → List (ℕ × ℕ) → List ℕ → Type 0
IsStuck count edges numbers =
    (a : ℕ) → a < count → get_or numbers a 0 ≡ 0 → (b : ℕ) × Needs edges a b × (get_or numbers b 0 ≡ 0)
