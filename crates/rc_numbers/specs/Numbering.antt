-- Numberings and cycles of a graph. A place (node) is a natural number, and an edge (a, b) means that a needs b.
use Rattle.std.specs.Prelude.{◌≡◌, ℕ, ◌<◌, ◌≤◌, List, [], ◌∷◌, get_or, length, ◌⊎◌, Option, Some, None}

-- `a` needs `b`: there is an edge from `a` to `b`
abbrev pub Needs : List (ℕ × ℕ) → ℕ → ℕ → Type 0
Needs [] a b = ⊥
Needs (edge ∷ edges) a b = ((edge.0 ≡ a) × (edge.1 ≡ b)) ⊎ Needs edges a b

-- each place has a number, at least 1 and greater than the numbers of the places that it needs
pub record IsNumbering (edges : List (ℕ × ℕ)) (number : ℕ → ℕ) : Type 0 where
  pub some : (a : ℕ) → 1 ≤ number a
  pub rises : (a b : ℕ) → Needs edges a b → number b < number a

-- there is no numbering
abbrev pub HasNoNumbering : List (ℕ × ℕ) → Type 0
HasNoNumbering edges = (number : ℕ → ℕ) → IsNumbering edges number → ⊥

-- no place has a greater number than it has in any numbering
abbrev pub AtMostAny : List (ℕ × ℕ) → List ℕ → Type 0
AtMostAny edges numbers =
    (number : ℕ → ℕ) → IsNumbering edges number → (a : ℕ) → get_or numbers a 0 ≤ number a

-- the least numbering of the places below `count`: no numbering gives any place a smaller number
pub record IsLeast (count : ℕ) (edges : List (ℕ × ℕ)) (numbers : List ℕ) : Type 0 where
  pub some : (a : ℕ) → a < count → 1 ≤ get_or numbers a 0
  pub rises : (a b : ℕ) → Needs edges a b → get_or numbers b 0 < get_or numbers a 0
  pub least : AtMostAny edges numbers

-- a walk from one place through others to a last one; each place needs the next
abbrev pub Walk : List (ℕ × ℕ) → ℕ → List ℕ → ℕ → Type 0
Walk edges a [] b = Needs edges a b
Walk edges a (x ∷ xs) b = Needs edges a x × Walk edges x xs b

-- each place of the list needs the next one, and the last needs the first
abbrev pub IsClosedWalk : List (ℕ × ℕ) → List ℕ → Type 0
IsClosedWalk edges [] = ⊥
IsClosedWalk edges (a ∷ xs) = Walk edges a xs a

-- no place of the list is less than this one
abbrev pub Earliest : ℕ → List ℕ → Type 0
Earliest a [] = Unit {0}
Earliest a (x ∷ xs) = (a ≤ x) × Earliest a xs

-- a closed walk whose first place is its least place
abbrev pub IsCycle : List (ℕ × ℕ) → List ℕ → Type 0
IsCycle edges [] = ⊥
IsCycle edges (a ∷ xs) = Walk edges a xs a × Earliest a xs

-- if a place has a step, the place needs the one that the step leads to
abbrev pub AreSteps : List (ℕ × ℕ) → List (Option ℕ) → Type 0
AreSteps edges steps = (a b : ℕ) → get_or steps a None ≡ Some b → Needs edges a b

-- both places of each edge are below this number
abbrev pub InRange : ℕ → List (ℕ × ℕ) → Type 0
InRange count edges =
    (k : ℕ) → k < length edges → ((get_or edges k (0, 0)).0 < count) × ((get_or edges k (0, 0)).1 < count)

-- each of the places is below this number
abbrev pub AllBelow : ℕ → List ℕ → Type 0
AllBelow count places = (k : ℕ) → k < length places → get_or places k 0 < count
