-- The state of the simulated system between two happenings.
use Rattle.std.specs.Prelude.{◌≡◌, ℕ, Bool, true, false, not, ◌&&◌, ◌==◌, if◌then◌else◌, nat_eq, List, [], Option, Some}
use Rattle.std.specs.Prelude.{None}
use Rattle.std.specs.Map.{lookup}
use Rattle.std.specs.Option.{option_map, option_map_or}
use Rattle.simulator.specs.Words.{OrderKind, Answer}
use Rattle.init_words.specs.Ids.{same_id}
use Rattle.simulator.specs.declared.simulated.SimulatedChild.{SimulatedChild}

-- for each id, the order not yet carried out and the answer that init has not received yet; and the unreaped children,
-- by number
pub record SystemState : Type 0 where
  pub orders : List (List ℕ × OrderKind)
  pub answers : List (List ℕ × Answer)
  pub children : List (ℕ × SimulatedChild)

-- the initial state: no orders, no answers, no children
abbrev pub empty : SystemState
empty = record { orders = []; answers = []; children = [] }

-- the id's order that is not carried out yet
abbrev pub order_in : List ℕ → SystemState → Option OrderKind
order_in id side = lookup (same_id id) side.orders

-- the answer to the id's order that init has not received yet
abbrev pub answer_in : List ℕ → SystemState → Option Answer
answer_in id side = lookup (same_id id) side.answers

-- the unreaped child with this number
abbrev pub child_in : ℕ → SystemState → Option SimulatedChild
child_in number side = lookup (nat_eq number) side.children

-- the child with this number is alive
abbrev pub is_living_in : ℕ → SystemState → Bool
is_living_in number side = option_map_or (λ child. not child.is_dead) (child_in number side) false

-- the child with this number is dead and belongs to the id
abbrev pub is_dead_in : List ℕ → ℕ → SystemState → Bool
is_dead_in id number side = option_map_or (λ child. same_id id child.id && child.is_dead) (child_in number side) false

-- the value for an id after the value for id `i` is removed
abbrev pub without : {X : Type 0} → List ℕ → List ℕ → Option X → Option X
without id i before = if same_id id i then None else before

-- the value for an id after the value for id `i` is set to `x`
abbrev pub with : {X : Type 0} → List ℕ → List ℕ → X → Option X → Option X
with id i x before = if same_id id i then Some x else before

-- the child with a number after a child with number `n` is born for id `i`
abbrev pub with_child : ℕ → ℕ → List ℕ → Option SimulatedChild → Option SimulatedChild
with_child number n i before = if number == n then Some (record { id = i; is_dead = false }) else before

-- the child after its death
abbrev pub died : SimulatedChild → SimulatedChild
died child = record child { is_dead = true }

-- the child with a number after the child with number `n` dies
abbrev pub with_death : ℕ → ℕ → Option SimulatedChild → Option SimulatedChild
with_death number n before = if number == n then option_map died before else before

-- the child with a number after the child with number `n` is removed
abbrev pub without_child : ℕ → ℕ → Option SimulatedChild → Option SimulatedChild
without_child number n before = if number == n then None else before

-- for each id, `after` maps the order before a change to the order after it
abbrev pub OrdersAfterChange : SystemState → SystemState → (List ℕ → Option OrderKind → Option OrderKind) → Type 0
OrdersAfterChange old new after = (id : List ℕ) → order_in id new ≡ after id (order_in id old)

-- for each id, `after` maps the answer not yet received before a change to the one not yet received after it
abbrev pub AnswersAfterChange : SystemState → SystemState → (List ℕ → Option Answer → Option Answer) → Type 0
AnswersAfterChange old new after = (id : List ℕ) → answer_in id new ≡ after id (answer_in id old)

-- for each number, `after` maps the child before a change to the child after it
abbrev pub ChildrenAfterChange : SystemState → SystemState → (ℕ → Option SimulatedChild → Option SimulatedChild)
    → Type 0
ChildrenAfterChange old new after = (number : ℕ) → child_in number new ≡ after number (child_in number old)
