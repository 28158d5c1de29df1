-- When the state of the simulated system agrees with a trace.
use Rattle.std.specs.Prelude.{◌≡◌, ℕ, List, Option, find}
use Rattle.std.specs.Option.{option_map}
use Rattle.simulator.specs.Words.{Event, Child, has_number, is_dead, undone_of, unreaped_children, answered_of}
use Rattle.simulator.specs.declared.simulated.SimulatedChild.{SimulatedChild}
use Rattle.simulator.specs.State.{SystemState, order_in, answer_in, child_in}

-- a child in the trace, in the form in which the state represents it
abbrev pub simulated_child_of : ℕ → List Event → Child → SimulatedChild
simulated_child_of number past child = record { id = child.id; is_dead = is_dead child.id number past }

-- the unreaped child with this number, and whether it is dead
abbrev pub child_with : ℕ → List Event → Option SimulatedChild
child_with number past = option_map (simulated_child_of number past) (find (has_number number) (unreaped_children past))

-- each part of the state agrees with the trace
pub record Follows (side : SystemState) (past : List Event) : Type 0 where
  pub orders : (id : List ℕ) → order_in id side ≡ undone_of id past
  pub answers : (id : List ℕ) → answer_in id side ≡ answered_of id past
  pub children : (number : ℕ) → child_in number side ≡ child_with number past
