use Rattle.rc_numbers.proofs.Words.{ℕ, List, length, subst, sym, InRange, IsClosedWalk}
use Rattle.rc_numbers.proofs.StepLemmas.{AreNeeds-permutation, InRange-needs, IsClosedWalk-weaken}
use Rattle.rc_numbers.proofs.cycles.earliest_ring.Goals as goal

pub ring_through-requires-clause-range : goal.ring_through-requires-clause-range
ring_through-requires-clause-range g c =
    let count = length c.args.numbers.now in
    let P : List (ℕ × ℕ) → Type 0 = λ xs. InRange count xs in
    subst P (sym c.as_slice.ensures.value) (InRange-needs count c.args.edges.now c.in_ok-needs.needs.items c.requires
    (AreNeeds-permutation c.args.edges.now c.in_ok-needs.needs.items c.in_ok-needs.ensures))

pub returns-in-Some-clause-ring : goal.returns-in-Some-clause-ring
returns-in-Some-clause-ring g c =
    let is = rw c.in-Some.is at c.in_ok-ring.ensures.ring in
    let P : List (ℕ × ℕ) → Type 0 = λ xs. IsClosedWalk xs c.in-Some.ring.items in
    IsClosedWalk-weaken c.args.edges.now c.in_ok-needs.needs.items c.in-Some.ring.items
    (AreNeeds-permutation c.args.edges.now c.in_ok-needs.needs.items c.in_ok-needs.ensures)
    (subst P c.as_slice.ensures.value is)
