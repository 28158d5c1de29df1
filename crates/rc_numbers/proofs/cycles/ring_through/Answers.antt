use Rattle.rc_numbers.proofs.Words.{◌≡◌, ◌<◌, ℕ, List, Option, Some, None, arith, length, get_or, subst, sym}
use Rattle.rc_numbers.proofs.PassLemmas.{Needs-range}
use Rattle.rc_numbers.proofs.cycles.ring_through.Goals as goal

pub ring_along-requires-clause-range : goal.ring_along-requires-clause-range
ring_along-requires-clause-range g c =
    let needs = c.args.needs.now in
    let steps = c.in_ok-steps.steps.items in
    let P : List (Option ℕ) → Type 0 = λ xs. (a b : ℕ) → get_or xs a None ≡ Some b → b < length xs in
    let size = c.in_ok-steps.ensures.size in
    subst P (sym c.as_slice.ensures.value) (λ a b is. let low = Needs-range c.args.count needs a b c.requires.range
    (c.in_ok-steps.ensures.steps a b is) in omega (arith, low.1, size))
