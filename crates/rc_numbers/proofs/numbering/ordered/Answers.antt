use Rattle.rc_numbers.proofs.Words.{◌<◌, arith, length, subst, List, ℕ, get_or}
use Rattle.rc_numbers.proofs.CycleLemmas.{IsCycle-none}
use Rattle.rc_numbers.proofs.PassLemmas.{IsLeast-whole}
use Rattle.rc_numbers.proofs.numbering.ordered.Goals as goal

pub returns-in-None-clause-least : goal.returns-in-None-clause-least
returns-in-None-clause-least g c =
    let P : List ℕ → Type 0 = λ xs. (a : ℕ) → a < length xs → 0 < get_or xs a 0 in
    let all = subst P c.as_slice.ensures.value c.in-None.ensures.all in
    IsLeast-whole c.args.count c.args.edges.now c.in_ok-numbers.numbers.items c.requires c.in_ok-numbers.ensures.partial
    (λ a within. all a (omega (arith, c.in_ok-numbers.ensures.partial.size)))

pub returns-in_ok-cycle-in-Some-clause-none : goal.returns-in_ok-cycle-in-Some-clause-none
returns-in_ok-cycle-in-Some-clause-none g c = λ number numbering. IsCycle-none c.args.edges.now
    c.in_ok-cycle-in-Some.field-0.items c.in_ok-cycle-in-Some.ensures.cycle number numbering
