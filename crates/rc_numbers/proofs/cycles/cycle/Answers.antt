use Rattle.rc_numbers.proofs.Words.{◌≡◌, ◌∙◌, ◌<◌, ◌≤◌, length, subst, List, ℕ, sym, get_or, IfOk-weaker, AllBelow}
use Rattle.rc_numbers.proofs.Words.{IsCycle, IsClosedWalk}
use Rattle.rc_numbers.proofs.CycleLemmas.{IsCycle-rotated, AllBelow-append, AllBelow-drop, AllBelow-take, ring_some}
use Rattle.rc_numbers.proofs.cycles.cycle.Goals as goal

pub least_at-requires : goal.least_at-requires
least_at-requires g c =
    let some = ring_some c.args.edges.now c.in_ok-ring.ring.items c.in_ok-ring.ensures.ring in
    rw c.as_slice-2.ensures.value some

pub returns-clause-cycle : goal.returns-clause-cycle
returns-clause-cycle g c =
    let edges = c.args.edges.now in
    let ring = c.as_slice.result.now in
    let same : c.as_slice-2.result.now ≡ ring = c.as_slice-2.ensures.value ∙ sym c.as_slice.ensures.value in
    let P : List ℕ → Type 0 = λ xs. (c.least_at.result < length xs)
    × ((k : ℕ) → k < length xs → get_or xs c.least_at.result 0 ≤ get_or xs k 0) in
    let Q : List ℕ → Type 0 = λ xs. IsClosedWalk edges xs in
    let R : List ℕ → Type 0 = λ xs. IsCycle edges xs in
    let least = subst P same (c.least_at.ensures.within, c.least_at.ensures.least) in
    let is = subst Q (sym c.as_slice.ensures.value) c.in_ok-ring.ensures.ring in
    IfOk-weaker c.rotated.result _ _
    (λ t e. subst R (sym e) (IsCycle-rotated edges ring c.least_at.result least.0 least.1 is)) c.rotated.ensures

pub returns-clause-below : goal.returns-clause-below
returns-clause-below g c =
    let count = length c.args.numbers.now in
    let ring = c.as_slice.result.now in
    let P : List ℕ → Type 0 = λ xs. AllBelow count xs in
    let all = subst P (sym c.as_slice.ensures.value) c.in_ok-ring.ensures.below in
    IfOk-weaker c.rotated.result _ _ (λ t e. subst P (sym e) (AllBelow-append count _ _ (AllBelow-drop count ring
    c.least_at.result all) (AllBelow-take count ring c.least_at.result all))) c.rotated.ensures
