use Rattle.rc_numbers.proofs.Words.{◌≡◌, arith, sym, ◌∙◌, false, length, replicate, inl, inr, bytes_eq, common_steps}
use Rattle.rc_numbers.proofs.Words.{true≢false, AreHeights, settled}
use Rattle.rc_numbers.proofs.PassLemmas.{IsPartial-next, IsPartial-start, IsStuck-same, fewer, same_lists, same_self}
use Rattle.rc_numbers.proofs.passes.numbers.Goals as goal

pub passes-init : goal.passes-init
passes-init g c =
    let none : c.in_ok-numbers.numbers.items ≡ replicate c.args.count 0 = grind (arith, common_steps) in
    rw none (IsPartial-start c.args.count c.args.edges.now)

pub returns-then-eq-clause-stuck : goal.returns-then-eq-clause-stuck
returns-then-eq-clause-stuck g c =
    let numbers = c.passes.numbers.items in
    let heights = c.in_ok-heights.heights.items in
    let next : c.in_ok-next.next.items ≡ settled numbers heights = grind (arith, common_steps) in
    let size : length heights ≡ length numbers = grind (arith, common_steps) in
    let are : AreHeights c.args.edges.now numbers heights = grind (arith, common_steps) in
    let still : c.in_ok-next.next.items ≡ numbers =
    same_lists c.in_ok-next.next.items numbers (grind (arith, common_steps)) in
    IsStuck-same c.args.count c.args.edges.now numbers heights c.passes.invariant.size size are (sym next ∙ still)

pub passes-smaller : goal.passes-smaller
passes-smaller g c =
    let numbers = c.passes.numbers.items in
    let heights = c.in_ok-heights.heights.items in
    let next : c.in_ok-next.next.items ≡ settled numbers heights = grind (arith, common_steps) in
    let other : bytes_eq c.in_ok-next.next.items numbers ≡ false = grind (arith, common_steps) in
    elim (fewer numbers heights) [
      | inl same ↦ absurd (true≢false (sym (same_self c.in_ok-next.next.items numbers (next ∙ same)) ∙ other))
      | inr less ↦ rw next less
    ]

pub passes-preserved : goal.passes-preserved
passes-preserved g c =
    let numbers = c.passes.numbers.items in
    let heights = c.in_ok-heights.heights.items in
    let next : c.in_ok-next.next.items ≡ settled numbers heights = grind (arith, common_steps) in
    let size : length heights ≡ length numbers = grind (arith, common_steps) in
    let are : AreHeights c.args.edges.now numbers heights = grind (arith, common_steps) in
    rw next (IsPartial-next c.args.count c.args.edges.now numbers heights c.passes.invariant size are)
