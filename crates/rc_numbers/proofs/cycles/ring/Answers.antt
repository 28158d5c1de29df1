use Rattle.rc_numbers.proofs.Words.{◌≡◌, ◌<◌, ◌+◌, ◌-◌, ◌++◌, ◌∷◌, [], arith, length, subst, List, ℕ, sym, get_or}
use Rattle.rc_numbers.proofs.Words.{replicate, set, common_steps, IfOk-weaker, AllBelow, IsClosedWalk, need_from}
use Rattle.rc_numbers.proofs.PassLemmas.{Needs-range, zeros-set}
use Rattle.rc_numbers.proofs.CycleLemmas.{AllBelow-append, AllBelow-one, Marked, Marked-push, Marked-start, Trail}
use Rattle.rc_numbers.proofs.CycleLemmas.{Trail-push, Trail-ring, marked_at, need-good}
use Rattle.rc_numbers.proofs.cycles.ring.Goals as goal

pub steps-init : goal.steps-init
steps-init g c =
    let marks : c.in_ok-marks.marks.items ≡ replicate (length c.args.numbers.now) 0 = grind (arith, common_steps) in
    let none : c.new-path.result.items ≡ [] = c.new-path.ensures.items in
    let P : List ℕ → Type 0 = λ xs. Marked xs [] in
    let Q : List ℕ → Type 0 = λ xs. (AllBelow (length c.args.numbers.now) xs) × (Trail c.args.edges.now xs c.args.first)
    × (Marked c.in_ok-marks.marks.items xs) in
    let start = subst Q (sym none)
    ((λ k within. absurd (omega arith)), tt, subst P (sym marks) (Marked-start (length c.args.numbers.now))) in
    record {
      size = grind (arith, common_steps);
      at = c.requires.first;
      none = c.requires.none;
      below = start.0;
      trail = start.1;
      marked = start.2;
    }

pub steps-smaller : goal.steps-smaller
steps-smaller g c =
    let flat : get_or c.steps.marks.items c.steps.at 0 ≡ 0 = grind (arith, common_steps) in
    let some : 0 < c.len.result = grind (arith, common_steps) in
    let less = zeros-set c.steps.marks.items c.steps.at c.len.result
    (omega (arith, c.steps.invariant.size, c.steps.invariant.at)) flat some in
    omega (arith, less)

pub steps-preserved : goal.steps-preserved
steps-preserved g c =
    let edges = c.args.edges.now in
    let numbers = c.args.numbers.now in
    let at = c.steps.at in
    let path = c.steps.path.items in
    let good =
    need-good (length numbers) edges numbers at c.requires.stuck c.steps.invariant.at c.steps.invariant.none in
    let next : c.index-at.result.now ≡ need_from numbers at 0 edges = grind (arith, common_steps) in
    let pushed : c.push.new.self.items ≡ path ++ at ∷ [] = grind (arith, common_steps) in
    let counted : c.len.result ≡ length path + 1 = grind (arith, common_steps) in
    let low = Needs-range (length numbers) edges at (need_from numbers at 0 edges) c.requires.range good.0 in
    let here : at < length c.steps.marks.items = omega (arith, c.steps.invariant.size, c.steps.invariant.at) in
    record {
      size = grind (arith, common_steps, c.steps.invariant.size);
      at = rw next low.1;
      none = rw next good.1;
      below = let P : List ℕ → Type 0 = λ xs. AllBelow (length numbers) xs in
          subst P (sym pushed) (AllBelow-append (length numbers) path (at ∷ []) c.steps.invariant.below
          (AllBelow-one (length numbers) at c.steps.invariant.at));
      trail =
          rw (pushed, next) (Trail-push edges path at (need_from numbers at 0 edges) c.steps.invariant.trail good.0);
      marked = let P : List ℕ → Type 0 = λ xs. Marked (set c.steps.marks.items at c.len.result) xs in
          subst P (sym pushed)
          (Marked-push c.steps.marks.items path at c.len.result here counted c.steps.invariant.marked);
    }

pub suffix-requires : goal.suffix-requires
suffix-requires g c =
    let at_n : get_or c.steps.marks.items c.steps.at 0 ≡ c.index-2.result.now = grind (arith, common_steps) in
    let some : 0 < c.index-2.result.now = grind (arith, common_steps) in
    let found = marked_at c.steps.marks.items c.steps.path.items c.steps.at c.index-2.result.now
    c.steps.invariant.marked at_n some in
    rw c.as_slice.ensures.value (omega (arith, found.0))

pub returns-clause-ring : goal.returns-clause-ring
returns-clause-ring g c =
    let at_n : get_or c.steps.marks.items c.steps.at 0 ≡ c.index-2.result.now = grind (arith, common_steps) in
    let some : 0 < c.index-2.result.now = grind (arith, common_steps) in
    let found = marked_at c.steps.marks.items c.steps.path.items c.steps.at c.index-2.result.now
    c.steps.invariant.marked at_n some in
    let P : List ℕ → Type 0 = λ xs. IsClosedWalk c.args.edges.now xs in
    let ring = rw (← c.as_slice.ensures.value) at (Trail-ring c.args.edges.now c.steps.path.items c.steps.at
    (c.index-2.result.now - 1) c.steps.invariant.trail found.0 found.1) in
    IfOk-weaker c.suffix.result _ _ (λ t e. subst P (sym e) ring) c.suffix.ensures
