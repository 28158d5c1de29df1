use Rattle.rc_numbers.proofs.Words.{◌≡◌, ◌++◌, ◌∷◌, ◌∙◌, [], ℕ, List, arith, length, subst, sym, common_steps, AllBelow}
use Rattle.rc_numbers.proofs.Words.{IsClosedWalk}
use Rattle.rc_numbers.proofs.CycleLemmas.{AllBelow-append, AllBelow-one, Trail, Trail-push}
use Rattle.rc_numbers.proofs.StepLemmas.{first_kept, path_closed}
use Rattle.rc_numbers.proofs.cycles.ring_along.Goals as goal

pub returns-then-need-position-clause-ring : goal.returns-then-need-position-clause-ring
returns-then-need-position-clause-ring g c = λ edges are.
    let path = c.steps.ring.items in
    let at = c.steps.at in
    let next = c.in-Some.need in
    let pushed : c.push.new.self.items ≡ path ++ at ∷ [] = grind (arith, common_steps) in
    let P : List ℕ → Type 0 = λ xs. IsClosedWalk edges xs in
    subst P (sym pushed) (path_closed edges path at next c.args.position (c.steps.invariant.trail edges are)
    (are at next c.in-Some.is) c.steps.invariant.first c.if-need-position.true)

pub steps-preserved : goal.steps-preserved
steps-preserved g c =
    let count = length c.args.steps.now in
    let path = c.steps.ring.items in
    let at = c.steps.at in
    let next = c.in-Some.need in
    let pushed : c.push.new.self.items ≡ path ++ at ∷ [] = grind (arith, common_steps) in
    let P : List ℕ → Type 0 = λ xs. AllBelow count xs in
    record {
      at = c.requires.range at next c.in-Some.is;
      below = subst P (sym pushed)
          (AllBelow-append count path (at ∷ []) c.steps.invariant.below (AllBelow-one count at c.steps.invariant.at));
      trail = λ edges are. (let Q : List ℕ → Type 0 = λ xs. Trail edges xs next in
          subst Q (sym pushed)
          (Trail-push edges path at next (c.steps.invariant.trail edges are) (are at next c.in-Some.is)));
      first = rw pushed (first_kept path at next ∙ c.steps.invariant.first);
    }
