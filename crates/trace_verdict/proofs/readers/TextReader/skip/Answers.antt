use Rattle.trace_verdict.proofs.Words.{◌≡◌, ◌+◌, ◌≤◌, ℕ, List, ◌++◌, Some, true, drop, length, sym, subst, arith}
use Rattle.trace_verdict.proofs.Words.{drop-drop, length-drop, event_text, is_in_range, IsNext}
use Rattle.trace_verdict.proofs.Fronts.{due_some, lines_off}
use Rattle.trace_verdict.proofs.readers.TextReader.skip.Goals as goal

pub overflow_sub-self : goal.overflow_sub-self
overflow_sub-self g c =
    let over : List ℕ = drop c.self.inside.at c.self.inside.bytes.items in
    let next : (is_in_range c.args.happening.now ≡ true)
    × (event_text c.args.happening.now ++ drop c.args.size over ≡ over) × (c.args.size ≤ length over) =
    subst (λ r. IsNext r (Some (c.args.happening.now, c.args.size))) (sym c.self.view_is) c.requires in
    omega (
      arith,
      c.line_count-lines.ensures,
      c.self.invariant.1,
      lines_off over (drop c.args.size over) c.args.happening.now next.0 next.1,
    )

pub invariant_of-self : goal.invariant_of-self
invariant_of-self g c =
    let over : List ℕ = drop c.self.inside.at c.self.inside.bytes.items in
    let next : (is_in_range c.args.happening.now ≡ true)
    × (event_text c.args.happening.now ++ drop c.args.size over ≡ over) × (c.args.size ≤ length over) =
    subst (λ r. IsNext r (Some (c.args.happening.now, c.args.size))) (sym c.self.view_is) c.requires in
    let moved : drop (c.self.inside.at + c.args.size) c.self.inside.bytes.items ≡ drop c.args.size over =
    sym (drop-drop c.args.size c.self.inside.at c.self.inside.bytes.items) in
    rw moved (
      omega (arith, next.2, c.self.invariant.0, length-drop c.self.inside.at c.self.inside.bytes.items),
      omega (
        arith,
        c.line_count-lines.ensures,
        c.self.invariant.1,
        lines_off over (drop c.args.size over) c.args.happening.now next.0 next.1,
      ),
      due_some (drop c.args.size over),
    )
