use Rattle.trace_verdict.proofs.Words.{rules, ◌≡◌, ◌+◌, ◌≤◌, ℕ, List, ◌++◌, drop, length, ap, arith, newlines}
use Rattle.trace_verdict.proofs.Words.{newlines-append, newlines-few}
use Rattle.std.proofs.lemmas.Grind.{common_steps}
use Rattle.trace_verdict.proofs.Fronts.{due_more}
use Rattle.trace_verdict.proofs.readers.TextReader.feed.Goals as goal

pub overflow_add-self : goal.overflow_add-self
overflow_add-self g c =
    let over : List ℕ = drop c.self.inside.at c.self.inside.bytes.items in
    let now : c.move_on.new.bytes.items ≡ over ++ c.args.piece.now = search rules in
    let sum : c.self.inside.whole + c.newlines.result ≡ newlines c.move_on.new.bytes.items =
    omega
    (arith, ap newlines now, newlines-append over c.args.piece.now, c.self.invariant.1, c.newlines.ensures.value) in
    let few : newlines c.move_on.new.bytes.items ≤ length c.move_on.new.bytes.items =
    newlines-few c.move_on.new.bytes.items in
    grind (arith, common_steps)

pub invariant_of-self-2 : goal.invariant_of-self-2
invariant_of-self-2 g c =
    let over : List ℕ = drop c.self.inside.at c.self.inside.bytes.items in
    let now : c.move_on.new.bytes.items ≡ over ++ c.args.piece.now = search rules in
    rw now (
      omega arith,
      omega (arith, newlines-append over c.args.piece.now, c.self.invariant.1, c.newlines.ensures.value),
      omega (arith, due_more over c.args.piece.now, c.self.invariant.2),
    )
