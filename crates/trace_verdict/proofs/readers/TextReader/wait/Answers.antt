use Rattle.trace_verdict.proofs.Words.{rules, ◌≡◌, ◌<◌, ◌∙◌, ℕ, List, true, drop, length, sym, ap, subst, arith}
use Rattle.trace_verdict.proofs.Words.{length-drop, newlines, is_unfinished, size_limit, Reading}
use Rattle.trace_verdict.proofs.Fronts.{long_never}
use Rattle.trace_verdict.proofs.readers.TextReader.wait.Goals as goal

pub returns-clause-none : goal.returns-clause-none
returns-clause-none g c =
    let over : List ℕ = drop c.self.inside.at c.self.inside.bytes.items in
    let some : is_unfinished over ≡ true =
    subst (λ (r : Reading). is_unfinished r.over ≡ true) (sym c.self.view_is) c.requires in
    let limit : c.size_limit.result ≡ size_limit (newlines over) =
    c.size_limit.ensures ∙ ap size_limit c.self.invariant.1 in
    let size : c.len.result ≡ length c.self.inside.bytes.items = search rules in
    let long : size_limit (newlines over) < length over =
    omega (arith, limit, size, c.if-len-self.false, length-drop c.self.inside.at c.self.inside.bytes.items) in
    rw (← c.self.view_is) (search rules, long_never over some long)
