use Rattle.trace_verdict.proofs.Words.{rules, ◌≡◌, ◌≤◌, ℕ, List, drop, arith, BeginsNone, lines_due}
use Rattle.trace_verdict.proofs.Fronts.{finished_by, finished_never}
use Rattle.trace_verdict.proofs.readers.TextReader.peek.Goals as goal

pub returns-clause-none : goal.returns-clause-none
returns-clause-none g c =
    let over : List ℕ = drop c.self.inside.at c.self.inside.bytes.items in
    let none : BeginsNone over = search rules in
    let due : c.lines_due-self-inside.result ≡ lines_due over = search rules in
    let whole : c.lines_due-self-inside.result ≤ c.self.inside.whole = c.if-self-2.false in
    rw (← c.self.view_is)
    (search rules, finished_never over (finished_by over (omega (arith, due, whole, c.self.invariant.1))) none)
