use Rattle.simulator.proofs.Words.{rules, ◌≡◌, List, ℕ, subst, event_text, err_is}
use Rattle.std.proofs.Common.{Err}
use Rattle.program_io.specs.Writing.{AppendsFront}
use Rattle.simulator.specs.declared.running.SimFault.TheVariants as fault
use Rattle.simulator.proofs.Moves.{memory_before}
use Rattle.simulator.proofs.running.write_happening.Goals as goal

pub returns-in_err-text-clause-err : goal.returns-in_err-text-clause-err
returns-in_err-text-clause-err g c =
    let is : c.from_residual.result ≡ Err fault.Memory = search rules in
    err_is c.from_residual.result fault.Memory _ is
    (memory_before (g.W.Write.contents c.args.out.now) (event_text c.args.happening.now))

pub returns-in_err-put-clause-err : goal.returns-in_err-put-clause-err
returns-in_err-put-clause-err g c =
    let is : c.from_residual-in_err-put.result ≡ Err fault.Write = search rules in
    let same : c.deref.result.now ≡ event_text c.args.happening.now = search rules in
    err_is c.from_residual-in_err-put.result fault.Write _ is
    (subst (λ (text : List ℕ). AppendsFront (g.W.Write.contents c.args.out.now) (g.W.Write.contents c.put.new.out) text)
    same c.in_err-put.ensures.err)
