use Rattle.simulator.proofs.Words.{rules, ◌≡◌, event_text, err_is}
use Rattle.std.proofs.Common.{Err}
use Rattle.simulator.specs.declared.running.SimFault.TheVariants as fault
use Rattle.simulator.proofs.Hearing.{moment_heard}
use Rattle.simulator.proofs.Moves.{memory_after}
use Rattle.simulator.proofs.running.hear.Goals as goal

pub returns-clause-ok : goal.returns-clause-ok
returns-clause-ok g c goal past moment may =
    moment_heard goal past c.args.happening.now c.args.core.now c.pass_on.new.core c.args.side.now c.take.new.self
    moment may (c.in_ok-pass_on.ensures.fits goal past moment may) (c.in_ok-pass_on.ensures.lasts goal past moment may)
    (λ sound follows. c.in_ok-take.ensures.ok goal past sound follows)

-- the happening was written, but not taken by the simulated system
pub returns-in_err-take-clause-err : goal.returns-in_err-take-clause-err
returns-in_err-take-clause-err g c =
    let is : c.from_residual-in_err-take.result ≡ Err fault.Memory = search rules in
    err_is c.from_residual-in_err-take.result fault.Memory _ is
    (memory_after (g.W.Write.contents c.args.out.now) (g.W.Write.contents c.write_happening.new.out)
    (event_text c.args.happening.now) c.in_ok-write_happening.ensures.ok)
