use Rattle.simulator.proofs.Words.{rules, ◌≡◌, NewTable, event_text, err_is}
use Rattle.std.proofs.Common.{Err}
use Rattle.simulator.specs.declared.running.SimFault.TheVariants as fault
use Rattle.simulator.proofs.Moves.{memory_before}
use Rattle.simulator.proofs.running.write_table.Goals as goal

pub returns-in_err-text-clause-err : goal.returns-in_err-text-clause-err
returns-in_err-text-clause-err g c =
    let is : c.from_residual.result ≡ Err fault.Memory = search rules in
    err_is c.from_residual.result fault.Memory _ is
    (memory_before (g.W.Write.contents c.args.out.now) (event_text (NewTable c.args.table.now)))
