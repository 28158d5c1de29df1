use Rattle.std.proofs.Common.{rules, ◌≡◌, Err, List, ℕ, subst}
use Rattle.program_io.specs.Writing.{AppendsFront}
use Rattle.trace_text.specs.Lines.{event_text}
use Rattle.init_words.proofs.Tests.{err_is}
use Rattle.trace_log.specs.declared.faults.LogFault.TheVariants as fault
use Rattle.trace_log.proofs.stream_logs.write_happening.Goals as goal

pub returns-in_err-write_text-clause-err : goal.returns-in_err-write_text-clause-err
returns-in_err-write_text-clause-err g c =
    let is : c.from_residual-in_err-write_text.result ≡ Err fault.Device = search rules in
    let same : c.deref.result.now ≡ event_text c.args.happening.now = search rules in
    err_is c.from_residual-in_err-write_text.result fault.Device _ is
    (subst (λ (text : List ℕ). AppendsFront (g.W.Write.contents c.args.out.now)
    (g.W.Write.contents c.write_text.new.out) text) same c.in_err-write_text.ensures.err)
