use Rattle.std.proofs.Common.{sym, ◌∙◌, ap, subst}
use Rattle.host_system.specs.Asking.{StartRequests}
use Rattle.host_system.specs.Delays.{AreDelaysAfter, DelayState, start_delay}
use Rattle.host_system.specs.Hosts.{HostState}
use Rattle.host_system.specs.Systems.{start_answer}
use Rattle.host_system.proofs.Asking.{unstarted}
use Rattle.host_system.proofs.os_hosts.OsHostParts.start_child.Goals as goal

pub returns-in_err-reserve-clause-asked : goal.returns-in_err-reserve-clause-asked
returns-in_err-reserve-clause-asked g c =
    let host = c.args.self.now in
    subst (λ asked. StartRequests host.logs host.groups c.args.delay c.args.id c.args.text.now
    (start_answer c.from_residual.result) asked (g.S.System.told c.self.inside.system))
    (ap (λ (host : HostState). host.asked) c.self.view_is)
    (unstarted host.logs host.groups c.args.delay c.args.id c.args.text.now c.from_residual.result _
    c.from_residual.ensures.0)

pub returns-clause-noted : goal.returns-clause-noted
returns-clause-noted g c calls are is =
    let same = c.reserve.ensures.same ∙ ap (λ (host : HostState). host.delays) c.self.view_is in
    c.note_start.ensures.noted calls c.args.text.now c.in_ok-number.number
    (subst (λ delays. AreDelaysAfter delays calls) (sym same) are)
    (is ∙ ap (λ (delays : DelayState). start_delay delays.longest c.args.id calls) (sym same))
