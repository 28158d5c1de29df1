use Rattle.std.proofs.Common.{sym, ◌∙◌, subst, option_map, string_bytes}
use Rattle.host_calls.specs.declared.calls.Call.TheVariants.{Start}
use Rattle.host_calls.specs.declared.calls.Reply.TheVariants.{Now}
use Rattle.host_files.specs.Channels.{HandedBytes}
use Rattle.host_system.specs.Asking.{AreSystemCallsFor}
use Rattle.host_system.specs.Delays.{AreDelaysAfter, delay_state}
use Rattle.host_system.specs.Hearing.{bytes_taken}
use Rattle.host_system.proofs.Calls.{IsHost, IsHostAfter, settings_by, started}
use Rattle.host_system.proofs.os_hosts.OsHostHost.start.Goals as goal

pub invariant_of-self : goal.invariant_of-self
invariant_of-self g c =
    let host = c.host.inside in
    let old = c.deref_mut-host.result.now in
    let order = c.order_start.ensures in
    let were = subst IsHost (sym c.deref_mut-host.ensures.value) c.self.invariant in
    let now = subst (IsHostAfter (Start c.args.id c.args.command.now (Now c.order_start.result)))
    (sym (c.host.view_is ∙ order.same)) (started old c.order_start.new.self c.args.id c.args.command.now
    c.order_start.result were order.longest order.held (order.asked old.calls were.2)
    (order.noted old.calls were.2)) in
    let settings = settings_by host.inittab.value (option_map (λ (path : _). string_bytes path) host.logs.folder)
    host.logs.groups host.channel.value.fresh host.delays.longest in (
      subst (λ calls. AreSystemCallsFor settings calls host.children.value (g.S.System.told host.system))
          (sym c.and_call.ensures) now.0,
      subst (λ calls. HandedBytes host.channel.value (bytes_taken calls)) (sym c.and_call.ensures) now.1,
      subst (λ calls. AreDelaysAfter (delay_state host.delays) calls) (sym c.and_call.ensures) now.2,
    )
