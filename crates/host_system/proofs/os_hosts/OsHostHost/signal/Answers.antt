use Rattle.std.proofs.Common.{sym, ◌∙◌, ap, subst, option_map, string_bytes}
use Rattle.host_calls.specs.declared.calls.Call.TheVariants.{Signal}
use Rattle.host_calls.specs.declared.calls.Reply.TheVariants.{Now}
use Rattle.host_files.specs.Channels.{HandedBytes}
use Rattle.host_system.specs.Asking.{AreSystemCallsFor}
use Rattle.host_system.specs.Delays.{AreDelaysAfter, delay_state}
use Rattle.host_system.specs.Hearing.{bytes_taken}
use Rattle.host_system.proofs.Calls.{IsHost, settings_by, with_call}
use Rattle.host_system.proofs.os_hosts.OsHostHost.signal.Goals as goal

pub invariant_of-self : goal.invariant_of-self
invariant_of-self g c =
    let host = c.host.inside in
    let were = subst IsHost (sym (c.host.view_is ∙ c.deref_mut-host.ensures.value)) c.self.invariant in
    let settings = settings_by host.inittab.value (option_map (λ (path : _). string_bytes path) host.logs.folder)
    host.logs.groups host.channel.value.fresh in (
      with_call _ _ _ _ _ _ _ (Signal c.args.id c.args.signal (Now c.signal-answer.result)) c.and_call.result.value
          (ap settings c.note_signal-2.ensures.longest) c.and_call.ensures
          (subst (λ held. AreSystemCallsFor (settings host.delays.longest) host.told.value held
          (g.S.System.told host.system)) (sym c.deref_mut.ensures.value) were.0)
          c.signal-answer.ensures.held
          c.signal-answer.ensures.asked,
      subst (λ calls. HandedBytes host.channel.value (bytes_taken calls)) (sym c.and_call.ensures) were.1,
      subst (λ calls. AreDelaysAfter (delay_state c.note_signal-2.new.self) calls) (sym c.and_call.ensures)
          (c.note_signal-2.ensures.noted host.told.value c.args.signal (Now c.signal-answer.result) were.2),
    )
