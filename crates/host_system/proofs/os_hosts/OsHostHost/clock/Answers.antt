use Rattle.std.proofs.Common.{refl, sym, ◌∙◌, ap, subst, option_map, string_bytes}
use Rattle.host_calls.specs.declared.calls.Call.TheVariants.{Clock}
use Rattle.host_files.specs.Channels.{HandedBytes}
use Rattle.host_system.specs.Delays.{AreDelaysAfter, delay_state}
use Rattle.host_system.specs.Hearing.{bytes_taken}
use Rattle.host_system.proofs.Calls.{IsHost, settings_by, with_call}
use Rattle.host_system.proofs.os_hosts.OsHostHost.clock.Goals as goal

pub invariant_of-self : goal.invariant_of-self
invariant_of-self g c =
    let host = c.host.inside in
    let were = subst IsHost (sym (c.host.view_is ∙ c.deref_mut-host.ensures.value)) c.self.invariant in
    let settings = settings_by host.inittab.value (option_map (λ (path : _). string_bytes path) host.logs.folder)
    host.logs.groups host.channel.value.fresh in (
      with_call _ _ _ _ _ _ _ (Clock c.seconds_of-reading.result) c.and_call.result.value
          (ap settings c.note_time.ensures.longest) c.and_call.ensures were.0 refl
          (_, c.clock-time.ensures, c.seconds_of-reading.ensures),
      subst (λ calls. HandedBytes host.channel.value (bytes_taken calls)) (sym c.and_call.ensures) were.1,
      subst (λ calls. AreDelaysAfter (delay_state c.note_time.new.self) calls) (sym c.and_call.ensures)
          (c.note_time.ensures.noted host.told.value were.2),
    )
