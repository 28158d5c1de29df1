use Rattle.std.proofs.Common.{refl, sym, ◌∙◌, ap, subst, option_map, string_bytes}
use Rattle.host_calls.specs.declared.calls.Call.TheVariants.{Announce}
use Rattle.host_files.specs.Channels.{HandedBytes}
use Rattle.host_system.specs.Delays.{AreDelaysAfter, delay_state}
use Rattle.host_system.specs.Hearing.{bytes_taken}
use Rattle.host_system.proofs.Calls.{IsHost, settings_by, with_call}
use Rattle.host_system.proofs.os_hosts.OsHostHost.announce.Goals as goal

pub invariant_of-self : goal.invariant_of-self
invariant_of-self g c =
    let host = c.host.inside in
    let were = subst IsHost (sym (c.host.view_is ∙ c.deref_mut-host.ensures.value)) c.self.invariant in
    let settings = settings_by host.inittab.value (option_map (λ (path : _). string_bytes path) host.logs.folder)
    host.logs.groups host.channel.value.fresh in
    subst IsHost (sym c.tell_after.ensures) (
      with_call _ _ _ _ _ _ _ (Announce c.args.happening.now) c.and_call.result.value
          (ap settings c.note_announced.ensures.longest) c.and_call.ensures were.0 refl refl,
      subst (λ calls. HandedBytes host.channel.value (bytes_taken calls)) (sym c.and_call.ensures) were.1,
      subst (λ calls. AreDelaysAfter (delay_state c.note_announced.new.self) calls) (sym c.and_call.ensures)
          (c.note_announced.ensures.noted host.told.value were.2),
    )
