use Rattle.std.proofs.Common.{◌≡◌, refl, sym, subst, false, List, [], None}
use Rattle.host_calls.specs.Calls.{HostCall}
use Rattle.host_system.specs.Systems.{SystemCall}
use Rattle.initd_command.specs.Hosts.{IsAsked}
use Rattle.initd_command.proofs.os_hosts.OsHosts.new.Goals as goal

-- for no call nothing was asked
none_asked : (calls : List HostCall) (asked : List SystemCall) → calls ≡ [] → asked ≡ [] → IsAsked calls asked
none_asked calls asked none same = subst (λ cs. IsAsked cs asked) (sym none)
    (subst (IsAsked []) (sym same)
    (record { inittab = []; logs = None; groups = false; respawn_delay = None; fresh = false }, [], (refl, ([], refl))))

pub invariant_of-result : goal.invariant_of-result
invariant_of-result g c = (
  (λ opened. c.no_calls.ensures),
  none_asked c.no_calls.result.value c.nothing_asked.result.value c.no_calls.ensures c.nothing_asked.ensures,
)
