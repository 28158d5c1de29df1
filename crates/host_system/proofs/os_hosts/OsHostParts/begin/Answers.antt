use Rattle.std.proofs.Common.{ap}
use Rattle.host_system.specs.Hosts.{HostState}
use Rattle.host_system.proofs.Asking.{more_helpers}
use Rattle.host_system.proofs.os_hosts.OsHostParts.begin.Goals as goal

pub returns-then-options-clause-asked : goal.returns-then-options-clause-asked
returns-then-options-clause-asked g c = more_helpers _ _ _ _
    (ap (λ (host : HostState). host.asked) c.self.view_is) c.make_bell.ensures c.tell_unsendable.ensures

pub returns-else-options-clause-asked : goal.returns-else-options-clause-asked
returns-else-options-clause-asked g c = more_helpers _ _ _ _
    (ap (λ (host : HostState). host.asked) c.self.view_is) c.make_bell.ensures c.tell_unsendable.ensures
