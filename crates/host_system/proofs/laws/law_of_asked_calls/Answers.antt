use Rattle.std.proofs.Common.{List, [], ◌∷◌}
use Rattle.host_calls.specs.Calls.{HostCall}
use Rattle.host_calls.specs.Held.{CallsLeaveHeld, HeldChildren}
use Rattle.host_calls.specs.Settings.{HostSettings}
use Rattle.host_system.specs.Asking.{AreSystemCallsFor}
use Rattle.host_system.specs.Systems.{SystemCall}
use Rattle.host_system.proofs.laws.law_of_asked_calls.Goals as goal

are_own : (settings : HostSettings) (calls : List HostCall) (held : HeldChildren) (asked : List SystemCall)
    → AreSystemCallsFor settings calls held asked → CallsLeaveHeld calls held
are_own settings [] held asked (none, helped) = none
are_own settings (call ∷ calls) held asked (before, between, were, kept, asks) =
    (before, are_own settings calls before between were, kept)

pub returns : goal.returns
returns c = are_own
