-- The host that the arguments of a run describe, and the records of the hosts on the operating system.
use Rattle.std.specs.Prelude.{List, [], Option, Some, None, ℕ}
use Rattle.host_calls.specs.Held.{HeldChildren}
use Rattle.host_calls.specs.Settings.{HostSettings}
use Rattle.host_files.specs.Channels.{ChannelCall}
use Rattle.host_system.specs.Asking.{AreSystemCallsFor}
use Rattle.host_system.specs.Hearing.{AreBytesOfChannel}
use Rattle.host_system.specs.Hosts.{HostState}
use Rattle.host_system.specs.Systems.{SystemCall}
use Rattle.initd_command.specs.Words.{HostCall, RunArguments}

-- The state of a new host for the arguments of a run. The arguments determine its inittab, logs, groups and longest
-- delay, and whether it is strict, reports on children, and skips earlier requests. None of its calls has failed, and
-- it has read nothing from its channel, started nothing, and holds no child. The arguments do not determine which calls
-- it has made to the system.
abbrev pub host_with : List SystemCall → RunArguments → HostState
host_with asked service = record {
  faults = 0;
  strict = service.strict;
  verbose = service.verbose;
  inittab = service.inittab;
  logs = service.logs;
  groups = service.groups;
  delays = record { longest = service.respawn_delay; time = 0; starts = [] };
  channel = record { fresh = service.fresh; told = []; rest = [] };
  held = [];
  calls = [];
  asked = asked;
}

-- The calls made to a host, the calls that the host made to the system, and the answers of its channel's file, each
-- newest first.
pub record HostsState : Type 0 where
  pub calls : List HostCall
  pub asked : List SystemCall
  pub heard : List ChannelCall

-- for some settings, the calls made to the system are exactly those that a host with these settings makes for the calls
-- that it receives
abbrev pub IsAsked : List HostCall → List SystemCall → Type 0
IsAsked calls asked = (settings : HostSettings) × (held : HeldChildren) × AreSystemCallsFor settings calls held asked

-- The settings are known, and the calls are possible for a host with these settings that held no child before them.
-- The system calls are exactly those for these calls, in their order, after helpers that were run before the first
-- call. The bytes that the calls returned are those read from the channel's file, each once and in order, except the
-- rest of the last request; and each request was read whole, from the end of the one before it, unless reading began,
-- or the channel was replaced or truncated, in between.
abbrev pub IsOfSystem : HostsState → Option HostSettings → Type 0
IsOfSystem hosts None = ⊥
IsOfSystem hosts (Some settings) =
    ((held : HeldChildren) × AreSystemCallsFor settings hosts.calls held hosts.asked)
    × ((rest : List ℕ)
    × AreBytesOfChannel hosts.calls (record { fresh = settings.fresh; told = hosts.heard; rest = rest }))
