-- The calls of a host after one more, whose settings are stated anew.
use Rattle.std.proofs.Common.{◌≡◌, refl, sym, ap, subst, ℕ, Bool, List, ◌∷◌, Option}
use Rattle.init_words.specs.declared.orders.Answer.{Answer}
use Rattle.host_calls.specs.declared.calls.Call.TheVariants.{Start}
use Rattle.host_calls.specs.declared.calls.Reply.TheVariants.{Now}
use Rattle.host_calls.specs.Calls.{HostCall}
use Rattle.host_calls.specs.Held.{CallChangesHeld, HeldChildren, StartChangesHeld}
use Rattle.host_calls.specs.Settings.{HostSettings}
use Rattle.host_files.specs.Channels.{HandedBytes}
use Rattle.host_system.specs.Asking.{AreSystemCallsFor, StartRequests, SystemCallsForCall}
use Rattle.host_system.specs.Delays.{AreDelaysAfter, start_delay}
use Rattle.host_system.specs.Hearing.{bytes_taken}
use Rattle.host_system.specs.Hosts.{HostState, settings_of}
use Rattle.host_system.specs.Systems.{SystemCall}

-- what is known of a host between two calls
abbrev pub IsHost : HostState → Type 0
IsHost host = AreSystemCallsFor (settings_of host) host.calls host.held host.asked
    × HandedBytes host.channel (bytes_taken host.calls) × AreDelaysAfter host.delays host.calls

abbrev pub settings_by : List ℕ → Option (List ℕ) → Bool → Bool → Option ℕ → HostSettings
settings_by inittab logs groups fresh longest =
    record { inittab = inittab; logs = logs; groups = groups; respawn_delay = longest; fresh = fresh }

-- the calls with one more are those of a host with the same settings
pub with_call : (settings now : HostSettings) (before : List HostCall) (held holds : HeldChildren)
    (asked asks : List SystemCall) (call : HostCall) (calls : List HostCall)
    → now ≡ settings → calls ≡ call ∷ before → AreSystemCallsFor settings before held asked
    → CallChangesHeld call held holds → SystemCallsForCall settings call before held asked asks
    → AreSystemCallsFor now calls holds asks
with_call settings now before held holds asked asks call calls same is were changed asking =
    subst (λ settings. AreSystemCallsFor settings calls holds asks) (sym same)
    (subst (λ calls. AreSystemCallsFor settings calls holds asks) (sym is) (held, asked, were, changed, asking))

-- this will be known of the host once the call is recorded
abbrev pub IsHostAfter : HostCall → HostState → Type 0
IsHostAfter call host = IsHost (record host { calls = call ∷ host.calls })

-- a start that was answered
pub started : (old new : HostState) (id text : List ℕ) (answer : Answer) → IsHost old
    → new.delays.longest ≡ old.delays.longest → StartChangesHeld old.held new.held id (Now answer)
    → StartRequests old.logs old.groups (start_delay old.delays.longest id old.calls) id text answer old.asked new.asked
    → AreDelaysAfter new.delays (Start id text (Now answer) ∷ old.calls)
    → IsHostAfter (Start id text (Now answer))
    (record old { delays = new.delays; held = new.held; asked = new.asked })
started old new id text answer were same changed asking after = (
  with_call (settings_of old) (settings_by old.inittab old.logs old.groups old.channel.fresh new.delays.longest)
      old.calls old.held new.held old.asked new.asked (Start id text (Now answer)) _
      (ap (settings_by old.inittab old.logs old.groups old.channel.fresh) same) refl were.0 changed asking,
  were.1,
  after,
)
