-- The calls of a system until some moment are those for calls of a host until then.
use Rattle.std.proofs.Common.{◌≡◌, refl, sym, ap, subst, ◌⊎◌, inl, inr, ℕ, List, [], ◌∷◌, ◌++◌, map}
use Rattle.std.proofs.Common.{Option, Some, None, drop}
use Rattle.init_words.specs.declared.orders.Answer.{Answer}
use Rattle.init_words.specs.declared.orders.Answer.TheVariants as answer
use Rattle.host_calls.specs.declared.calls.Call.TheVariants.{Start, Look, Signal, Late, Clock, TakeBytes, ReadTables}
use Rattle.host_calls.specs.declared.calls.Call.TheVariants.{Carry, Announce, Pause}
use Rattle.host_calls.specs.declared.calls.Reply.TheVariants.{Now, Later}
use Rattle.host_calls.specs.Calls.{HostCall}
use Rattle.host_calls.specs.Held.{HeldChildren}
use Rattle.host_calls.specs.Settings.{HostSettings}
use Rattle.host_system.specs.Asking.{AreSystemCallsFor, SendRequest, SpawnRequests, WaitRequest, SystemCallsForCall}
use Rattle.host_system.specs.Asking.{number_of}
use Rattle.host_system.specs.Systems.{SystemCall, sent}
use Rattle.host_system.specs.Systems.SystemCall.{read_clock, read_file, run, spawn, try_wait}

-- a call of a host asks the system once, or not at all
abbrev AtMostOne : List SystemCall → List SystemCall → Type 0
AtMostOne old new = (new ≡ old) ⊎ (asked : SystemCall) × (new ≡ asked ∷ old)

unborn : (words : List (List ℕ)) (old new : List SystemCall) → (new ≡ old) ⊎ (new ≡ spawn words None ∷ old)
    → AtMostOne old new
unborn words old new (inl is) = inl is
unborn words old new (inr is) = inr (spawn words None, is)

one_spawn : (words : List (List ℕ)) (given : Answer) (old new : List SystemCall) → SpawnRequests words given old new
    → AtMostOne old new
one_spawn words (answer.Born n) old new is = inr (spawn words (Some n), is)
one_spawn words answer.NotBorn old new is = unborn words old new is
one_spawn words (answer.Ended status) old new is = unborn words old new is
one_spawn words answer.Alive old new is = unborn words old new is
one_spawn words answer.NoLook old new is = unborn words old new is
one_spawn words answer.Hit old new is = unborn words old new is
one_spawn words answer.Miss old new is = unborn words old new is

at_most_one : (settings : HostSettings) (call : HostCall) (done : List HostCall) (held : HeldChildren)
    (old new : List SystemCall)
    → SystemCallsForCall settings call done held old new → AtMostOne old new
at_most_one settings (Start id command (Now given)) done held old new (words, way, asks) =
    one_spawn words given old new asks
at_most_one settings (Start id command Later) done held old new asks = absurd asks
at_most_one settings (Look id (Now given)) done held old new (outcome, asks, is) = by (number_of id held) asks
  where
    by : (c : Option ℕ) → WaitRequest c outcome old new → AtMostOne old new
    by None asked = inl asked.0
    by (Some n) asked = inr (try_wait n outcome, asked)
at_most_one settings (Look id Later) done held old new asks = absurd asks
at_most_one settings (Signal id kind (Now given)) done held old new (reached, asks, is) = by (number_of id held) asks
  where
    by : (c : Option ℕ) → SendRequest settings.groups c kind reached old new → AtMostOne old new
    by None asked = inl asked.0
    by (Some n) asked = inr (sent settings.groups kind n reached, asked)
at_most_one settings (Signal id kind Later) done held old new asks = absurd asks
at_most_one settings (Clock time) done held old new asks = inr (read_clock asks.0, asks.1)
at_most_one settings (ReadTables parts) done held old new asks = inr (read_file settings.inittab asks.0, asks.1)
at_most_one settings (Late late) done held old new is = inl is
at_most_one settings (TakeBytes room taken) done held old new is = inl is
at_most_one settings (Carry text back) done held old new is = inl is
at_most_one settings (Announce happening) done held old new is = inl is
at_most_one settings Pause done held old new is = inl is

helpers_until : (helpers : List (List (List ℕ))) (later earlier : List SystemCall)
    → later ++ earlier ≡ map run helpers ++ [] → (some : List (List (List ℕ))) × (earlier ≡ map run some ++ [])
helpers_until helpers [] earlier is = (helpers, is)
helpers_until [] (call ∷ later) earlier is = absurd (cc)
helpers_until (words ∷ helpers) (call ∷ later) earlier is = helpers_until helpers later earlier (ap (drop 1) is)

pub asked_until : (settings : HostSettings) (calls : List HostCall) (held : HeldChildren)
    (later earlier : List SystemCall) → AreSystemCallsFor settings calls held (later ++ earlier)
    → (before : List HostCall) × (children : HeldChildren) × AreSystemCallsFor settings before children earlier
asked_until settings [] held later earlier (none, (helpers, is)) =
    ([], [], (refl, helpers_until helpers later earlier is))
asked_until settings (call ∷ calls) held [] earlier were = (call ∷ calls, held, were)
asked_until settings (call ∷ calls) held (newest ∷ later) earlier (before, between, were, made, asks) =
    by (at_most_one settings call calls before between ((newest ∷ later) ++ earlier) asks)
    (λ rest first. asked_until settings calls before rest earlier first)
  where
    Earlier : Type 0
    Earlier = (calls : List HostCall) × (children : HeldChildren) × AreSystemCallsFor settings calls children earlier

    by : AtMostOne between ((newest ∷ later) ++ earlier) → ((rest : List SystemCall)
        → AreSystemCallsFor settings calls before (rest ++ earlier) → Earlier) → Earlier
    by (inl is) go = go (newest ∷ later) (subst (AreSystemCallsFor settings calls before) (sym is) were)
    by (inr (asked, is)) go = go later (subst (AreSystemCallsFor settings calls before) (sym (ap (drop 1) is)) were)
