-- The contents of the trace files after a run was killed.
use Rattle.std.specs.Prelude.{◌≡◌, ℕ, List, reverse}
use Rattle.trace_events.specs.declared.steps.Goal.{Goal}
use Rattle.trace_events.specs.Event.{Event}
use Rattle.trace_text.specs.Lines.{trace_text}
use Rattle.host_calls.specs.Calls.{HostCall}
use Rattle.supervisor.specs.Crashes.{LeftByCrashInFile}

-- The bytes are the text of a trace (here newest happening first) that agrees with the state after the kill: the trace
-- is sound and lawful, and has each remaining child, except one that was being started.
pub record LeavesFiles (call : HostCall) (goal : Goal) (bytes : List ℕ) (world : List Event) : Type 0 where
  pub trace : List Event
  pub text : trace_text (reverse trace) ≡ bytes
  pub left : LeftByCrashInFile call goal trace world
