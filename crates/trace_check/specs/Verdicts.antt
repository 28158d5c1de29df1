-- The breach that a verdict reports.
use Rattle.std.specs.Prelude.{Option, Some, None}
use Rattle.trace_events.specs.Lawful.{Fault}
use Rattle.trace_check.specs.Faults.{fault_at}
use Rattle.trace_check.specs.declared.pass.Verdict.{Verdict}
use Rattle.trace_check.specs.declared.pass.Verdict.TheVariants.{Lawful, Breach}

-- the breach that the verdict reports; none if the trace is lawful
abbrev pub fault_of : Verdict → Option Fault
fault_of Lawful = None
fault_of (Breach position law) = Some (fault_at position law)
