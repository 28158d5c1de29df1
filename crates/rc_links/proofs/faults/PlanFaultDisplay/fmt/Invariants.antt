use Rattle.rc_links.proofs.Words.{take}
use Rattle.std.proofs.Common.{flat_map}
use Rattle.std.specs.Fmt.{HasWritten, IsPlainFormatter}
use Rattle.rc_links.specs.FaultTexts.{with_blank}
use Rattle.rc_links.proofs.faults.PlanFaultDisplay.fmt.Given as goal

-- for a cycle: since the loop began, the names so far were written, each with a blank before it
abbrev pub invariant-loop-name : goal.invariant-loop-name
invariant-loop-name g l =
    IsPlainFormatter l.initial.f
    → HasWritten g.W.Write.write_str_gives l.initial.f (flat_map with_blank (take l.name-index l.name-items)) l.f
