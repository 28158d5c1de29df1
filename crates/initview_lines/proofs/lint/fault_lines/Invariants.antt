use Rattle.initview_lines.proofs.CommonWords.{◌≡◌, ◌++◌, filter, length, map}
use Rattle.std.proofs.Common.{◌||◌, not}
use Rattle.initview_lines.specs.Lint.{IsCursor, fault_line_of, has_nameless, is_nameless}
use Rattle.initview_lines.proofs.lint.fault_lines.Given as goal

-- the messages so far, followed by those about the remaining faults, are the messages about all; likewise for whether
-- there are lines without an id
abbrev pub invariant-loop-fault : goal.invariant-loop-fault
invariant-loop-fault l =
    (l.lines.items ++ map (fault_line_of l.parts) (filter (λ fault. not (is_nameless l.parts fault)) l.rest)
    ≡ map (fault_line_of l.parts) (filter (λ fault. not (is_nameless l.parts fault)) l.faults))
    × ((l.nameless || has_nameless l.parts l.rest) ≡ has_nameless l.parts l.faults)
    × IsCursor l.parts l.cursor

abbrev pub decreases-loop-fault : goal.decreases-loop-fault
decreases-loop-fault l = length l.rest
