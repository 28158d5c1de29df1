use Rattle.initview_lines.proofs.CommonWords.{◌≡◌, ◌++◌, List, filter, length, map, Event, table_of, Viewed, is_gone}
use Rattle.initview_lines.proofs.CommonWords.{entry_now}
use Rattle.initview_lines.proofs.reloads.add_gone.Given as goal

-- the lines so far, followed by those of the remaining entries, are the lines of all entries
abbrev pub invariant-loop-entry : goal.invariant-loop-entry
invariant-loop-entry l = (past : List Event) → Viewed l.view past
    → l.lines.items ++ map (entry_now l.old past) (filter (is_gone (table_of past)) l.rest)
    ≡ l.fn.lines.items ++ map (entry_now l.old past) (filter (is_gone (table_of past)) l.entries)

abbrev pub decreases-loop-entry : goal.decreases-loop-entry
decreases-loop-entry l = length l.rest
