use Rattle.initview_lines.proofs.CommonWords.{◌≡◌, ◌++◌, List, length, map, Event, Viewed, entry_row}
use Rattle.initview_lines.proofs.rows.add_entries.Given as goal

-- the lines so far, followed by those of the remaining entries, are the lines of all entries
abbrev pub invariant-loop-entry : goal.invariant-loop-entry
invariant-loop-entry l = (past : List Event) → Viewed l.view past
    → l.lines.items ++ map (entry_row l.shape past) l.rest ≡ l.fn.lines.items ++ map (entry_row l.shape past) l.entries

abbrev pub decreases-loop-entry : goal.decreases-loop-entry
decreases-loop-entry l = length l.rest
