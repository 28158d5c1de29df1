use Rattle.initview_lines.proofs.CommonWords.{◌≡◌, ◌++◌, List, length, map, Event, Viewed, entry_now}
use Rattle.initview_lines.proofs.reloads.add_new.Given as goal

-- the lines so far, followed by those of the remaining entries, are the lines of all entries
abbrev pub invariant-loop-entry : goal.invariant-loop-entry
invariant-loop-entry l = (past : List Event) → Viewed l.view past
    → l.lines.items ++ map (entry_now l.old past) l.rest ≡ l.fn.lines.items ++ map (entry_now l.old past) l.entries

abbrev pub decreases-loop-entry : goal.decreases-loop-entry
decreases-loop-entry l = length l.rest
