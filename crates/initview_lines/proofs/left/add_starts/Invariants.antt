use Rattle.initview_lines.proofs.CommonWords.{◌≡◌, ◌++◌, List, filter, length, map, Event, Viewed}
use Rattle.initview_lines.specs.Left.{is_open, start_line}
use Rattle.initview_lines.proofs.left.add_starts.Given as goal

-- the lines so far, followed by those of the remaining entries, are the lines of all entries
abbrev pub invariant-loop-entry : goal.invariant-loop-entry
invariant-loop-entry l = (past : List Event) → Viewed l.view past → l.lines.items ++ map (start_line l.shape)
    (filter (is_open past) l.rest) ≡ l.fn.lines.items ++ map (start_line l.shape) (filter (is_open past) l.entries)

abbrev pub decreases-loop-entry : goal.decreases-loop-entry
decreases-loop-entry l = length l.rest
