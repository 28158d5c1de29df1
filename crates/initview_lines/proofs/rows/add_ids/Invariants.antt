use Rattle.initview_lines.proofs.CommonWords.{◌≡◌, ◌++◌, List, length, map, Event, Viewed, row_at}
use Rattle.initview_lines.proofs.rows.add_ids.Given as goal

-- the lines so far, followed by those of the remaining ids, are the lines of all ids
abbrev pub invariant-loop-id : goal.invariant-loop-id
invariant-loop-id l = (past : List Event) → Viewed l.view past
    → l.lines.items ++ map (row_at l.shape past) l.rest ≡ l.fn.lines.items ++ map (row_at l.shape past) l.ids

abbrev pub decreases-loop-id : goal.decreases-loop-id
decreases-loop-id l = length l.rest
