use Rattle.initview_lines.proofs.CommonWords.{◌≡◌, ◌++◌, List, filter, length, map, Event, Viewed, is_new, line_now}
use Rattle.initview_lines.proofs.reloads.add_left.Given as goal

-- the lines so far, followed by those of the remaining ids, are the lines of all ids
abbrev pub invariant-loop-id : goal.invariant-loop-id
invariant-loop-id l = (past : List Event) → Viewed l.view past → l.lines.items ++ map (line_now l.old past)
    (filter (is_new l.old) l.rest) ≡ l.fn.lines.items ++ map (line_now l.old past) (filter (is_new l.old) l.ids)

abbrev pub decreases-loop-id : goal.decreases-loop-id
decreases-loop-id l = length l.rest
