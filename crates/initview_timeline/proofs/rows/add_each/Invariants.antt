use Rattle.initview_timeline.proofs.Words.{◌≡◌, ◌++◌, length, map, row_of, scene_of, AreShown}
use Rattle.initview_timeline.proofs.rows.add_each.Given as goal

-- the rows so far, followed by those of the remaining ids, are the rows of all; the marks contain all that concern one
-- of the remaining ids
abbrev pub invariant-loop-id : goal.invariant-loop-id
invariant-loop-id l = (l.rows.items ++ map (row_of (scene_of l.seen)) l.rest
    ≡ l.fn.rows.items ++ map (row_of (scene_of l.seen)) l.ids) × AreShown l.rest l.marks (scene_of l.seen)

abbrev pub decreases-loop-id : goal.decreases-loop-id
decreases-loop-id l = length l.rest
