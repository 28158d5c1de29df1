use Rattle.initview_timeline.proofs.Words.{◌≡◌, length, table_ids, scene_of}
use Rattle.initview_timeline.proofs.rows.add_table_ids.Given as goal

-- the ids so far, with those of the remaining entries, are the ids of all entries
abbrev pub invariant-loop-entry : goal.invariant-loop-entry
invariant-loop-entry l =
    table_ids l.ids.keys (scene_of l.seen) l.rest ≡ table_ids l.fn.ids.keys (scene_of l.seen) l.entries

abbrev pub decreases-loop-entry : goal.decreases-loop-entry
decreases-loop-entry l = length l.rest
