use Rattle.initview_lines.proofs.CommonWords.{◌≡◌, ◌++◌, None, length, last_of, path_lines}
use Rattle.initview_lines.proofs.plans.add_path.Given as goal

-- the lines and the last entry so far, together with those of the remaining entries, are those of all entries
abbrev pub invariant-loop-one : goal.invariant-loop-one
invariant-loop-one l =
    (last_of l.last l.rest ≡ last_of None l.path)
    × (l.lines.items ++ path_lines l.last l.rest ≡ l.fn.lines.items ++ path_lines None l.path)

abbrev pub decreases-loop-one : goal.decreases-loop-one
decreases-loop-one l = length l.rest
