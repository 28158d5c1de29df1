use Rattle.initview_lines.proofs.CommonWords.{◌≡◌, ◌++◌, length, map, timed_of}
use Rattle.initview_lines.proofs.times.add_path.Given as goal

-- the entries timed so far, followed by the remaining ones, are all entries of the path
abbrev pub invariant-loop-entry : goal.invariant-loop-entry
invariant-loop-entry l =
    l.timed.items ++ map (timed_of l.marks) l.rest ≡ l.fn.timed.items ++ map (timed_of l.marks) l.path

abbrev pub decreases-loop-entry : goal.decreases-loop-entry
decreases-loop-entry l = length l.rest
