use Rattle.initview_lines.proofs.CommonWords.{◌≡◌, ◌++◌, ◌+◌, ◌≤◌, length}
use Rattle.initview_lines.specs.IdLines.{lines_from}
use Rattle.initview_lines.proofs.own_lines.add_files.Given as goal

-- the lines so far, followed by the messages about the remaining files, are the earlier lines and the messages about
-- all
abbrev pub invariant-loop-file : goal.invariant-loop-file
invariant-loop-file l = record {
  counted : l.number + length l.rest ≤ length l.files;
  told : l.lines.items ++ lines_from l.id l.faults l.number l.rest
      ≡ l.fn.lines.items ++ lines_from l.id l.faults 0 l.files;
}

abbrev pub decreases-loop-file : goal.decreases-loop-file
decreases-loop-file l = length l.rest
