use Rattle.initview_lines.proofs.CommonWords.{◌≡◌, ◌++◌, ◌+◌, ◌≤◌, length}
use Rattle.text_lines.specs.Lines.{lines_of}
use Rattle.initview_lines.specs.IdLines.{own_lines}
use Rattle.initview_lines.proofs.own_lines.add_file.Given as goal

-- the lines so far, followed by the messages about the remaining lines, are the earlier lines and the messages about
-- all
abbrev pub invariant-loop-rest : goal.invariant-loop-rest
invariant-loop-rest l = record {
  counted : l.number + length l.rest ≤ length l.file.bytes;
  told : l.lines.items ++ own_lines l.id l.faults l.part l.file (l.number + 1) (lines_of l.rest)
      ≡ l.fn.lines.items ++ own_lines l.id l.faults l.part l.file 1 (lines_of l.file.bytes);
}

abbrev pub decreases-loop-rest : goal.decreases-loop-rest
decreases-loop-rest l = length l.rest
