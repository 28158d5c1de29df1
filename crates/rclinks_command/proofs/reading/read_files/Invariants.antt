use Rattle.rclinks_command.proofs.Words.{◌≡◌, [], false, map, take, Reads, ReportsWarning}
use Rattle.rclinks_command.proofs.reading.read_files.Given as goal

-- the paths up to here are read; if a fault ends the run, there is none so far
abbrev pub invariant-loop-path : goal.invariant-loop-path
invariant-loop-path g l = record {
  read : Reads (g.T.Texts.text_at l.texts)
      (map (λ file. file.now) (take l.path-index l.line.files.now)) l.reading.scripts.items l.faults.items;
  told : l.keeps_going ≡ false
      → (l.faults.items ≡ []) × ReportsWarning l.fn.reading.report.items l.reading.report.items;
}
