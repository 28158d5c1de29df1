use Rattle.std.proofs.Common.{◌≡◌}
use Rattle.trace_files.proofs.os_files.OsFiles.take_away.Given as goal

-- the record of the bytes that the files took does not change
abbrev pub invariant-loop : goal.invariant-loop
invariant-loop g l = l.self.taken.value ≡ l.fn.self.taken.value
