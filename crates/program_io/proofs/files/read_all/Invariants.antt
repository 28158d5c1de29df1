use Rattle.std.specs.Io.KnownBytes.{Consumes}
use Rattle.program_io.proofs.files.read_all.Given as goal

abbrev pub invariant-loop : goal.invariant-loop
invariant-loop g l = Consumes (g.R.Read.remaining l.fn.from) (g.R.Read.remaining l.from) l.bytes.items
