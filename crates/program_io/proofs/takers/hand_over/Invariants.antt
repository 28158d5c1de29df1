use Rattle.std.proofs.Common.{ℕ, List, [], ◌≤◌, ◌*◌, length}
use Rattle.std.specs.Io.KnownBytes.{Consumes}
use Rattle.program_io.specs.declared.takers.TheConstants.{PIECE_LIMIT}
use Rattle.program_io.proofs.takers.hand_over.Given as goal

-- the bytes read so far are at most a full piece per read, and the taker has received them if it had received none
-- before
abbrev pub invariant-loop : goal.invariant-loop
invariant-loop g l =
    (text : List ℕ) × Consumes (g.R.Read.remaining l.fn.from) (g.R.Read.remaining l.from) text
    × (length text ≤ PIECE_LIMIT * l.counter)
    × (g.P.PieceTaker.has_taken l.fn.to [] → g.P.PieceTaker.has_taken l.to text)
