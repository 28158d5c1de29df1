use Rattle.initview_command.proofs.Words.{ℕ, List, ◌≤◌, ◌*◌, ◌+◌, length, Option, Consumes, PIECE_LIMIT, HasWritten}
use Rattle.initview_command.proofs.Words.{Start, HasFollowed, there_limit}
use Rattle.initview_command.proofs.following.write_lines.Given as goal

-- the lines for what was read so far were written
abbrev pub invariant-loop : goal.invariant-loop
invariant-loop g l =
    (start : Start) (input : Option (List ℕ))
    → HasFollowed start input l.fn.reader (g.R.Read.remaining l.fn.from) (g.S.LineSink.said l.fn.out)
    → (text : List ℕ) × Consumes input (g.R.Read.remaining l.from) text
    × (length text ≤ there_limit + PIECE_LIMIT * l.counter)
    × HasWritten start l.reader text (g.S.LineSink.said l.out)
