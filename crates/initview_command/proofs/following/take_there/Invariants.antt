use Rattle.initview_command.proofs.Words.{ℕ, List, ◌*◌, ◌+◌, Option, PIECE_LIMIT, MayKeep}
use Rattle.initview_command.proofs.following.take_there.Given as goal

-- the last lines for what was read so far are kept
abbrev pub invariant-loop : goal.invariant-loop
invariant-loop g l =
    (input : Option (List ℕ))
    → MayKeep PIECE_LIMIT l.count input l.fn.reader l.fn.lines.items (g.R.Read.remaining l.fn.from)
    → MayKeep (PIECE_LIMIT + PIECE_LIMIT * l.counter) l.count input l.reader l.lines.items (g.R.Read.remaining l.from)
