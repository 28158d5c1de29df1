use Rattle.lsb_header.proofs.Words.{◌≡◌, drop, map, text_at}
use Rattle.lsb_header.proofs.pieces.args_of.Given as goal

abbrev pub invariant-loop-line : goal.invariant-loop-line
invariant-loop-line l =
    text_at l.keyword (map (λ line. line.now) (drop l.line-index l.lines))
    ≡ text_at l.keyword (map (λ line. line.now) l.lines)
