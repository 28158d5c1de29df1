use Rattle.lsb_header.proofs.Words.{◌≡◌, ◌++◌, drop, map, string_bytes, continued}
use Rattle.lsb_header.proofs.pieces.continue_text.Given as goal

abbrev pub invariant-loop-line : goal.invariant-loop-line
invariant-loop-line g l =
    string_bytes l.text ++ continued (map (λ line. line.now) (drop l.line-index l.lines))
    ≡ string_bytes l.fn.text ++ continued (map (λ line. line.now) l.lines)
