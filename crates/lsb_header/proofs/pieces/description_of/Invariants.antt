use Rattle.lsb_header.proofs.Words.{◌≡◌, [], length, map, string_bytes, description_of}
use Rattle.lsb_header.proofs.pieces.description_of.Given as goal

abbrev pub invariant-loop-rest : goal.invariant-loop-rest
invariant-loop-rest g l = record {
  none : string_bytes l.text ≡ [];
  same : description_of (map (λ line. line.now) l.rest) ≡ description_of (map (λ line. line.now) l.lines);
}

abbrev pub decreases-loop-rest : goal.decreases-loop-rest
decreases-loop-rest g l = length l.rest
