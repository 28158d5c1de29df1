use Rattle.std.proofs.Common.{◌+◌, ◌*◌, ◌<◌, ◌≤◌, ℕ, List, ◌++◌, take, length, length-append, arith}
use Rattle.std.proofs.KnownBytes.{Consumes-trans}
use Rattle.std.proofs.lemmas.Grind.{common_steps}
use Rattle.std.proofs.lemmas.List.{length-take}
use Rattle.program_io.specs.declared.takers.TheConstants.{PIECE_LIMIT, PIECES_LIMIT}
use Rattle.program_io.proofs.takers.hand_over.Goals as goal

pub loop-preserved : goal.loop-preserved
loop-preserved g c =
    let (text, consumed, small, taken) = c.loop.invariant in
    let piece : List ℕ = take c.in_ok-taken.taken c.read.new.buf in
    let few : c.loop.counter < PIECES_LIMIT = c.loop-test.true in
    let short : length piece ≤ PIECE_LIMIT = grind (arith, common_steps, length-take) in
    let bound : length (text ++ piece) ≤ PIECE_LIMIT * (c.loop.counter + 1) =
    omega (arith, length-append text piece, small, short) in (
      text ++ piece,
      Consumes-trans _ _ _ _ _ consumed c.in_ok-taken.ensures.bytes.0,
      bound,
      λ none. c.in_ok-take_piece.ensures text (omega (arith, bound, few)) (taken none),
    )
