use Rattle.initctl_frame.proofs.Words.{◌≤◌, length, take, flat_map, ReaderAfter, requests_in_blocks, StoresRequests}
use Rattle.initctl_frame.proofs.pieces.read_pieces.Given as goal

abbrev pub invariant-loop-piece : goal.invariant-loop-piece
invariant-loop-piece l = record {
  within : l.count ≤ length l.room;
  stands : ReaderAfter l.blocks (flat_map (λ piece. piece.now) (take l.piece-index l.pieces));
  fills : StoresRequests l.fn.room
      (requests_in_blocks (flat_map (λ piece. piece.now) (take l.piece-index l.pieces))) l.count l.room;
}
