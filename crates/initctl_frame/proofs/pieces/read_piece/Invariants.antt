use Rattle.initctl_frame.proofs.Words.{◌≤◌, ◌-◌, ◌++◌, ℕ, List, length, take, HeardRequest, ReaderAfter}
use Rattle.initctl_frame.proofs.Words.{requests_in_blocks, StoresRequests}
use Rattle.initctl_frame.proofs.pieces.read_piece.Given as goal

abbrev pub invariant-loop-done : goal.invariant-loop-done
invariant-loop-done l = record {
  part : l.done ≤ length l.piece;
  within : l.count ≤ length l.room;
  stands : (bytes : List ℕ) → ReaderAfter l.fn.blocks bytes → ReaderAfter l.blocks (bytes ++ take l.done l.piece);
  fills : (bytes : List ℕ) (places : List HeardRequest) → ReaderAfter l.fn.blocks bytes
      → StoresRequests places (requests_in_blocks bytes) l.fn.count l.fn.room
      → StoresRequests places (requests_in_blocks (bytes ++ take l.done l.piece)) l.count l.room;
}

abbrev pub decreases-loop-done : goal.decreases-loop-done
decreases-loop-done l = length l.piece - l.done
