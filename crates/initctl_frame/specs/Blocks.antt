-- The request blocks of a byte list, and the state of a reader after it.
use Rattle.std.specs.Prelude.{◌≡◌, ℕ, zero, suc, ◌*◌, ◌/◌, List, [], ◌∷◌, length, take, drop, map}
use Rattle.initctl_frame.specs.declared.frames.TheConstants.{BLOCK, FRONT}
use Rattle.initctl_frame.specs.declared.requests.HeardRequest.{HeardRequest}
use Rattle.initctl_frame.specs.Frames.{heard_of}

-- the first n parts of the byte list, each of this size
abbrev pub parts : ℕ → ℕ → List ℕ → List (List ℕ)
parts size zero bytes = []
parts size (suc n) bytes = take size bytes ∷ parts size n (drop size bytes)

-- the blocks of a byte list: its whole 384-byte parts, counted from the first byte, including the invalid ones
abbrev pub blocks_of : List ℕ → List (List ℕ)
blocks_of bytes = parts BLOCK (length bytes / BLOCK) bytes

-- the requests of a byte list: one for each of its blocks, in order
abbrev pub requests_in_blocks : List ℕ → List HeardRequest
requests_in_blocks bytes = map heard_of (blocks_of bytes)

-- the bytes after the last whole block
abbrev pub remainder_of : List ℕ → List ℕ
remainder_of bytes = drop (BLOCK * (length bytes / BLOCK)) bytes

-- an unfinished block: the number of its bytes that were received, and the first sixteen of them
pub record PartialBlock : Type 0 where
  pub count : ℕ
  pub front : List ℕ

-- the state of a reader after these bytes: the number of bytes after the last whole block, and the first sixteen of
-- them
pub record ReaderAfter (begun : PartialBlock) (bytes : List ℕ) : Type 0 where
  pub count : begun.count ≡ length (remainder_of bytes)
  pub front : begun.front ≡ take FRONT (remainder_of bytes)
