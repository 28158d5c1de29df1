-- The requests that calls add to the trace: one for each block that the bytes read complete (initreq.h).
use Rattle.std.specs.Prelude.{◌≡◌, ℕ, List, [], ◌∷◌, ◌++◌, Ok}
use Rattle.initctl_frame.specs.declared.requests.HeardRequest.{HeardRequest as Request}
use Rattle.supervisor.specs.EdgeWords.{requests_in_blocks, remainder_of, Got, Event, TakeBytes, HostCall}
use Rattle.supervisor.specs.Point.{Point, bytes_after, point_after}

-- the trace after these requests, given oldest first, are added
abbrev pub requested : List Request → List Event → List Event
requested [] past = past
requested (request ∷ requests) past = requested requests (Got request ∷ past)

-- `bytes` follow the bytes `before`, whose incomplete block is in the point. The requests in the blocks that they
-- complete are added in order, and the incomplete block after them is that of all bytes together.
pub record Continues (before bytes : List ℕ) (p : Point) : Type 0 where
  pub requests : List Request
  pub gots : requests_in_blocks (before ++ bytes) ≡ requests_in_blocks before ++ requests
  pub point : bytes_after bytes p ≡ record p { over = remainder_of (before ++ bytes); past = requested requests p.past }

-- the requests in a trace, oldest first
abbrev pub requests_in : List Event → List Request
requests_in [] = []
requests_in (Got request ∷ past) = requests_in past ++ request ∷ []
requests_in (_ ∷ past) = requests_in past

-- the bytes that the calls took, oldest first
abbrev pub bytes_of : List HostCall → List ℕ
bytes_of [] = []
bytes_of (TakeBytes room (Ok bytes) ∷ calls) = bytes_of calls ++ bytes
bytes_of (_ ∷ calls) = bytes_of calls

-- the calls take bytes that follow the bytes `before`, and add the requests that are complete only with these bytes
pub record Brings (before : List ℕ) (calls : List HostCall) (p : Point) : Type 0 where
  pub requests : List Request
  pub gots : requests_in_blocks (before ++ bytes_of calls) ≡ requests_in_blocks before ++ requests
  pub past : requests_in (point_after calls p).past ≡ requests_in p.past ++ requests
  pub over : (point_after calls p).over ≡ remainder_of (before ++ bytes_of calls)
