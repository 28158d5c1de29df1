-- Requests that are written into a fixed number of places.
use Rattle.std.specs.Prelude.{◌≡◌, ℕ, List, ◌++◌, length, take, drop, min}
use Rattle.initctl_frame.specs.declared.requests.HeardRequest.{HeardRequest}

-- the places after as many of the requests as fit were written over the first places
abbrev pub filled : List HeardRequest → List HeardRequest → List HeardRequest
filled places gots = take (length places) gots ++ drop (length gots) places

-- `room` is the places after the requests were written into them, and `count` is the number of requests that fit
pub record StoresRequests (places gots : List HeardRequest) (count : ℕ) (room : List HeardRequest) : Type 0 where
  pub as_many : count ≡ min (length places) (length gots)
  pub in_front : room ≡ filled places gots
