-- How init receives a request that telinit appended to its channel (telinit(8), initreq.h).
use Rattle.std.specs.Prelude.{◌≡◌, ℕ, ◌%◌, List, [], ◌∷◌, ◌++◌, length, Some}
use Rattle.initctl_frame.specs.declared.frames.TheConstants.{BLOCK}
use Rattle.initctl_frame.specs.declared.requests.HeardRequest.{HeardRequest}
use Rattle.initctl_frame.specs.Blocks.{requests_in_blocks}
use Rattle.initctl_frame.specs.Frames.{heard_of}
use Rattle.initd_command.specs.Words.{HostCall, Point, point_after, IsRequestFor, KnownBytes}
use Rattle.supervisor.specs.Requests.{bytes_of, requests_in}

-- `stood` are the bytes of the channel before the request was appended, and `bytes` its bytes with the request.
-- Suppose that init, beginning with no incomplete block, took all of `bytes` after a prefix of whole requests in
-- `stood`. The prefix is empty, or consists of the requests that init skipped, as with --fresh. Then the calls bring
-- the requests of `stood` after that prefix, followed by this request, and no others.
abbrev pub NextRequestIs : List ℕ → HeardRequest → List ℕ → Type 0
NextRequestIs stood request bytes = (front later : List ℕ) (calls : List HostCall) (p : Point)
    → stood ≡ front ++ later → length front % BLOCK ≡ 0 → p.over ≡ [] → front ++ bytes_of calls ≡ bytes
    → requests_in (point_after calls p).past ≡ requests_in p.past ++ (requests_in_blocks later ++ request ∷ [])

-- if the bytes of the channel that the arguments name were known, the request that the arguments make is the next one
-- in the channel, after the earlier requests
abbrev pub IsNext : List ℕ → List (List ℕ) → KnownBytes → KnownBytes → Type 0
IsNext home words old new = (path block : List ℕ) × IsRequestFor home words path block
    × ((stood : List ℕ) → old path ≡ Some stood
    → (bytes : List ℕ) × (new path ≡ Some bytes) × NextRequestIs stood (heard_of block) bytes)
