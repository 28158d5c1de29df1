-- The answers that a scripted host has yet to give, its record, and how its calls change them.
use Rattle.std.specs.Prelude.{◌≡◌, ℕ, Bool, true, false, if◌then◌else◌, nat_lt, Option, Some, None, Result, Ok, Err}
use Rattle.std.specs.Prelude.{List, [], ◌∷◌, ◌++◌, length, take, drop, reverse}
use Rattle.init_words.specs.declared.orders.Answer.{Answer}
use Rattle.host_calls.specs.declared.calls.HostFault.{HostFault}
use Rattle.host_calls.specs.declared.calls.Reply.{Reply}
use Rattle.host_calls.specs.Calls.{HostCall, PartsRead, TextRead}

-- a queue of answers for each kind of call that returns one, the record of calls, and the number of faults
pub record Script : Type 0 where
  pub starts : List Reply
  pub looks : List Reply
  pub signals : List Reply
  pub lates : List (Option (List ℕ × Answer))
  pub clocks : List (Result ℕ HostFault)
  pub pieces : List TextRead
  pub tables : List PartsRead
  pub carries : List TextRead
  pub told : Option (List HostCall)
  pub faults : ℕ

-- the first item of a queue
abbrev pub first : {T : Type 0} → List T → Option T
first [] = None
first (item ∷ items) = Some item

-- the script is as expected, except for its record
abbrev pub Becomes : Script → Script → Type 0
Becomes new expected = new ≡ record expected { told = new.told }

-- the record of these calls, given oldest first: the calls in reverse order, or none if one of them could not be
-- recorded
abbrev pub tale : Bool → List HostCall → Option (List HostCall)
tale true calls = Some (reverse calls)
tale false calls = None

-- the rest of a piece of bytes after those that fit in this room; nothing if all of them fit
abbrev pub left_of : ℕ → TextRead → List TextRead
left_of room (Ok bytes) = if nat_lt room (length bytes) then Ok (drop room bytes) ∷ [] else []
left_of room (Err fault) = []

-- the part of a piece that fits in this room
abbrev pub taken_of : ℕ → TextRead → TextRead
taken_of room (Ok bytes) = Ok (take room bytes)
taken_of room (Err fault) = Err fault

-- the pieces that remain after the first one was read up to this position
abbrev pub pieces_from : ℕ → List ℕ → List TextRead → List TextRead
pieces_from position under_way pieces = left_of position (Ok under_way) ++ pieces
