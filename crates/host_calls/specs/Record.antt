-- The calls that a host received between two moments, newest first, and those among them that the host has recorded.
use Rattle.std.specs.Prelude.{◌≡◌, List, ◌++◌, Option, Some, IfSome}

-- if the host's record is complete now, it was complete before, and these calls were added to it since
abbrev pub AreNewCalls : {T : Type 0} → Option (List T) → Option (List T) → List T → Type 0
AreNewCalls old new calls =
    IfSome new (λ all. (before : List _) × (old ≡ Some before) × (all ≡ calls ++ before))

-- some calls with the property P were made; if the host's record is complete, they are the calls that were added to it
abbrev pub NewCallsSatisfy : {T : Type 0} → Option (List T) → Option (List T) → (List T → Type 0) → Type 0
NewCallsSatisfy old new P = (calls : List _) × AreNewCalls old new calls × P calls
