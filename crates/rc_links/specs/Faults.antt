-- The faults that planning can report.
use Rattle.std.specs.Prelude.{string_bytes, ◌≡◌, ◌⊎◌, ℕ, ◌<◌, List, Option, Some, None, IfSome, map}
use Rattle.rc_links.specs.declared.planning.TheConstants.{NUMBER_LIMIT}
use Rattle.rc_links.specs.declared.needs.Phase.{Phase}
use Rattle.rc_links.specs.declared.faults.PlanFault.{PlanFault}
use Rattle.rc_links.specs.declared.faults.PlanFault.TheVariants as fault
use Rattle.rc_links.specs.ScriptText.{ScriptText}
use Rattle.rc_links.specs.Plans.{IsCycleOf, IsDeep}

-- the errors that scripts can have
pub data Wrong : Type 0 where
  Double : List ℕ → Wrong
  Missing : List ℕ → Wrong
  Round : List (List ℕ) → Wrong
  Deep : Wrong

-- the error in the scripts that a fault reports; none if memory ran out
abbrev pub wrong_of : {A : Type 0} → PlanFault A → Option Wrong
wrong_of (fault.DoubleProvide name) = Some (Double (string_bytes name))
wrong_of (fault.Missing name) = Some (Missing (string_bytes name))
wrong_of (fault.Cycle names) = Some (Round (map string_bytes names.items))
wrong_of fault.TooDeep = Some Deep
wrong_of fault.Memory = None

-- the property holds for the error that the fault reports, if it reports one rather than that memory ran out
abbrev pub FaultSatisfies : {A : Type 0} → (Wrong → Type 0) → PlanFault A → Type 0
FaultSatisfies P found = IfSome (wrong_of found) P

-- the error is a cycle of scripts, and gives their names
abbrev pub IsRound : Phase → List ScriptText → Wrong → Type 0
IsRound turn scripts wrong = (names : List (List ℕ)) × (wrong ≡ Round names) × IsCycleOf turn scripts names

-- the error is that one of the two numbers is too great
abbrev pub IsTooDeep : ℕ → ℕ → Wrong → Type 0
IsTooDeep start stop wrong = (wrong ≡ Deep) × ((NUMBER_LIMIT < start) ⊎ (NUMBER_LIMIT < stop))

-- the error is that a number in one of the two lists is too great
abbrev pub IsAnyDeep : List ℕ → List ℕ → Wrong → Type 0
IsAnyDeep starts stops wrong = (wrong ≡ Deep) × (IsDeep starts ⊎ IsDeep stops)

-- the error is that the expected name is provided twice
abbrev pub IsDouble : Option (List ℕ) → Wrong → Type 0
IsDouble due wrong = (name : List ℕ) × (due ≡ Some name) × (wrong ≡ Double name)

-- the error is that the expected name is missing
abbrev pub IsMissing : Option (List ℕ) → Wrong → Type 0
IsMissing due wrong = (name : List ℕ) × (due ≡ Some name) × (wrong ≡ Missing name)
