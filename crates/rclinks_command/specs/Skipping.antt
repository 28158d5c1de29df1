-- Scripts that are omitted because there is no plan with them.
use Rattle.std.specs.Prelude.{string_bytes, ◌≡◌, ℕ, ◌+◌, Bool, true, false, ◌&&◌, ◌||◌, List, [], ◌∷◌, ◌++◌, map, take}
use Rattle.std.specs.Prelude.{drop}
use Rattle.std.specs.List.{list_any}
use Rattle.std.specs.Str.{bytes_eq}
use Rattle.std.specs.declared.alloc.Global.{Global}
use Rattle.rc_links.specs.declared.faults.PlanFault.{PlanFault}
use Rattle.rc_links.specs.declared.faults.PlanFault.TheVariants as fault
use Rattle.rc_links.specs.Plans.{IsRefused}
use Rattle.rc_links.specs.ScriptText.{ScriptText}
use Rattle.rc_links.specs.Scripts.{has_name, has_script}

-- one of the scripts provides the name
abbrev pub is_provided : List ScriptText → List ℕ → Bool
is_provided scripts name = list_any (λ (s : ScriptText). has_name name s.header.provides) scripts

-- the script provides a name that an earlier script provides, or has the same name as an earlier script
abbrev pub is_doubled : List ScriptText → List ℕ → ScriptText → Bool
is_doubled before name s =
    (has_name name s.header.provides && is_provided before name) || (bytes_eq s.name name && has_script before name)

-- a fault of the plan is about this script, which comes after these scripts: it provides or has a name a second time,
-- requires a missing name, or is in the cycle
abbrev pub is_at_fault : {A : Type 0} → List ScriptText → PlanFault A → ScriptText → Bool
is_at_fault before (fault.DoubleProvide name) s = is_doubled before (string_bytes name) s
is_at_fault before (fault.Missing name) s =
    has_name (string_bytes name) s.header.required_start || has_name (string_bytes name) s.header.required_stop
is_at_fault before (fault.Cycle names) s = has_name s.name (map string_bytes names.items)
is_at_fault before fault.TooDeep s = false
is_at_fault before fault.Memory s = false

-- the fault is about the script at the position
abbrev pub IsFaultAt : {A : Type 0} → List ScriptText → PlanFault A → ℕ → Type 0
IsFaultAt scripts found position = (s : ScriptText) × (drop position scripts ≡ s ∷ drop (position + 1) scripts)
    × (is_at_fault (take position scripts) found s ≡ true)

-- the scripts have no plan, and one script that the fault is about is omitted
abbrev pub LeavesOne : List ScriptText → List ScriptText → Type 0
LeavesOne scripts rest = (found : PlanFault Global) × (position : ℕ) × IsRefused scripts found
    × IsFaultAt scripts found position
    × (rest ≡ take position scripts ++ drop (position + 1) scripts)

-- some scripts are omitted, one after another, each because of a fault that it causes; the list has the scripts before
-- each step, the last step first
abbrev pub LeavesOut : List (List ScriptText) → List ScriptText → List ScriptText → Type 0
LeavesOut [] scripts rest = rest ≡ scripts
LeavesOut (before ∷ steps) scripts rest = LeavesOut steps scripts before × LeavesOne before rest

-- any number of scripts are omitted, each because of a fault that it causes
abbrev pub LeavesSome : List ScriptText → List ScriptText → Type 0
LeavesSome scripts rest = (steps : List (List ScriptText)) × LeavesOut steps scripts rest
