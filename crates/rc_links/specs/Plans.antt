-- The plan for scripts, and the reasons why scripts have no plan (LSB Core 5.0).
use Rattle.std.specs.Prelude.{string_bytes, ◌≡◌, ◌⊎◌, ℕ, ◌<◌, ◌≤◌, List, [], ◌∷◌, map, find, get_or, length, Option}
use Rattle.std.specs.Prelude.{Some, None}
use Rattle.std.specs.List.{AllByRecursion}
use Rattle.std.specs.Str.{bytes_eq}
use Rattle.rc_links.specs.declared.planning.TheConstants.{NUMBER_LIMIT}
use Rattle.rc_links.specs.declared.needs.Phase.{Phase}
use Rattle.rc_links.specs.declared.needs.Phase.TheVariants as phase
use Rattle.rc_links.specs.declared.faults.PlanFault.{PlanFault}
use Rattle.rc_links.specs.declared.faults.PlanFault.TheVariants as fault
use Rattle.rc_numbers.specs.Numbering.{HasNoNumbering, IsCycle, IsLeast}
use Rattle.rc_links.specs.ScriptText.{ScriptText}
use Rattle.rc_links.specs.PlannedText.{PlannedText}
use Rattle.rc_links.specs.Scripts.{double_from, missing_from, needs_of}

-- no name is provided twice, and no required name is missing
pub record IsProvided (scripts : List ScriptText) : Type 0 where
  pub single : double_from [] scripts ≡ None
  pub whole : missing_from scripts scripts ≡ None

-- these are the least numbers that the scripts can have, for the start or for the stop
pub record AreLeast (turn : Phase) (scripts : List ScriptText) (numbers : List ℕ) : Type 0 where
  pub size : length numbers ≡ length scripts
  pub least : IsLeast (length scripts) (needs_of turn scripts) numbers

-- a number is too great for a link's two digits
abbrev pub IsDeep : List ℕ → Type 0
IsDeep numbers = (position : ℕ) × (NUMBER_LIMIT < get_or numbers position 0)

-- a script's numbers fit in a link's two digits
abbrev pub IsShort : PlannedText → Type 0
IsShort s = (s.start ≤ NUMBER_LIMIT) × (s.stop ≤ NUMBER_LIMIT)

-- the plan has the scripts in order, with their runlevels and their least numbers, none above the limit
pub record IsPlan (scripts : List ScriptText) (plan : List PlannedText) : Type 0 where
  pub provided : IsProvided scripts
  pub names : map (λ s. s.name) plan ≡ map (λ s. s.name) scripts
  pub starts : map (λ s. s.starts) plan ≡ map (λ s. s.header.default_start) scripts
  pub stops : map (λ s. s.stops) plan ≡ map (λ s. s.header.default_stop) scripts
  pub least_starts : AreLeast phase.Start scripts (map (λ s. s.start) plan)
  pub least_stops : AreLeast phase.Stop scripts (map (λ s. s.stop) plan)
  pub short : AllByRecursion IsShort plan

-- the first script with this name
abbrev pub planned_named : List ℕ → List PlannedText → Option PlannedText
planned_named name plan = find (λ s. bytes_eq s.name name) plan

-- a script with its runlevels and these numbers
abbrev pub planned : ScriptText → ℕ → ℕ → PlannedText
planned s start stop = record {
  name = s.name;
  start = start;
  stop = stop;
  starts = s.header.default_start;
  stops = s.header.default_stop;
}

-- the scripts with these numbers, in order
abbrev pub planned_all : List ScriptText → List ℕ → List ℕ → List PlannedText
planned_all [] starts stops = []
planned_all (s ∷ scripts) [] stops = []
planned_all (s ∷ scripts) (start ∷ starts) [] = []
planned_all (s ∷ scripts) (start ∷ starts) (stop ∷ stops) = planned s start stop ∷ planned_all scripts starts stops

-- the names of the scripts at these positions
abbrev pub names_at : List ScriptText → List ℕ → List (List ℕ)
names_at scripts places = map (λ position. get_or (map (λ s. s.name) scripts) position []) places

-- the names form a cycle, so there is no numbering
pub record IsCycleOf (turn : Phase) (scripts : List ScriptText) (names : List (List ℕ)) : Type 0 where
  pub places : List ℕ
  pub named : names ≡ names_at scripts places
  pub cycle : IsCycle (needs_of turn scripts) places
  pub none : HasNoNumbering (needs_of turn scripts)

-- why scripts have no plan: the fault is that of the first check that fails
abbrev pub IsRefused : {A : Type 0} → List ScriptText → PlanFault A → Type 0
IsRefused scripts (fault.DoubleProvide name) = double_from [] scripts ≡ Some (string_bytes name)
IsRefused scripts (fault.Missing name) =
    (double_from [] scripts ≡ None) × (missing_from scripts scripts ≡ Some (string_bytes name))
IsRefused scripts (fault.Cycle names) = IsProvided scripts ×
    (IsCycleOf phase.Start scripts (map string_bytes names.items)
    ⊎ (starts : List ℕ) × AreLeast phase.Start scripts starts
    × IsCycleOf phase.Stop scripts (map string_bytes names.items))
IsRefused scripts fault.TooDeep = IsProvided scripts × (starts : List ℕ) × (stops : List ℕ)
    × AreLeast phase.Start scripts starts × AreLeast phase.Stop scripts stops × (IsDeep starts ⊎ IsDeep stops)
IsRefused scripts fault.Memory = Unit {0}
