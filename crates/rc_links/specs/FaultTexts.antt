-- The messages about the faults of a plan.
use Rattle.std.specs.Prelude.{string_bytes, ℕ, List, ◌++◌, codes, flat_map}
use Rattle.std.specs.declared.string.String.{String}
use Rattle.rc_links.specs.declared.faults.PlanFault.{PlanFault}
use Rattle.rc_links.specs.declared.faults.PlanFault.TheVariants as fault

-- a name with a blank before it
abbrev pub with_blank : {A : Type 0} → String A → List ℕ
with_blank name = codes " " ++ string_bytes name

-- the message for a fault, with the names that it is about
abbrev pub fault_text : {A : Type 0} → PlanFault A → List ℕ
fault_text (fault.DoubleProvide name) = codes "provided twice: " ++ string_bytes name
fault_text (fault.Missing name) = codes "missing: " ++ string_bytes name
fault_text (fault.Cycle names) = codes "cycle:" ++ flat_map with_blank names.items
fault_text fault.TooDeep = codes "too deep"
fault_text fault.Memory = codes "out of memory"
