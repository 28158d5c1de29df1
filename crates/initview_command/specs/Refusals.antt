-- The reports of initview about rejected arguments, and its exit status if there is no answer.
use Rattle.std.specs.Prelude.{◌≡◌, ◌⊎◌, ◌++◌, ℕ, codes}
use Rattle.initview_command.specs.Words.{Text, ReportsUsage, REFUSED, DEVICE_FAULT, AppendsReport, ReportList}
use Rattle.inittab_text.specs.declared.faults.TableFault.{TableFault}
use Rattle.inittab_text.specs.declared.faults.TableFault.TheVariants as fault
use Rattle.initview_command.specs.declared.command.TheConstants.{USAGE}
use Rattle.initview_command.specs.declared.telling.Refusal.{Refusal}
use Rattle.initview_command.specs.declared.telling.Refusal.TheVariants as refusal

-- the usage line of a command
abbrev pub usage_line : Text → Text
usage_line usage = codes "usage: " ++ (usage ++ codes "\n")

abbrev pub memory_line : Text
memory_line = codes "initview: out of memory\n"

-- initview reported a reason and a usage line, or the whole usage if help is requested; or it reported that memory ran
-- out
abbrev pub ReportsRefusal : ℕ → ReportList → ReportList → Type 0
ReportsRefusal status old new =
    ((status ≡ REFUSED) × (usage : Text)
    × ReportsUsage (codes "initview") USAGE.now (usage_line usage) old new)
    ⊎ ((status ≡ DEVICE_FAULT) × AppendsReport old new memory_line)

-- the exit status for files that cannot be read as an inittab
abbrev pub fault_status : TableFault → ℕ
fault_status fault.Memory = DEVICE_FAULT
fault_status fault.TooLong = REFUSED
fault_status fault.Parts = REFUSED

-- the exit status if there is no answer
abbrev pub refusal_status : Refusal → ℕ
refusal_status (refusal.Table fault) = fault_status fault
refusal_status refusal.Within = REFUSED
refusal_status _ = DEVICE_FAULT
