-- The messages for a skipped line and for a text that could not be read.
use Rattle.std.specs.Prelude.{ℕ, List, ◌++◌, codes, decimal}
use Rattle.inittab_text.specs.declared.faults.LineKind.{LineKind}
use Rattle.inittab_text.specs.declared.faults.LineKind.TheVariants as kind
use Rattle.inittab_text.specs.declared.faults.LineFault.{LineFault}
use Rattle.inittab_text.specs.declared.faults.PartFault.{PartFault}
use Rattle.inittab_text.specs.declared.faults.TableFault.{TableFault}
use Rattle.inittab_text.specs.declared.faults.TableFault.TheVariants as table

abbrev pub kind_text : LineKind → List ℕ
kind_text kind.Fields = codes "too few fields"
kind_text kind.Id = codes "bad id"
kind_text kind.Levels = codes "runlevels too long"
kind_text kind.Action = codes "unknown action"
kind_text kind.Length = codes "process too long"
kind_text kind.Empty = codes "no process"
kind_text kind.Text = codes "bad text"
kind_text kind.Twice = codes "duplicate id"
kind_text kind.Many = codes "too many entries"

-- the message for a skipped line: its number, and the first check that it fails
abbrev pub line_fault_text : LineFault → List ℕ
line_fault_text fault = codes "inittab line " ++ decimal fault.line ++ codes ": " ++ kind_text fault.kind

-- the message for a skipped line of a part, with the number of the part, from 0
abbrev pub part_fault_text : PartFault → List ℕ
part_fault_text fault =
    codes "inittab part " ++ decimal fault.part ++ codes " line " ++ decimal fault.line ++ codes ": "
    ++ kind_text fault.kind

abbrev pub table_fault_text : TableFault → List ℕ
table_fault_text table.TooLong = codes "inittab is longer than 1048576 bytes"
table_fault_text table.Memory = codes "out of memory"
table_fault_text table.Parts = codes "inittab has more than 256 files"
