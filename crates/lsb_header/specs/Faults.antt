-- The faults of a header, and their messages.
use Rattle.std.specs.Prelude.{◌≡◌, ◌≢◌, ℕ, Option, Some, List, ◌++◌, codes, decimal}
use Rattle.lsb_header.specs.declared.faults.HeaderFault.{HeaderFault}
use Rattle.lsb_header.specs.declared.faults.HeaderFault.TheVariants as fault
use Rattle.lsb_header.specs.Keywords.{word_of}

-- the reported fault is the expected one, unless it is that memory ran out
abbrev pub IsDue : Option HeaderFault → HeaderFault → Type 0
IsDue due found = found ≢ fault.Memory → due ≡ Some found

-- the message: the reason, the number of the line if the fault has one, and what that line should be
abbrev pub fault_text : HeaderFault → List ℕ
fault_text fault.NoBegin = codes "no line \"### BEGIN INIT INFO\""
fault_text fault.NoEnd = codes "no line \"### END INIT INFO\" after \"### BEGIN INIT INFO\""
fault_text (fault.BadLine number) =
    codes "line " ++ decimal number ++ codes ": neither \"# Keyword: words\" nor \"#  text\" in UTF-8"
fault_text (fault.Twice keyword) = word_of keyword ++ codes " appears twice"
fault_text fault.NoProvides = codes "no name after \"# Provides:\""
fault_text fault.Memory = codes "out of memory"
