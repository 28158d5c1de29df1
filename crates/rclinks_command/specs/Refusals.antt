-- The reasons why a run of rclinks does nothing.
use Rattle.std.specs.Prelude.{ℕ}
use Rattle.rclinks_command.specs.declared.report.Refusal.{Refusal}
use Rattle.rclinks_command.specs.declared.report.Refusal.TheVariants.{Failed, Memory, Refused}

-- the exit status: 1 if something is rejected, 4 if something can't be read or memory ran out
abbrev pub refusal_status : Refusal → ℕ
refusal_status Refused = 1
refusal_status Failed = 4
refusal_status Memory = 4
