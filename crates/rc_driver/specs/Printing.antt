-- A dry run, which prints commands instead of running them.
use Rattle.std.specs.Prelude.{◌≡◌, ◌⊎◌, ℕ, true, false, List, [], ◌∷◌, ◌++◌, codes, Option}
use Rattle.std.specs.Io.KnownBytes.{Appends}
use Rattle.program_io.specs.Writing.{AppendsPrefix}
use Rattle.rc_driver.specs.declared.driving.RunEnd.{RunEnd}
use Rattle.rc_driver.specs.declared.driving.RunEnd.TheVariants as run_end
use Rattle.rc_driver.specs.declared.runs.ScriptOptions.{ScriptOptions}
use Rattle.rc_driver.specs.Report.{command_text}
use Rattle.rc_driver.specs.Runs.{LinkRun, RcState}

-- the command that would start a script, as a line
abbrev pub command_line : ScriptOptions → List ℕ → LinkRun → List ℕ
command_line way dir s = command_text way dir s ++ codes "\n"

abbrev pub command_lines : ScriptOptions → List ℕ → List LinkRun → List ℕ
command_lines way dir [] = []
command_lines way dir (s ∷ scripts) = command_line way dir s ++ command_lines way dir scripts

-- a dry run ended at a script: a prefix of its line was written, or nothing because memory ran out
abbrev pub PrintStops : RunEnd → ScriptOptions → List ℕ → LinkRun → Option (List ℕ) → Option (List ℕ) → Type 0
PrintStops run_end.Write way dir s before after = AppendsPrefix before after (command_line way dir s)
PrintStops run_end.Memory way dir s before after = after ≡ before
PrintStops _ way dir s before after = ⊥

-- the next of the remaining scripts was printed
abbrev pub Printed : ScriptOptions → List ℕ → RcState → Option (List ℕ) → RcState → Option (List ℕ) → Type 0
Printed way dir old before new after = (s : LinkRun) × (old.waits ≡ false) × (old.remaining ≡ s ∷ new.remaining)
    × (new.waits ≡ false) × Appends before after (command_line way dir s)

-- The dry run wrote the lines of the remaining scripts: all of them if it is complete, otherwise a prefix. If an
-- earlier script has no answer yet, it writes nothing; otherwise it is incomplete only if a write failed or memory ran
-- out.
pub record PrintsLinks (way : ScriptOptions) (dir : List ℕ) (old : RcState) (before : Option (List ℕ)) (ended : RunEnd)
    (new : RcState) (after : Option (List ℕ)) : Type 0 where
  pub part : AppendsPrefix before after (command_lines way dir old.remaining)
  pub whole : ended ≡ run_end.Done →
      Appends before after (command_lines way dir old.remaining) × (new.remaining ≡ []) × (new.waits ≡ false)
  pub waits : old.waits ≡ true → (ended ≡ run_end.Waiting) × (new ≡ old) × (after ≡ before)
  pub ends : old.waits ≡ false → (ended ≡ run_end.Done) ⊎ (ended ≡ run_end.Write) ⊎ (ended ≡ run_end.Memory)
