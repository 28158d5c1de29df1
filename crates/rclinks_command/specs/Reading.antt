-- Reading the scripts at paths, where some files may not be scripts.
use Rattle.std.specs.Prelude.{◌≡◌, ◌≢◌, ◌⊎◌, ℕ, Bool, true, false, List, [], ◌∷◌, ◌++◌}
use Rattle.program_io.specs.Known.{KnownTexts}
use Rattle.rc_links.specs.ScriptText.{ScriptText}
use Rattle.rclinks_command.specs.Files.{IsNoScriptAt, IsScriptAt}
use Rattle.rclinks_command.specs.declared.files.FileFault.{FileFault}

-- the script at a path was added to the scripts, or the fault of its file was added to the faults
abbrev pub ReadsOne : KnownTexts → List ℕ → List ScriptText → List ScriptText → List FileFault → List FileFault → Type 0
ReadsOne text_at path old new before after =
    ((s : ScriptText) × IsScriptAt text_at path s × (new ≡ old ++ s ∷ []) × (after ≡ before))
    ⊎ ((found : FileFault) × IsNoScriptAt text_at path found × (new ≡ old) × (after ≡ before ++ found ∷ []))

-- each path yields a script or the fault of its file, in order
abbrev pub Reads : KnownTexts → List (List ℕ) → List ScriptText → List FileFault → Type 0
Reads text_at [] scripts faults = (scripts ≡ []) × (faults ≡ [])
Reads text_at (path ∷ paths) scripts faults =
    ((s : ScriptText) × (more : List ScriptText) × (scripts ≡ s ∷ more) × IsScriptAt text_at path s
    × Reads text_at paths more faults)
    ⊎ ((found : FileFault) × (more : List FileFault) × (faults ≡ found ∷ more) × IsNoScriptAt text_at path found
    × Reads text_at paths scripts more)

-- there are faults
abbrev pub has_faults : List FileFault → Bool
has_faults [] = false
has_faults (found ∷ faults) = true

-- each path, or, if the run does not continue after a fault, each path up to the first fault, yields a script or a
-- fault
abbrev pub ReadsTo : Bool → KnownTexts → List (List ℕ) → List ScriptText → List FileFault → Type 0
ReadsTo keeps_going text_at paths scripts faults = (read later : List (List ℕ)) × (paths ≡ read ++ later)
    × Reads text_at read scripts faults × ((later ≡ []) ⊎ (keeps_going ≡ false) × (faults ≢ []))
