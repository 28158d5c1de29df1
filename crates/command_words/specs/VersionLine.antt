-- The line that `--version` prints.
use Rattle.std.specs.Prelude.{◌≡◌, ℕ, List, ◌++◌, codes, Option}
use Rattle.std.specs.Io.KnownBytes.{Appends}
use Rattle.program_io.specs.Writing.{AppendsPrefix}
use Rattle.program_io.specs.declared.statuses.TheConstants.{DONE}
use Rattle.command_words.specs.declared.versions.TheConstants.{KIT, VERSION}

-- `NAME VERSION (KIT)`: the program's name, the version, and the toolchain in parentheses
abbrev pub version_line : List ℕ → List ℕ
version_line name = name ++ (codes " " ++ (VERSION.now ++ (codes " (" ++ (KIT.now ++ codes ")\n"))))

-- a prefix of the version line was written, and the whole line if the status is success
pub record PrintsVersion (name : List ℕ) (status : ℕ) (old new : Option (List ℕ)) : Type 0 where
  pub part : AppendsPrefix old new (version_line name)
  pub whole : status ≡ DONE → Appends old new (version_line name)
