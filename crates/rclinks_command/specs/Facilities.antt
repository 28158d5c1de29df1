-- The facility files that are read together with the files on a command line.
use Rattle.std.specs.Prelude.{ℕ, Bool, not, if◌then◌else◌, List, ◌++◌}
use Rattle.std.specs.List.{filter, list_any}
use Rattle.std.specs.Str.{bytes_eq}
use Rattle.rclinks_command.specs.Files.{last_part}

-- none of the files has the same name as the facility file
abbrev pub is_unnamed : List (List ℕ) → List ℕ → Bool
is_unnamed files facility = not (list_any (λ file. bytes_eq (last_part file) (last_part facility)) files)

-- the files on the command line, preceded by the facility files if these are used; a facility file is omitted if a file
-- on the command line has the same name
abbrev pub files_with : List (List ℕ) → Bool → List (List ℕ) → List (List ℕ)
files_with facilities takes files = if takes then filter (is_unnamed files) facilities ++ files else files
