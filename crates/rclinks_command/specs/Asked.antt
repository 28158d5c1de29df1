-- The system calls for a change of a runlevel's folder.
use Rattle.std.specs.Prelude.{◌≡◌, ℕ, List, [], ◌∷◌, ◌++◌, codes, Option, Some, IfSome}
use Rattle.init_words.specs.declared.levels.Level.{Level}
use Rattle.init_words.specs.Levels.{level_code}
use Rattle.rc_links.specs.ChangeText.{ChangeText}
use Rattle.rc_links.specs.EntryText.{EntryText}
use Rattle.rc_links.specs.declared.folders.LinkAction.{LinkAction}
use Rattle.rc_links.specs.declared.folders.LinkAction.TheVariants.{Make, Remove}

-- remove the file at a path; create a folder at a path; create a symbolic link to the first path at the second
pub data LinkCall : Type 0 where
  RemoveFile : List ℕ → LinkCall
  MakeFolder : List ℕ → LinkCall
  MakeLink : List ℕ → List ℕ → LinkCall

-- if the calls made so far are known, these calls, newest first, were added to them
abbrev pub Asks : Option (List LinkCall) → Option (List LinkCall) → List LinkCall → Type 0
Asks old new calls = IfSome new (λ all. (before : List LinkCall) × (old ≡ Some before) × (all ≡ calls ++ before))

-- the path of a runlevel's folder in a directory
abbrev pub folder_path : List ℕ → Level → List ℕ
folder_path dir level = dir ++ (codes "/rc" ++ level_code level ∷ codes ".d")

-- the path of an entry in a runlevel's folder
abbrev pub entry_path : List ℕ → Level → EntryText → List ℕ
entry_path dir level entry = folder_path dir level ++ (codes "/" ++ entry.name)

-- to remove an entry, its file is removed; to create one, its folder is created, and then the link
abbrev pub calls_by : LinkAction → List ℕ → Level → EntryText → List LinkCall
calls_by Remove dir level entry = RemoveFile (entry_path dir level entry) ∷ []
calls_by Make dir level entry =
    MakeLink entry.leads (entry_path dir level entry) ∷ MakeFolder (folder_path dir level) ∷ []

-- the calls for a change in a directory, newest first
abbrev pub calls_for : List ℕ → ChangeText → List LinkCall
calls_for dir c = calls_by c.act dir c.level c.entry
