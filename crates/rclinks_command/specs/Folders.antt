-- The known entries in the runlevels' folders, and their entries after changes.
use Rattle.std.specs.Prelude.{◌≡◌, ℕ, if◌then◌else◌, List, [], ◌∷◌, Option, Some}
use Rattle.std.specs.Str.{bytes_eq}
use Rattle.init_words.specs.declared.levels.Level.{Level}
use Rattle.rc_links.specs.ChangeText.{ChangeText}
use Rattle.rc_links.specs.EntryText.{EntryText}
use Rattle.rc_links.specs.Mending.{held_behind}

-- the entries of each runlevel's folder in each directory, if known
abbrev pub KnownFolders : Type 0
KnownFolders = List ℕ → Level → Option (List EntryText)

-- the entries of `init.d` in each directory, if known
abbrev pub KnownScripts : Type 0
KnownScripts = List ℕ → Option (List EntryText)

-- the function maps the old entries of each known folder to its new entries
abbrev pub Becomes : KnownFolders → KnownFolders → (List ℕ → Level → List EntryText → List EntryText) → Type 0
Becomes old new f =
    (dir : List ℕ) (level : Level) (es : List EntryText) → old dir level ≡ Some es
    → new dir level ≡ Some (f dir level es)

-- the entries of each known folder are unchanged
abbrev pub Stays : KnownFolders → KnownFolders → Type 0
Stays old new = Becomes old new (λ dir level es. es)

-- the entries of a folder after the changes are made in order; the changes apply only to the folders of one directory
abbrev pub changed_by : List ℕ → List ChangeText → List ℕ → Level → List EntryText → List EntryText
changed_by dir changes other level es = if bytes_eq dir other then held_behind changes level es else es

-- the entries of a folder after one change in a directory
abbrev pub changed_in : List ℕ → ChangeText → List ℕ → Level → List EntryText → List EntryText
changed_in dir c other level es = changed_by dir (c ∷ []) other level es
