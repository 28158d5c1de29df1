-- The folders of the runlevels, and the known names in them.
use Rattle.std.specs.Prelude.{◌≡◌, ℕ, List, [], ◌∷◌, ◌++◌, codes, Option, Some, None, IfSome}
use Rattle.init_words.specs.declared.levels.Level.{Level}
use Rattle.init_words.specs.Levels.{level_code}

-- the names in the folder at each path, if known
abbrev pub KnownNames : Type 0
KnownNames = List ℕ → Option (List (List ℕ))

-- if the names in the folder at the path are known, these are the names
abbrev pub AreNamesAt : KnownNames → List ℕ → List (List ℕ) → Type 0
AreNamesAt names_at path names = IfSome (names_at path) (λ known. names ≡ known)

-- the path of a runlevel's folder, DIR/rcN.d
abbrev pub folder_of : List ℕ → Level → List ℕ
folder_of dir level = dir ++ (codes "/rc" ++ level_code level ∷ codes ".d")

-- the names in the folder of the previous level; none if there was no such level
abbrev pub ArePrevious : KnownNames → List ℕ → Option Level → List (List ℕ) → Type 0
ArePrevious names_at dir None names = names ≡ []
ArePrevious names_at dir (Some level) names = AreNamesAt names_at (folder_of dir level) names
