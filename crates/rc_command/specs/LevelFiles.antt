-- The files that hold a runlevel, as far as they are known.
use Rattle.std.specs.Prelude.{◌≡◌, ℕ, Bool, true, false, IfSome, if◌then◌else◌, ◌==◌, List, [], ◌∷◌, Option, Some, None}
use Rattle.std.specs.Prelude.{option_map}
use Rattle.std.specs.Str.{bytes_eq}
use Rattle.init_words.specs.declared.levels.Level.{Level}
use Rattle.init_words.specs.Levels.{level_code}
use Rattle.rc_command.specs.CommandLine.{level_of}

-- the file at each path, if known: its text, or none if there is no file
abbrev pub KnownFiles : Type 0
KnownFiles = List ℕ → Option (Option (List ℕ))

-- all files are unchanged
abbrev pub AreSame : KnownFiles → KnownFiles → Type 0
AreSame old new = (at : List ℕ) → new at ≡ old at

-- if the file at the path is known, it has this text; all other files are unchanged
abbrev pub HasText : List ℕ → List ℕ → KnownFiles → KnownFiles → Type 0
HasText path text old new =
    (at : List ℕ) → new at ≡ (if bytes_eq at path then option_map (λ known. Some text) (old at) else old at)

-- the text of a file that holds a runlevel: the level's character and a newline
abbrev pub level_text : Level → List ℕ
level_text level = level_code level ∷ 10 ∷ []

-- the runlevel that the text of a file holds
abbrev pub level_in : List ℕ → Option Level
level_in (code ∷ end ∷ []) = if end == 10 then level_of (code ∷ []) else None
level_in _ = None

-- the previous level that a file holds: `Some None` if there is no file, none if its text is not a level
abbrev pub before_in : Option (List ℕ) → Option (Option Level)
before_in None = Some None
before_in (Some text) = option_map Some (level_in text)

-- this is the previous level: the given one, or the level in the file if its text is known
abbrev pub IsBeforeIn : KnownFiles → Option Level → Option (List ℕ) → Option Level → Type 0
IsBeforeIn file_at known_before None before = before ≡ known_before
IsBeforeIn file_at known_before (Some path) before = IfSome (file_at path) (λ known. before_in known ≡ Some before)

-- unless this is a dry run, the given file contains the level; all other files are unchanged
abbrev pub KeepsIn : Bool → Option (List ℕ) → Level → KnownFiles → KnownFiles → Type 0
KeepsIn true file new before after = AreSame before after
KeepsIn false None new before after = AreSame before after
KeepsIn false (Some path) new before after = HasText path (level_text new) before after
