-- Which files in a folder are parts of an inittab, and how reading them may fail.
use Rattle.std.specs.Prelude.{◌≡◌, ◌⊎◌, ℕ, Bool, ◌&&◌, ◌||◌, ◌==◌, not, List, [], ◌∷◌, ◌++◌, false, codes, string_bytes}
use Rattle.std.specs.Prelude.{Option, Some, None, Result, Ok, Err, Vec, ⊤}
use Rattle.init_words.specs.Parts.{NamedText}
use Rattle.std.specs.Char.{is_ascii_alphanumeric}
use Rattle.std.specs.List.{ends_with, list_all}
use Rattle.host_files.specs.declared.folders.FolderFault.{FolderFault}
use Rattle.host_files.specs.declared.folders.FolderFault.TheVariants as fault

-- the name begins with a dot
abbrev pub is_hidden : List ℕ → Bool
is_hidden (first ∷ rest) = first == 46
is_hidden [] = false

-- a letter, a digit, or one of . _ -
abbrev pub is_name_byte : ℕ → Bool
is_name_byte byte = is_ascii_alphanumeric byte || byte == 46 || byte == 95 || byte == 45

-- the name ends in .tab
abbrev pub ends_in_tab : List ℕ → Bool
ends_in_tab name = ends_with (λ a b. a == b) name (codes ".tab")

-- the name of a part of an inittab: it does not begin with a dot, has only letters, digits and . _ -, and ends in .tab
abbrev pub is_part_name : List ℕ → Bool
is_part_name name = not (is_hidden name) && list_all is_name_byte name && ends_in_tab name

-- the path is the folder, or a name in the folder
abbrev pub IsWithin : List ℕ → List ℕ → Type 0
IsWithin folder path = (path ≡ folder) ⊎ ((name : List ℕ) × (path ≡ folder ++ (codes "/" ++ name)))

-- memory ran out, or the folder or a file in it could not be read
abbrev pub IsFaultIn : {A : Type 0} → List ℕ → FolderFault A → Type 0
IsFaultIn folder (fault.Unread path error) = IsWithin folder (string_bytes path)
IsFaultIn folder fault.Memory = ⊤

-- memory ran out, or there is a folder and it, or a file in it, could not be read
abbrev pub IsFolderFault : {A : Type 0} → Option (List ℕ) → FolderFault A → Type 0
IsFolderFault folder (fault.Unread path error) =
    (at : List ℕ) × (folder ≡ Some at) × IsWithin at (string_bytes path)
IsFolderFault folder fault.Memory = ⊤

-- the text of a file, if it could be read
abbrev pub text_of : {A E : Type 0} → Result (Vec ℕ A) E → Option (List ℕ)
text_of (Ok text) = Some text.items
text_of (Err why) = None

-- the first part is the file at the path, with this text; false if the file could not be read
abbrev pub IsOwnFirst : List ℕ → Option (List ℕ) → List NamedText → Type 0
IsOwnFirst path None parts = ⊥
IsOwnFirst path (Some text) parts =
    (more : List NamedText) × (parts ≡ record { name = path; bytes = text } ∷ more)
