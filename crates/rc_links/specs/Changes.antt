-- The changes to a folder after which it holds exactly the links of the plan.
use Rattle.std.specs.Prelude.{ℕ, Vec, Bool, false, not, ◌==◌, ◌&&◌, ◌||◌, List, ◌∷◌, ◌++◌, map}
use Rattle.std.specs.Char.{is_ascii_digit}
use Rattle.std.specs.List.{filter, list_any}
use Rattle.std.specs.Str.{byte, bytes_eq}
use Rattle.init_words.specs.declared.levels.Level.{Level}
use Rattle.rc_links.specs.ChangeText.{ChangeText}
use Rattle.rc_links.specs.Entries.{has_name, same_entry}
use Rattle.rc_links.specs.EntryText.{EntryText}
use Rattle.rc_links.specs.FolderText.{FolderText}
use Rattle.rc_links.specs.Folders.{change_of}
use Rattle.rc_links.specs.declared.folders.LinkAction.TheVariants.{Make, Remove}

abbrev pub targets_of : {A : Type 0} → List (Vec ℕ A) → List (List ℕ)
targets_of targets = map (λ target. target.items) targets

-- the text can be the name of a numbered link: S or K, two digits and at least one more byte
abbrev pub is_numbered : List ℕ → Bool
is_numbered (letter ∷ tens ∷ ones ∷ b ∷ name) =
    (letter == byte "S" || letter == byte "K") && is_ascii_digit tens && is_ascii_digit ones
is_numbered _ = false

-- a numbered link to a planned script
abbrev pub is_ours : List (List ℕ) → EntryText → Bool
is_ours targets e = is_numbered e.name && list_any (bytes_eq e.leads) targets

-- the entry occupies the name of a link of the plan, and is not a numbered link to a planned script
abbrev pub is_taken : List (List ℕ) → List EntryText → EntryText → Bool
is_taken targets planned e = has_name e.name planned && not (is_ours targets e)

-- a numbered link to a planned script that is not in the plan
abbrev pub is_stale : List (List ℕ) → List EntryText → EntryText → Bool
is_stale targets planned e = is_ours targets e && not (list_any (same_entry e) planned)

-- a stale link that must be removed before a link of the plan is created, because they have the same name
abbrev pub is_in_way : List (List ℕ) → List EntryText → EntryText → Bool
is_in_way targets planned e = is_stale targets planned e && has_name e.name planned

-- a stale link that can stay until the links of the plan are created
abbrev pub is_left_over : List (List ℕ) → List EntryText → EntryText → Bool
is_left_over targets planned e = is_stale targets planned e && not (has_name e.name planned)

-- a link that the folder does not hold
abbrev pub is_missing : List EntryText → EntryText → Bool
is_missing held link = not (list_any (same_entry link) held)

abbrev pub removal : Level → EntryText → ChangeText
removal level e = change_of Remove level e

abbrev pub making : Level → EntryText → ChangeText
making level e = change_of Make level e

-- the changes to a folder: remove the links in the way, then create the missing links, and then remove the other stale
-- links
abbrev pub changes_of : List (List ℕ) → FolderText → List ChangeText
changes_of targets f =
    map (removal f.level) (filter (is_in_way targets f.planned) f.held)
    ++ map (making f.level) (filter (is_missing f.held) f.planned)
    ++ map (removal f.level) (filter (is_left_over targets f.planned) f.held)

-- the entries of a folder after the changes: its entries without the stale links, and then the links of the plan that
-- were missing
abbrev pub settled : List (List ℕ) → List EntryText → List EntryText → List EntryText
settled targets planned held =
    filter (λ e. not (is_stale targets planned e)) held ++ filter (is_missing held) planned
