-- The runlevels that the links in the folders give to a script, and links whose script is gone.
use Rattle.std.specs.Prelude.{ℕ, Bool, true, false, not, ◌==◌, ◌&&◌, if◌then◌else◌, List, [], ◌∷◌, map, drop, take}
use Rattle.std.specs.Prelude.{codes}
use Rattle.std.specs.List.{filter, list_any}
use Rattle.std.specs.Str.{byte, bytes_eq}
use Rattle.init_words.specs.declared.levels.Level.{Level}
use Rattle.rc_links.specs.Changes.{is_numbered}
use Rattle.rc_links.specs.Entries.{has_name}
use Rattle.rc_links.specs.EntryText.{EntryText}
use Rattle.rc_links.specs.FolderText.{FolderText}
use Rattle.rc_links.specs.Names.{is_name}
use Rattle.rc_links.specs.PlannedText.{PlannedText}

abbrev pub begins_with : ℕ → List ℕ → Bool
begins_with letter [] = false
begins_with letter (b ∷ name) = b == letter

-- the name after `../init.d/` in the target of a link; empty if the target begins differently
abbrev pub target_in : List ℕ → List ℕ
target_in leads = if bytes_eq (take 10 leads) (codes "../init.d/") then drop 10 leads else []

-- the entry is a numbered link to the script with this name, and its name begins with the letter
abbrev pub is_link_of : ℕ → List ℕ → EntryText → Bool
is_link_of letter name e = begins_with letter e.name && (is_numbered e.name && bytes_eq (target_in e.leads) name)

-- the runlevels whose folders hold a link to the script with this name that begins with the letter
abbrev pub levels_in : ℕ → List ℕ → List FolderText → List Level
levels_in letter name folders =
    map (λ (f : FolderText). f.level) (filter (λ (f : FolderText). list_any (is_link_of letter name) f.held) folders)

-- both lists of runlevels are empty
abbrev pub is_nowhere : List Level → List Level → Bool
is_nowhere [] [] = true
is_nowhere _ _ = false

-- the script with its runlevels replaced by the given ones, unless both lists are empty
abbrev pub with_levels : List Level → List Level → PlannedText → PlannedText
with_levels starts stops s = if is_nowhere starts stops then s else record s { starts = starts; stops = stops }

-- a script with the runlevels of its links, if it has any
abbrev pub kept_script : List FolderText → PlannedText → PlannedText
kept_script folders s = with_levels (levels_in (byte "S") s.name folders) (levels_in (byte "K") s.name folders) s

-- a plan with the runlevels of the existing links
abbrev pub kept_plan : List FolderText → List PlannedText → List PlannedText
kept_plan folders plan = map (kept_script folders) plan

-- the entry is a link to an init script that is not in the list
abbrev pub is_gone : List EntryText → EntryText → Bool
is_gone scripts e = is_name (target_in e.leads) && not (has_name (target_in e.leads) scripts)
