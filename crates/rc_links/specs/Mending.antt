-- The entries of folders after only some of the changes were made, and the effect of the next run on them.
use Rattle.std.specs.Prelude.{◌≡◌, ℕ, false, not, ◌&&◌, if◌then◌else◌, List, [], ◌∷◌, ◌++◌}
use Rattle.std.specs.List.{AllByRecursion, filter, list_any}
use Rattle.std.specs.Str.{byte}
use Rattle.init_words.specs.declared.levels.Level.{Level}
use Rattle.init_words.specs.Levels.{same_level}
use Rattle.rc_links.specs.ChangeText.{ChangeText}
use Rattle.rc_links.specs.Changes.{is_in_way, settled}
use Rattle.rc_links.specs.Entries.{same_entry}
use Rattle.rc_links.specs.EntryText.{EntryText}
use Rattle.rc_links.specs.FolderText.{FolderText}
use Rattle.rc_links.specs.Kept.{is_link_of}
use Rattle.rc_links.specs.declared.folders.LinkAction.{LinkAction}
use Rattle.rc_links.specs.declared.folders.LinkAction.TheVariants.{Make, Remove}

-- the entries after the removal or creation of this entry
abbrev pub changed : LinkAction → EntryText → List EntryText → List EntryText
changed Remove e es = filter (λ other. not (same_entry e other)) es
changed Make e es = es ++ e ∷ []

-- the entries of the folder of a runlevel after changes; each change applies only to the folder of its runlevel
abbrev pub held_behind : List ChangeText → Level → List EntryText → List EntryText
held_behind [] level es = es
held_behind (c ∷ changes) level es =
    held_behind changes level (if same_level c.level level then changed c.act c.entry es else es)

-- a folder after changes
abbrev pub behind : List ChangeText → FolderText → FolderText
behind changes f = record f { held = held_behind changes f.level f.held }

-- no two of the folders have the same runlevel
abbrev pub AreApart : List FolderText → Type 0
AreApart [] = Unit {0}
AreApart (f ∷ folders) =
    (list_any (λ (g : FolderText). same_level g.level f.level) folders ≡ false) × AreApart folders

-- the same entries are in both lists
abbrev pub HoldSame : List EntryText → List EntryText → Type 0
HoldSame es others = (e : EntryText) → list_any (same_entry e) es ≡ list_any (same_entry e) others

-- if only these changes were made, the next run with the same plan leaves the same entries in the folder as a complete
-- run
abbrev pub IsMended : List (List ℕ) → List ChangeText → FolderText → Type 0
IsMended targets changes f =
    HoldSame (settled targets f.planned (behind changes f).held) (settled targets f.planned f.held)

-- the plan and the folder both have a link to the script that begins with the letter, or neither has one; and no such
-- link in the folder is in the way
pub record StaysIn (targets : List (List ℕ)) (letter : ℕ) (name : List ℕ) (f : FolderText) : Type 0 where
  pub both : list_any (is_link_of letter name) f.planned ≡ list_any (is_link_of letter name) f.held
  pub clear : list_any (λ e. is_link_of letter name e && is_in_way targets f.planned e) f.held ≡ false

-- the plan leaves the script in the runlevels of its links
abbrev pub Stays : List (List ℕ) → List ℕ → List FolderText → Type 0
Stays targets name folders = AllByRecursion (StaysIn targets (byte "S") name) folders
    × AllByRecursion (StaysIn targets (byte "K") name) folders
