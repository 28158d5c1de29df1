-- How rclinks changes the folders of a directory for a plan.
use Rattle.std.specs.Prelude.{◌≡◌, ℕ, Bool, true, false, if◌then◌else◌, List, [], ◌∷◌, ◌++◌, map, flat_map, take, codes}
use Rattle.std.specs.Prelude.{Some}
use Rattle.std.specs.List.{AllByRecursion, filter, list_any}
use Rattle.std.specs.Str.{bytes_eq}
use Rattle.init_words.specs.declared.levels.Level.{Level}
use Rattle.init_words.specs.declared.levels.Level.TheVariants.{L0, L1, L2, L3, L4, L5, L6, L7, L8, L9, S}
use Rattle.init_words.specs.Levels.{level_code}
use Rattle.rc_links.specs.ChangeText.{ChangeText}
use Rattle.rc_links.specs.Changes.{changes_of, is_taken, settled}
use Rattle.rc_links.specs.Entries.{entry_of}
use Rattle.rc_links.specs.EntryText.{EntryText}
use Rattle.rc_links.specs.FolderText.{FolderText}
use Rattle.rc_links.specs.Kept.{is_gone, kept_plan}
use Rattle.rc_links.specs.declared.folders.LinkAction.{LinkAction}
use Rattle.rc_links.specs.declared.folders.LinkAction.TheVariants.{Make, Remove}
use Rattle.rc_links.specs.Links.{linked_name, links_at}
use Rattle.rc_links.specs.PlannedText.{PlannedText}
use Rattle.rclinks_command.specs.Folders.{Becomes, KnownFolders, KnownScripts, changed_by}

-- the runlevels that have a folder
abbrev pub all_levels : List Level
all_levels = L0 ∷ L1 ∷ L2 ∷ L3 ∷ L4 ∷ L5 ∷ L6 ∷ L7 ∷ L8 ∷ L9 ∷ S ∷ []

-- the target of the link to a script
abbrev pub target_of : List ℕ → List ℕ
target_of name = codes "../init.d/" ++ name

-- the targets of the links to a plan's scripts
abbrev pub targets_in : List PlannedText → List (List ℕ)
targets_in plan = map target_of (map (λ (s : PlannedText). s.name) plan)

-- a link as an entry of a folder
abbrev pub link_entry : List ℕ → EntryText
link_entry link = entry_of link (target_of (linked_name link))

-- the plan's links as entries of a runlevel's folder
abbrev pub planned_at : List PlannedText → Level → List EntryText
planned_at plan level = map link_entry (links_at plan level)

-- the folder of a runlevel in a directory, with the plan's links, and with the entries that it holds if these are known
pub record IsFolder (known : KnownFolders) (dir : List ℕ) (plan : List PlannedText) (f : FolderText) : Type 0 where
  pub planned : f.planned ≡ planned_at plan f.level
  pub held : (es : List EntryText) → known dir f.level ≡ Some es → f.held ≡ es

-- the folders of all runlevels
pub record AreFolders (known : KnownFolders) (dir : List ℕ) (plan : List PlannedText)
    (folders : List FolderText) : Type 0 where
  pub each : AllByRecursion (IsFolder known dir plan) folders
  pub levels : map (λ (f : FolderText). f.level) folders ≡ all_levels

-- a name that the plan needs in one of the folders is occupied
abbrev pub has_taken : List (List ℕ) → List FolderText → Bool
has_taken targets folders = list_any (λ (f : FolderText). list_any (is_taken targets f.planned) f.held) folders

-- the targets of those links in a folder that lead to an init script that is not in the list
abbrev pub gone_at : List EntryText → FolderText → List (List ℕ)
gone_at scripts f = map (λ (e : EntryText). e.leads) (filter (is_gone scripts) f.held)

-- The targets for which the numbered links are made to match the plan: the scripts in the plan and, with --prune, the
-- scripts that are gone.
abbrev pub AreTargets : Bool → KnownScripts → List ℕ → List PlannedText → List FolderText → List (List ℕ) → Type 0
AreTargets false known dir plan folders targets = targets ≡ targets_in plan
AreTargets true known dir plan folders targets = (scripts : List EntryText)
    × ((es : List EntryText) → known dir ≡ Some es → scripts ≡ es)
    × (targets ≡ targets_in plan ++ flat_map (gone_at scripts) folders)

-- the changes after which the folders' links with these targets match the plan
abbrev pub changes_in : List (List ℕ) → List FolderText → List ChangeText
changes_in targets folders = flat_map (changes_of targets) folders

-- the only numbered links with these targets in the directory's folders are those of the plan; the other entries of
-- these folders, and all other folders, are unchanged
abbrev pub settled_in : List ℕ → List (List ℕ) → List PlannedText → List ℕ → Level → List EntryText → List EntryText
settled_in dir targets plan other level es =
    if bytes_eq dir other then settled targets (planned_at plan level) es else es

-- the word for a change
abbrev pub act_word : LinkAction → List ℕ
act_word Remove = codes "remove"
act_word Make = codes "make"

-- the line that is printed for a change
abbrev pub change_line : ChangeText → List ℕ
change_line c =
    act_word c.act ++ codes " rc" ++ level_code c.level ∷ codes ".d/" ++ c.entry.name ++ codes " "
    ++ c.entry.leads ++ codes "\n"

abbrev pub changes_text : List ChangeText → List ℕ
changes_text changes = flat_map change_line changes

-- a name that the plan needs in the directory's folders is occupied
abbrev pub IsTaken : KnownFolders → KnownScripts → Bool → List ℕ → List PlannedText → Type 0
IsTaken known scripts prunes dir plan = (folders : List FolderText) × (targets : List (List ℕ))
    × AreFolders known dir plan folders × AreTargets prunes scripts dir plan folders targets
    × (has_taken targets folders ≡ true)

-- no name that the plan needs is occupied, and these are the changes that the folders need
pub record NeededChanges (known : KnownFolders) (scripts : KnownScripts) (prunes : Bool) (dir : List ℕ)
    (plan : List PlannedText)
    (changes : List ChangeText) : Type 0 where
  pub folders : List FolderText
  pub targets : List (List ℕ)
  pub are : AreFolders known dir plan folders
  pub aimed : AreTargets prunes scripts dir plan folders targets
  pub free : has_taken targets folders ≡ false
  pub whole : changes ≡ changes_in targets folders

-- the text of the changes that the folders need
abbrev pub Previews : KnownFolders → KnownScripts → Bool → List ℕ → List PlannedText → List ℕ → Type 0
Previews known scripts prunes dir plan text =
    (changes : List ChangeText) × NeededChanges known scripts prunes dir plan changes × (text ≡ changes_text changes)

-- no name was occupied, and after the run the folders of the directory hold the plan's links
abbrev pub IsWritten : KnownFolders → KnownScripts → Bool → List ℕ → List PlannedText → KnownFolders → Type 0
IsWritten known scripts prunes dir plan after =
    (changes : List ChangeText) × (wanted : NeededChanges known scripts prunes dir plan changes)
    × Becomes known after (settled_in dir wanted.targets plan)

-- a first part of the changes that the folders need was made
abbrev pub IsWrittenPart : KnownFolders → KnownScripts → Bool → List ℕ → List PlannedText → KnownFolders → Type 0
IsWrittenPart known scripts prunes dir plan after =
    (changes : List ChangeText) × (count : ℕ) × NeededChanges known scripts prunes dir plan changes
    × Becomes known after (changed_by dir (take count changes))

-- the property holds for the plan; with --keep, for the plan with the runlevels of the existing links
abbrev pub InFolders : Bool → KnownFolders → List ℕ → List PlannedText → (List PlannedText → Type 0) → Type 0
InFolders false known dir plan P = P plan
InFolders true known dir plan P =
    (folders : List FolderText) × AreFolders known dir plan folders × P (kept_plan folders plan)
