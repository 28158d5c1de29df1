-- Sets of names, of entries in folders, and of links.
use Rattle.std.specs.Prelude.{◌≡◌, ℕ, Bool, true, false, not, ◌&&◌, if◌then◌else◌, List, map, nat_eq}
use Rattle.std.specs.Borrow.{Bor}
use Rattle.std.specs.List.{filter, list_any}
use Rattle.std.specs.Str.{bytes_eq}
use Rattle.indexmap.specs.IndexSet.{IndexSet, contains_by}
use Rattle.rc_links.specs.Changes.{is_numbered}
use Rattle.rc_links.specs.Entries.{has_name, same_entry}
use Rattle.rc_links.specs.EntryText.{EntryText}
use Rattle.rc_links.specs.FolderText.{FolderText}
use Rattle.rc_links.specs.Kept.{is_link_of, levels_in, target_in}
use Rattle.rc_links.specs.Names.{is_name}
use Rattle.init_words.specs.declared.levels.Level.{Level}

abbrev pub NameSet : Type 0 → Type 0
NameSet S = IndexSet (Bor (List ℕ)) S

-- a set of entries, each represented by its name and its target
abbrev pub EntrySet : Type 0 → Type 0
EntrySet S = IndexSet (Bor (List ℕ) × Bor (List ℕ)) S

-- the set has the name
abbrev pub is_among : {S : Type 0} → NameSet S → List ℕ → Bool
is_among names name = contains_by (λ key. bytes_eq name key.now) names

-- the set has the entry
abbrev pub is_entry_of : {S : Type 0} → EntrySet S → EntryText → Bool
is_entry_of entries e = contains_by (λ key. bytes_eq e.name key.0.now && bytes_eq e.leads key.1.now) entries

-- the name was added to the set
abbrev pub GainsName : {S : Type 0} → NameSet S → NameSet S → List ℕ → Type 0
GainsName old new given =
    (name : List ℕ) → is_among new name ≡ (if bytes_eq given name then true else is_among old name)

-- the entry was added to the set
abbrev pub GainsEntry : {S : Type 0} → EntrySet S → EntrySet S → EntryText → Type 0
GainsEntry old new given =
    (e : EntryText) → is_entry_of new e ≡ (if same_entry given e then true else is_entry_of old e)

-- the set has exactly these names
abbrev pub HasNames : {S : Type 0} → NameSet S → List (List ℕ) → Type 0
HasNames set names = (name : List ℕ) → is_among set name ≡ list_any (bytes_eq name) names

-- the set has exactly the names of these entries
abbrev pub HasNamesOf : {S : Type 0} → NameSet S → List EntryText → Type 0
HasNamesOf set entries = (name : List ℕ) → is_among set name ≡ has_name name entries

-- the set has exactly these entries
abbrev pub HasEntries : {S : Type 0} → EntrySet S → List EntryText → Type 0
HasEntries set entries = (e : EntryText) → is_entry_of set e ≡ list_any (same_entry e) entries

-- a numbered link with one of the targets
abbrev pub leads_among : {S : Type 0} → NameSet S → EntryText → Bool
leads_among targets e = is_numbered e.name && is_among targets e.leads

-- an entry that has one of the names and is not a numbered link with one of the targets
abbrev pub is_taken_by : {R S : Type 0} → NameSet R → NameSet S → EntryText → Bool
is_taken_by targets names e = is_among names e.name && not (leads_among targets e)

-- the entry is a link to an init script whose name is not in the set
abbrev pub is_gone_by : {S : Type 0} → NameSet S → EntryText → Bool
is_gone_by names e = is_name (target_in e.leads) && not (is_among names (target_in e.leads))

-- a numbered link with one of the targets that is not in the plan
abbrev pub is_stale_by : {R S : Type 0} → NameSet R → EntrySet S → EntryText → Bool
is_stale_by targets planned e = leads_among targets e && not (is_entry_of planned e)

-- the entry must be removed: for `true`, before the links of the plan are created, because one of them has its name;
-- for `false`, after that, because none has its name
abbrev pub is_removed_by : {R S T : Type 0} → Bool → NameSet R → EntrySet S → NameSet T → EntryText → Bool
is_removed_by true targets planned names e = is_stale_by targets planned e && is_among names e.name
is_removed_by false targets planned names e = is_stale_by targets planned e && not (is_among names e.name)

-- a set of numbered links, each represented by its letter and the name of its script
abbrev pub LinkSet : Type 0 → Type 0
LinkSet S = IndexSet (ℕ × Bor (List ℕ)) S

-- the set has a link to the script with this name that begins with the letter
abbrev pub has_link : {S : Type 0} → ℕ → List ℕ → LinkSet S → Bool
has_link letter name links = contains_by (λ key. nat_eq letter key.0 && bytes_eq name key.1.now) links

-- the entry was added to the set of links, if it is a numbered link
abbrev pub GainsLink : {S : Type 0} → LinkSet S → LinkSet S → EntryText → Type 0
GainsLink old new e = (letter : ℕ) (name : List ℕ)
    → has_link letter name new ≡ (if is_link_of letter name e then true else has_link letter name old)

-- the set has exactly the links among these entries
abbrev pub HasLinks : {S : Type 0} → LinkSet S → List EntryText → Type 0
HasLinks links entries = (letter : ℕ) (name : List ℕ)
    → has_link letter name links ≡ list_any (is_link_of letter name) entries

-- the runlevels whose set has a link to the script with this name that begins with the letter
abbrev pub levels_by : {S : Type 0} → ℕ → List ℕ → List (Level × LinkSet S) → List Level
levels_by letter name links = map (λ pair. pair.0) (filter (λ pair. has_link letter name pair.1) links)

-- the sets contain exactly the links in the folders
abbrev pub AreLinksOf : {S : Type 0} → List (Level × LinkSet S) → List FolderText → Type 0
AreLinksOf links folders = (letter : ℕ) (name : List ℕ) → levels_by letter name links ≡ levels_in letter name folders
