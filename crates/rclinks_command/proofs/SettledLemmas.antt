-- The changes, one after another, make a plan's folders hold its links.
use Rattle.rclinks_command.proofs.Words.{◌≡◌, ℕ, Bool, true, false, not, ◌&&◌, ◌||◌, cond, List, [], ◌∷◌, ◌++◌, map}
use Rattle.rclinks_command.proofs.Words.{flat_map, Some, refl, sym, ap, ◌∙◌, subst, arith, AllByRecursion, filter}
use Rattle.rclinks_command.proofs.Words.{list_any, bytes_eq, true≢false, and_left, or_left, or_right, ChangeText}
use Rattle.rclinks_command.proofs.Words.{changes_of, is_in_way, is_left_over, is_missing, is_stale, making, removal}
use Rattle.rclinks_command.proofs.Words.{settled, EntryText, PlannedText, KnownFolders, changed_by, AreFolders}
use Rattle.rclinks_command.proofs.Words.{IsFolder, all_levels, changes_in, planned_at, settled_in}
use Rattle.std.proofs.lemmas.List.Elements.{filter-append, filter_agree}
use Rattle.std.proofs.lemmas.Map.Views.{any-filter_same}
use Rattle.init_words.specs.declared.levels.Level.{Level}
use Rattle.init_words.specs.declared.levels.Level.TheVariants.{L0, L1, L2, L3, L4, L5, L6, L7, L8, L9, S}
use Rattle.init_words.specs.Levels.{same_level}
use Rattle.init_words.proofs.Same.{same_level-is, same_level-self}
use Rattle.init_words.proofs.Tests.{all_filter, any_filtered, filter_both}
use Rattle.rc_links.specs.Entries.{has_name, same_entry}
use Rattle.rc_links.specs.FolderText.{FolderText}
use Rattle.rc_links.specs.Mending.{held_behind}
use Rattle.rc_links.proofs.LinkLemmas.{same_bytes}
use Rattle.rc_links.proofs.MendingLemmas.{all_among, behind_more, elsewhere, entry_itself, has, made, none_of_folder}
use Rattle.rc_links.proofs.MendingLemmas.{none_of_folders, not_stale, one_entry}

-- changes followed by others
pub changed_by-append : (dir : List ℕ) (a b : List ChangeText) (other : List ℕ) (level : Level) (es : List EntryText)
    → changed_by dir (a ++ b) other level es ≡ changed_by dir b other level (changed_by dir a other level es)
changed_by-append dir a b other level es = by (bytes_eq dir other)
  where
    by : (at : Bool) → cond at (held_behind (a ++ b) level es) es ≡ cond
        at (held_behind b level (cond at (held_behind a level es) es)) (cond at (held_behind a level es) es)
    by true = behind_more a b level es
    by false = refl

filter_twice : {X : Type 0} (p q r : X → Bool) (xs : List X) → ((x : X) → r x ≡ (q x && p x))
    → filter p (filter q xs) ≡ filter r xs
filter_twice p q r xs is = filter_both p q xs ∙ sym (filter_agree r (λ x. q x && p x) is xs)

nor : (a b : Bool) → not (a || b) ≡ (not a && not b)
nor a b = grind arith

-- links that are removed
removed : (k : Level) (xs es : List EntryText)
    → held_behind (map (removal k) xs) k es ≡ filter (λ e. not (list_any (λ x. same_entry x e) xs)) es
removed k [] es = filter_whole es
  where
    filter_whole : (es : List EntryText) → es ≡ filter (λ e. true) es
    filter_whole [] = refl
    filter_whole (e ∷ es) = ap (λ ys. e ∷ ys) (filter_whole es)
removed k (x ∷ xs) es =
    ap (λ b. held_behind (map (removal k) xs) k (cond b (filter (λ e. not (same_entry x e)) es) es)) (same_level-self k)
    ∙ removed k xs (filter (λ e. not (same_entry x e)) es)
    ∙ filter_twice (λ e. not (list_any (λ y. same_entry y e) xs)) (λ e. not (same_entry x e))
    (λ e. not (same_entry x e || list_any (λ y. same_entry y e) xs)) es
    (λ e. nor (same_entry x e) (list_any (λ y. same_entry y e) xs))

-- filtered entries include an entry if it passes the test and was included
any_kept : (p : EntryText → Bool) (e : EntryText) (es : List EntryText)
    → list_any (λ y. same_entry y e) (filter p es) ≡ (p e && list_any (λ y. same_entry y e) es)
any_kept p e es = any-filter_same (λ y. same_entry y e) p (p e) (λ y is. ap p (one_entry y e is)) es

-- of entries that are all in a list, those that pass the test and are in the list are those that pass the test
fails : (p : EntryText → Bool) (es all : List EntryText)
    → ((e : EntryText) → list_any (λ y. same_entry y e) es ≡ true → list_any (λ y. same_entry y e) all ≡ true)
    → filter (λ e. not (p e && list_any (λ y. same_entry y e) all)) es ≡ filter (λ e. not (p e)) es
fails p [] all among = refl
fails p (x ∷ es) all among =
    let here = among x (or_left (same_entry x x) (list_any (λ y. same_entry y x) es) (entry_itself x)) in
    let rest = fails p es all (λ e is. among e (or_right (same_entry x e) (list_any (λ y. same_entry y e) es) is)) in
    grind (arith, here, rest)

-- the entries that are removed are those that pass the test
removed_by : (k : Level) (p : EntryText → Bool) (es : List EntryText)
    → held_behind (map (removal k) (filter p es)) k es ≡ filter (λ e. not (p e)) es
removed_by k p es =
    removed k (filter p es) es
    ∙ filter_agree (λ e. not (list_any (λ y. same_entry y e) (filter p es)))
    (λ e. not (p e && list_any (λ y. same_entry y e) es)) (λ e. ap not (any_kept p e es)) es
    ∙ fails p es es (λ e is. is)

parted : (stale named : Bool) → not stale ≡ (not (stale && named) && not (stale && not named))
parted stale named = grind arith

-- if all elements pass the test, filtering changes nothing
filter_all : {X : Type 0} (p : X → Bool) (xs : List X) → AllByRecursion (λ x. p x ≡ true) xs → filter p xs ≡ xs
filter_all p [] all = refl
filter_all p (x ∷ xs) all =
    ap (λ b. cond b (x ∷ filter p xs) (filter p xs)) all.0 ∙ ap (λ ys. x ∷ ys) (filter_all p xs all.1)

all_stay : (targets : List (List ℕ)) (planned es links : List EntryText)
    → AllByRecursion (λ e. has e planned ≡ true) links
    → AllByRecursion (λ e. not (is_left_over targets planned e && list_any (λ y. same_entry y e) es) ≡ true) links
all_stay targets planned es [] all = tt
all_stay targets planned es (e ∷ links) all =
    let stale = not_stale targets planned e all.0 in
    let over : is_left_over targets planned e ≡ false =
    and_left (is_stale targets planned e) (not (has_name e.name planned)) stale in (
      ap not (and_left (is_left_over targets planned e) (list_any (λ y. same_entry y e) es) over),
      all_stay targets planned es links all.1,
    )

-- left-over links are removed after the new ones were created, and those in the way are gone
left_over_goes : (targets : List (List ℕ)) (planned es : List EntryText)
    → filter (λ e. not (list_any (λ x. same_entry x e) (filter (is_left_over targets planned) es)))
    (filter (λ e. not (is_in_way targets planned e)) es ++ filter (is_missing es) planned) ≡ settled targets planned es
left_over_goes targets planned es =
    let kept = filter (λ e. not (is_in_way targets planned e)) es in
    let links = filter (is_missing es) planned in
    let stays : EntryText → Bool = λ e. not (is_left_over targets planned e && list_any (λ y. same_entry y e) es) in
    filter_agree (λ e. not (list_any (λ y. same_entry y e) (filter (is_left_over targets planned) es))) stays
    (λ e. ap not (any_kept (is_left_over targets planned) e es)) (kept ++ links)
    ∙ filter-append stays kept links
    ∙ ap (λ ys. ys ++ filter stays links)
    (fails (is_left_over targets planned) kept es
    (λ e. any_filtered (λ y. same_entry y e) (λ x. not (is_in_way targets planned x)) es)
    ∙ filter_twice (λ e. not (is_left_over targets planned e)) (λ e. not (is_in_way targets planned e))
    (λ e. not (is_stale targets planned e)) es (λ e. parted (is_stale targets planned e) (has_name e.name planned)))
    ∙ ap (λ ys. filter (λ e. not (is_stale targets planned e)) es ++ ys)
    (filter_all stays links (all_stay targets planned es links
    (all_filter (λ e. has e planned ≡ true) (is_missing es) planned (all_among planned planned (λ e is. is)))))

-- the changes of a folder settle it
own_folder : (k : Level) (targets : List (List ℕ)) (planned es : List EntryText)
    → held_behind (map (removal k) (filter (is_in_way targets planned) es) ++ map (making k)
    (filter (is_missing es) planned) ++ map (removal k) (filter (is_left_over targets planned) es)) k es
    ≡ settled targets planned es
own_folder k targets planned es =
    let ways = map (removal k) (filter (is_in_way targets planned) es) in
    let links = filter (is_missing es) planned in
    let rest = map (removal k) (filter (is_left_over targets planned) es) in
    let kept = filter (λ e. not (is_in_way targets planned e)) es in
    behind_more (ways ++ map (making k) links) rest k es
    ∙ ap (held_behind rest k)
    (behind_more ways (map (making k) links) k es
    ∙ ap (held_behind (map (making k) links) k) (removed_by k (is_in_way targets planned) es) ∙ made k links kept)
    ∙ removed k (filter (is_left_over targets planned) es) (kept ++ links)
    ∙ left_over_goes targets planned es

-- no level occurs twice
abbrev once : List Level → Type 0
once [] = Unit {0}
once (k ∷ levels) = (list_any (λ l. same_level l k) levels ≡ false) × once levels

has_level_of : (level : Level) (folders : List FolderText) → list_any (λ l. same_level l level)
    (map (λ (f : FolderText). f.level) folders) ≡ list_any (λ (f : FolderText). same_level f.level level) folders
has_level_of level [] = refl
has_level_of level (f ∷ folders) = ap (λ b. same_level f.level level || b) (has_level_of level folders)

-- the changes of all folders settle the one that is known to hold these entries
settles_by : (known : KnownFolders) (dir : List ℕ) (level : Level) (plan : List PlannedText) (targets : List (List ℕ))
    (folders : List FolderText) (es : List EntryText)
    → AllByRecursion (IsFolder known dir plan) folders → once (map (λ (f : FolderText). f.level) folders)
    → known dir level ≡ Some es → list_any (λ (f : FolderText). same_level f.level level) folders ≡ true
    → held_behind (flat_map (changes_of targets) folders) level es ≡ settled targets (planned_at plan level) es
settles_by known dir level plan targets [] es each single holds there = absurd (true≢false (sym there))
settles_by known dir level plan targets (f ∷ folders) es each single holds there =
    behind_more (changes_of targets f) (flat_map (changes_of targets) folders) level es
    ∙ by (same_level f.level level) refl (λ differs. settles_by known dir level plan targets folders es each.1 single.1
    holds (sym (ap (λ b. b || list_any (λ (g : FolderText). same_level g.level level) folders) differs) ∙ there))
  where
    by : (b : Bool) → same_level f.level level ≡ b → (same_level f.level level ≡ false
        → held_behind (flat_map (changes_of targets) folders) level es ≡ settled targets (planned_at plan level) es)
        → held_behind (flat_map (changes_of targets) folders) level (held_behind (changes_of targets f) level es)
        ≡ settled targets (planned_at plan level) es
    by true same others =
        let one : f.level ≡ level = same_level-is f.level level same in
        let held : f.held ≡ es = each.0.held es (ap (known dir) one ∙ holds) in
        let absent = sym (has_level_of level folders)
        ∙ ap (λ l. list_any (λ k. same_level k l) (map (λ (g : FolderText). g.level) folders)) (sym one) ∙ single.0 in
        elsewhere (flat_map (changes_of targets) folders) level (held_behind (changes_of targets f) level es)
        (none_of_folders targets level folders absent)
        ∙ (λ i. held_behind (changes_of targets f) (sym one i) (sym held i))
        ∙ own_folder f.level targets f.planned f.held
        ∙ (λ i. settled targets (each.0.planned i) (held i)) ∙ ap (λ l. settled targets (planned_at plan l) es) one
    by false differs others =
        ap (held_behind (flat_map (changes_of targets) folders) level)
        (elsewhere (changes_of targets f) level es (none_of_folder targets f level differs)) ∙ others differs

every_level : (level : Level) → list_any (λ l. same_level l level) all_levels ≡ true
every_level L0 = refl
every_level L1 = refl
every_level L2 = refl
every_level L3 = refl
every_level L4 = refl
every_level L5 = refl
every_level L6 = refl
every_level L7 = refl
every_level L8 = refl
every_level L9 = refl
every_level S = refl

all_once : once all_levels
all_once = (refl, (refl, (refl, (refl, (refl, (refl, (refl, (refl, (refl, (refl, (refl, tt)))))))))))

-- the changes that all folders of a directory need settle them, and no others
pub settles : (known : KnownFolders) (dir other : List ℕ) (level : Level) (plan : List PlannedText)
    (targets : List (List ℕ)) (folders : List FolderText) (es : List EntryText)
    → AreFolders known dir plan folders → known other level ≡ Some es
    → changed_by dir (changes_in targets folders) other level es ≡ settled_in dir targets plan other level es
settles known dir other level plan targets folders es are holds = by (bytes_eq dir other) refl
  where
    by : (at : Bool) → bytes_eq dir other ≡ at → cond at (held_behind (changes_in targets folders) level es) es ≡ cond
        at (settled targets (planned_at plan level) es) es
    by true at = settles_by known dir level plan targets folders es are.each (subst once (sym are.levels) all_once)
        (ap (λ d. known d level) (same_bytes dir other at) ∙ holds)
        (sym (has_level_of level folders) ∙ ap (λ ls. list_any (λ l. same_level l level) ls) are.levels
        ∙ every_level level)
    by false differs = refl
