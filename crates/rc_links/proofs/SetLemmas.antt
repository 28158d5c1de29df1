-- Lemmas on sets of names, entries and links, and on tests that use them.
use Rattle.rc_links.proofs.Words.{◌≡◌, ◌∙◌, ℕ, Bool, true, false, not, ◌&&◌, ◌||◌, List, [], ◌∷◌, ◌++◌, refl, sym, ap}
use Rattle.rc_links.proofs.Words.{arith, bytes_eq, filter, get_or, list_any, map, append_assoc, true≢false}
use Rattle.rc_links.proofs.Words.{Level, ChangeText, EntryText, FolderText, changes_of, is_in_way, is_left_over}
use Rattle.rc_links.proofs.Words.{is_link_of, is_missing, is_numbered, is_taken, levels_in, making, removal, same_entry}
use Rattle.rc_links.proofs.Words.{HasEntries, HasLinks, HasNames, HasNamesOf, has_link, is_entry_of, is_gone_by}
use Rattle.rc_links.proofs.Words.{is_removed_by, is_taken_by, levels_by}
use Rattle.std.specs.Prelude.{if◌then◌else◌, nat_eq}
use Rattle.rc_links.specs.Kept.{begins_with, is_gone, target_in}
use Rattle.rc_links.specs.Sets.{EntrySet, LinkSet, NameSet}
use Rattle.rc_links.proofs.NameLemmas.{bytes_eq-sym}
use Rattle.std.proofs.lemmas.List.Elements.{filter_agree}

or_next : (x a rest : Bool) → (if x then true else a) || rest ≡ a || (x || rest)
or_next x a rest = grind arith

-- whether the names added so far and the remaining ones contain a name, after one more was added
pub name-gained : (given name : List ℕ) (a rest : Bool)
    → (if bytes_eq given name then true else a) || rest ≡ a || (bytes_eq name given || rest)
name-gained given name a rest = rw (bytes_eq-sym name given) (or_next (bytes_eq given name) a rest)

same_entry-sym : (a b : EntryText) → same_entry a b ≡ same_entry b a
same_entry-sym a b = rw (bytes_eq-sym a.name b.name, bytes_eq-sym a.leads b.leads) refl

pub entry-gained : (given e : EntryText) (a rest : Bool)
    → (if same_entry given e then true else a) || rest ≡ a || (same_entry e given || rest)
entry-gained given e a rest = rw (same_entry-sym e given) (or_next (same_entry given e) a rest)

-- the same for links
pub link-next : (x a rest : Bool) → (if x then true else a) || rest ≡ a || (x || rest)
link-next x a rest = or_next x a rest

-- the tests that use sets agree with those that use the lists
module _ {R S T : Type 0} (targets : NameSet R) (planned : EntrySet S) (names : NameSet T)
    (places : List (List ℕ)) (links : List EntryText)
    (those : HasNames targets places) (theirs : HasEntries planned links) (called : HasNamesOf names links) where
  pub in_way : (held : List EntryText)
      → filter (is_removed_by true targets planned names) held ≡ filter (is_in_way places links) held
  in_way held = filter_agree (is_removed_by true targets planned names) (is_in_way places links)
      (λ e. rw (those e.leads, theirs e, called e.name) refl) held

  pub left_over : (held : List EntryText)
      → filter (is_removed_by false targets planned names) held ≡ filter (is_left_over places links) held
  left_over held = filter_agree (is_removed_by false targets planned names) (is_left_over places links)
      (λ e. rw (those e.leads, theirs e, called e.name) refl) held

pub missing : {S : Type 0} (held : EntrySet S) (entries : List EntryText) → HasEntries held entries
    → (links : List EntryText)
    → filter (λ e. not (is_entry_of held e)) links ≡ filter (is_missing entries) links
missing held entries has links =
    filter_agree (λ e. not (is_entry_of held e)) (is_missing entries) (λ e. rw (has e) refl) links

-- the changes of a folder that are added step by step are all of its changes
pub folder-changed : {Q R S T : Type 0} (targets : NameSet Q) (planned : EntrySet R) (names : NameSet S)
    (held : EntrySet T) (places : List (List ℕ)) (f : FolderText) → HasNames targets places
    → HasEntries planned f.planned → HasNamesOf names f.planned → HasEntries held f.held
    → (old one two new : List ChangeText)
    → one ≡ old ++ map (removal f.level) (filter (is_removed_by true targets planned names) f.held)
    → two ≡ one ++ map (making f.level) (filter (λ e. not (is_entry_of held e)) f.planned)
    → new ≡ two ++ map (removal f.level) (filter (is_removed_by false targets planned names) f.held)
    → new ≡ old ++ changes_of places f
folder-changed targets planned names held places f those theirs called has old one two new first second third =
    let before = map (removal f.level) (filter (is_in_way places f.planned) f.held) in
    let made = map (making f.level) (filter (is_missing f.held) f.planned) in
    let rest = map (removal f.level) (filter (is_left_over places f.planned) f.held) in
    let one_is : one ≡ old ++ before =
    first ∙ ap (λ es. old ++ map (removal f.level) es)
    (in_way targets planned names places f.planned those theirs called f.held) in
    let two_is : two ≡ (old ++ before) ++ made =
    second ∙ (λ i. one_is i ++ map (making f.level) (missing held f.held has f.planned i)) in
    third ∙ (λ i. two_is i ++ map (removal f.level)
    (left_over targets planned names places f.planned those theirs called f.held i))
    ∙ ap (λ cs. cs ++ rest) (append_assoc old before made) ∙ append_assoc old (before ++ made) rest

pub taken_by : {R S : Type 0} (targets : NameSet R) (names : NameSet S) (places : List (List ℕ))
    (links : List EntryText) → HasNames targets places → HasNamesOf names links → (held : List EntryText)
    → filter (is_taken_by targets names) held ≡ filter (is_taken places links) held
taken_by targets names places links those called held =
    filter_agree (is_taken_by targets names) (is_taken places links) (λ e. rw (those e.leads, called e.name) refl) held

pub gone_by : {S : Type 0} (names : NameSet S) (scripts : List EntryText) → HasNamesOf names scripts
    → (held : List EntryText) → filter (is_gone_by names) held ≡ filter (is_gone scripts) held
gone_by names scripts called held =
    filter_agree (is_gone_by names) (is_gone scripts) (λ e. rw (called (target_in e.leads)) refl) held

-- the levels of the remaining sets, depending on whether the next set has a link
pub level_kept : {S : Type 0} (letter : ℕ) (name : List ℕ) (levels : List Level) (pair : Level × LinkSet S)
    (rest : List (Level × LinkSet S)) → has_link letter name pair.1 ≡ true
    → (levels ++ pair.0 ∷ []) ++ levels_by letter name rest ≡ levels ++ levels_by letter name (pair ∷ rest)
level_kept letter name levels pair rest is =
    rw is (append_assoc levels (pair.0 ∷ []) (levels_by letter name rest))

pub level_passed : {S : Type 0} (letter : ℕ) (name : List ℕ) (levels : List Level) (pair : Level × LinkSet S)
    (rest : List (Level × LinkSet S)) → has_link letter name pair.1 ≡ false
    → levels ++ levels_by letter name rest ≡ levels ++ levels_by letter name (pair ∷ rest)
level_passed letter name levels pair rest is = rw is refl

module _ (letter : ℕ) (name : List ℕ) where
  pushed_by : {S : Type 0} (level : Level) (links : LinkSet S) (folder : FolderText) (rest : List FolderText)
      (b : Bool) → has_link letter name links ≡ b → list_any (is_link_of letter name) folder.held ≡ b
      → level ≡ folder.level → levels_by letter name ((level, links) ∷ []) ++ levels_in letter name rest
      ≡ levels_in letter name (folder ∷ rest)
  pushed_by level links folder rest true one other same = rw (one, other, same) refl
  pushed_by level links folder rest false one other same = rw (one, other) refl

  -- the levels of the sets so far and of the remaining folders, after one more
  pub levels-pushed : {S : Type 0} (found : List (Level × LinkSet S)) (level : Level) (links : LinkSet S)
      (folder : FolderText) (rest : List FolderText) → level ≡ folder.level → HasLinks links folder.held
      → levels_by letter name (found ++ (level, links) ∷ []) ++ levels_in letter name rest
      ≡ levels_by letter name found ++ levels_in letter name (folder ∷ rest)
  levels-pushed [] level links folder rest same has = pushed_by level links folder rest
      (list_any (is_link_of letter name) folder.held) (has letter name) refl same
  levels-pushed (pair ∷ found) level links folder rest same has =
      next (has_link letter name pair.1) refl (levels-pushed found level links folder rest same has)
    where
      next : (b : Bool) → has_link letter name pair.1 ≡ b
          → levels_by letter name (found ++ (level, links) ∷ []) ++ levels_in letter name rest
          ≡ levels_by letter name found ++ levels_in letter name (folder ∷ rest)
          → levels_by letter name (pair ∷ (found ++ (level, links) ∷ [])) ++ levels_in letter name rest
          ≡ levels_by letter name (pair ∷ found) ++ levels_in letter name (folder ∷ rest)
      next true is before = rw is (ap (λ ls. pair.0 ∷ ls) before)
      next false is before = rw is before

begins : (letter : ℕ) (name : List ℕ) → is_numbered name ≡ true
    → begins_with letter name ≡ nat_eq (get_or name 0 0) letter
begins letter [] numbered = absurd (true≢false (sym numbered))
begins letter (b ∷ name) numbered = refl

-- whether a set has a link after a numbered link was added
pub link-gained : (e : EntryText) (letter : ℕ) (name : List ℕ) (old new : Bool) → is_numbered e.name ≡ true
    → new ≡ (if nat_eq (get_or e.name 0 0) letter && bytes_eq (target_in e.leads) name then true else old)
    → new ≡ (if is_link_of letter name e then true else old)
link-gained e letter name old new numbered is = rw (begins letter e.name numbered, numbered) is
