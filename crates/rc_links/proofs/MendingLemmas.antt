-- Lemmas on folders when only some of their changes were made: changes of other folders do not matter, entries that are
-- neither ours nor planned stay, and a script whose link is planned and held has one throughout.
use Rattle.rc_links.proofs.Words.{arith, or-false, append_assoc, ◌≡◌, ℕ, zero, suc, Bool, true, false, not, ◌&&◌, ◌||◌}
use Rattle.rc_links.proofs.Words.{cond, List, [], ◌∷◌, ◌++◌, map, take, refl, sym, ap, ◌∙◌, AllByRecursion, filter}
use Rattle.rc_links.proofs.Words.{list_any, byte, bytes_eq, true≢false, and_parts, false_from_ne_true, or_from, or_left}
use Rattle.rc_links.proofs.Words.{or_parts, or_right, append-nil, Level, ChangeText, changes_of, is_in_way}
use Rattle.rc_links.proofs.Words.{is_left_over, is_missing, is_ours, is_stale, making, removal, settled, same_entry}
use Rattle.rc_links.proofs.Words.{EntryText, FolderText, change_of, is_link_of, kept_script, levels_in, with_levels}
use Rattle.rc_links.proofs.Words.{AreApart, HoldSame, IsMended, Stays, StaysIn, behind, changed, held_behind}
use Rattle.rc_links.proofs.Words.{PlannedText}
use Rattle.std.proofs.Common.{flat_map}
use Rattle.std.proofs.lemmas.List.Folds.{list_any-append}
use Rattle.std.proofs.lemmas.Map.Views.{any-filter_same}
use Rattle.init_words.specs.Levels.{same_level}
use Rattle.init_words.proofs.Tests.{all_filter, any_filtered, any_less, falsely, passing}
use Rattle.init_words.proofs.Same.{same_level-is, same_level-self}
use Rattle.rc_links.specs.Entries.{has_name}
use Rattle.rc_links.specs.declared.folders.LinkAction.{LinkAction}
use Rattle.rc_links.specs.declared.folders.LinkAction.TheVariants.{Make, Remove}
use Rattle.rc_links.proofs.LinkLemmas.{same_bytes, same_itself}

-- entries that compare equal are equal
pub one_entry : (a b : EntryText) → same_entry a b ≡ true → a ≡ b
one_entry a b is =
    let both = and_parts (bytes_eq a.name b.name) (bytes_eq a.leads b.leads) is in
    let names : a.name ≡ b.name = same_bytes a.name b.name both.0 in
    let places : a.leads ≡ b.leads = same_bytes a.leads b.leads both.1 in
    λ i. record { name = names i; leads = places i }

pub entry_itself : (a : EntryText) → same_entry a a ≡ true
entry_itself a = ap (λ b. b && bytes_eq a.leads a.leads) (same_itself a.name) ∙ same_itself a.leads

-- an entry that passes a test is not one that fails it
other_entry : (q : EntryText → Bool) (a b : EntryText) → q a ≡ true → q b ≡ false → same_entry a b ≡ false
other_entry q a b passes fails =
    false_from_ne_true (same_entry a b) (λ is. true≢false (sym passes ∙ ap q (one_entry a b is) ∙ fails))

entry_other : (q : EntryText → Bool) (a b : EntryText) → q a ≡ false → q b ≡ true → same_entry a b ≡ false
entry_other q a b fails passes =
    false_from_ne_true (same_entry a b) (λ is. true≢false (sym passes ∙ sym (ap q (one_entry a b is)) ∙ fails))

-- tests of the elements of lists
none-append : {X : Type 0} (p : X → Bool) (xs ys : List X) → list_any p xs ≡ false → list_any p ys ≡ false
    → list_any p (xs ++ ys) ≡ false
none-append p xs ys none also = list_any-append p xs ys ∙ or_from (list_any p xs) (list_any p ys) none also

none-take : {X : Type 0} (p : X → Bool) (xs : List X) (n : ℕ) → list_any p xs ≡ false → list_any p (take n xs) ≡ false
none-take p xs zero none = refl
none-take p [] (suc n) none = refl
none-take p (x ∷ xs) (suc n) none =
    let both = or_parts (p x) (list_any p xs) none in
    or_from (p x) (list_any p (take n xs)) both.0 (none-take p xs n both.1)

all-append : {X : Type 0} (P : X → Type 0) (xs ys : List X) → AllByRecursion P xs → AllByRecursion P ys
    → AllByRecursion P (xs ++ ys)
all-append P [] ys all also = also
all-append P (x ∷ xs) ys all also = (all.0, all-append P xs ys all.1 also)

all-take : {X : Type 0} (P : X → Type 0) (xs : List X) (n : ℕ) → AllByRecursion P xs → AllByRecursion P (take n xs)
all-take P xs zero all = tt
all-take P [] (suc n) all = tt
all-take P (x ∷ xs) (suc n) all = (all.0, all-take P xs n all.1)

all_cond : {X : Type 0} (P : X → Type 0) (x : X) (xs : List X) (b : Bool) → (b ≡ true → P x) → AllByRecursion P xs
    → AllByRecursion P (cond b (x ∷ xs) xs)
all_cond P x xs true is all = (is refl, all)
all_cond P x xs false is all = all

-- a property that the test implies holds for all elements that pass it
all-passed : {X : Type 0} (P : X → Type 0) (p : X → Bool) (xs : List X) → ((x : X) → p x ≡ true → P x)
    → AllByRecursion P (filter p xs)
all-passed P p [] is = tt
all-passed P p (x ∷ xs) is = all_cond P x (filter p xs) (p x) (is x) (all-passed P p xs is)

all_fail : {X : Type 0} (p : X → Bool) (xs : List X) → list_any p xs ≡ false → AllByRecursion (λ x. p x ≡ false) xs
all_fail p [] none = tt
all_fail p (x ∷ xs) none =
    let both = or_parts (p x) (list_any p xs) none in
    (both.0, all_fail p xs both.1)

-- entries of one list that are all in another
abbrev pub has : EntryText → List EntryText → Bool
has e es = list_any (same_entry e) es

pub all_among : (es all : List EntryText) → ((e : EntryText) → has e es ≡ true → has e all ≡ true)
    → AllByRecursion (λ e. has e all ≡ true) es
all_among [] all among = tt
all_among (x ∷ es) all among = (
  among x (or_left (same_entry x x) (has x es) (entry_itself x)),
  all_among es all (λ e is. among e (or_right (same_entry e x) (has e es) is)),
)

-- filtered entries include an entry if it passes the test and was included
has_filter : (p : EntryText → Bool) (e : EntryText) (es : List EntryText) → has e (filter p es) ≡ (p e && has e es)
has_filter p e es = any-filter_same (same_entry e) p (p e) (λ x is. sym (ap p (one_entry e x is))) es

-- an entry that is included and passes a test
any_from : (p : EntryText → Bool) (e : EntryText) (es : List EntryText) → p e ≡ true → has e es ≡ true
    → list_any p es ≡ true
any_from p e es passes there = any_less (same_entry e) p (λ x is. sym (ap p (one_entry e x is)) ∙ passes) es there

-- if some entry passes a test, one is included that does
found : (p : EntryText → Bool) (es : List EntryText) → list_any p es ≡ true
    → (e : EntryText) × (p e ≡ true) × (has e es ≡ true)
found p es there = let one = passing p es there in
    (one.item, one.passes, one.within (same_entry one.item) (entry_itself one.item))

-- the changes of one runlevel's folder
abbrev pub at_level : Level → ChangeText → Bool
at_level level c = same_level c.level level

pub behind_more : (a b : List ChangeText) (level : Level) (es : List EntryText)
    → held_behind (a ++ b) level es ≡ held_behind b level (held_behind a level es)
behind_more [] b level es = refl
behind_more (c ∷ a) b level es = behind_more a b level (cond (same_level c.level level) (changed c.act c.entry es) es)

-- changes of other folders change nothing
pub elsewhere : (changes : List ChangeText) (level : Level) (es : List EntryText)
    → list_any (at_level level) changes ≡ false → held_behind changes level es ≡ es
elsewhere [] level es none = refl
elsewhere (c ∷ changes) level es none =
    let both = or_parts (same_level c.level level) (list_any (at_level level) changes) none in
    ap (λ b. held_behind changes level (cond b (changed c.act c.entry es) es)) both.0
    ∙ elsewhere changes level es both.1

-- the first changes of two lists are the first of the front list, if the back list is about other folders
before_others : (a b : List ChangeText) (level : Level) (n : ℕ) (es : List EntryText)
    → list_any (at_level level) b ≡ false
    → (m : ℕ) × (held_behind (take n (a ++ b)) level es ≡ held_behind (take m a) level es)
before_others a b level zero es none = (0, refl)
before_others [] b level (suc n) es none =
    (0, elsewhere (take (suc n) b) level es (none-take (at_level level) b (suc n) none))
before_others (c ∷ a) b level (suc n) es none =
    let rest = before_others a b level n (cond (same_level c.level level) (changed c.act c.entry es) es) none in
    (suc rest.0, rest.1)

-- and the first of the back list, if the front list is about other folders
behind_others : (a b : List ChangeText) (level : Level) (n : ℕ) (es : List EntryText)
    → list_any (at_level level) a ≡ false
    → (m : ℕ) × (held_behind (take n (a ++ b)) level es ≡ held_behind (take m b) level es)
behind_others a b level zero es none = (0, refl)
behind_others [] b level (suc n) es none = (suc n, refl)
behind_others (c ∷ a) b level (suc n) es none =
    let both = or_parts (same_level c.level level) (list_any (at_level level) a) none in
    let rest = behind_others a b level n es both.1 in
    (rest.0, ap (λ d. held_behind (take n (a ++ b)) level (cond d (changed c.act c.entry es) es)) both.0 ∙ rest.1)

none_mapped : (act : LinkAction) (k level : Level) (es : List EntryText) → same_level k level ≡ false
    → list_any (at_level level) (map (λ e. change_of act k e) es) ≡ false
none_mapped act k level [] differs = refl
none_mapped act k level (e ∷ es) differs =
    or_from (same_level k level) (list_any (at_level level) (map (λ e. change_of act k e) es)) differs
    (none_mapped act k level es differs)

pub none_of_folder : (targets : List (List ℕ)) (f : FolderText) (level : Level) → same_level f.level level ≡ false
    → list_any (at_level level) (changes_of targets f) ≡ false
none_of_folder targets f level differs =
    let ways = map (removal f.level) (filter (is_in_way targets f.planned) f.held) in
    let makings = map (making f.level) (filter (is_missing f.held) f.planned) in
    let rest = map (removal f.level) (filter (is_left_over targets f.planned) f.held) in
    none-append (at_level level) (ways ++ makings) rest
    (none-append (at_level level) ways makings
    (none_mapped Remove f.level level (filter (is_in_way targets f.planned) f.held) differs)
    (none_mapped Make f.level level (filter (is_missing f.held) f.planned) differs))
    (none_mapped Remove f.level level (filter (is_left_over targets f.planned) f.held) differs)

pub none_of_folders : (targets : List (List ℕ)) (level : Level) (folders : List FolderText)
    → list_any (λ (g : FolderText). same_level g.level level) folders ≡ false
    → list_any (at_level level) (flat_map (changes_of targets) folders) ≡ false
none_of_folders targets level [] none = refl
none_of_folders targets level (g ∷ folders) none =
    let both =
    or_parts (same_level g.level level) (list_any (λ (g : FolderText). same_level g.level level) folders) none in
    none-append (at_level level) (changes_of targets g) (flat_map (changes_of targets) folders)
    (none_of_folder targets g level both.0) (none_of_folders targets level folders both.1)

level_flip : (a b : Level) → same_level a b ≡ false → same_level b a ≡ false
level_flip a b differs =
    false_from_ne_true (same_level b a)
    (λ is. true≢false (sym (same_level-self a) ∙ ap (same_level a) (sym (same_level-is b a is)) ∙ differs))

-- after the first changes a folder is in the state after the first of its own
abbrev pub HasOwn : List (List ℕ) → List ChangeText → FolderText → Type 0
HasOwn targets changes f = (n : ℕ) (es : List EntryText)
    → (m : ℕ) × (held_behind (take n changes) f.level es ≡ held_behind (take m (changes_of targets f)) f.level es)

own_behind : (targets : List (List ℕ)) (f : FolderText) (changes : List ChangeText) (folders : List FolderText)
    → list_any (λ (g : FolderText). same_level g.level f.level) folders ≡ false
    → AllByRecursion (HasOwn targets changes) folders
    → AllByRecursion (HasOwn targets (changes_of targets f ++ changes)) folders
own_behind targets f changes [] none own = tt
own_behind targets f changes (g ∷ folders) none own =
    let both =
    or_parts (same_level g.level f.level) (list_any (λ (g : FolderText). same_level g.level f.level) folders) none in
    let first = none_of_folder targets f g.level (level_flip g.level f.level both.0) in (
      λ n es.
          let part = behind_others (changes_of targets f) changes g.level n es first in
          let rest = own.0 part.0 es in
          (rest.0, part.1 ∙ rest.1),
      own_behind targets f changes folders both.1 own.1,
    )

pub all_own : (targets : List (List ℕ)) (folders : List FolderText) → AreApart folders
    → AllByRecursion (HasOwn targets (flat_map (changes_of targets) folders)) folders
all_own targets [] apart = tt
all_own targets (f ∷ folders) apart = (
  λ n es. before_others (changes_of targets f) (flat_map (changes_of targets) folders) f.level n es
      (none_of_folders targets f.level folders apart.0),
  own_behind targets f (flat_map (changes_of targets) folders) folders apart.0 (all_own targets folders apart.1),
)

-- a property of the entries in a folder's changes, which depends on the action
abbrev Each : (LinkAction → EntryText → Type 0) → ChangeText → Type 0
Each R c = R c.act c.entry

all_mapped : (R : LinkAction → EntryText → Type 0) (act : LinkAction) (k : Level) (es : List EntryText)
    → AllByRecursion (R act) es → AllByRecursion (Each R) (map (λ e. change_of act k e) es)
all_mapped R act k [] all = tt
all_mapped R act k (e ∷ es) all = (all.0, all_mapped R act k es all.1)

all_changes : (R : LinkAction → EntryText → Type 0) (targets : List (List ℕ)) (f : FolderText) → ((e : EntryText)
    → is_stale targets f.planned e ≡ true → R Remove e) → AllByRecursion (R Make) (filter (is_missing f.held) f.planned)
    → AllByRecursion (Each R) (changes_of targets f)
all_changes R targets f stale made =
    let ways = map (removal f.level) (filter (is_in_way targets f.planned) f.held) in
    let makings = map (making f.level) (filter (is_missing f.held) f.planned) in
    let rest = map (removal f.level) (filter (is_left_over targets f.planned) f.held) in
    all-append (Each R) (ways ++ makings) rest
    (all-append (Each R) ways makings
    (all_mapped R Remove f.level (filter (is_in_way targets f.planned) f.held)
    (all-passed (R Remove) (is_in_way targets f.planned) f.held
    (λ e is. stale e (and_parts (is_stale targets f.planned e) (has_name e.name f.planned) is).0)))
    (all_mapped R Make f.level (filter (is_missing f.held) f.planned) made))
    (all_mapped R Remove f.level (filter (is_left_over targets f.planned) f.held)
    (all-passed (R Remove) (is_left_over targets f.planned) f.held
    (λ e is. stale e (and_parts (is_stale targets f.planned e) (not (has_name e.name f.planned)) is).0)))

-- an entry that fails a test which all changed ones pass is unchanged
abbrev Passes : (EntryText → Bool) → LinkAction → EntryText → Type 0
Passes q act e = q e ≡ true

change_of_other : (q : EntryText → Bool) (e x : EntryText) (es : List EntryText) (act : LinkAction) (b : Bool)
    → q e ≡ false → q x ≡ true → has e (cond b (changed act x es) es) ≡ has e es
change_of_other q e x es act false fails passes = refl
change_of_other q e x es Remove true fails passes =
    has_filter (λ other. not (same_entry x other)) e es ∙ ap (λ b. not b && has e es) (other_entry q x e passes fails)
change_of_other q e x es Make true fails passes =
    list_any-append (same_entry e) es (x ∷ []) ∙ ap (λ b. has e es || (b || false)) (entry_other q e x fails passes)
    ∙ or-false (has e es)

others_stay : (q : EntryText → Bool) (e : EntryText) (changes : List ChangeText) (level : Level) (es : List EntryText)
    → q e ≡ false → AllByRecursion (Each (Passes q)) changes → has e (held_behind changes level es) ≡ has e es
others_stay q e [] level es fails all = refl
others_stay q e (c ∷ changes) level es fails all =
    others_stay q e changes level (cond (same_level c.level level) (changed c.act c.entry es) es) fails all.1
    ∙ change_of_other q e c.entry es c.act (same_level c.level level) fails all.0

settled_by : (o p h : Bool) → ((not (o && not p) && h) || (not h && p)) ≡ (p || (not o && h))
settled_by o p h = grind arith

-- a settled folder holds what is planned, and its earlier entries that are not ours
has_settled : (targets : List (List ℕ)) (planned es : List EntryText) (e : EntryText)
    → has e (settled targets planned es) ≡ (has e planned || (not (is_ours targets e) && has e es))
has_settled targets planned es e =
    list_any-append (same_entry e) (filter (λ x. not (is_stale targets planned x)) es) (filter (is_missing es) planned)
    ∙ ap (λ b. b || has e (filter (is_missing es) planned)) (has_filter (λ x. not (is_stale targets planned x)) e es)
    ∙ ap (λ b. (not (is_stale targets planned e) && has e es) || b) (has_filter (is_missing es) e planned)
    ∙ settled_by (is_ours targets e) (has e planned) (has e es)

mended_by : (o p h now : Bool) → ((o || p) ≡ false → now ≡ h) → (p || (not o && now)) ≡ (p || (not o && h))
mended_by o true h now same = refl
mended_by true false h now same = refl
mended_by false false h now same = same refl

mends : (targets : List (List ℕ)) (f : FolderText) (m : ℕ) → HoldSame (settled targets f.planned
    (held_behind (take m (changes_of targets f)) f.level f.held)) (settled targets f.planned f.held)
mends targets f m = λ e.
    let now = held_behind (take m (changes_of targets f)) f.level f.held in
    let q : EntryText → Bool = λ x. is_ours targets x || has x f.planned in
    let all : AllByRecursion (Each (Passes q)) (changes_of targets f) = all_changes (Passes q) targets f
    (λ x is. or_left (is_ours targets x) (has x f.planned) (and_parts (is_ours targets x) (not (has x f.planned)) is).0)
    (all_filter (Passes q Make) (is_missing f.held) f.planned
    (all_ours f.planned (all_among f.planned f.planned (λ x is. is)))) in
    has_settled targets f.planned now e
    ∙ mended_by (is_ours targets e) (has e f.planned) (has e f.held) (has e now)
    (λ fails. others_stay q e (take m (changes_of targets f)) f.level f.held fails
    (all-take (Each (Passes q)) (changes_of targets f) m all))
    ∙ sym (has_settled targets f.planned f.held e)
  where
    all_ours : (es : List EntryText) → AllByRecursion (λ x. has x f.planned ≡ true) es
        → AllByRecursion (λ x. (is_ours targets x || has x f.planned) ≡ true) es
    all_ours [] all = tt
    all_ours (x ∷ es) all = (or_right (is_ours targets x) (has x f.planned) all.0, all_ours es all.1)

pub all_mended : (targets : List (List ℕ)) (changes : List ChangeText) (n : ℕ) (folders : List FolderText)
    → AllByRecursion (HasOwn targets changes) folders → AllByRecursion (IsMended targets (take n changes)) folders
all_mended targets changes n [] own = tt
all_mended targets changes n (f ∷ folders) own =
    let part = own.0 n f.held in (
      λ e. ap (λ es. has e (settled targets f.planned es)) part.1 ∙ mends targets f part.0 e,
      all_mended targets changes n folders own.1,
    )

-- changes that create no entry which passes a test leave none if there was none
abbrev MakesNone : (EntryText → Bool) → LinkAction → EntryText → Type 0
MakesNone p Remove e = Unit {0}
MakesNone p Make e = p e ≡ false

none-filter : {X : Type 0} (p q : X → Bool) (xs : List X) → list_any p xs ≡ false → list_any p (filter q xs) ≡ false
none-filter p q xs none = falsely (list_any p (filter q xs)) (list_any p xs) (any_filtered p q xs) none

change_makes_none : (p : EntryText → Bool) (x : EntryText) (es : List EntryText) (act : LinkAction) (b : Bool)
    → list_any p es ≡ false → MakesNone p act x → list_any p (cond b (changed act x es) es) ≡ false
change_makes_none p x es act false none makes = none
change_makes_none p x es Remove true none makes = none-filter p (λ other. not (same_entry x other)) es none
change_makes_none p x es Make true none makes = none-append p es (x ∷ []) none (or_from (p x) false makes refl)

none_made : (p : EntryText → Bool) (changes : List ChangeText) (level : Level) (es : List EntryText) → list_any p es
    ≡ false → AllByRecursion (Each (MakesNone p)) changes → list_any p (held_behind changes level es) ≡ false
none_made p [] level es none all = none
none_made p (c ∷ changes) level es none all =
    none_made p changes level (cond (same_level c.level level) (changed c.act c.entry es) es)
    (change_makes_none p c.entry es c.act (same_level c.level level) none all.0) all.1

-- changes that do not remove an entry leave it if it was there
abbrev Leaves : EntryText → LinkAction → EntryText → Type 0
Leaves l Remove e = same_entry e l ≡ false
Leaves l Make e = Unit {0}

change_leaves : (l x : EntryText) (es : List EntryText) (act : LinkAction) (b : Bool) → has l es ≡ true → Leaves l act x
    → has l (cond b (changed act x es) es) ≡ true
change_leaves l x es act false there leaves = there
change_leaves l x es Remove true there leaves =
    has_filter (λ other. not (same_entry x other)) l es ∙ ap (λ b. not b && has l es) leaves ∙ there
change_leaves l x es Make true there leaves =
    list_any-append (same_entry l) es (x ∷ []) ∙ or_left (has l es) (has l (x ∷ [])) there

stays_there : (l : EntryText) (changes : List ChangeText) (level : Level) (es : List EntryText) → has l es ≡ true
    → AllByRecursion (Each (Leaves l)) changes → has l (held_behind changes level es) ≡ true
stays_there l [] level es there all = there
stays_there l (c ∷ changes) level es there all =
    stays_there l changes level (cond (same_level c.level level) (changed c.act c.entry es) es)
    (change_leaves l c.entry es c.act (same_level c.level level) there all.0) all.1

-- one entry that passes stays until another one that passes is there, and that one stays
in_turn : (p : EntryText → Bool) (x l : EntryText) (a b : List ChangeText) (level : Level) (es : List EntryText) (m : ℕ)
    → p x ≡ true → p l ≡ true → has x es ≡ true → AllByRecursion (Each (Leaves x)) a
    → has l (held_behind a level es) ≡ true → AllByRecursion (Each (Leaves l)) b
    → list_any p (held_behind (take m (a ++ b)) level es) ≡ true
in_turn p x l a b level es zero passes also there leaves then leave = any_from p x es passes there
in_turn p x l [] b level es (suc m) passes also there leaves then leave =
    any_from p l (held_behind (take (suc m) b) level es) also
    (stays_there l (take (suc m) b) level es then (all-take (Each (Leaves l)) b (suc m) leave))
in_turn p x l (c ∷ a) b level es (suc m) passes also there leaves then leave =
    in_turn p x l a b level (cond (same_level c.level level) (changed c.act c.entry es) es) m passes also
    (change_leaves x c.entry es c.act (same_level c.level level) there leaves.0) leaves.1 then leave

pub made : (k : Level) (xs es : List EntryText) → held_behind (map (making k) xs) k es ≡ es ++ xs
made k [] es = sym (append-nil es)
made k (x ∷ xs) es =
    ap (λ b. held_behind (map (making k) xs) k (cond b (es ++ x ∷ []) es)) (same_level-self k)
    ∙ made k xs (es ++ x ∷ []) ∙ append_assoc es (x ∷ []) xs

-- a planned link is not stale
pub not_stale : (targets : List (List ℕ)) (planned : List EntryText) (l : EntryText) → has l planned ≡ true
    → is_stale targets planned l ≡ false
not_stale targets planned l there = no_both (is_ours targets l) (has l planned) there
  where
    no_both : (a b : Bool) → b ≡ true → (a && not b) ≡ false
    no_both true b is = ap not is
    no_both false b is = refl

-- a missing link of the plan is created before the left-over links are removed; until then any link that is not in the
-- way stays
stays_missing : (targets : List (List ℕ)) (f : FolderText) (m : ℕ) (p : EntryText → Bool) (x l : EntryText) → p x ≡ true
    → has x f.held ≡ true → is_in_way targets f.planned x ≡ false
    → p l ≡ true → has l f.planned ≡ true → has l f.held ≡ false
    → list_any p (held_behind (take m (changes_of targets f)) f.level f.held) ≡ true
stays_missing targets f m p x l passes there clear also planned missing =
    let ways = map (removal f.level) (filter (is_in_way targets f.planned) f.held) in
    let missings = filter (is_missing f.held) f.planned in
    let makings = map (making f.level) missings in
    let rest = map (removal f.level) (filter (is_left_over targets f.planned) f.held) in
    let front : AllByRecursion (Each (Leaves x)) (ways ++ makings) =
    all-append (Each (Leaves x)) ways makings
    (all_mapped (Leaves x) Remove f.level (filter (is_in_way targets f.planned) f.held)
    (all-passed (Leaves x Remove) (is_in_way targets f.planned) f.held
    (λ e is. other_entry (is_in_way targets f.planned) e x is clear)))
    (all_mapped (Leaves x) Make f.level missings (all_free missings)) in
    let back : AllByRecursion (Each (Leaves l)) rest =
    all_mapped (Leaves l) Remove f.level (filter (is_left_over targets f.planned) f.held)
    (all-passed (Leaves l Remove) (is_left_over targets f.planned) f.held
    (λ e is. other_entry (is_stale targets f.planned) e l (and_parts (is_stale targets f.planned e)
    (not (has_name e.name f.planned)) is).0 (not_stale targets f.planned l planned))) in
    let among : has l missings ≡ true =
    has_filter (is_missing f.held) l f.planned ∙ ap (λ b. not b && has l f.planned) missing ∙ planned in
    let then : has l (held_behind (ways ++ makings) f.level f.held) ≡ true =
    ap (has l) (behind_more ways makings f.level f.held ∙ made f.level missings (held_behind ways f.level f.held))
    ∙ list_any-append (same_entry l) (held_behind ways f.level f.held) missings
    ∙ or_right (has l (held_behind ways f.level f.held)) (has l missings) among in
    in_turn p x l (ways ++ makings) rest f.level f.held m passes also there front then back
  where
    all_free : (es : List EntryText) → AllByRecursion (Leaves x Make) es
    all_free [] = tt
    all_free (e ∷ es) = (tt, all_free es)

stays_held : (targets : List (List ℕ)) (f : FolderText) (m : ℕ) (p : EntryText → Bool) (l : EntryText) → p l ≡ true
    → has l f.planned ≡ true → has l f.held ≡ true
    → list_any p (held_behind (take m (changes_of targets f)) f.level f.held) ≡ true
stays_held targets f m p l also planned there =
    let all : AllByRecursion (Each (Leaves l)) (changes_of targets f) = all_changes (Leaves l) targets f
    (λ e is. other_entry (is_stale targets f.planned) e l is (not_stale targets f.planned l planned))
    (all_free (filter (is_missing f.held) f.planned)) in
    any_from p l (held_behind (take m (changes_of targets f)) f.level f.held) also (stays_there l
    (take m (changes_of targets f)) f.level f.held there (all-take (Each (Leaves l)) (changes_of targets f) m all))
  where
    all_free : (es : List EntryText) → AllByRecursion (Leaves l Make) es
    all_free [] = tt
    all_free (e ∷ es) = (tt, all_free es)

stays_some : (targets : List (List ℕ)) (f : FolderText) (m : ℕ) (p : EntryText → Bool) (x l : EntryText) (b : Bool)
    → has l f.held ≡ b → p x ≡ true → has x f.held ≡ true → is_in_way targets f.planned x ≡ false
    → p l ≡ true → has l f.planned ≡ true
    → list_any p (held_behind (take m (changes_of targets f)) f.level f.held) ≡ true
stays_some targets f m p x l true at passes there clear also planned = stays_held targets f m p l also planned at
stays_some targets f m p x l false at passes there clear also planned =
    stays_missing targets f m p x l passes there clear also planned at

-- an entry that passes one test does not pass another one, if no entry passes both
not_both : (p q : EntryText → Bool) (x : EntryText) (es : List EntryText) → list_any (λ e. p e && q e) es ≡ false
    → p x ≡ true → has x es ≡ true → q x ≡ false
not_both p q x es none passes there =
    false_from_ne_true (q x)
    (λ is. true≢false (sym (any_from (λ e. p e && q e) x es (ap (λ b. b && q x) passes ∙ is) there) ∙ none))

-- what the plan and the folder both have, or both lack, stays that way
stays_by : (targets : List (List ℕ)) (f : FolderText) (m : ℕ) (p : EntryText → Bool) (b : Bool) → list_any p f.held ≡ b
    → list_any p f.planned ≡ list_any p f.held → list_any (λ e. p e && is_in_way targets f.planned e) f.held ≡ false
    → list_any p (held_behind (take m (changes_of targets f)) f.level f.held) ≡ b
stays_by targets f m p true at both clear =
    let x = found p f.held at in
    let l = found p f.planned (both ∙ at) in
    stays_some targets f m p x.0 l.0 (has l.0 f.held) refl x.1 x.2
    (not_both p (is_in_way targets f.planned) x.0 f.held clear x.1 x.2) l.1 l.2
stays_by targets f m p false at both clear =
    let made_none = all_filter (MakesNone p Make) (is_missing f.held) f.planned (all_fail p f.planned (both ∙ at)) in
    let all : AllByRecursion (Each (MakesNone p)) (changes_of targets f) =
    all_changes (MakesNone p) targets f (λ _ _. tt) made_none in
    none_made p (take m (changes_of targets f)) f.level f.held
    at (all-take (Each (MakesNone p)) (changes_of targets f) m all)

level_next : (f g : FolderText) (b c : Bool) (fs gs : List FolderText) → f.level ≡ g.level → b ≡ c
    → map (λ (f : FolderText). f.level) fs ≡ map (λ (f : FolderText). f.level) gs
    → map (λ (f : FolderText). f.level) (cond b (f ∷ fs) fs) ≡ map (λ (f : FolderText). f.level) (cond c (g ∷ gs) gs)
level_next f g true true fs gs one same rest = λ i. one i ∷ rest i
level_next f g true false fs gs one same rest = absurd (true≢false same)
level_next f g false true fs gs one same rest = absurd (true≢false (sym same))
level_next f g false false fs gs one same rest = rest

levels_stay : (targets : List (List ℕ)) (letter : ℕ) (name : List ℕ) (changes : List ChangeText) (n : ℕ) (folders : List
    FolderText) → AllByRecursion (HasOwn targets changes) folders → AllByRecursion (StaysIn targets letter name) folders
    → levels_in letter name (map (behind (take n changes)) folders) ≡ levels_in letter name folders
levels_stay targets letter name changes n [] own stays = refl
levels_stay targets letter name changes n (f ∷ folders) own stays =
    let part = own.0 n f.held in
    let p : EntryText → Bool = is_link_of letter name in
    level_next (behind (take n changes) f) f (list_any p (held_behind (take n changes) f.level f.held))
    (list_any p f.held)
    (filter (λ (g : FolderText). list_any p g.held) (map (behind (take n changes)) folders))
    (filter (λ (g : FolderText). list_any p g.held) folders) refl
    (ap (list_any p) part.1 ∙ stays_by targets f part.0 p (list_any p f.held) refl stays.0.both stays.0.clear)
    (levels_stay targets letter name changes n folders own.1 stays.1)

-- the runlevels of a script that the plan leaves in place can be read off the folders throughout
pub kept_stays : (targets : List (List ℕ)) (changes : List ChangeText) (n : ℕ) (folders : List FolderText)
    (s : PlannedText) → AllByRecursion (HasOwn targets changes) folders → Stays targets s.name folders
    → kept_script (map (behind (take n changes)) folders) s ≡ kept_script folders s
kept_stays targets changes n folders s own stays =
    ap (λ levels. with_levels levels (levels_in (byte "K") s.name (map (behind (take n changes)) folders)) s)
    (levels_stay targets (byte "S") s.name changes n folders own stays.0)
    ∙ ap (λ levels. with_levels (levels_in (byte "S") s.name folders) levels s)
    (levels_stay targets (byte "K") s.name changes n folders own stays.1)
