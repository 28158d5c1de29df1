-- Lemmas on making one more change, and on the folders after all of them.
use Rattle.rclinks_command.proofs.Words.{◌≡◌, ℕ, Bool, true, false, ◌+◌, ◌<◌, List, [], ◌∷◌, ◌++◌, length, get_or, drop}
use Rattle.rclinks_command.proofs.Words.{take, map, Some, sym, ap, ◌∙◌, append_assoc, cut_at, ChangeText, PlannedText}
use Rattle.rclinks_command.proofs.Words.{Becomes, KnownFolders, KnownScripts, changed_by, changed_in, InFolders}
use Rattle.rclinks_command.proofs.Words.{IsWritten, NeededChanges}
use Rattle.rclinks_command.proofs.Words.{◌==◌, filter, list_any, not, refl}
use Rattle.std.proofs.Math.Dec.{eqb-suc-zero}
use Rattle.std.proofs.lemmas.List.{length-map}
use Rattle.rclinks_command.proofs.SettledLemmas.{changed_by-append, settles}

-- one more element of a list that is mapped twice, and those after it
pub mapped-next : {X Y Z : Type 0} (f : Y → Z) (h : X → Y) (all : List X) (position : ℕ) (x : X) (z : Z)
    (old new whole : List Z) → position < length all → x ≡ get_or all position x
    → z ≡ f (h x) → new ≡ old ++ z ∷ [] → old ++ map f (map h (drop position all)) ≡ whole
    → new ++ map f (map h (drop (position + 1) all)) ≡ whole
mapped-next f h all position x z old new whole within at is added so_far =
    let rest = map f (map h (drop (position + 1) all)) in
    ap (λ ys. ys ++ rest) added ∙ append_assoc old (z ∷ []) rest ∙ ap (λ y. old ++ y ∷ rest) is
    ∙ ap (λ xs. old ++ map f (map h xs)) (sym (cut_at all position x within at).0) ∙ so_far

any_kept : {Y : Type 0} (p : Y → Bool) (ys : List Y) → not (length (filter p ys) == 0) ≡ list_any p ys
any_kept p [] = refl
any_kept p (y ∷ ys) = by (p y) refl (any_kept p ys)
  where
    by : (b : Bool) → p y ≡ b → not (length (filter p ys) == 0) ≡ list_any p ys
        → not (length (filter p (y ∷ ys)) == 0) ≡ list_any p (y ∷ ys)
    by true at rest = rw at (ap not (eqb-suc-zero (length (filter p ys))))
    by false at rest = rw at rest

-- there are elements that pass a test if some element passes it
pub any_of_those : {X Y : Type 0} (p : Y → Bool) (f : X → Y) (xs : List X) (ys : List Y)
    → map f xs ≡ filter p ys → not (length xs == 0) ≡ list_any p ys
any_of_those p f xs ys are =
    ap (λ n. not (n == 0)) (sym (length-map xs f) ∙ ap length are) ∙ any_kept p ys

-- one more change was made
pub changed-next : (old before after : KnownFolders) (dir : List ℕ) (changes : List ChangeText) (position : ℕ)
    (c : ChangeText) → position < length changes → c ≡ get_or changes position c
    → Becomes old before (changed_by dir (take position changes)) → Becomes before after (changed_in dir c)
    → Becomes old after (changed_by dir (take (position + 1) changes))
changed-next old before after dir changes position c within at so_far one = λ other level es is.
    one other level (changed_by dir (take position changes) other level es) (so_far other level es is)
    ∙ ap Some (sym (ap (λ cs. changed_by dir cs other level es) (cut_at changes position c within at).1
    ∙ changed_by-append dir (take position changes) (c ∷ []) other level es))

-- a property of a plan in folders implies another one that follows from it
pub in_folders : (keeps : Bool) (known : KnownFolders) (dir : List ℕ) (plan : List PlannedText)
    (P Q : List PlannedText → Type 0)
    → ((p : List PlannedText) → P p → Q p) → InFolders keeps known dir plan P → InFolders keeps known dir plan Q
in_folders false known dir plan P Q follows holds = follows plan holds
in_folders true known dir plan P Q follows (folders, are, holds) = (folders, are, follows _ holds)

-- all changes that a plan's folders need were made
pub written : (known after : KnownFolders) (scripts : KnownScripts) (prunes : Bool) (dir : List ℕ)
    (plan : List PlannedText) (changes : List ChangeText)
    → NeededChanges known scripts prunes dir plan changes → Becomes known after (changed_by dir changes)
    → IsWritten known scripts prunes dir plan after
written known after scripts prunes dir plan changes wanted made = (
  changes,
  wanted,
  λ other level es is.
      made other level es is
      ∙ ap Some (ap (λ cs. changed_by dir cs other level es) wanted.whole
      ∙ settles known dir other level plan wanted.targets wanted.folders es wanted.are is),
)
