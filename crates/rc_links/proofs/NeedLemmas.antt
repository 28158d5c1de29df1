-- Lemmas on the needs for names: how a table gives them, and that they are among the scripts.
use Rattle.rc_links.proofs.Words.{◌≡◌, ℕ, zero, suc, ◌+◌, ◌<◌, ◌≤◌, Bool, true, false, cond, List, [], ◌∷◌, ◌++◌}
use Rattle.rc_links.proofs.Words.{length, get_or, drop, map, Option, Some, None, is_some, Result, Ok, Err, OnOk, refl}
use Rattle.rc_links.proofs.Words.{sym, ap, ◌∙◌, arith, append_assoc, filter_map, cons_option, unwrap_or, true≢false}
use Rattle.rc_links.proofs.Words.{Phase, InRange, ScriptText, named, need, needs_from, needs_of, position_from}
use Rattle.rc_links.proofs.Words.{place_of, places_of}
use Rattle.std.proofs.lemmas.List.{map-append}
use Rattle.std.proofs.lemmas.List.Elements.{filter_map-append}
use Rattle.rc_links.specs.declared.needs.Phase.TheVariants as phase
use Rattle.rc_links.specs.Scripts.{has_name}
use Rattle.rc_links.proofs.NameLemmas.{cut_at}

-- the needs for two lists of names, joined
names-after : {X Y Z : Type 0} (f : Y → Z) (h : X → Option Y) (xs ys : List X)
    → map f (filter_map h xs) ++ map f (filter_map h ys) ≡ map f (filter_map h (xs ++ ys))
names-after f h xs ys = sym (ap (map f) (filter_map-append h xs ys) ∙ map-append f (filter_map h xs) (filter_map h ys))

-- equal functions give the same list
pub filter_map-ext : {X Y : Type 0} (f h : X → Option Y) (xs : List X) → ((x : X) → f x ≡ h x)
    → filter_map f xs ≡ filter_map h xs
filter_map-ext f h [] same = refl
filter_map-ext f h (x ∷ xs) same = rw (same x, filter_map-ext f h xs same) refl

-- both positions of each need are below the count
abbrev Within : ℕ → List (ℕ × ℕ) → Type 0
Within count [] = Unit {0}
Within count (edge ∷ edges) = (edge.0 < count) × (edge.1 < count) × Within count edges

Within-append : (count : ℕ) (xs ys : List (ℕ × ℕ)) → Within count xs → Within count ys → Within count (xs ++ ys)
Within-append count [] ys first second = second
Within-append count (x ∷ xs) ys first second = (first.0, first.1, Within-append count xs ys first.2 second)

range-first : (count : ℕ) (e : ℕ × ℕ) (edges : List (ℕ × ℕ)) → (e.0 < count) × (e.1 < count) → InRange count edges
    → InRange count (e ∷ edges)
range-first count e edges here rest zero within = here
range-first count e edges here rest (suc k) within = rest k (omega arith)

Within-range : (count : ℕ) (edges : List (ℕ × ℕ)) → Within count edges → InRange count edges
Within-range count [] all = λ k within. absurd (omega arith)
Within-range count (e ∷ edges) all = range-first count e edges (all.0, all.1) (Within-range count edges all.2)

-- a position that provides a name is that of one of the scripts
below_by : (position : ℕ) (scripts : List ScriptText) (bs : List ℕ) (n : ℕ) (y : Bool) → cond y (Some position)
    (position_from (position + 1) scripts bs) ≡ Some n → (position_from (position + 1) scripts bs ≡ Some n
    → n < position + 1 + length scripts) → n < position + suc (length scripts)
below_by position scripts bs n true is rest = let e : position ≡ n = ap (λ o. unwrap_or o 0) is in omega arith
below_by position scripts bs n false is rest = let low = rest is in omega arith

position_from-below : (position : ℕ) (scripts : List ScriptText) (bs : List ℕ) (n : ℕ)
    → position_from position scripts bs ≡ Some n → n < position + length scripts
position_from-below position [] bs n is = absurd (true≢false (sym (ap is_some is)))
position_from-below position (s ∷ scripts) bs n is =
    below_by position scripts bs n (has_name bs s.header.provides) is (position_from-below (position + 1) scripts bs n)

Within-need : (turn : Phase) (count position other : ℕ) (edges : List (ℕ × ℕ)) → position < count → other < count
    → Within count edges → Within count (need turn position other ∷ edges)
Within-need phase.Start count position other edges low below rest = (low, below, rest)
Within-need phase.Stop count position other edges low below rest = (below, low, rest)

Within-option : (turn : Phase) (count position : ℕ) (o : Option ℕ) (places : List ℕ) → position < count
    → ((n : ℕ) → o ≡ Some n → n < count) → Within count (map (need turn position) places)
    → Within count (map (need turn position) (cons_option o places))
Within-option turn count position None places low below rest = rest
Within-option turn count position (Some n) places low below rest =
    Within-need turn count position n (map (need turn position) places) low (below n refl) rest

Within-names : (turn : Phase) (all : List ScriptText) (position : ℕ) (names : List (List ℕ)) → position < length all
    → Within (length all) (map (need turn position) (places_of all names))
Within-names turn all position [] low = tt
Within-names turn all position (name ∷ names) low =
    Within-option turn (length all) position (place_of all name) (places_of all names) low
    (λ n is. let below = position_from-below 0 all name n is in omega arith) (Within-names turn all position names low)

Within-from : (turn : Phase) (all : List ScriptText) (position : ℕ) (scripts : List ScriptText)
    → position + length scripts ≤ length all → Within (length all) (needs_from turn all position scripts)
Within-from turn all position [] low = tt
Within-from turn all position (s ∷ scripts) low =
    Within-append (length all) (map (need turn position) (places_of all (named turn s.header)))
    (needs_from turn all (position + 1) scripts)
    (Within-names turn all position (named turn s.header) (omega arith))
    (Within-from turn all (position + 1) scripts (omega arith))

-- the needs of scripts are among their positions
pub needs-range : (turn : Phase) (scripts : List ScriptText) → InRange (length scripts) (needs_of turn scripts)
needs-range turn scripts =
    Within-range (length scripts) (needs_of turn scripts) (Within-from turn scripts 0 scripts (omega arith))

-- the needs of one more script
pub needs-next : (turn : Phase) (all : List ScriptText) (position : ℕ) (s : ScriptText) (f : List ℕ → Option ℕ) (edges
    whole : List (ℕ × ℕ)) → position < length all → s ≡ get_or all position s → ((bs : List ℕ) → f bs ≡ place_of all bs)
    → edges ++ needs_from turn all position (drop position all) ≡ whole → (edges ++ map (need turn position)
    (filter_map f (named turn s.header))) ++ needs_from turn all (position + 1) (drop (position + 1) all) ≡ whole
needs-next turn all position s f edges whole within at same is =
    let rest = needs_from turn all (position + 1) (drop (position + 1) all) in
    let kept =
    ap (λ scripts. edges ++ needs_from turn all position scripts) (sym (cut_at all position s within at).0) ∙ is in
    rw (filter_map-ext f (place_of all) (named turn s.header) same)
    (append_assoc edges (map (need turn position) (places_of all (named turn s.header))) rest ∙ kept)

pub names-twice : {X Y Z : Type 0} (f : Y → Z) (h : X → Option Y) (xs ys : List X) (edges middle next : List Z)
    → middle ≡ edges ++ map f (filter_map h xs) → next ≡ middle ++ map f (filter_map h ys)
    → next ≡ edges ++ map f (filter_map h (xs ++ ys))
names-twice f h xs ys edges middle next first second =
    second ∙ (ap (λ zs. zs ++ map f (filter_map h ys)) first ∙ (append_assoc edges (map f (filter_map h xs))
    (map f (filter_map h ys)) ∙ ap (λ zs. edges ++ zs) (names-after f h xs ys)))

pub on_ok : {S E : Type 0} (r : Result S E) (P Q : Type 0) → (P → Q) → OnOk r P → OnOk r Q
on_ok (Ok x) P Q step p = step p
on_ok (Err e) P Q step p = p
