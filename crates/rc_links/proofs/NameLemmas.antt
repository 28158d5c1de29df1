-- Lemmas on tables of names, and on what the scripts before a position provide.
use Rattle.rc_links.proofs.Words.{or-false, or_assoc, ◌≡◌, ℕ, zero, suc, ◌+◌, ◌<◌, Bool, true, false, cond, not, ◌&&◌}
use Rattle.rc_links.proofs.Words.{◌||◌, if◌then◌else◌, List, [], ◌∷◌, ◌++◌, length, find, get_or, take, drop, Option}
use Rattle.rc_links.proofs.Words.{Some, None, is_some, Result, Ok, Err, IfErr, refl, sym, ap, ◌∙◌, subst, arith}
use Rattle.rc_links.proofs.Words.{option_or, bytes_eq, bytes_eq-Decides, true≢false, ScriptText, position_from}
use Rattle.rc_links.proofs.Words.{place_of, has_script, is_system, doubled, double_from, missing_of, missing_from}
use Rattle.std.specs.Bool.{Decides, one_answer}
use Rattle.std.specs.Result.{IsErrAnd}
use Rattle.rc_links.specs.Scripts.{has_name}

-- equality of names is symmetric
pub bytes_eq-sym : (a b : List ℕ) → bytes_eq a b ≡ bytes_eq b a
bytes_eq-sym a b =
    let back : Decides (bytes_eq b a) (a ≡ b) =
    (λ h. sym ((bytes_eq-Decides b a).0 h), λ e. (bytes_eq-Decides b a).1 (sym e)) in
    one_answer (bytes_eq a b) (bytes_eq b a) (bytes_eq-Decides a b) back

same_cond : {X : Type 0} (y : Bool) (x : X) → cond y x x ≡ x
same_cond true x = refl
same_cond false x = refl

-- the table's position for a name after one position was set for these names
abbrev pub put_all : ℕ → List (List ℕ) → List ℕ → Option ℕ → Option ℕ
put_all position [] bs found = found
put_all position (name ∷ names) bs found = put_all position names bs (if bytes_eq name bs then Some position else found)

put_all-kept : (position : ℕ) (names : List (List ℕ)) (bs : List ℕ)
    → put_all position names bs (Some position) ≡ Some position
put_all-kept position [] bs = refl
put_all-kept position (name ∷ names) bs =
    rw (same_cond (bytes_eq name bs) (Some position)) (put_all-kept position names bs)

put_all-by : (position : ℕ) (name : List ℕ) (names : List (List ℕ)) (bs : List ℕ) (found : Option ℕ) (y : Bool)
    → bytes_eq name bs ≡ y → put_all position names bs found ≡ (if has_name bs names then Some position else found)
    → put_all position names bs (cond y (Some position) found)
    ≡ (if bytes_eq bs name || has_name bs names then Some position else found)
put_all-by position name names bs found true e rest = rw (bytes_eq-sym bs name ∙ e) (put_all-kept position names bs)
put_all-by position name names bs found false e rest = rw (bytes_eq-sym bs name ∙ e) rest

-- it is the new position for these names, and the old one for all others
pub put_all-is : (position : ℕ) (names : List (List ℕ)) (bs : List ℕ) (found : Option ℕ)
    → put_all position names bs found ≡ (if has_name bs names then Some position else found)
put_all-is position [] bs found = refl
put_all-is position (name ∷ names) bs found =
    put_all-by position name names bs found (bytes_eq name bs) refl (put_all-is position names bs found)

-- equal tests find the same element
pub find-ext : {X : Type 0} (p q : X → Bool) (xs : List X) → ((x : X) → p x ≡ q x) → find p xs ≡ find q xs
find-ext p q [] same = refl
find-ext p q (x ∷ xs) same = rw (same x, find-ext p q xs same) refl

-- the position for a name, with one more script at the end
last_by : (position : ℕ) (before : List ScriptText) (s : ScriptText) (bs : List ℕ) (y : Bool)
    → position_from (position + 1) (before ++ s ∷ []) bs ≡ option_or (position_from (position + 1) before bs)
    (if has_name bs s.header.provides then Some (position + 1 + length before) else None) → cond y (Some position)
    (position_from (position + 1) (before ++ s ∷ []) bs) ≡ option_or (cond y (Some position) (position_from
    (position + 1) before bs)) (if has_name bs s.header.provides then Some (position + suc (length before)) else None)
last_by position before s bs true rest = refl
last_by position before s bs false rest = let e : position + suc (length before) ≡ position + 1 + length before =
    omega arith in rw e rest

position_from-last : (position : ℕ) (before : List ScriptText) (s : ScriptText) (bs : List ℕ)
    → position_from position (before ++ s ∷ []) bs ≡ option_or (position_from position before bs)
    (if has_name bs s.header.provides then Some (position + length before) else None)
position_from-last position [] s bs = let e : position + 0 ≡ position = omega arith in rw e refl
position_from-last position (x ∷ before) s bs =
    last_by position before s bs (has_name bs x.header.provides) (position_from-last (position + 1) before s bs)

-- no name in a list passes the test if none is found
unfound_by : (test : List ℕ → Bool) (bs name : List ℕ) (names : List (List ℕ)) (x y : Bool) → test name ≡ x
    → bytes_eq bs name ≡ y → cond x (Some name) (find test names) ≡ None → y || has_name bs names ≡ true
    → (find test names ≡ None → has_name bs names ≡ true → test bs ≡ false) → test bs ≡ false
unfound_by test bs name names true y at same none is rest = absurd (true≢false (ap is_some none))
unfound_by test bs name names false true at same none is rest = rw ((bytes_eq-Decides bs name).0 same) at
unfound_by test bs name names false false at same none is rest = rest none is

unfound : (test : List ℕ → Bool) (bs : List ℕ) (names : List (List ℕ)) → find test names ≡ None
    → has_name bs names ≡ true → test bs ≡ false
unfound test bs [] none is = absurd (true≢false (sym is))
unfound test bs (name ∷ names) none is =
    unfound_by test bs name names (test name) (bytes_eq bs name) refl refl none is (unfound test bs names)

none_or : (o p : Option ℕ) → is_some o ≡ false → option_or o p ≡ p
none_or None p none = refl
none_or (Some x) p none = absurd (true≢false none)

or_none : (o : Option ℕ) → option_or o None ≡ o
or_none None = refl
or_none (Some x) = refl

position-next_by : (n : ℕ) (o : Option ℕ) (y : Bool) → (y ≡ true → is_some o ≡ false)
    → option_or o (if y then Some n else None) ≡ (if y then Some n else o)
position-next_by n o true new = none_or o (Some n) (new refl)
position-next_by n o false new = or_none o

-- the positions after one more script, none of whose names is known
pub position-next : (before : List ScriptText) (s : ScriptText) (bs : List ℕ)
    → find (λ name. is_some (place_of before name)) s.header.provides ≡ None → place_of (before ++ s ∷ []) bs
    ≡ (if has_name bs s.header.provides then Some (length before) else place_of before bs)
position-next before s bs new =
    let first = position_from-last 0 before s bs in
    let e : 0 + length before ≡ length before = omega arith in
    (rw e at first) ∙ position-next_by (length before) (place_of before bs) (has_name bs s.header.provides)
    (unfound (λ name. is_some (place_of before name)) bs s.header.provides new)

-- the names of scripts, with one more at the end
named-next_by : (x y : Bool) (o : Option ℕ) (n : ℕ) → is_some o ≡ x → is_some (if y then Some n else o) ≡ x || y
named-next_by x y o n is = grind arith

has_script-last : (before : List ScriptText) (s : ScriptText) (bs : List ℕ)
    → has_script (before ++ s ∷ []) bs ≡ has_script before bs || bytes_eq s.name bs
has_script-last [] s bs = or-false (bytes_eq s.name bs)
has_script-last (x ∷ before) s bs =
    rw (has_script-last before s bs) (sym (or_assoc (bytes_eq x.name bs) (has_script before bs) (bytes_eq s.name bs)))

pub named-next : (before : List ScriptText) (s : ScriptText) (bs : List ℕ) (o : Option ℕ) (n : ℕ) → is_some o
    ≡ has_script before bs → is_some (if bytes_eq s.name bs then Some n else o) ≡ has_script (before ++ s ∷ []) bs
named-next before s bs o n is =
    named-next_by (has_script before bs) (bytes_eq s.name bs) o n is ∙ sym (has_script-last before s bs)

-- the doubled name, in terms of tables for the scripts before
pub doubled-is : (f h : List ℕ → Option ℕ) (before : List ScriptText) (s : ScriptText)
    → ((bs : List ℕ) → f bs ≡ place_of before bs) → ((bs : List ℕ) → is_some (h bs) ≡ has_script before bs)
    → option_or (find (λ name. is_some (f name)) s.header.provides) (if is_some (h s.name) then Some s.name else None)
    ≡ doubled before s
doubled-is f h before s places names =
    rw (
      find-ext (λ name. is_some (f name)) (λ name. is_some (place_of before name)) s.header.provides
          (λ name. ap is_some (places name)),
      names s.name,
    ) refl

-- the missing name, in terms of a table
pub missing-is : (f : List ℕ → Option ℕ) (scripts : List ScriptText) (s : ScriptText)
    → ((bs : List ℕ) → f bs ≡ place_of scripts bs)
    → option_or (find (λ name. not (is_system name) && not (is_some (f name))) s.header.required_start)
    (find (λ name. not (is_system name) && not (is_some (f name))) s.header.required_stop) ≡ missing_of scripts s
missing-is f scripts s places =
    let same : (name : List ℕ) → (not (is_system name) && not (is_some (f name)))
    ≡ (not (is_system name) && not (is_some (place_of scripts name))) = λ name. rw (places name) refl in
    rw (
      find-ext (λ name. not (is_system name) && not (is_some (f name)))
          (λ name. not (is_system name) && not (is_some (place_of scripts name))) s.header.required_start same,
      find-ext (λ name. not (is_system name) && not (is_some (f name)))
          (λ name. not (is_system name) && not (is_some (place_of scripts name))) s.header.required_stop same,
    ) refl

-- a list split at a position
pub cut_at : {X : Type 0} (xs : List X) (n : ℕ) (x : X) → n < length xs → x ≡ get_or xs n x
    → (drop n xs ≡ x ∷ drop (n + 1) xs) × (take (n + 1) xs ≡ take n xs ++ x ∷ []) × (length (take n xs) ≡ n)
cut_at [] n x within is = absurd (omega arith)
cut_at (y ∷ xs) zero x within is = (ap (λ z. z ∷ xs) (sym is), ap (λ z. z ∷ []) (sym is), refl)
cut_at (y ∷ xs) (suc n) x within is =
    let rest = cut_at xs n x (omega arith) is in
    let e : suc n + 1 ≡ suc (n + 1) = omega arith in
    rw e (rest.0, ap (λ zs. y ∷ zs) rest.1, ap suc rest.2)

pub err_and : {S E : Type 0} (r : Result S E) (e : E) (Q : E → Type 0) → IsErrAnd r (λ given. given ≡ e) → Q e
    → IfErr r Q
err_and (Ok x) e Q is q = absurd is
err_and (Err x) e Q is q = subst Q (sym is) q

option_some : {X : Type 0} (o p : Option X) (x : X) → o ≡ Some x → option_or o p ≡ Some x
option_some o p x is = rw is refl

-- a doubled name is the first one
pub double-told : (all before after : List ScriptText) (s : ScriptText) (name : List ℕ) → double_from before (s ∷ after)
    ≡ double_from [] all → Some name ≡ doubled before s → double_from [] all ≡ Some name
double-told all before after s name same is =
    sym same ∙ option_some (doubled before s) (double_from (before ++ s ∷ []) after) name (sym is)

-- a script without a doubled name does not change the first one
pub double-next : (all before after : List ScriptText) (s : ScriptText) → double_from before (s ∷ after)
    ≡ double_from [] all → doubled before s ≡ None → double_from (before ++ s ∷ []) after ≡ double_from [] all
double-next all before after s same none =
    let P : Option (List ℕ) → Type 0 = λ o. option_or o (double_from (before ++ s ∷ []) after) ≡ double_from [] all in
    subst P none same

pub missing-told : (all after : List ScriptText) (s : ScriptText) (name : List ℕ) → missing_from all (s ∷ after)
    ≡ missing_from all all → Some name ≡ missing_of all s → missing_from all all ≡ Some name
missing-told all after s name same is = sym same ∙ option_some (missing_of all s) (missing_from all after) name (sym is)

pub missing-next : (all after : List ScriptText) (s : ScriptText) → missing_from all (s ∷ after) ≡ missing_from all all
    → missing_of all s ≡ None → missing_from all after ≡ missing_from all all
missing-next all after s same none =
    let P : Option (List ℕ) → Type 0 = λ o. option_or o (missing_from all after) ≡ missing_from all all in
    subst P none same

-- if nothing is doubled, no provided name is known
pub unknown : (before : List ScriptText) (s : ScriptText) → doubled before s ≡ None
    → find (λ name. is_some (place_of before name)) s.header.provides ≡ None
unknown before s none = first_none (find (λ name. is_some (place_of before name)) s.header.provides) _ none
  where
    first_none : (o p : Option (List ℕ)) → option_or o p ≡ None → o ≡ None
    first_none None p is = refl
    first_none (Some x) p is = absurd (true≢false (ap is_some is))
