-- Lemmas on sorted needs, and on the steps that a search follows.
use Rattle.rc_numbers.proofs.Words.{◌≡◌, ℕ, zero, suc, ◌+◌, ◌-◌, ◌<◌, Bool, true, false, cond, ◌==◌, List, [], ◌∷◌}
use Rattle.rc_numbers.proofs.Words.{◌++◌, Option, Some, None, is_some, length, get_or, take, drop, set, replicate, refl}
use Rattle.rc_numbers.proofs.Words.{sym, ap, ◌∙◌, subst, arith, inl, inr, true≢false, eqb-true, eq-eqb, take_rest}
use Rattle.rc_numbers.proofs.Words.{get_or-drop, AreSteps, InRange, IsClosedWalk, Needs, Walk}
use Rattle.std.specs.List.{All}
use Rattle.std.specs.List.Sorted.{IsPermutation}
use Rattle.std.proofs.lemmas.List.Sorted.{All-permutation}
use Rattle.rc_numbers.proofs.PassLemmas.{Needs-range}
use Rattle.rc_numbers.proofs.CycleLemmas.{Trail, Trail-push, Trail-ring}

-- each edge with an index is a need
pub need_at : (edges : List (ℕ × ℕ)) (k : ℕ) (d : ℕ × ℕ) → k < length edges
    → Needs edges (get_or edges k d).0 (get_or edges k d).1
need_at [] k d within = absurd (omega arith)
need_at (e ∷ edges) zero d within = inl (refl, refl)
need_at (e ∷ edges) (suc k) d within = inr (need_at edges k d (omega arith))

-- each of these edges is a need
abbrev pub AreNeeds : List (ℕ × ℕ) → List (ℕ × ℕ) → Type 0
AreNeeds edges needs = All (λ need. Needs edges need.0 need.1) needs

pub AreNeeds-permutation : (edges needs : List (ℕ × ℕ)) → IsPermutation edges needs → AreNeeds edges needs
AreNeeds-permutation edges needs same =
    All-permutation (λ need. Needs edges need.0 need.1) edges needs same (λ k d within. need_at edges k d within)

pub InRange-needs : (count : ℕ) (edges needs : List (ℕ × ℕ)) → InRange count edges → AreNeeds edges needs
    → InRange count needs
InRange-needs count edges needs range are k within =
    Needs-range count edges (get_or needs k (0, 0)).0 (get_or needs k (0, 0)).1 range (are k (0, 0) within)

Needs-weaken : (edges needs : List (ℕ × ℕ)) (a b : ℕ) → AreNeeds edges needs → Needs needs a b → Needs edges a b
Needs-weaken edges [] a b are need = absurd need
Needs-weaken edges (e ∷ needs) a b are need = elim need [
  | inl at ↦ (let here : Needs edges e.0 e.1 = are 0 (0, 0) (omega arith) in
      let P : ℕ → Type 0 = λ c. Needs edges c e.1 in
      let Q : ℕ → Type 0 = λ c. Needs edges a c in
      subst Q at.1 (subst P at.0 here))
  | inr later ↦ Needs-weaken edges needs a b (λ k d within. are (suc k) d (omega arith)) later
]

Walk-weaken : (edges needs : List (ℕ × ℕ)) (a : ℕ) (xs : List ℕ) (b : ℕ) → AreNeeds edges needs → Walk needs a xs b
    → Walk edges a xs b
Walk-weaken edges needs a [] b are walk = Needs-weaken edges needs a b are walk
Walk-weaken edges needs a (x ∷ xs) b are walk =
    (Needs-weaken edges needs a x are walk.0, Walk-weaken edges needs x xs b are walk.1)

pub IsClosedWalk-weaken : (edges needs : List (ℕ × ℕ)) (ring : List ℕ) → AreNeeds edges needs → IsClosedWalk needs ring
    → IsClosedWalk edges ring
IsClosedWalk-weaken edges needs [] are is = is
IsClosedWalk-weaken edges needs (a ∷ xs) are is = Walk-weaken edges needs a xs a are is

-- there are no steps at the start
none_there : (n a : ℕ) → ◌≡◌ {A = Option ℕ} (get_or (replicate n None) a None) None
none_there zero a = refl
none_there (suc n) zero = refl
none_there (suc n) (suc a) = none_there n a

set_here : (steps : List (Option ℕ)) (a b : ℕ) → a < length steps → get_or (set steps a (Some b)) a None ≡ Some b
set_here [] a b within = absurd (omega arith)
set_here (x ∷ steps) zero b within = refl
set_here (x ∷ steps) (suc a) b within = set_here steps a b (omega arith)

set_other : (steps : List (Option ℕ)) (a v b : ℕ) → (a ≡ v → ⊥)
    → get_or (set steps a (Some b)) v None ≡ get_or steps v None
set_other [] a v b other = refl
set_other (x ∷ steps) zero zero b other = absurd (other refl)
set_other (x ∷ steps) zero (suc v) b other = refl
set_other (x ∷ steps) (suc a) zero b other = refl
set_other (x ∷ steps) (suc a) (suc v) b other = set_other steps a v b (λ e. other (ap suc e))

some_same : (b u : ℕ) → ◌≡◌ {A = Option ℕ} (Some b) (Some u) → b ≡ u
some_same b u e = cc

set_by : (edges : List (ℕ × ℕ)) (steps : List (Option ℕ)) (a b v u : ℕ) (y : Bool) → (a == v) ≡ y → a < length steps
    → Needs edges a b → AreSteps edges steps → get_or (set steps a (Some b)) v None ≡ Some u → Needs edges v u
set_by edges steps a b v u true here within need old is =
    let e : a ≡ v = eqb-true a v here in
    let P : ℕ → Type 0 = λ c. get_or (set steps a (Some b)) c None ≡ Some u in
    let own : get_or (set steps a (Some b)) a None ≡ Some u = subst P (sym e) is in
    let same : b ≡ u = some_same b u (sym (set_here steps a b within) ∙ own) in
    let Q : ℕ → Type 0 = λ c. Needs edges c b in
    let R : ℕ → Type 0 = λ c. Needs edges v c in
    subst R same (subst Q e need)
set_by edges steps a b v u false other within need old is =
    old v u (sym (set_other steps a v b (λ e. true≢false (sym (eq-eqb a v e) ∙ other))) ∙ is)

met_by : (edges : List (ℕ × ℕ)) (steps : List (Option ℕ)) (a b : ℕ) (y : Bool) → a < length steps → Needs edges a b
    → AreSteps edges steps → AreSteps edges (cond y steps (set steps a (Some b)))
met_by edges steps a b true within need old v u is = old v u is
met_by edges steps a b false within need old v u is = set_by edges steps a b v u (a == v) refl within need old is

-- a place is given a step if it has none
pub AreSteps-met : (edges : List (ℕ × ℕ)) (steps : List (Option ℕ)) (a b : ℕ) → a < length steps → Needs edges a b
    → AreSteps edges steps → AreSteps edges (cond (is_some (get_or steps a None)) steps (set steps a (Some b)))
AreSteps-met edges steps a b within need old = met_by edges steps a b (is_some (get_or steps a None)) within need old

-- the edges from an index on
pub rest_at : (needs : List (ℕ × ℕ)) (first i : ℕ)
    → get_or (take (length needs - first) (drop first needs)) i (0, 0) ≡ get_or needs (first + i) (0, 0)
rest_at needs first i = rw (take_rest, get_or-drop first needs i (0, 0)) refl

some_position : (path : List ℕ) (at : ℕ) → 0 < length (path ++ at ∷ [])
some_position [] at = omega arith
some_position (x ∷ path) at = omega arith

-- the first place of a path that is extended
pub first_kept : (path : List ℕ) (at next : ℕ)
    → get_or ((path ++ at ∷ []) ++ next ∷ []) 0 0 ≡ get_or (path ++ at ∷ []) 0 0
first_kept [] at next = refl
first_kept (x ∷ path) at next = refl

-- a path that leads back to its first place is a ring
pub path_closed : (edges : List (ℕ × ℕ)) (path : List ℕ) (at next position : ℕ) → Trail edges path at
    → Needs edges at next → get_or (path ++ at ∷ []) 0 0 ≡ position → next ≡ position
    → IsClosedWalk edges (path ++ at ∷ [])
path_closed edges path at next position trail need first back =
    Trail-ring edges (path ++ at ∷ []) next 0 (Trail-push edges path at next trail need) (some_position path at)
    (first ∙ sym back)
