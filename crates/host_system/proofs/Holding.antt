-- The children that a host holds, as the entries of its map.
use Rattle.std.proofs.Common.{◌≡◌, refl, sym, ◌∙◌, ap, subst, ℕ, Bool, true, false, not, ◌||◌, cond, List, [], ◌∷◌}
use Rattle.std.proofs.Common.{◌++◌, map, Option, Some, None, is_some, Result, Ok, Err}
use Rattle.std.specs.Result.{OnOk}
use Rattle.std.specs.Map.{lookup, set_value, remove_entry}
use Rattle.std.proofs.lemmas.Map.Steps.{set_value_same}
use Rattle.indexmap.specs.IndexMap.{IndexMap, WritesThrough, insert_entry}
use Rattle.indexmap.proofs.CallerLemmas.{insert_entry-new}
use Rattle.init_words.specs.Ids.{same_id}
use Rattle.host_calls.specs.Held.{HeldChildren, holds_child, without_child}

-- the map has an entry of the id exactly if a child of the id is held
pub found_held : (id : List ℕ) (held : HeldChildren) → is_some (lookup (same_id id) held) ≡ holds_child id held
found_held id [] = refl
found_held id (e ∷ held) = here (same_id id e.0) (found_held id held)
  where
    here : (b : Bool) → is_some (lookup (same_id id) held) ≡ holds_child id held
        → is_some (cond b (Some e.1) (lookup (same_id id) held)) ≡ (b || holds_child id held)
    here true later = refl
    here false later = later

none_is : (o : Option ℕ) → is_some o ≡ false → o ≡ None
none_is None h = refl
none_is (Some n) h = absurd (cc)

pub none_found : (id : List ℕ) (held : HeldChildren) → holds_child id held ≡ false → lookup (same_id id) held ≡ None
none_found id held none = none_is (lookup (same_id id) held) (found_held id held ∙ none)

-- if no entry of the id is found, removing the id's children removes nothing
without_none : (id : List ℕ) (held : HeldChildren) → lookup (same_id id) held ≡ None → without_child id held ≡ held
without_none id [] none = refl
without_none id (e ∷ held) none = here (same_id id e.0) none (without_none id held)
  where
    here : (b : Bool) → cond b (Some e.1) (lookup (same_id id) held) ≡ None → (lookup (same_id id) held ≡ None
        → without_child id held ≡ held) → cond (not b) (e ∷ without_child id held) (without_child id held) ≡ e ∷ held
    here true none later = absurd (cc)
    here false none later = ap (λ es. e ∷ es) (later none)

-- if no other entry of the id is left, removing the id's entry from the map removes the id's children
pub released : (id : List ℕ) (held : HeldChildren) → lookup (same_id id) (remove_entry (same_id id) held) ≡ None
    → remove_entry (same_id id) held ≡ without_child id held
released id [] gone = refl
released id (e ∷ held) gone = here (same_id id e.0) refl gone (released id held)
  where
    here : (b : Bool) → same_id id e.0 ≡ b → lookup (same_id id) (cond b held (e ∷ remove_entry (same_id id) held))
        ≡ None → (lookup (same_id id) (remove_entry (same_id id) held) ≡ None
        → remove_entry (same_id id) held ≡ without_child id held) → cond b held (e ∷ remove_entry (same_id id) held)
        ≡ cond (not b) (e ∷ without_child id held) (without_child id held)
    here true is gone later = sym (without_none id held gone)
    here false is gone later = ap (λ es. e ∷ es)
        (later (subst (λ b. cond b (Some e.1) (lookup (same_id id) (remove_entry (same_id id) held)) ≡ None) is gone))

-- a child that is found in the map is held
pub held_there : (id : List ℕ) (found : ℕ) (entries held : HeldChildren) → entries ≡ held
    → Some found ≡ lookup (same_id id) entries → holds_child id held ≡ true
held_there id found entries held is there =
    ap (holds_child id) (sym is) ∙ sym (found_held id entries) ∙ ap is_some (sym there)

-- a write to a child that does not change its number changes no held child
pub written_same : {S : Type 0} (id : List ℕ) (found left : ℕ) (m n : IndexMap (List ℕ) ℕ S) (held : HeldChildren)
    → m.entries ≡ held → Some found ≡ lookup (same_id id) m.entries → left ≡ found
    → WritesThrough same_id (same_id id) m left n → n.entries ≡ held
written_same id found left m n held is there same wrote =
    wrote.0 ∙ ap (set_value (same_id id) m.entries) same ∙ set_value_same (same_id id) m.entries found (sym there) ∙ is

-- nor do such writes to all children
pub all_same : (entries : HeldChildren) → map (λ (e : List ℕ × ℕ). (e.0, e.1)) entries ≡ entries
all_same [] = refl
all_same (e ∷ entries) = ap (λ es. e ∷ es) (all_same entries)

-- the child of an id that had none is added at the end
pub inserted_last : {S : Type 0} (id : List ℕ) (number : ℕ) (m : IndexMap (List ℕ) ℕ S) (held now : HeldChildren)
    → m.entries ≡ held → holds_child id held ≡ false → now ≡ insert_entry same_id m.entries id number
    → now ≡ held ++ (id, number) ∷ []
inserted_last id number m held now is none inserted = inserted ∙ insert_entry-new same_id m id number
    (none_found id m.entries (ap (holds_child id) is ∙ none)) ∙ ap (λ es. es ++ (id, number) ∷ []) is

-- what holds in any case holds if there is no error
pub on_ok : {T E P : Type 0} (outcome : Result T E) → P → OnOk outcome P
on_ok (Ok value) holds_so = holds_so
on_ok (Err error) holds_so = tt
