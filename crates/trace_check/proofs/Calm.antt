-- No child is excluded: what follows from it, and how it stays known.
use Rattle.trace_check.proofs.Words.{◌≡◌, refl, sym, ◌∙◌, ap, ℕ, Bool, true, false, not, ◌&&◌, cond, List, [], ◌∷◌}
use Rattle.trace_check.proofs.Words.{Option, Some, None, is_some, arith, list_any, list_all, keys_of, option_map}
use Rattle.trace_check.proofs.Words.{option_map_or, and_parts, false≢true, not-true, is_some-lookup, Entry, Stage}
use Rattle.trace_check.proofs.Words.{Level, same_id, same_id-is, any_less, falsely, not_from, entry_of, act_of}
use Rattle.trace_check.proofs.Words.{NewTable, Enter, Settle, Birth, Reaped, Event, starts_in, may_live, is_level}
use Rattle.trace_check.proofs.Words.{UnreapedChild, JudgeState, at, StateAfterHappening, table_after, is_numbered}
use Rattle.trace_check.proofs.Words.{is_alive}
use Rattle.trace_check.proofs.Words.{is_excluded_in, none_excluded_in, NoneExcludedIfCalm, calm_after, is_placed_in}
use Rattle.trace_check.proofs.Words.{is_in_turn_in}
use Rattle.trace_check.proofs.Words.{is_served_in, is_settled_in, flaw_in}

-- if no id passes a test, none in a list does
none_among : (p : List ℕ → Bool) → ((id : List ℕ) → p id ≡ false) → (ids : List (List ℕ)) → list_any p ids ≡ false
none_among p none [] = refl
none_among p none (id ∷ ids) = rw (none id) (none_among p none ids)

pub calm_none : (calm : Bool) (table : List Entry) (s : JudgeState) → NoneExcludedIfCalm calm table s → calm ≡ true
    → none_excluded_in table s ≡ true
calm_none calm table s known is = not_from (list_any (is_excluded_in table s) (keys_of s.children))
    (none_among (is_excluded_in table s) (known is) (keys_of s.children))

there : (o : Option UnreapedChild) (p : UnreapedChild → Bool) → option_map_or p o false ≡ true → is_some o ≡ true
there o p h = grind arith

none_each : (table : List Entry) (s : JudgeState) → none_excluded_in table s ≡ true → (id : List ℕ)
    → is_excluded_in table s id ≡ false
none_each table s none id = falsely (is_excluded_in table s id) (list_any (is_excluded_in table s) (keys_of s.children))
    listed (not-true (list_any (is_excluded_in table s) (keys_of s.children)) none)
  where
    listed : is_excluded_in table s id ≡ true → list_any (is_excluded_in table s) (keys_of s.children) ≡ true
    listed is =
        let key : list_any (same_id id) (keys_of s.children) ≡ true = sym (is_some-lookup (same_id id) s.children)
        ∙ there (at id s.children) (λ living. not (may_live (entry_of id table) living.act s.stage)) is in
        any_less (same_id id) (is_excluded_in table s)
        (λ k same. ap (is_excluded_in table s) (sym (same_id-is id k same)) ∙ is) (keys_of s.children) key

newborn_lives : (entry : Option Entry) (stage : Option Stage) → option_map_or (λ e. starts_in e stage) entry false
    ≡ true → not (may_live entry (option_map (λ (e : Entry). e.act) entry) stage) ≡ false
newborn_lives entry stage h = grind arith

-- what follows from a birth or a settled level that breaks no law
no_law : (b : Bool) (law : ℕ) → cond (not b) (Some law) None ≡ None → b ≡ true
no_law true law h = refl
no_law false law h = absurd (cc)

birth_says : (alive placed turn none : Bool) → cond {A = Option ℕ} alive (Some 1) (cond (not placed) (Some 2)
    (cond (not turn) (Some 3) (cond (not none) (Some 4) None))) ≡ None → (placed ≡ true) × (none ≡ true)
birth_says true placed turn none h = absurd (cc)
birth_says false false turn none h = absurd (cc)
birth_says false true false none h = absurd (cc)
birth_says false true true false h = absurd (cc)
birth_says false true true true h = (refl, refl)

settled_says : (level : Level) (table : List Entry) (s : JudgeState) → is_settled_in level table s ≡ true
    → none_excluded_in table s ≡ true
settled_says level table s h = (and_parts (is_level level s.stage) (none_excluded_in table s)
    (and_parts (is_level level s.stage && none_excluded_in table s) (list_all (is_served_in level s) table) h).0).1

-- the child of an id is excluded by this table and this stage
abbrev excluded_by : List Entry → Option Stage → List ℕ → Option UnreapedChild → Bool
excluded_by table stage id o = option_map_or (λ living. not (may_live (entry_of id table) living.act stage)) o false

by_child : (table : List Entry) (old new : JudgeState) (id : List ℕ) (child : Option UnreapedChild)
    → new.stage ≡ old.stage → at id new.children ≡ child → excluded_by table old.stage id child ≡ false
    → is_excluded_in table new id ≡ false
by_child table old new id child stage is none =
    ap (λ now. excluded_by table now id (at id new.children)) stage ∙ ap (excluded_by table old.stage id) is ∙ none

gone : (table : List Entry) (stage : Option Stage) (id : List ℕ) (b : Bool) (o : Option UnreapedChild)
    → excluded_by table stage id o ≡ false → excluded_by table stage id (cond b None o) ≡ false
gone table stage id true o none = refl
gone table stage id false o none = none

born : (table : List Entry) (stage : Option Stage) (i : List ℕ) (n : ℕ) (id : List ℕ) (o : Option UnreapedChild)
    → option_map_or (λ e. starts_in e stage) (entry_of i table) false ≡ true → excluded_by table stage id o ≡ false
    → excluded_by table stage id (cond (same_id id i) (Some (record { number = n; act = act_of i table })) o) ≡ false
born table stage i n id o placed none = split (same_id id i) refl where
  split : (b : Bool) → same_id id i ≡ b
      → excluded_by table stage id (cond b (Some (record { number = n; act = act_of i table })) o) ≡ false
  split true same = ap (λ x. not (may_live (entry_of x table) (act_of i table) stage)) (same_id-is id i same)
      ∙ newborn_lives (entry_of i table) stage placed
  split false differ = none

-- `calm` is right after a happening that broke no law
pub calm_next : (happening : Event) (old new : JudgeState) (table after : List Entry) (calm : Bool)
    → flaw_in table old happening ≡ None → StateAfterHappening table old new happening
    → after ≡ table_after happening table
    → NoneExcludedIfCalm calm table old → NoneExcludedIfCalm (calm_after happening calm) after new
calm_next (Enter stage grace) old new table after calm lawful took next known = λ is id. absurd (false≢true is)
calm_next (NewTable brought) old new table after calm lawful took next known = λ is id. absurd (false≢true is)
calm_next (Birth i n) old new table after calm lawful took next known = λ is id.
    let says = birth_says (is_alive old i) (is_placed_in table old i) (is_in_turn_in table old i)
    (none_excluded_in table old) lawful in
    rw next (by_child table old new id _ took.stage (took.children id)
    (born table old.stage i n id (at id old.children) says.0 (none_each table old says.1 id)))
calm_next (Settle level) old new table after calm lawful took next known = λ is id.
    let settled : is_settled_in level table old ≡ true = no_law (is_settled_in level table old) 5 lawful in
    rw next (by_child table old new id _ took.stage (took.children id)
    (none_each table old (settled_says level table old settled) id))
calm_next (Reaped i n status) old new table after calm lawful took next known =
    λ is id. rw next (by_child table old new id _ took.stage (took.children id)
    (gone table old.stage id (same_id id i && is_numbered n (at i old.children)) (at id old.children) (known is id)))
calm_next _ old new table after calm lawful took next known =
    λ is id. rw next (by_child table old new id _ took.stage (took.children id) (known is id))
