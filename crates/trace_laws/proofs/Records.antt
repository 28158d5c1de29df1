-- Each open order and each kept child has a record, whatever tables came.
use Rattle.trace_laws.proofs.Words.{◌≡◌, refl, sym, ◌∙◌, ap, ◌⊎◌, inl, inr, ℕ, Bool, true, false, not, ◌||◌, cond, List}
use Rattle.trace_laws.proofs.Words.{[], ◌∷◌, ◌++◌, filter, Some, arith, list_any, false≢true, and_parts, or_right}
use Rattle.trace_laws.proofs.Words.{none-some, same_Some, list_any-append, Entry, OrderKind, Start, same_id, same_ask}
use Rattle.trace_laws.proofs.Words.{ids_of, has_id, is_distinct, NewTable, Asked, Birth, Told, Goal, Event, table_of}
use Rattle.trace_laws.proofs.Words.{is_child_of, has_child, open_of, is_quiet, unreaped_children, kept_children}
use Rattle.trace_laws.proofs.Words.{known_children, is_due, removed_ids, record_ids, may_come, is_sound, same_id-is}
use Rattle.trace_laws.proofs.Words.{or_either, not_from, any_within}
use Rattle.trace_events.specs.declared.steps.Step.TheVariants as step
use Rattle.trace_laws.proofs.Orders.{cleared, quiet_looks, known_kept, kept_before_told, told_other, same_has}
use Rattle.trace_laws.proofs.Dues.{due_facts}
use Rattle.trace_laws.proofs.Keeps.{start_stays, born_ready, sound_holds, sound_ind}
use Rattle.trace_laws.proofs.Told.{stop_known, placed_listed}

-- an open Look or signal belongs to an id with a known child
asked_known : (goal : Goal) (i : List ℕ) (ask : OrderKind) (past : List Event)
    → is_due goal (step.Order i ask) past ≡ true → same_ask Start ask ≡ false → has_child i (known_children past) ≡ true
asked_known goal i ask past may other = grind (arith, due_facts, stop_known)

pub order_known : (goal : Goal) (past : List Event) → is_sound goal past ≡ true → (id : List ℕ) (ask : OrderKind)
    → open_of id past ≡ Some ask → same_ask Start ask ≡ false → has_child id (known_children past) ≡ true
order_known goal past h = sound_ind goal (λ before. (id : List ℕ) (ask : OrderKind) → open_of id before ≡ Some ask
    → same_ask Start ask ≡ false → has_child id (known_children before) ≡ true)
    (λ table distinct id ask is other. absurd (none-some ask is)) next past h where
      next : (happening : Event) (before : List Event) → may_come goal happening before ≡ true
          → is_sound goal before ≡ true
          → ((id : List ℕ) (ask : OrderKind) → open_of id before ≡ Some ask → same_ask Start ask ≡ false
          → has_child id (known_children before) ≡ true) → (id : List ℕ) (ask : OrderKind)
          → open_of id (happening ∷ before)
          ≡ Some ask → same_ask Start ask ≡ false → has_child id (known_children (happening ∷ before)) ≡ true
      next (Asked i given) before may sound rest id ask is other = at_id (same_id id i) refl is where
        at_id : (b : Bool) → same_id id i ≡ b → cond b (Some given) (open_of id before) ≡ Some ask
            → has_child id (known_children before) ≡ true
        at_id true same is = ap (λ x. has_child x (known_children before)) (same_id-is id i same)
            ∙ asked_known goal i given before may (ap (same_ask Start) (same_Some given ask is) ∙ other)
        at_id false differ is = rest id ask is other
      next (Told i) before may sound rest id ask is other = cleared (same_id id i) (open_of id before) ask
          (λ differ was. same_has id (known_children (Told i ∷ before)) (known_children before)
          (told_other id i (unreaped_children before) (known_children before) differ) ∙ rest id ask was other) is
      next _ before may sound rest id ask is other = rest id ask is other

-- an open Start belongs to an entry of the table in force
pub start_in_table : (goal : Goal) (past : List Event) → is_sound goal past ≡ true → (id : List ℕ)
    → open_of id past ≡ Some Start → list_any (has_id id) (table_of past) ≡ true
start_in_table goal past h = sound_ind goal (λ before. (id : List ℕ) → open_of id before ≡ Some Start → list_any
    (has_id id) (table_of before) ≡ true) (λ table distinct id is. absurd (none-some Start is)) next past h where
      next : (happening : Event) (before : List Event) → may_come goal happening before ≡ true
          → is_sound goal before ≡ true
          → ((id : List ℕ) → open_of id before ≡ Some Start → list_any (has_id id) (table_of before) ≡ true)
          → (id : List ℕ)
          → open_of id (happening ∷ before) ≡ Some Start → list_any (has_id id) (table_of (happening ∷ before)) ≡ true
      next (NewTable table) before may sound rest id is =
          absurd (false≢true (quiet_looks id Start before (and_parts (is_quiet before) (is_distinct table) may).0 is))
      next (Asked i Start) before may sound rest id is = at_id (same_id id i) refl is where
        at_id : (b : Bool) → same_id id i ≡ b → cond b (Some Start) (open_of id before) ≡ Some Start
            → list_any (has_id id) (table_of before) ≡ true
        at_id true same is = ap (λ x. list_any (has_id x) (table_of before)) (same_id-is id i same)
            ∙ (due_facts goal before (step.Order i Start) may).run.listed
        at_id false differ is = rest id is
      next (Asked i ask) before may sound rest id is =
          rest id (start_stays (same_id id i) ask (open_of id before) refl is)
      next (Told i) before may sound rest id is =
          cleared (same_id id i) (open_of id before) Start (λ differ was. rest id was) is
      next _ before may sound rest id is = rest id is

-- the ids of a table's entries
pub ids_listed : (id : List ℕ) (es : List Entry) → list_any (same_id id) (ids_of es) ≡ list_any (has_id id) es
ids_listed id [] = refl
ids_listed id (e ∷ es) = ap (λ b. same_id id e.id || b) (ids_listed id es)

-- a kept child belongs to an entry of the table in force, or its id has left the table
abbrev Listed : List ℕ → List Event → Type 0
Listed id past = (list_any (has_id id) (table_of past) ≡ true) ⊎ (list_any (same_id id) (removed_ids past) ≡ true)

listed_after : (id : List ℕ) (table : List Entry) (past : List Event) → Listed id past
    → Listed id (NewTable table ∷ past)
listed_after id table past was = split (list_any (has_id id) table) refl where
  stays : (x : List ℕ) → list_any (has_id id) table ≡ false → same_id id x ≡ true
      → not (list_any (has_id x) table) ≡ true
  stays x gone same =
      not_from (list_any (has_id x) table) (ap (λ y. list_any (has_id y) table) (sym (same_id-is id x same)) ∙ gone)

  before : Listed id past → list_any (same_id id) (ids_of (table_of past) ++ removed_ids past) ≡ true
  before v0 = grind (arith, list_any-append, ids_listed)

  split : (b : Bool) → list_any (has_id id) table ≡ b → Listed id (NewTable table ∷ past)
  split true there = inl there
  split false gone = inr (any_within (same_id id) (λ x. not (list_any (has_id x) table)) (λ x. stays x gone)
      (ids_of (table_of past) ++ removed_ids past) ∙ before was)

child_listed : (goal : Goal) (past : List Event) → is_sound goal past ≡ true → (id : List ℕ)
    → has_child id (kept_children past) ≡ true → Listed id past
child_listed goal past h = sound_ind goal (λ before. (id : List ℕ) → has_child id (kept_children before) ≡ true
    → Listed id before) (λ table distinct id there. absurd (false≢true there)) next past h where
      next : (happening : Event) (before : List Event) → may_come goal happening before ≡ true
          → is_sound goal before ≡ true
          → ((id : List ℕ) → has_child id (kept_children before) ≡ true → Listed id before) → (id : List ℕ)
          → has_child id (kept_children (happening ∷ before)) ≡ true → Listed id (happening ∷ before)
      next (NewTable table) before may sound rest id there = listed_after id table before (rest id there)
      next (Birth i n) before may sound rest id there =
          or_either (same_id id i) (has_child id (kept_children before)) there
          (λ same. inl (ap (λ x. list_any (has_id x) (table_of before)) (same_id-is id i same)
          ∙ placed_listed i before (born_ready goal i n before may (sound_holds goal before sound)).placed)) (rest id)
      next (Told i) before may sound rest id there = rest id (kept_before_told (is_child_of id) i before there)
      next _ before may sound rest id there = rest id there

-- each known child has a record
pub child_in_records : (goal : Goal) (past : List Event) → is_sound goal past ≡ true → (id : List ℕ)
    → has_child id (known_children past) ≡ true → list_any (same_id id) (record_ids past) ≡ true
child_in_records goal past sound id there = list_any-append (same_id id) (ids_of (table_of past))
    (filter (λ x. has_child x (known_children past)) (removed_ids past))
    ∙ read (child_listed goal past sound id (known_kept (is_child_of id) past there)) where
      own : (x : List ℕ) → same_id id x ≡ true → has_child x (known_children past) ≡ true
      own x same = ap (λ y. has_child y (known_children past)) (sym (same_id-is id x same)) ∙ there

      read : Listed id past → (list_any (same_id id) (ids_of (table_of past))
          || list_any (same_id id) (filter (λ x. has_child x (known_children past)) (removed_ids past))) ≡ true
      read (inl in_table) = grind (arith, ids_listed)
      read (inr left) = or_right (list_any (same_id id) (ids_of (table_of past)))
          (list_any (same_id id) (filter (λ x. has_child x (known_children past)) (removed_ids past)))
          (any_within (same_id id) (λ x. has_child x (known_children past)) own (removed_ids past) ∙ left)

-- each open order has a record
pub open_in_records : (goal : Goal) (past : List Event) → is_sound goal past ≡ true → (id : List ℕ) (ask : OrderKind)
    → open_of id past ≡ Some ask → list_any (same_id id) (record_ids past) ≡ true
open_in_records goal past sound id ask is =
    grind (arith, list_any-append, ids_listed, start_in_table, child_in_records, order_known)
