-- When a stage is entered or a table adopted, the records become what the past says after it.
use Rattle.core_model.proofs.Words.{arith, ◌≡◌, refl, sym, ◌∙◌, ap, ℕ, Bool, true, false, not, ◌&&◌, cond, List, []}
use Rattle.core_model.proofs.Words.{◌∷◌, ◌++◌, map, filter, find, Option, Some, None, is_none, list_any, option_map}
use Rattle.core_model.proofs.Words.{option_map_or, option_or, and_parts, or_left, not-true, list_any-append, map-append}
use Rattle.core_model.proofs.Words.{filter-append, filter_agree, none-some, same_Some, unused, Entry, Act, Stage}
use Rattle.core_model.proofs.Words.{same_act, is_limited, same_id, same_id-is, same_id-self, both_ways, falsely}
use Rattle.core_model.proofs.Words.{filter_both, filter_within, find_none, ids_of, has_id, entry_of, act_of}
use Rattle.core_model.proofs.Words.{is_distinct, NewTable, Goal, Event, table_of, stage_of, Child, has_child}
use Rattle.core_model.proofs.Words.{known_children, same_acts, is_asked, spell_hits, is_missed, removed_ids, record_ids}
use Rattle.core_model.proofs.Words.{is_sound, ids_listed, entry_listed, child_in_records, open_in_records, spell_none}
use Rattle.core_model.proofs.Words.{spell_enter, missed_enter, spell_table, missed_table, Stop, Due, SlotState}
use Rattle.core_model.proofs.Words.{record_by_id, after_enter, judged, judged_child, after_judge, adopted, left_over}
use Rattle.core_model.proofs.Words.{is_left_over, entry_records, left_records, judged_in, LastStatuses, child_known}
use Rattle.core_model.proofs.Words.{living, known_child, stop_after, stop_known, stop_of, was_missed, limiter_by}
use Rattle.core_model.proofs.Words.{asked_of, last_statuses_after, records_of}
use Rattle.trace_events.specs.declared.happenings.Happening.TheVariants.{Enter}
use Rattle.trace_events.specs.Wanted.{is_excluded}
use Rattle.std.proofs.Math.Bool.{and_comm}
use Rattle.trace_laws.proofs.Tests.{never}
use Rattle.child_table.specs.State.{is_act}
use Rattle.child_table.specs.Judging as judging
use Rattle.child_table.specs.Adopting as adopting
use Rattle.core_model.specs.Fit.{record_of}
use Rattle.core_model.proofs.Acts.{found_own, child_some, found_record, no_record}

-- comparing two actions does not depend on their order
same_act-sym : (a b : Act) → same_act a b ≡ same_act b a
same_act-sym a b = grind arith

-- if a stage is in force, the child of a record is excluded exactly if the child is
pub excluded_same : (past : List Event) (stage : Stage) → stage_of past ≡ Some stage → (child : Child)
    → judging.is_excluded stage child.act (entry_of child.id (table_of past)) ≡ is_excluded past child
excluded_same past stage now child = grind arith

-- a happening that ends the spell of each child that it does not exclude: the records are judged
module _ (next past : List Event)
    (hits : (child : Child) → spell_hits child next ≡ cond (is_excluded next child) (spell_hits child past) [])
    (misses : (child : Child) → is_missed child next ≡ (is_excluded next child && is_missed child past)) where
  judged_as : (stage : Stage) → stage_of next ≡ Some stage → (id : List ℕ) (o : Option Child) → ((child : Child) → o
      ≡ Some child → child.id ≡ id) → (slot : SlotState) → slot.id ≡ id → slot.stop ≡ stop_known past o → slot.missed
      ≡ option_map_or (λ child. is_missed child past) o false → judged_child stage (table_of next) (option_map living o)
      slot ≡ record slot { stop = stop_known next o; missed = option_map_or (λ child. is_missed child next) o false }
  judged_as stage now id None own slot is stop missed = λ i. record slot { stop = stop i; missed = missed i }
  judged_as stage now id (Some child) own slot is stop missed =
      ap (λ b. judged b slot) excluded ∙ by (is_excluded next child) refl where
        excluded : judging.is_excluded stage child.act (entry_of slot.id (table_of next)) ≡ is_excluded next child
        excluded =
            ap (λ x. judging.is_excluded stage child.act (entry_of x (table_of next))) (is ∙ sym (own child refl))
            ∙ excluded_same next stage now child

        went_on : (b : Bool) (o : Option Stop) → (b ≡ false → spell_hits child past ≡ []) → o ≡ cond b (Some
            (stop_after (spell_hits child past))) None
            → option_or o (Some Due) ≡ Some (stop_after (spell_hits child past))
        went_on true o none is = ap (λ s. option_or s (Some Due)) is
        went_on false o none is =
            ap (λ s. option_or s (Some Due)) is ∙ ap (λ signals. Some (stop_after signals)) (sym (none refl))

        by : (b : Bool) → is_excluded next child ≡ b
            → judged b slot ≡ record slot { stop = stop_known next (Some child); missed = is_missed child next }
        by true is =
            let stops : option_or slot.stop (Some Due) ≡ stop_known next (Some child) =
            went_on (is_excluded past child) slot.stop (spell_none child past) stop ∙ sym
            (λ i. cond (is i)
            (Some (stop_after ((hits child ∙ ap (λ c. cond c (spell_hits child past) []) is) i))) None) in
            let misses_too : slot.missed ≡ is_missed child next =
            missed ∙ sym (misses child ∙ ap (λ c. c && is_missed child past) is) in
            λ i. record slot { stop = stops i; missed = misses_too i }
        by false is =
            let stops : None ≡ stop_known next (Some child) =
            sym (ap (λ c. cond c (Some (stop_after (spell_hits child next))) None) is) in
            let misses_too : false ≡ is_missed child next =
            sym (misses child ∙ ap (λ c. c && is_missed child past) is) in
            λ i. record slot { stop = stops i; missed = misses_too i }

  pub judged_known : (stage : Stage) → stage_of next ≡ Some stage → (id : List ℕ) (slot : SlotState) → slot.id ≡ id
      → slot.child ≡ known_child id past → slot.stop ≡ stop_of id past → slot.missed ≡ was_missed id past
      → after_judge (table_of next) stage slot ≡ record slot {
        stop = stop_known next (child_known id past);
        missed = option_map_or (λ child. is_missed child next) (child_known id past) false;
      }
  judged_known stage now id slot is child stop missed = ap (λ c. judged_child stage (table_of next) c slot) child
      ∙ judged_as stage now id (child_known id past) (found_own id (known_children past)) slot is stop missed

-- what a record has for an entry, if nothing has happened since the stage began
unused_same : (o : Option Entry) → unused ≡ option_map_or (λ (e : Entry). limiter_by (is_limited e.act) [] []) o unused
unused_same o = grind arith

-- two changes one after another, along a list
pub mapped : {X : Type 0} (f : SlotState → SlotState) (g k : X → SlotState) → ((x : X) → f (g x) ≡ k x)
    → (xs : List X) → map f (map g xs) ≡ map k xs
mapped f g k same [] = refl
mapped f g k same (x ∷ xs) = λ i. same x i ∷ mapped f g k same xs i

-- a stage was entered
pub enter_records : (lasts : LastStatuses) → (goal : Goal) (stage : Stage) (grace : ℕ) (past : List Event)
    → is_sound goal past ≡ true → map (after_judge (table_of past) stage) (map after_enter (records_of lasts past))
    ≡ records_of lasts (Enter stage grace ∷ past)
enter_records lasts goal stage grace past sound = ap (map (after_judge (table_of past) stage)) (mapped after_enter
    (record_of lasts past) entered (λ id. refl) (record_ids past)) ∙ mapped (after_judge (table_of past) stage) entered
    (record_of lasts (Enter stage grace ∷ past)) same (record_ids past) where
      entered : List ℕ → SlotState
      entered id = after_enter (record_of lasts past id)

      same : (id : List ℕ)
          → after_judge (table_of past) stage (entered id) ≡ record_of lasts (Enter stage grace ∷ past) id
      same id = judged_known (Enter stage grace ∷ past) past (λ child. spell_enter child stage grace past)
          (λ child. missed_enter child stage grace past) stage refl id (entered id) refl refl refl refl
          ∙ (λ i. record (record_of lasts (Enter stage grace ∷ past) id) {
            asked = never (entry_of id (table_of past)) i;
            called = never (entry_of id (table_of past)) i;
            limiter = unused_same (entry_of id (table_of past)) i;
          })

-- the entry found for an id has this id
pub entry_own : (id : List ℕ) (es : List Entry) (e : Entry) → entry_of id es ≡ Some e → e.id ≡ id
entry_own id [] e there = absurd (none-some e there)
entry_own id (x ∷ es) e there = split (same_id id x.id) refl there (entry_own id es e) where
  split : (b : Bool) → same_id id x.id ≡ b → cond b (Some x) (entry_of id es) ≡ Some e
      → (entry_of id es ≡ Some e → e.id ≡ id) → e.id ≡ id
  split true same there rest = ap (λ (y : Entry). y.id) (sym (same_Some x e there)) ∙ sym (same_id-is id x.id same)
  split false differ there rest = rest there

-- no element is found exactly if none passes

pub none_found : {X : Type 0} (p : X → Bool) (xs : List X) → is_none (find p xs) ≡ not (list_any p xs)
none_found p [] = refl
none_found {X} p (x ∷ xs) = grind (arith, none_found p xs)

-- in a table without repeated ids, each entry is the one found for its id
along : (table : List Entry) → is_distinct table ≡ true → (f g : Entry → SlotState)
    → ((e : Entry) → entry_of e.id table ≡ Some e → f e ≡ g e) → map f table ≡ map g table
along [] distinct f g same = refl
along (e ∷ table) distinct f g same = λ i. same e (ap (λ b. cond b (Some e) (entry_of e.id table)) (same_id-self e.id))
    i ∷ along table parts.1 f g (λ x found. same x (behind x found (same_id x.id e.id) refl)) i where
      parts : (not (list_any (has_id e.id) table) ≡ true) × (is_distinct table ≡ true)
      parts = and_parts (not (list_any (has_id e.id) table)) (is_distinct table) distinct

      behind : (x : Entry) → entry_of x.id table ≡ Some x → (b : Bool) → same_id x.id e.id ≡ b
          → cond b (Some e) (entry_of x.id table) ≡ Some x
      behind x found true own = both_ways (list_any (has_id e.id) table) (ap (λ y. list_any (has_id y) table) (sym
          (same_id-is x.id e.id own))
          ∙ entry_listed x.id table x found) (not-true (list_any (has_id e.id) table) parts.0)
      behind x found false other = found

-- a record, judged if a stage is in force
abbrev judged_by : Option Stage → List Entry → SlotState → SlotState
judged_by None table slot = slot
judged_by (Some stage) table slot = after_judge table stage slot

judged_all : (o : Option Stage) (table : List Entry) (slots : List SlotState)
    → judged_in o table slots ≡ map (judged_by o table) slots
judged_all (Some stage) table slots = refl
judged_all None table slots = sym (each slots) where
  each : (xs : List SlotState) → map (judged_by None table) xs ≡ xs
  each [] = refl
  each (x ∷ xs) = ap (λ rest. x ∷ rest) (each xs)

-- filtering after a map
pub filter_mapped : {X Y : Type 0} (p : Y → Bool) (f : X → Y) (xs : List X)
    → filter p (map f xs) ≡ map f (filter (λ x. p (f x)) xs)
filter_mapped p f [] = refl
filter_mapped {X} p f (x ∷ xs) = grind (arith, filter_mapped p f xs)

pub mapped_passing : {X Y : Type 0} (q : X → Bool) (f g : X → Y) → ((x : X) → q x ≡ true → f x ≡ g x) → (xs : List X)
    → map f (filter q xs) ≡ map g (filter q xs)
mapped_passing q f g same [] = refl
mapped_passing {X} q f g same (x ∷ xs) = grind (arith, mapped_passing q f g same xs)

-- an id of the table in force has a record
pub listed_record : (id : List ℕ) (past : List Event) → list_any (has_id id) (table_of past) ≡ true
    → list_any (same_id id) (record_ids past) ≡ true
listed_record id past there = list_any-append (same_id id) (ids_of (table_of past))
    (filter (λ x. has_child x (known_children past)) (removed_ids past))
    ∙ or_left (list_any (same_id id) (ids_of (table_of past))) (list_any (same_id id)
    (filter (λ x. has_child x (known_children past)) (removed_ids past))) (ids_listed id (table_of past) ∙ there)

-- another table at a quiet point
module _ (lasts : LastStatuses) (goal : Goal) (table : List Entry) (past : List Event)
    (sound : is_sound goal past ≡ true) (distinct : is_distinct table ≡ true) where
  abbrev next : List Event
  next = NewTable table ∷ past

  abbrev later : LastStatuses
  later = last_statuses_after (NewTable table) past lasts

  judged_record : (o : Option Stage) → stage_of past ≡ o → (id : List ℕ) (slot : SlotState) → slot.id ≡ id
      → slot.child ≡ known_child id past → slot.stop ≡ stop_of id past → slot.missed ≡ was_missed id past
      → judged_by o table slot ≡ record slot { stop = stop_of id next; missed = was_missed id next }
  judged_record (Some stage) now id slot is child stop missed = judged_known next past (λ c. spell_table c table past)
      (λ c. missed_table c table past) stage now id slot is child stop missed
  judged_record None now id slot is child stop missed = grind arith

  -- whether an entry of the new table was asked
  asked_same : (e : Entry) → entry_of e.id table ≡ Some e
      → (asked_of e.id past && is_act e.act (act_of e.id (table_of past))) ≡ asked_of e.id next
  asked_same e found = by (entry_of e.id (table_of past)) refl ∙ sym brought
      ∙ sym (ap (λ o. option_map_or (λ (x : Entry). is_asked x.id next) o false) found) where
        brought : is_asked e.id next
            ≡ (not (true && not (same_acts (Some e.act) (act_of e.id (table_of past)))) && is_asked e.id past)
        brought = λ i. not (entry_listed e.id table e found i && not
            (same_acts (option_map (λ (x : Entry). x.act) (found i)) (act_of e.id (table_of past))))
            && is_asked e.id past

        swap : (a b c : Bool) → b ≡ c → (a && b) ≡ (not (true && not c) && a)
        swap true true c h = ap (λ d. not (not d) && true) h
        swap true false c h = ap (λ d. not (not d) && true) h
        swap false b true h = refl
        swap false b false h = refl

        by : (o : Option Entry) → entry_of e.id (table_of past) ≡ o → (option_map_or
            (λ (x : Entry). is_asked x.id past) o false && is_act e.act (option_map (λ (x : Entry). x.act) o))
            ≡ (not (true && not (same_acts (Some e.act) (option_map (λ (x : Entry). x.act) o))) && is_asked e.id past)
        by None is = refl
        by (Some x) is = ap (λ y. is_asked y past && same_act x.act e.act) (entry_own e.id (table_of past) x is)
            ∙ swap (is_asked e.id past) (same_act x.act e.act) (same_act e.act x.act) (same_act-sym x.act e.act)

  -- a record that stays keeps how its last child ended
  last_kept : (id : List ℕ) → list_any (same_id id) (record_ids past) ≡ true → lasts id ≡ later id
  last_kept id there = sym (ap (λ b. cond b (lasts id) None) there)

  -- the record of an entry before it is judged
  abbrev entered_record : Entry → SlotState
  entered_record e = record (record_of lasts past e.id) {
    table_act = Some e.act;
    asked = asked_of e.id past && is_act e.act (act_of e.id (table_of past));
    called = false;
    limiter = unused;
    last = later e.id;
  }

  adopted_same : (e : Entry) → adopted e (record_by_id e.id (records_of lasts past)) ≡ entered_record e
  adopted_same e =
      grind (
        arith,
        found_record,
        last_kept,
        no_record,
        falsely,
        child_in_records,
        find_none,
        both_ways,
        open_in_records,
        listed_record,
      )

  entry_same : (e : Entry) → entry_of e.id table ≡ Some e → judged_by (stage_of past) table
      (adopted e (record_by_id e.id (records_of lasts past))) ≡ record_of later next e.id
  entry_same e found = ap (judged_by (stage_of past) table) (adopted_same e) ∙ judged_record (stage_of past) refl e.id
      (entered_record e) refl refl refl refl ∙ (λ i. record (record_of later next e.id) {
        table_act = option_map (λ (x : Entry). x.act) (sym found i);
        asked = asked_same e found i;
        called = never (entry_of e.id table) i;
        limiter = unused_same (entry_of e.id table) i;
      })

  entries_same : judged_in (stage_of past) table (entry_records table (records_of lasts past))
      ≡ map (record_of later next) (ids_of table)
  entries_same = judged_all (stage_of past) table (entry_records table (records_of lasts past)) ∙ twice table ∙ along
      table distinct (λ e. judged_by (stage_of past) table (adopted e (record_by_id e.id (records_of lasts past))))
      (λ e. record_of later next e.id) entry_same ∙ sym (by_ids table) where
        twice : (es : List Entry) → map (judged_by (stage_of past) table)
            (map (λ (e : Entry). adopted e (record_by_id e.id (records_of lasts past))) es) ≡ map
            (λ (e : Entry). judged_by (stage_of past) table (adopted e (record_by_id e.id (records_of lasts past)))) es
        twice [] = refl
        twice (e ∷ es) =
            ap (λ rest. judged_by (stage_of past) table (adopted e (record_by_id e.id (records_of lasts past)))
            ∷ rest) (twice es)

        by_ids : (es : List Entry)
            → map (record_of later next) (ids_of es) ≡ map (λ (e : Entry). record_of later next e.id) es
        by_ids [] = refl
        by_ids (e ∷ es) = ap (λ rest. record_of later next e.id ∷ rest) (by_ids es)

  -- an id that is not in the table, and has a known child
  abbrev is_kept : List ℕ → Bool
  is_kept id = has_child id (known_children past)

  abbrev has_left : List ℕ → Bool
  has_left id = not (list_any (has_id id) table)

  abbrev stays : List ℕ → Bool
  stays id = has_left id && is_kept id

  -- the ids of the records that stay without an entry
  left_over_ids : filter (λ id. is_left_over table (record_of lasts past id)) (record_ids past)
      ≡ filter stays (ids_of (table_of past) ++ removed_ids past)
  left_over_ids = filter_agree (λ id. is_left_over table (record_of lasts past id)) stays same (record_ids past)
      ∙ filter-append stays (ids_of (table_of past)) (filter is_kept (removed_ids past))
      ∙ ap (λ rest. filter stays (ids_of
      (table_of past)) ++ rest) (filter_within stays is_kept (λ id h. (and_parts (has_left id) (is_kept id) h).1)
      (removed_ids past)) ∙ sym (filter-append stays (ids_of (table_of past)) (removed_ids past)) where
        same : (id : List ℕ) → is_left_over table (record_of lasts past id) ≡ stays id
        same id = (λ i. child_some id past i && none_found (has_id id) table i) ∙ and_comm (is_kept id) (has_left id)

  left_ids_next : filter is_kept (removed_ids next) ≡ filter stays (ids_of (table_of past) ++ removed_ids past)
  left_ids_next = filter_both is_kept has_left (ids_of (table_of past) ++ removed_ids past)

  left_same : (id : List ℕ) → stays id ≡ true
      → judged_by (stage_of past) table (left_over (record_of lasts past id)) ≡ record_of later next id
  left_same id h = grind (arith, judged_record, never, unused_same, last_kept, child_in_records, find_none, not-true)

  lefts_same : judged_in (stage_of past) table (left_records table (records_of lasts past))
      ≡ map (record_of later next) (filter is_kept (removed_ids next))
  lefts_same = judged_all (stage_of past) table (left_records table (records_of lasts past))
      ∙ ap (λ slots. map (judged_by (stage_of past) table) (map left_over slots)) (filter_mapped (is_left_over table)
      (record_of lasts past) (record_ids past) ∙ ap (map (record_of lasts past)) left_over_ids) ∙ ap (map (judged_by
      (stage_of past) table)) (mapped left_over (record_of lasts past) (λ id. left_over (record_of lasts past id))
      (λ id. refl) kept) ∙ mapped (judged_by (stage_of past) table) (λ id. left_over (record_of lasts past id))
      (λ id. judged_by (stage_of past) table (left_over (record_of lasts past id))) (λ id. refl) kept ∙ mapped_passing
      stays (λ id. judged_by (stage_of past) table (left_over (record_of lasts past id))) (record_of later next)
      left_same (ids_of (table_of past) ++ removed_ids past) ∙ ap (map (record_of later next)) (sym left_ids_next) where
        kept : List (List ℕ)
        kept = filter stays (ids_of (table_of past) ++ removed_ids past)

pub table_records : (lasts : LastStatuses) → (goal : Goal) (table : List Entry) (past : List Event)
    → is_sound goal past ≡ true → is_distinct table ≡ true → judged_in (stage_of past) table (adopting.after_adopt table
    (records_of lasts past)) ≡ records_of (last_statuses_after (NewTable table) past lasts) (NewTable table ∷ past)
table_records lasts goal table past sound distinct = both (stage_of past) (entry_records table (records_of lasts past))
    (left_records table (records_of lasts past)) ∙ (λ i. (entries_same lasts) goal table past sound distinct i
    ++ (lefts_same lasts) goal table past sound distinct i)
    ∙ sym
    (map-append (record_of (last_statuses_after (NewTable table) past lasts) (NewTable table ∷ past)) (ids_of table)
    (filter (λ id. has_child id (known_children past)) (removed_ids (NewTable table ∷ past)))) where
      both : (o : Option Stage) (xs ys : List SlotState)
          → judged_in o table (xs ++ ys) ≡ judged_in o table xs ++ judged_in o table ys
      both o xs ys = grind (arith, map-append)
