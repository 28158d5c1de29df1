-- The records after an order, a hold, a round and a call are those of the past with it.
use Rattle.core_model.proofs.Words.{arith, ◌≡◌, refl, sym, ◌∙◌, ap, subst, ℕ, Bool, true, false, not, ◌&&◌, ◌||◌, cond}
use Rattle.core_model.proofs.Words.{List, [], ◌∷◌, map, reverse, Option, Some, None, list_any, option_map_or, and_parts}
use Rattle.core_model.proofs.Words.{or_parts, not-true, reverse_onto, Entry, Letter, Start, Look, Term, Kill, PowerKind}
use Rattle.core_model.proofs.Words.{same_id, is_limited, stays_called, same_id-is, same_id-self, same_id-sym, and_false}
use Rattle.core_model.proofs.Words.{or_false, or_true, found_any, has_id, entry_of, is_distinct, with_start}
use Rattle.core_model.proofs.Words.{drop_last_push, Asked, Nudge, Event, Child, has_child, table_of, stage_of, time_of}
use Rattle.core_model.proofs.Words.{known_children, is_called, is_missed, start_times, hold_times, record_ids, is_still}
use Rattle.core_model.proofs.Words.{spell_still, missed_still, spell_nudge, SlotState, after_order, after_hold}
use Rattle.core_model.proofs.Words.{after_nudge, changed, with_changed, is_named, called_if, with_called}
use Rattle.core_model.proofs.Words.{LastStatuses, child_known, stop_known, limiter_by, last_hold_end, records_of}
use Rattle.trace_events.specs.declared.steps.Step.TheVariants as step
use Rattle.trace_events.specs.declared.happenings.Happening.TheVariants.{Hold, Power, Call}
use Rattle.trace_events.specs.Wanted.{is_excluded}
use Rattle.core_model.specs.Fit.{record_of}

-- two lists built along the same ids, equal for each id
pub records_same : (f g : List ℕ → SlotState) (change : SlotState → SlotState)
    → ((id : List ℕ) → change (f id) ≡ g id) → (ids : List (List ℕ)) → map change (map f ids) ≡ map g ids
records_same f g change same [] = refl
records_same f g change same (id ∷ ids) = rw (same id, records_same f g change same ids) refl

-- the records after that of one id was changed: this one is changed, and the others are the same
pub one_changed : (id : List ℕ) (change : SlotState → SlotState) (f g : List ℕ → SlotState)
    → ((i : List ℕ) → (f i).id ≡ i) → ((i : List ℕ) → same_id id i ≡ true → change (f i) ≡ g i)
    → ((i : List ℕ) → same_id id i ≡ false → f i ≡ g i) → (i : List ℕ) → changed id change (f i) ≡ g i
one_changed id change f g own here other i = grind arith

-- a happening that does not change the spells does not change the stops and the missed signals
pub stop_still : (happening : Event) (past : List Event) (o : Option Child) → is_still happening ≡ true
    → ((child : Child) → is_excluded (happening ∷ past) child ≡ is_excluded past child)
    → stop_known (happening ∷ past) o ≡ stop_known past o
stop_still happening past o still same = grind (arith, spell_still)

pub missed_known : (happening : Event) (past : List Event) (o : Option Child) → is_still happening ≡ true
    → option_map_or (λ child. is_missed child (happening ∷ past)) o false
    ≡ option_map_or (λ child. is_missed child past) o false
missed_known happening past o still = grind (arith, missed_still)

-- the entry found for an id has this id
pub entry_has : (id : List ℕ) (es : List Entry) (e : Entry) → entry_of id es ≡ Some e → same_id id e.id ≡ true
entry_has id [] e is = grind arith
entry_has id (x ∷ es) e is = grind (arith, entry_has id es e)

-- a look, a TERM and a KILL were ordered
module _ (lasts : LastStatuses) (id : List ℕ) (past : List Event) (now : ℕ) where
  pub look_ordered : with_changed id (after_order Look now) (records_of lasts past)
      ≡ records_of lasts (Asked id Look ∷ past)
  look_ordered =
      records_same (record_of lasts past) (record_of lasts (Asked id Look ∷ past)) (changed id (after_order Look now))
      (one_changed id (after_order Look now) (record_of lasts past) (record_of lasts (Asked id Look ∷ past)) (λ i. refl)
      (λ i is. rw (
        same_id-sym i id,
        is,
        stop_still (Asked id Look) past (child_known i past) refl (λ c. refl),
        missed_known (Asked id Look) past (child_known i past) refl,
        and_false (has_child i (known_children past)),
      ) refl)
      (λ i is. rw (
        same_id-sym i id,
        is,
        stop_still (Asked id Look) past (child_known i past) refl (λ c. refl),
        missed_known (Asked id Look) past (child_known i past) refl,
      ) refl)) (record_ids past)

  pub term_ordered : with_changed id (after_order Term now) (records_of lasts past)
      ≡ records_of lasts (Asked id Term ∷ past)
  term_ordered =
      records_same (record_of lasts past) (record_of lasts (Asked id Term ∷ past)) (changed id (after_order Term now))
      (one_changed id (after_order Term now) (record_of lasts past) (record_of lasts (Asked id Term ∷ past)) (λ i. refl)
      (λ i is. rw (
        same_id-sym i id,
        is,
        stop_still (Asked id Term) past (child_known i past) refl (λ c. refl),
        missed_known (Asked id Term) past (child_known i past) refl,
      ) refl)
      (λ i is. rw (
        same_id-sym i id,
        is,
        stop_still (Asked id Term) past (child_known i past) refl (λ c. refl),
        missed_known (Asked id Term) past (child_known i past) refl,
      ) refl)) (record_ids past)

  pub kill_ordered : with_changed id (after_order Kill now) (records_of lasts past)
      ≡ records_of lasts (Asked id Kill ∷ past)
  kill_ordered =
      records_same (record_of lasts past) (record_of lasts (Asked id Kill ∷ past)) (changed id (after_order Kill now))
      (one_changed id (after_order Kill now) (record_of lasts past) (record_of lasts (Asked id Kill ∷ past)) (λ i. refl)
      (λ i is. rw (
        same_id-sym i id,
        is,
        stop_still (Asked id Kill) past (child_known i past) refl (λ c. refl),
        missed_known (Asked id Kill) past (child_known i past) refl,
      ) refl)
      (λ i is. rw (
        same_id-sym i id,
        is,
        stop_still (Asked id Kill) past (child_known i past) refl (λ c. refl),
        missed_known (Asked id Kill) past (child_known i past) refl,
      ) refl)) (record_ids past)

-- the limiter of an entry to which the respawn limit applies, after a start and after a hold
start_limiter : (starts holds : List ℕ) (now : ℕ)
    → with_start (limiter_by true starts holds) now ≡ limiter_by true (now ∷ starts) holds
start_limiter starts holds now = rw (reverse_onto starts now [])
    (ap (λ noted. record { starts = noted; held = last_hold_end holds }) (drop_last_push 10 (reverse starts) now))

-- a start of an id in the table was ordered
module _ (lasts : LastStatuses) (id : List ℕ) (past : List Event) (e : Entry)
    (own : entry_of id (table_of past) ≡ Some e) where
  start_own : after_order Start (time_of past) (record_of lasts past id) ≡ record_of lasts (Asked id Start ∷ past) id
  start_own = at (is_limited e.act) refl
    where
      same : same_id e.id id ≡ true
      same = same_id-sym e.id id ∙ entry_has id (table_of past) e own

      at : (b : Bool) → is_limited e.act ≡ b
          → after_order Start (time_of past) (record_of lasts past id) ≡ record_of lasts (Asked id Start ∷ past) id
      at true is = rw (
        own,
        same,
        same_id-self id,
        is,
        or_false (stays_called e.act),
        stop_still (Asked id Start) past (child_known id past) refl (λ c. refl),
        missed_known (Asked id Start) past (child_known id past) refl,
        start_limiter (start_times e.id past) (hold_times e.id past) (time_of past),
      ) refl
      at false is = rw (
        own,
        same,
        same_id-self id,
        is,
        or_false (stays_called e.act),
        stop_still (Asked id Start) past (child_known id past) refl (λ c. refl),
        missed_known (Asked id Start) past (child_known id past) refl,
      ) refl

  start_other : (i : List ℕ) → same_id id i ≡ false → record_of lasts past i ≡ record_of lasts (Asked id Start ∷ past) i
  start_other i differ = at (entry_of i (table_of past)) refl
    where
      apart : same_id i id ≡ false
      apart = same_id-sym i id ∙ differ

      at : (o : Option Entry) → entry_of i (table_of past) ≡ o
          → record_of lasts past i ≡ record_of lasts (Asked id Start ∷ past) i
      at None is = rw (
        is,
        apart,
        stop_still (Asked id Start) past (child_known i past) refl (λ c. refl),
        missed_known (Asked id Start) past (child_known i past) refl,
      ) refl
      at (Some x) is =
          let other : same_id x.id id ≡ false =
          ap (λ y. same_id y id) (sym (same_id-is i x.id (entry_has i (table_of past) x is))) ∙ apart in
          rw (
            is,
            apart,
            other,
            or_true (stays_called x.act),
            stop_still (Asked id Start) past (child_known i past) refl (λ c. refl),
            missed_known (Asked id Start) past (child_known i past) refl,
          ) refl

  pub start_ordered : with_changed id (after_order Start (time_of past)) (records_of lasts past)
      ≡ records_of lasts (Asked id Start ∷ past)
  start_ordered = records_same (record_of lasts past) (record_of lasts (Asked id Start ∷ past))
      (changed id (after_order Start (time_of past))) (one_changed id (after_order Start (time_of past))
      (record_of lasts past) (record_of lasts (Asked id Start ∷ past)) (λ i. refl)
      (λ i is. subst (λ x. after_order Start (time_of past) (record_of lasts past x)
      ≡ record_of lasts (Asked id Start ∷ past) x) (same_id-is id i is) start_own)
      start_other) (record_ids past)

  -- an entry to which the respawn limit applies was held
  module _ (limited : is_limited e.act ≡ true) where
    hold_own : after_hold (time_of past) (record_of lasts past id) ≡ record_of lasts (Hold id ∷ past) id
    hold_own =
        let same : same_id e.id id ≡ true = same_id-sym e.id id ∙ entry_has id (table_of past) e own in
        rw (
          own,
          same,
          limited,
          stop_still (Hold id) past (child_known id past) refl (λ c. refl),
          missed_known (Hold id) past (child_known id past) refl,
        ) refl

    hold_other : (i : List ℕ) → same_id id i ≡ false → record_of lasts past i ≡ record_of lasts (Hold id ∷ past) i
    hold_other i differ = at (entry_of i (table_of past)) refl
      where
        at : (o : Option Entry) → entry_of i (table_of past) ≡ o
            → record_of lasts past i ≡ record_of lasts (Hold id ∷ past) i
        at None is = rw (
          is,
          stop_still (Hold id) past (child_known i past) refl (λ c. refl),
          missed_known (Hold id) past (child_known i past) refl,
        ) refl
        at (Some x) is =
            let other : same_id x.id id ≡ false = ap (λ y. same_id y id)
            (sym (same_id-is i x.id (entry_has i (table_of past) x is))) ∙ same_id-sym i id ∙ differ in
            rw (
              is,
              other,
              stop_still (Hold id) past (child_known i past) refl (λ c. refl),
              missed_known (Hold id) past (child_known i past) refl,
            ) refl

    pub hold_made : with_changed id (after_hold (time_of past)) (records_of lasts past)
        ≡ records_of lasts (Hold id ∷ past)
    hold_made = records_same (record_of lasts past) (record_of lasts (Hold id ∷ past))
        (changed id (after_hold (time_of past))) (one_changed id (after_hold (time_of past)) (record_of lasts past)
        (record_of lasts (Hold id ∷ past)) (λ i. refl)
        (λ i is. subst (λ x. after_hold (time_of past) (record_of lasts past x) ≡ record_of lasts (Hold id ∷ past) x)
        (same_id-is id i is) hold_own)
        hold_other) (record_ids past)

-- a round began
pub nudged : (lasts : LastStatuses) → (past : List Event)
    → map after_nudge (records_of lasts past) ≡ records_of lasts (Nudge ∷ past)
nudged lasts past = grind (arith, records_same, spell_nudge, found_any)

none_named : (p : Entry → Bool) (id : List ℕ) (es : List Entry) → list_any (has_id id) es ≡ false
    → list_any (λ e. has_id id e && p e) es ≡ false
none_named p id [] h = refl
none_named p id (x ∷ xs) h = let two = or_parts (same_id id x.id) (list_any (has_id id) xs) h in
    rw (two.0, none_named p id xs two.1) refl

-- in a table without repeated ids, an entry of the id passes exactly if the one found for the id does
pub named_own : (p : Entry → Bool) (id : List ℕ) (table : List Entry) → is_distinct table ≡ true
    → list_any (λ e. has_id id e && p e) table ≡ option_map_or p (entry_of id table) false
named_own p id [] distinct = refl
named_own p id (e ∷ es) distinct = at (same_id id e.id) refl (named_own p id es parts.1)
  where
    parts : (not (list_any (has_id e.id) es) ≡ true) × (is_distinct es ≡ true)
    parts = and_parts (not (list_any (has_id e.id) es)) (is_distinct es) distinct

    at : (b : Bool) → same_id id e.id ≡ b
        → list_any (λ e. has_id id e && p e) es ≡ option_map_or p (entry_of id es) false
        → (b && p e || list_any (λ e. has_id id e && p e) es) ≡ option_map_or p (cond b (Some e) (entry_of id es)) false
    at true same rest = rw (none_named p id es (ap (λ x. list_any (has_id x) es) (same_id-is id e.id same)
        ∙ not-true (list_any (has_id e.id) es) parts.0)) (or_false (p e))
    at false differ rest = rest

-- the entries that a power event or a letter names were called
called_same : (o : Option Entry) (named before after : Entry → Bool) → ((e : Entry) → after e ≡ (named e || before e))
    → (slot : SlotState) → slot.called ≡ option_map_or before o false
    → called_if (option_map_or named o false) slot ≡ record slot { called = option_map_or after o false }
called_same o named before after same slot is = grind arith

module _ (lasts : LastStatuses) (past : List Event) (distinct : is_distinct (table_of past) ≡ true) where
  pub power_called : (kind : PowerKind) → with_called (is_named (step.Power kind) (stage_of past)) (table_of past)
      (records_of lasts past) ≡ records_of lasts (Power kind ∷ past)
  power_called kind = records_same (record_of lasts past) (record_of lasts (Power kind ∷ past)) (λ (slot : SlotState).
      called_if (list_any (λ e. has_id slot.id e && is_named (step.Power kind) (stage_of past) e) (table_of past)) slot)
      one (record_ids past)
    where
      one : (id : List ℕ) → called_if (list_any (λ e. has_id id e && is_named (step.Power kind) (stage_of past) e)
          (table_of past)) (record_of lasts past id) ≡ record_of lasts (Power kind ∷ past) id
      one id = rw (
        named_own (is_named (step.Power kind) (stage_of past)) id (table_of past) distinct,
        stop_still (Power kind) past (child_known id past) refl (λ c. refl),
        missed_known (Power kind) past (child_known id past) refl,
      )
          (called_same (entry_of id (table_of past)) (is_named (step.Power kind) (stage_of past))
          (λ e. is_called e past) (λ e. is_called e (Power kind ∷ past)) (λ e. refl) (record_of lasts past id) refl)

  pub letter_called : (letter : Letter) → with_called (is_named (step.Call letter) (stage_of past)) (table_of past)
      (records_of lasts past) ≡ records_of lasts (Call letter ∷ past)
  letter_called letter = records_same (record_of lasts past) (record_of lasts (Call letter ∷ past))
      (λ (slot : SlotState). called_if (list_any (λ e. has_id slot.id e
      && is_named (step.Call letter) (stage_of past) e) (table_of past)) slot) one (record_ids past)
    where
      one : (id : List ℕ) → called_if (list_any (λ e. has_id id e && is_named (step.Call letter) (stage_of past) e)
          (table_of past)) (record_of lasts past id) ≡ record_of lasts (Call letter ∷ past) id
      one id = rw (
        named_own (is_named (step.Call letter) (stage_of past)) id (table_of past) distinct,
        stop_still (Call letter) past (child_known id past) refl (λ c. refl),
        missed_known (Call letter) past (child_known id past) refl,
      )
          (called_same (entry_of id (table_of past)) (is_named (step.Call letter) (stage_of past))
          (λ e. is_called e past) (λ e. is_called e (Call letter ∷ past)) (λ e. refl) (record_of lasts past id) refl)
