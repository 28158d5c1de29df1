-- The number of entries at the front of the table that are not owed: what it says about the entries before an id, and
-- how it stays known.
use Rattle.trace_check.proofs.Words.{◌≡◌, refl, sym, ◌∙◌, ap, ℕ, zero, suc, ◌+◌, Bool, true, false, not, ◌&&◌}
use Rattle.trace_check.proofs.Words.{cond, List, [], ◌∷◌, take, find, slice_get, Some, None}
use Rattle.trace_check.proofs.Words.{list_any, option_map_or, or_parts, Entry, same_id, same_id-is, has_id, entry_of}
use Rattle.trace_check.proofs.Words.{is_distinct, entries_before, Start, NewTable, Enter, Call, Power, Asked, Birth}
use Rattle.trace_check.proofs.Words.{Told}
use Rattle.trace_check.proofs.Words.{Event, JudgeState, at, among, StateAfterHappening, table_after, stays_called_in}
use Rattle.trace_check.proofs.Words.{is_owed_in}
use Rattle.trace_check.proofs.Words.{IsUnowedPrefix, is_over_with, unowed_count_after, or_true, and_true}
use Rattle.init_words.specs.Entries.{waited_of}
use Rattle.trace_check.proofs.Found.{found_taken}
use Rattle.trace_check.proofs.Walks.{any_taken}

-- if none of the first entries passes, and the next one is that of the id or does not exist, none before the id passes
pub none_before : (p : Entry → Bool) (id : List ℕ) (es : List Entry) (i : ℕ)
    → option_map_or (has_id id) (slice_get es i) true ≡ true → list_any p (take i es) ≡ false
    → find p (entries_before id es) ≡ None
none_before p id [] i next none = refl
none_before p id (x ∷ es) zero next none = rw next refl
none_before p id (x ∷ es) (suc i) next none = split (same_id id x.id) (none_before p id es i next parts.1) where
  parts : (p x ≡ false) × (list_any p (take i es) ≡ false)
  parts = or_parts (p x) (list_any p (take i es)) none

  split : (b : Bool) → find p (entries_before id es) ≡ None
      → find p (cond b [] (x ∷ entries_before id es)) ≡ None
  split true later = refl
  split false later = rw parts.0 later

-- one more entry that is not owed
pub one_further : (p : Entry → Bool) (es : List Entry) (i : ℕ) (e : Entry) → slice_get es i ≡ Some e → p e ≡ false
    → list_any p (take i es) ≡ false → list_any p (take (i + 1) es) ≡ false
one_further p es i e is fails none = any_taken p es i e is ∙ rw (none, fails) refl

-- everything on which being owed depends is unchanged for this id
record Stays (old new : JudgeState) (id : List ℕ) : Type 0 where
  kept : among id new.kept ≡ among id old.kept
  orders : at id new.orders ≡ at id old.orders
  asked : among id new.asked ≡ among id old.asked
  called : among id new.called ≡ among id old.called

module _ (table : List Entry) (distinct : is_distinct table ≡ true) (old new : JudgeState) (stage : new.stage
    ≡ old.stage) where
  same_owed : (e : Entry) → Stays old new e.id → is_owed_in new e ≡ is_owed_in old e
  same_owed e stays = rw (stays.kept, stays.orders, stays.asked, stage, stays.called) refl

  all_stay : (count : ℕ) → ((id : List ℕ) → Stays old new id) → IsUnowedPrefix count table old
      → IsUnowedPrefix count table new
  all_stay count stays none = found_taken (is_owed_in old) (is_owed_in new) count table distinct
      (λ e found fails. same_owed e (stays e.id) ∙ fails) none

  -- an entry of an id with which init is not over is either owed or not waited for
  own : (i : List ℕ) (e : Entry) → entry_of e.id table ≡ Some e → same_id e.id i ≡ true
      → is_over_with table old i ≡ false → is_owed_in old e ≡ false → is_owed_in new e ≡ false
  own i e found same over fails = rw waited refl where
    test : Entry → Bool
    test x = waited_of x && not (is_owed_in old x)

    waited : waited_of e ≡ false
    waited = sym (ap (λ b. waited_of e && not b) fails ∙ and_true (waited_of e))
        ∙ sym (ap (λ o. option_map_or test o false) (ap (λ x. entry_of x table) (sym (same_id-is e.id i same)) ∙ found))
        ∙ over

  others_stay : (i : List ℕ) (count : ℕ) → ((id : List ℕ) → same_id id i ≡ false → Stays old new id)
      → IsUnowedPrefix count table old → IsUnowedPrefix (cond (not (is_over_with table old i)) count 0) table new
  others_stay i count stays none = split (is_over_with table old i) refl where
    split : (b : Bool) → is_over_with table old i ≡ b → IsUnowedPrefix (cond (not b) count 0) table new
    split true over = refl
    split false over = found_taken (is_owed_in old) (is_owed_in new) count table distinct
        (λ e found fails. each e found fails (same_id e.id i) refl) none
      where
        each : (e : Entry) → entry_of e.id table ≡ Some e → is_owed_in old e ≡ false → (b : Bool) → same_id e.id i ≡ b
            → is_owed_in new e ≡ false
        each e found fails true same = own i e found same over fails
        each e found fails false differ = same_owed e (stays e.id differ) ∙ fails

-- the number is right after a happening
pub unowed_next : (happening : Event) (old new : JudgeState) (table after : List Entry) (count : ℕ)
    → is_distinct table ≡ true → StateAfterHappening table old new happening → after ≡ table_after happening table
    → IsUnowedPrefix count table old → IsUnowedPrefix (unowed_count_after table old happening count) after new
unowed_next (Enter stage grace) old new table after count distinct took next none = refl
unowed_next (NewTable brought) old new table after count distinct took next none = refl
unowed_next (Power kind) old new table after count distinct took next none = refl
unowed_next (Call letter) old new table after count distinct took next none = refl
unowed_next (Asked i Start) old new table after count distinct took next none =
    rw next (others_stay table distinct old new took.stage i count (λ id differ. record {
      kept = took.kept id;
      orders = took.orders id ∙ rw differ refl;
      asked = took.asked id ∙ rw differ refl;
      called = took.called id ∙ rw (differ, or_true (stays_called_in table id)) refl;
    }) none)
unowed_next (Asked i ask) old new table after count distinct took next none =
    rw next (others_stay table distinct old new took.stage i count (λ id differ. record {
      kept = took.kept id;
      orders = took.orders id ∙ rw differ refl;
      asked = took.asked id;
      called = took.called id;
    }) none)
unowed_next (Birth i n) old new table after count distinct took next none =
    rw next (others_stay table distinct old new took.stage i count (λ id differ. record {
      kept = took.kept id ∙ rw differ refl;
      orders = took.orders id;
      asked = took.asked id;
      called = took.called id;
    }) none)
unowed_next (Told i) old new table after count distinct took next none =
    rw next (others_stay table distinct old new took.stage i count (λ id differ. record {
      kept = took.kept id ∙ rw differ refl;
      orders = took.orders id ∙ rw differ refl;
      asked = took.asked id;
      called = took.called id;
    }) none)
unowed_next _ old new table after count distinct took next none =
    rw next (all_stay table distinct old new took.stage count (λ id. record {
      kept = took.kept id;
      orders = took.orders id;
      asked = took.asked id;
      called = took.called id;
    }) none)
