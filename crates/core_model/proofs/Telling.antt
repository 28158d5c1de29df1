-- When an answer is told, the records become what the past says after it, and the answer is one to the open order of
-- its record.
use Rattle.core_model.proofs.Words.{arith, ◌≡◌, refl, sym, ◌∙◌, ap, ℕ, Bool, true, false, not, ◌&&◌, ◌||◌, cond, List}
use Rattle.core_model.proofs.Words.{[], ◌∷◌, ◌++◌, map, filter, Option, Some, None, is_some, is_none, Ok, list_any}
use Rattle.core_model.proofs.Words.{option_map, option_map_or, false≢true, and_right, not-true, filter-append}
use Rattle.core_model.proofs.Words.{filter_agree, Entry, Status, OrderKind, Start, Look, Term, Kill, Answer, same_id}
use Rattle.core_model.proofs.Words.{answers, is_hit, is_miss, same_id-is, same_id-self, same_id-sym, both_ways}
use Rattle.core_model.proofs.Words.{and_false, and_true, filter_both, find_none, ids_of, has_id, entry_of, act_of, Told}
use Rattle.core_model.proofs.Words.{Goal, Event, table_of, time_of, Child, is_child_of, has_child, open_of, newborn}
use Rattle.core_model.proofs.Words.{unreaped_children, known_children, answered_of, child_after, untold_hits}
use Rattle.core_model.proofs.Words.{has_untold_miss, told_at, spell_hits, is_missed, removed_ids, record_ids}
use Rattle.core_model.proofs.Words.{wants_look}
use Rattle.core_model.proofs.Words.{is_sound, is_signal, told_other, same_has, open_in_records, start_in_table}
use Rattle.core_model.proofs.Words.{ids_listed, missed_none, spell_told, missed_told, Tells, answered_tells, born_open}
use Rattle.core_model.proofs.Words.{newborn_spared, unborn_childless, unborn_unlooked, left_apart, signal_excluded}
use Rattle.core_model.proofs.Words.{signal_unmissed, has_after, told_leaves, answered_known, Stop, SlotState}
use Rattle.core_model.proofs.Words.{after_hit, after_answer, is_over, LastStatuses, child_known, living, stop_after}
use Rattle.core_model.proofs.Words.{stop_known, stop_of, is_to_look, was_missed, last_status_after, last_statuses_after}
use Rattle.core_model.proofs.Words.{records_of}
use Rattle.init_words.specs.declared.orders.Answer.TheVariants as answer
use Rattle.trace_events.specs.Wanted.{is_excluded}
use Rattle.trace_laws.proofs.Told.{answers_open, same_find, told_child}
use Rattle.child_table.specs.Lists as lists
use Rattle.core_model.specs.Fit.{record_of}
use Rattle.core_model.proofs.Acts.{found_own, child_some, found_record, stop_same, missed_same}
use Rattle.core_model.proofs.Tables.{none_found, mapped, filter_mapped, mapped_passing}

-- the record of an answered id exists, and has an open order to which this is an answer
module _ (lasts : LastStatuses) (goal : Goal) (past : List Event) (sound : is_sound goal past ≡ true) (id : List ℕ)
    (given : Answer) (is : answered_of id past ≡ Some given) where
  answered_record : lists.record_by_id id (records_of lasts past) ≡ Some (record_of lasts past id)
  answered_record = grind (arith, answers_open, found_record, open_in_records)

  pub told_taken : lists.refusal_of (lists.order_in id (records_of lasts past)) given ≡ Ok tt
  told_taken = grind (arith, answered_record, answers_open)

-- a Told of another id does not change the record of an id
module _ (lasts : LastStatuses) (past : List Event) (id x : List ℕ) (differ : same_id x id ≡ false) where
  other_child : child_known x (Told id ∷ past) ≡ child_known x past
  other_child = same_find (is_child_of x) (known_children (Told id ∷ past)) (known_children past)
      (told_other x id (unreaped_children past) (known_children past) differ)

  pub other_has : has_child x (known_children (Told id ∷ past)) ≡ has_child x (known_children past)
  other_has = same_has x (known_children (Told id ∷ past)) (known_children past)
      (told_other x id (unreaped_children past) (known_children past) differ)

  apart : (child : Child) → child_known x past ≡ Some child → same_id child.id id ≡ false
  apart child there = ap (λ y. same_id y id) (found_own x (known_children past) child there) ∙ differ

  other_stop : stop_of x (Told id ∷ past) ≡ stop_of x past
  other_stop = ap (stop_known (Told id ∷ past)) other_child ∙ stop_same (Told id ∷ past) past (child_known x past)
      (λ child there. refl) (λ child there. spell_told child id past ∙ ap (λ b. cond (b && is_excluded past child)
      (map (told_at (time_of past)) (untold_hits child.id past) ++ spell_hits child past) (spell_hits child past))
      (apart child there))

  other_missed : was_missed x (Told id ∷ past) ≡ was_missed x past
  other_missed = grind (arith, other_child, missed_same, missed_told, apart, missed_none)

  told_apart : record_of lasts past x ≡ record_of (last_statuses_after (Told id) past lasts) (Told id ∷ past) x
  told_apart = grind (arith, other_child, other_stop, other_has, other_missed)

-- the record of the id whose answer is told
module _ (lasts : LastStatuses) (goal : Goal) (past : List Event) (sound : is_sound goal past ≡ true) (id : List ℕ)
  where
    abbrev next : List Event
    next = Told id ∷ past

    abbrev later : LastStatuses
    later = last_statuses_after (Told id) past lasts

    -- the signals and the Misses of the known child, given those under way
    hits_next : (child : Child) → child_known id past ≡ Some child → (hits : List (Option OrderKind))
        → untold_hits id past ≡ hits → spell_hits child next ≡ cond (is_excluded past child)
        (map (told_at (time_of past)) hits ++ spell_hits child past) (spell_hits child past)
    hits_next child there hits untold = spell_told child id past ∙ (λ i. cond (own i && is_excluded past child)
        (map (told_at (time_of past)) (under i) ++ spell_hits child past) (spell_hits child past)) where
          own : same_id child.id id ≡ true
          own = ap (λ y. same_id y id) (found_own id (known_children past) child there) ∙ same_id-self id

          under : untold_hits child.id past ≡ hits
          under = ap (λ y. untold_hits y past) (found_own id (known_children past) child there) ∙ untold

    miss_next : (child : Child) → child_known id past ≡ Some child → (miss : Bool) → has_untold_miss id past ≡ miss
        → is_missed child next ≡ (is_excluded past child && (miss || is_missed child past))
    miss_next child there miss untold =
        missed_told child id past ∙ (λ i. is_excluded past child && (own i && under i || is_missed child past)) where
          own : same_id child.id id ≡ true
          own = ap (λ y. same_id y id) (found_own id (known_children past) child there) ∙ same_id-self id

          under : has_untold_miss child.id past ≡ miss
          under = ap (λ y. has_untold_miss y past) (found_own id (known_children past) child there) ∙ untold

    -- if none is under way, the stop and the flag stay
    same_stop : untold_hits id past ≡ [] → stop_of id past ≡ stop_known next (child_known id past)
    same_stop untold = sym (stop_same next past (child_known id past) (λ child there. refl)
        (λ child there. hits_next child there [] untold ∙ alike (is_excluded past child) (spell_hits child past))) where
          alike : {X : Type 0} (b : Bool) (x : X) → cond b x x ≡ x
          alike true x = refl
          alike false x = refl

    same_flag : has_untold_miss id past ≡ false
        → was_missed id past ≡ option_map_or (λ child. is_missed child next) (child_known id past) false
    same_flag untold =
        sym (missed_same next past (child_known id past) (λ child there. miss_next child there false untold
        ∙ goes_on (is_excluded past child) (is_missed child past) (missed_none child past))) where
          goes_on : (b c : Bool) → (b ≡ false → c ≡ false) → (b && c) ≡ c
          goes_on true c none = refl
          goes_on false c none = sym (none refl)

    -- how the last child ended, given the answer
    last_next : (given : Answer) → answered_of id past ≡ Some given
        → last_status_after (Some given) (lasts id) ≡ later id
    last_next given is = sym (λ i. cond (same_id-self id i) (last_status_after (is i) (lasts id)) (lasts id))

    -- the record whose child, stop, flags and last status are those of the past after the Told
    told_as : (child : Option Child) (stop : Option Stop) (look missed : Bool) (last : Option Status)
        → child_known id next ≡ child → stop ≡ stop_known next child → look ≡ is_to_look id next
        → missed ≡ option_map_or (λ (c : Child). is_missed c next) child false → last ≡ later id
        → record (record_of lasts
        past
        id) { child = option_map living child; order = None; stop = stop; look = look; missed = missed; last = last }
        ≡ record_of later next id
    told_as child stop look missed last known stops looks misses ends = grind (arith, same_id-self)

    -- an answer that does not change the child
    module _ (given : Answer) (is : answered_of id past ≡ Some given) (child_stays : (o : Option Child)
        → child_after id past given o ≡ o) (has_stays : (b : Bool) → has_after given b ≡ b)
        (last_stays : (o : Option Status) → last_status_after (Some given) o ≡ o) where
      stays_with : (stop : Option Stop) (missed : Bool) → stop ≡ stop_known next (child_known id past)
          → missed ≡ option_map_or (λ child. is_missed child next) (child_known id past) false
          → record (record_of lasts past id) { order = None; stop = stop; missed = missed } ≡ record_of later next id
      stays_with stop missed stops misses = told_as (child_known id past) stop (is_to_look id past) missed (lasts id)
          (told_child goal past sound id given is ∙ child_stays (child_known id past)) stops
          (ap (λ b. b && wants_look id
          past) (sym (told_leaves goal past sound id given is ∙ has_stays (has_child id (known_children past))))) misses
          (sym (last_stays (lasts id)) ∙ last_next given is)

      abbrev tells : Tells id past given
      tells = answered_tells goal past sound id given is

      no_hit : is_hit given ≡ false → stop_of id past ≡ stop_known next (child_known id past)
      no_hit none = same_stop (tells.hits ∙ ap (λ b. cond b (open_of id past ∷ []) []) none)

      no_miss : is_miss given ≡ false
          → was_missed id past ≡ option_map_or (λ child. is_missed child next) (child_known id past) false
      no_miss none = same_flag (tells.miss ∙ none)

      only_order : is_hit given ≡ false → is_miss given ≡ false
          → record (record_of lasts past id) { order = None } ≡ record_of later next id
      only_order hit miss = stays_with (stop_of id past) (was_missed id past) (no_hit hit) (no_miss miss)

    -- a signal was sent to an excluded child, on a TERM or a KILL
    hit_stop : answered_of id past ≡ Some answer.Hit
        → after_hit (open_of id past) (time_of past) (stop_of id past) ≡ stop_known next (child_known id past)
    hit_stop is = by_child (child_known id past) refl where
      tells : Tells id past answer.Hit
      tells = answered_tells goal past sound id answer.Hit is

      there : has_child id (known_children past) ≡ true
      there = answered_known goal past sound id answer.Hit is refl

      sent : (ask : OrderKind) → open_of id past ≡ Some ask → is_signal ask ≡ true → (child : Child)
          → child_known id past ≡ Some child
          → Some (stop_after (told_at (time_of past) (Some ask) ∷ spell_hits child past)) ≡ stop_known next (Some child)
      sent ask order signal child known = sym (λ i. cond (excluded i) (Some (stop_after (hits i))) None) where
        excluded : is_excluded past child ≡ true
        excluded = signal_excluded goal past sound id ask order signal child known

        hits : spell_hits child next ≡ told_at (time_of past) (Some ask) ∷ spell_hits child past
        hits = hits_next child known (Some ask ∷ []) (tells.hits ∙ ap (λ o. o ∷ []) order) ∙ ap
            (λ b. cond b (told_at (time_of past) (Some ask) ∷ spell_hits child past) (spell_hits child past)) excluded

      by_order : (o : Option OrderKind) → open_of id past ≡ o → option_map_or (answers answer.Hit) o false ≡ true
          → (child : Child) → child_known id past ≡ Some child
          → after_hit o (time_of past) (stop_of id past) ≡ stop_known next (Some child)
      by_order None order h child known = absurd (false≢true h)
      by_order (Some Start) order h child known = absurd (false≢true h)
      by_order (Some Look) order h child known = absurd (false≢true h)
      by_order (Some Term) order h child known = sent Term order refl child known
      by_order (Some Kill) order h child known = sent Kill order refl child known

      by_child : (o : Option Child) → child_known id past ≡ o
          → after_hit (open_of id past) (time_of past) (stop_of id past) ≡ stop_known next o
      by_child None known = both_ways (has_child id (known_children past)) there
          (sym (child_some id past) ∙ ap (λ o. is_some (option_map living o)) known)
      by_child (Some child) known =
          by_order (open_of id past) refl (answers_open goal past sound id answer.Hit is) child known

    -- no signal missed the child before
    hit_flag : answered_of id past ≡ Some answer.Hit
        → false ≡ option_map_or (λ child. is_missed child next) (child_known id past) false
    hit_flag is = by_child (child_known id past) refl where
      tells : Tells id past answer.Hit
      tells = answered_tells goal past sound id answer.Hit is

      sent : (ask : OrderKind) → open_of id past ≡ Some ask → is_signal ask ≡ true → (child : Child)
          → child_known id past ≡ Some child → false ≡ is_missed child next
      sent ask order signal child known =
          sym (miss_next child known false tells.miss ∙ and_right (is_excluded past child)
          (is_missed child past) (signal_unmissed goal past sound id ask order signal child known))

      by_order : (o : Option OrderKind) → open_of id past ≡ o → option_map_or (answers answer.Hit) o false ≡ true
          → (child : Child) → child_known id past ≡ Some child → false ≡ is_missed child next
      by_order None order h child known = absurd (false≢true h)
      by_order (Some Start) order h child known = absurd (false≢true h)
      by_order (Some Look) order h child known = absurd (false≢true h)
      by_order (Some Term) order h child known = sent Term order refl child known
      by_order (Some Kill) order h child known = sent Kill order refl child known

      by_child : (o : Option Child) → child_known id past ≡ o
          → false ≡ option_map_or (λ child. is_missed child next) o false
      by_child None known = refl
      by_child (Some child) known =
          by_order (open_of id past) refl (answers_open goal past sound id answer.Hit is) child known

    -- a signal could not be sent
    miss_flag : answered_of id past ≡ Some answer.Miss
        → true ≡ option_map_or (λ child. is_missed child next) (child_known id past) false
    miss_flag is = by_child (child_known id past) refl where
      tells : Tells id past answer.Miss
      tells = answered_tells goal past sound id answer.Miss is

      there : has_child id (known_children past) ≡ true
      there = answered_known goal past sound id answer.Miss is refl

      sent : (ask : OrderKind) → open_of id past ≡ Some ask → is_signal ask ≡ true → (child : Child)
          → child_known id past ≡ Some child → true ≡ is_missed child next
      sent ask order signal child known = sym (miss_next child known true tells.miss
          ∙ ap (λ b. b && true) (signal_excluded goal past sound id ask order signal child known))

      by_order : (o : Option OrderKind) → open_of id past ≡ o → option_map_or (answers answer.Miss) o false ≡ true
          → (child : Child) → child_known id past ≡ Some child → true ≡ is_missed child next
      by_order None order h child known = absurd (false≢true h)
      by_order (Some Start) order h child known = absurd (false≢true h)
      by_order (Some Look) order h child known = absurd (false≢true h)
      by_order (Some Term) order h child known = sent Term order refl child known
      by_order (Some Kill) order h child known = sent Kill order refl child known

      by_child : (o : Option Child) → child_known id past ≡ o
          → true ≡ option_map_or (λ child. is_missed child next) o false
      by_child None known = both_ways (has_child id (known_children past)) there
          (sym (child_some id past) ∙ ap (λ o. is_some (option_map living o)) known)
      by_child (Some child) known =
          by_order (open_of id past) refl (answers_open goal past sound id answer.Miss is) child known

    -- a birth: of a child that is not excluded, for an id that had none
    born_same : (n : ℕ) → answered_of id past ≡ Some (answer.Born n)
        → after_answer (answer.Born n) (time_of past) (record_of lasts past id) ≡ record_of later next id
    born_same n is = told_as (Some (newborn id n past)) None false (was_missed id past) (lasts id) (told_child goal past
        sound id (answer.Born n) is)
        (sym (ap (λ b. cond b (Some (stop_after (spell_hits (newborn id n past) next))) None)
        spared)) (sym (ap (λ b. has_child id (known_children next) && b) (unborn_unlooked goal past sound id n is)
        ∙ and_false (has_child id (known_children next)))) (ap (λ o. option_map_or (λ (c : Child). is_missed c past) o
        false) (find_none (is_child_of id) (known_children past) (unborn_childless goal past sound id n is))
        ∙ sym (missed_none (newborn id n past) next spared)) (last_next (answer.Born n) is) where
          spared : is_excluded past (newborn id n past) ≡ false
          spared = newborn_spared goal past sound id n is

    ended_same : (status : Status) → answered_of id past ≡ Some (answer.Ended status)
        → after_answer (answer.Ended status) (time_of past) (record_of lasts past id) ≡ record_of later next id
    ended_same status is = told_as None None false false (Some status)
        (told_child goal past sound id (answer.Ended status) is) refl (sym (ap (λ b. b && wants_look id past)
        (told_leaves goal past sound id (answer.Ended status) is))) refl (last_next (answer.Ended status) is)

    told_own : (given : Answer) → answered_of id past ≡ Some given
        → after_answer given (time_of past) (record_of lasts past id) ≡ record_of later next id
    told_own (answer.Born n) is = born_same n is
    told_own (answer.Ended status) is = ended_same status is
    told_own answer.NotBorn is = only_order answer.NotBorn is (λ o. refl) (λ b. refl) (λ s. refl) refl refl
    told_own answer.Alive is = only_order answer.Alive is (λ o. refl) (λ b. refl) (λ s. refl) refl refl
    told_own answer.NoLook is = only_order answer.NoLook is (λ o. refl) (λ b. refl) (λ s. refl) refl refl
    told_own answer.Hit is = stays_with answer.Hit is (λ o. refl) (λ b. refl) (λ s. refl)
        (after_hit (open_of id past) (time_of past) (stop_of id past)) false (hit_stop is) (hit_flag is)
    told_own answer.Miss is = stays_with answer.Miss is (λ o. refl) (λ b. refl) (λ s. refl) (stop_of id past) true
        (no_hit answer.Miss is (λ o. refl) (λ b. refl) (λ s. refl) refl) (miss_flag is)

-- a filter that removes one id, if it is not listed; and two filters that agree on all other ids
hides_none : (id : List ℕ) (xs : List (List ℕ)) → list_any (same_id id) xs ≡ false
    → filter (λ x. not (same_id id x)) xs ≡ xs
hides_none id [] none = grind arith
hides_none id (x ∷ xs) none = grind (arith, hides_none id xs)

alike_but : (id : List ℕ) (p q : List ℕ → Bool) → ((x : List ℕ) → same_id id x ≡ false → p x ≡ q x)
    → (xs : List (List ℕ)) → list_any (same_id id) xs ≡ false → filter p xs ≡ filter q xs
alike_but id p q same [] none = grind arith
alike_but id p q same (x ∷ xs) none = grind (arith, alike_but id p q same xs)

-- an action is known exactly for the ids of a table
act_listed : (id : List ℕ) (es : List Entry) → is_none (act_of id es) ≡ not (list_any (has_id id) es)
act_listed id es = mapped_none (entry_of id es) ∙ none_found (has_id id) es where
  mapped_none : (o : Option Entry) → is_none (option_map (λ (e : Entry). e.act) o) ≡ is_none o
  mapped_none None = refl
  mapped_none (Some e) = refl

module _ (lasts : LastStatuses) (goal : Goal) (past : List Event) (sound : is_sound goal past ≡ true) (id : List ℕ)
    (given : Answer) (is : answered_of id past ≡ Some given) where
  abbrev after : List Event
  after = Told id ∷ past

  abbrev lasts_then : LastStatuses
  lasts_then = last_statuses_after (Told id) past lasts

  abbrev is_kept : List ℕ → Bool
  is_kept x = has_child x (known_children past)

  abbrev kept_after : List ℕ → Bool
  kept_after x = has_child x (known_children after)

  -- which ids have a known child after it
  kept_other : (x : List ℕ) → same_id id x ≡ false → kept_after x ≡ is_kept x
  kept_other x differ = other_has lasts past id x (same_id-sym x id ∙ differ)

  kept_own : (x : List ℕ) → same_id id x ≡ true → kept_after x ≡ has_after given (is_kept x)
  kept_own x same = ap kept_after (sym (same_id-is id x same)) ∙ told_leaves goal past sound id given is
      ∙ ap (λ y. has_after given (is_kept y)) (same_id-is id x same)

  -- if no record is removed, the records are of the same ids, and each is as the past gives it
  changed_same : record_ids past ≡ record_ids after
      → lists.with_changed id (after_answer given (time_of past)) (records_of lasts past) ≡ records_of lasts_then after
  changed_same ids =
      mapped (lists.changed id (after_answer given (time_of past))) (record_of lasts past) (record_of lasts_then after)
      (λ x. by x (same_id id x) refl) (record_ids past) ∙ ap (map (record_of lasts_then after)) ids where
        by : (x : List ℕ) (b : Bool) → same_id id x ≡ b → cond (same_id id x) (after_answer given (time_of past)
            (record_of lasts past x)) (record_of lasts past x) ≡ record_of lasts_then after x
        by x true same =
            ap (λ b. cond b (after_answer given (time_of past) (record_of lasts past x)) (record_of lasts past
            x)) same ∙ ap (λ y. after_answer given (time_of past) (record_of lasts past y)) (sym (same_id-is id x same))
            ∙ told_own lasts goal past sound id given is ∙ ap (record_of lasts_then after) (same_id-is id x same)
        by x false differ = ap (λ b. cond b (after_answer given (time_of past) (record_of lasts past x))
            (record_of lasts past x)) differ ∙ told_apart lasts past id x (same_id-sym x id ∙ differ)

  -- the answer removes no record: the id is in the table, or its child stays
  ids_stay : list_any (has_id id) (table_of past) ≡ true → record_ids past ≡ record_ids after
  ids_stay there = ap (λ rest. ids_of (table_of past) ++ rest) (alike_but id is_kept kept_after
      (λ x differ. sym (kept_other x differ)) (removed_ids past) (left_apart goal past sound id there))

  ids_kept : ((b : Bool) → has_after given b ≡ b) → record_ids past ≡ record_ids after
  ids_kept stays = grind (arith, filter_agree, kept_own, kept_other)

  -- the record of a child that ended is removed if the table does not have the id
  ended_without : list_any (has_id id) (table_of past) ≡ false → ((b : Bool) → has_after given b ≡ false)
      → lists.without id (records_of lasts past) ≡ records_of lasts_then after
  ended_without gone ends = filter_mapped (λ (slot : SlotState). not (lists.is_record_of id slot)) (record_of lasts
      past) (record_ids past) ∙ mapped_passing others (record_of lasts past) (record_of lasts_then after)
      (λ x other. (told_apart lasts) past id x (same_id-sym x id ∙ not-true (same_id id x) other)) (record_ids past)
      ∙ ap (map (record_of lasts_then after)) ids where
        others : List ℕ → Bool
        others x = not (same_id id x)

        by : (x : List ℕ) (b : Bool) → same_id id x ≡ b → (is_kept x && not b) ≡ kept_after x
        by x true same = and_false (is_kept x) ∙ sym (kept_own x same ∙ ends (is_kept x))
        by x false differ = and_true (is_kept x) ∙ sym (kept_other x differ)

        ids : filter others (record_ids past) ≡ record_ids after
        ids = filter-append others (ids_of (table_of past)) (filter is_kept (removed_ids past)) ∙ (λ i. hides_none id
            (ids_of (table_of past)) (ids_listed id (table_of past) ∙ gone) i
            ++ (filter_both others is_kept (removed_ids past)
            ∙ filter_agree (λ x. is_kept x && others x) kept_after (λ x. by x (same_id id x) refl)
            (removed_ids past)) i)

  over_same : lists.is_over_in id given (records_of lasts past) ≡ is_over given (record_of lasts past id)
  over_same = ap (lists.ends_record given) (answered_record lasts goal past sound id given is)

  stays_same : is_over given (record_of lasts past id) ≡ false → record_ids past ≡ record_ids after
      → lists.after_answer_to id given (time_of past) (records_of lasts past) ≡ records_of lasts_then after
  stays_same stays ids = ap (λ b. cond b (lists.without id (records_of lasts past)) (lists.with_changed id
      (after_answer given (time_of past)) (records_of lasts past))) (over_same ∙ stays) ∙ changed_same ids

  goes_same : is_over given (record_of lasts past id) ≡ true → list_any (has_id id) (table_of past) ≡ false
      → ((b : Bool) → has_after given b ≡ false)
      → lists.after_answer_to id given (time_of past) (records_of lasts past) ≡ records_of lasts_then after
  goes_same over gone ends = ap (λ b. cond b (lists.without id (records_of lasts past)) (lists.with_changed id
      (after_answer given (time_of past)) (records_of lasts past))) (over_same ∙ over) ∙ ended_without gone ends

-- the records after an answer was told
pub told_records : (lasts : LastStatuses) → (goal : Goal) (past : List Event) → is_sound goal past ≡ true
    → (id : List ℕ) (given : Answer) → answered_of id past ≡ Some given → lists.after_answer_to id given (time_of past)
    (records_of lasts past) ≡ records_of (last_statuses_after (Told id) past lasts) (Told id ∷ past)
told_records lasts goal past sound id given is =
    grind (arith, stays_same, ids_stay, start_in_table, born_open, act_listed, goes_same, ids_kept)
