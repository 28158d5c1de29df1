-- Stopping a child: the child is excluded while a signal to it is open, and the signals sent to it are a TERM and then
-- a KILL. Also: what holds of a child whose birth is not told, what a `told` leaves, and that no id has two records.
use Rattle.trace_laws.proofs.Words.{◌≡◌, ◌≤◌, refl, sym, ◌∙◌, ap, inl, inr, ℕ, Bool, true, false, not, ◌&&◌, ◌||◌, cond}
use Rattle.trace_laws.proofs.Words.{List, [], ◌∷◌, ◌++◌, map, filter, find, length, Option, Some, None, is_some, arith}
use Rattle.trace_laws.proofs.Words.{list_any, option_map, option_map_or, false≢true, and_parts, and_from, and_right}
use Rattle.trace_laws.proofs.Words.{not_from_true, not_from_false, not-true, none-some, same_Some, OrderKind, Start}
use Rattle.trace_laws.proofs.Words.{Look, Term, Kill, Answer, same_id, same_ask, answers, is_hit, ids_of, has_id}
use Rattle.trace_laws.proofs.Words.{is_distinct, NewTable, Asked, Birth, NoBirth, Reaped, Still, NoLook, Hit, Miss}
use Rattle.trace_laws.proofs.Words.{Told, Nudge, Goal, Event, table_of, stage_of, time_of, Child, is_child_of}
use Rattle.trace_laws.proofs.Words.{has_child}
use Rattle.trace_laws.proofs.Words.{open_of, undone_of, is_untold, is_quiet, newborn, unreaped_children, kept_children}
use Rattle.trace_laws.proofs.Words.{known_children, is_order, is_excluded, answered_of, child_after, Signal}
use Rattle.trace_laws.proofs.Words.{untold_hits, told_at, stop_due, has_untold_miss, in_spell, is_missed, spell_hits}
use Rattle.trace_laws.proofs.Words.{has_startable_entry, is_due, removed_ids, wants_look, may_come, is_sound}
use Rattle.trace_laws.proofs.Words.{same_id-is, both_ways}
use Rattle.trace_laws.proofs.Words.{falsely, or_either, any_less, any_without, found_any}
use Rattle.init_words.specs.declared.orders.Answer.TheVariants as answer
use Rattle.trace_events.specs.declared.happenings.Happening.TheVariants.{Enter}
use Rattle.trace_events.specs.declared.steps.Step.TheVariants as step
use Rattle.trace_laws.proofs.Tests.{is_order-is}
use Rattle.trace_laws.proofs.Orders.{cleared, undone_is_open, quiet_looks, told_other, known_kept, same_has}
use Rattle.trace_laws.proofs.Lone.{only_one}
use Rattle.trace_laws.proofs.Dues.{is_signal, MayStop, due_facts}
use Rattle.trace_laws.proofs.Keeps.{start_undone, sound_holds, sound_ind, placed_spared, not_placed, run_placed}
use Rattle.trace_laws.proofs.Keeps.{start_stays, stop_excluded}
use Rattle.trace_laws.proofs.Told.{answered_untold, answers_open, same_find, told_child}
use Rattle.trace_laws.proofs.Known.{known_single}
use Rattle.trace_laws.proofs.Records.{order_known}
use Rattle.trace_laws.proofs.Spells.{spell_none, missed_still, missed_told, spell_still, spell_nudge, spell_enter}
use Rattle.trace_laws.proofs.Spells.{spell_table, spell_birth, spell_told, answered_tells}

-- a birth that is not told belongs to an open Start
pub born_open : (goal : Goal) (past : List Event) → is_sound goal past ≡ true → (id : List ℕ) (n : ℕ)
    → answered_of id past ≡ Some (answer.Born n) → open_of id past ≡ Some Start
born_open goal past sound id n is = grind (arith, answers_open)

-- while a Start is open, its entry starts in the stage
pub start_placed : (goal : Goal) (past : List Event) → is_sound goal past ≡ true → (id : List ℕ)
    → open_of id past ≡ Some Start → has_startable_entry id past ≡ true
start_placed goal past h = sound_ind goal (λ before. (id : List ℕ) → open_of id before ≡ Some Start
    → has_startable_entry id before ≡ true) (λ table distinct id is. absurd (none-some Start is)) next past h where
      next : (happening : Event) (before : List Event) → may_come goal happening before ≡ true
          → is_sound goal before ≡ true
          → ((id : List ℕ) → open_of id before ≡ Some Start → has_startable_entry id before ≡ true) → (id : List ℕ)
          → open_of id (happening ∷ before) ≡ Some Start → has_startable_entry id (happening ∷ before) ≡ true
      next (NewTable table) before may sound rest id is =
          absurd (false≢true (quiet_looks id Start before (and_parts (is_quiet before) (is_distinct table) may).0 is))
      next (Enter stage grace) before may sound rest id is = elim (due_facts goal before (step.Enter stage grace) may) [
        | inl quiet ↦ absurd (false≢true (quiet_looks id Start before quiet is))
        | inr dawn ↦ not_placed id before dawn (rest id is)
      ]
      next (Asked i Start) before may sound rest id is = at_id (same_id id i) refl is where
        at_id : (b : Bool) → same_id id i ≡ b → cond b (Some Start) (open_of id before) ≡ Some Start
            → has_startable_entry id before ≡ true
        at_id true same is = ap (λ x. has_startable_entry x before) (same_id-is id i same) ∙ run_placed i before
            (due_facts goal before (step.Order i Start) may).run (sound_holds goal before sound).distinct
        at_id false differ is = rest id is
      next (Asked i ask) before may sound rest id is =
          rest id (start_stays (same_id id i) ask (open_of id before) refl is)
      next (Told i) before may sound rest id is =
          cleared (same_id id i) (open_of id before) Start (λ differ was. rest id was) is
      next _ before may sound rest id is = rest id is

-- so a child whose birth is not told is not excluded, and has no spell
pub newborn_spared : (goal : Goal) (past : List Event) → is_sound goal past ≡ true → (id : List ℕ) (n : ℕ)
    → answered_of id past ≡ Some (answer.Born n) → is_excluded past (newborn id n past) ≡ false
newborn_spared goal past sound id n is =
    placed_spared id n past (start_placed goal past sound id (born_open goal past sound id n is))

-- at a quiet point no signal is open
quiet_signal : {P : Type 0} (id : List ℕ) (ask : OrderKind) (past : List Event) → is_quiet past ≡ true
    → open_of id past ≡ Some ask → is_signal ask ≡ true → P
quiet_signal id ask past quiet is signal = read ask (quiet_looks id ask past quiet is) signal where
  read : {P : Type 0} (a : OrderKind) → same_ask Look a ≡ true → is_signal a ≡ true → P
  read a look signal = grind arith

-- the child found for an id has that id; if it is the only one, what holds of some child of the id holds of it
found_has : (id : List ℕ) (xs : List Child) (child : Child) → find (is_child_of id) xs ≡ Some child
    → has_child id xs ≡ true
found_has id xs child there =
    sym (found_any (λ (x : Child). x) (is_child_of id) xs) ∙ ap (λ o. is_some (option_map (λ (x : Child). x) o)) there

pub found_own : (id : List ℕ) (xs : List Child) (child : Child) → find (is_child_of id) xs ≡ Some child → id ≡ child.id
found_own id [] child there = absurd (none-some child there)
found_own id (x ∷ xs) child there = grind (arith, same_id-is, found_own id xs child)

pub found_holds : (p q : Child → Bool) (xs : List Child) (child : Child) → length (filter p xs) ≤ 1
    → find p xs ≡ Some child → list_any (λ x. p x && q x) xs ≡ true → q child ≡ true
found_holds p q [] child one there any = absurd (none-some child there)
found_holds p q (x ∷ xs) child one there any = split (p x) one there any (found_holds p q xs child) where
  split : (b : Bool) → length (cond b (x ∷ filter p xs) (filter p xs)) ≤ 1 → cond b (Some x) (find p xs) ≡ Some child
      → (b && q x || list_any (λ y. p y && q y) xs) ≡ true → (length (filter p xs) ≤ 1 → find p xs ≡ Some child
      → list_any (λ y. p y && q y) xs ≡ true → q child ≡ true) → q child ≡ true
  split true one there any rest = ap q (sym (same_Some x child there))
      ∙ or_either (q x) (list_any (λ y. p y && q y) xs) any (λ here. here) (λ more. both_ways (list_any p xs)
      (any_less (λ y. p y && q y) p (λ y both. (and_parts (p y) (q y) both).0) xs more) (only_one p x xs one))
  split false one there any rest = rest one there any

-- what holds of the child to which a signal is due holds of the known child of its id
pub stop_holds : (goal : Goal) (past : List Event) → is_sound goal past ≡ true
    → (id : List ℕ) (ask : OrderKind) (may : MayStop id ask past) (q : Child → Bool) → q may.child ≡ true
    → (child : Child) → find (is_child_of id) (known_children past) ≡ Some child → q child ≡ true
stop_holds goal past sound id ask may q holds child there =
    found_holds (is_child_of id) q (known_children past) child (known_single goal past sound id) there
    (may.within (λ x. is_child_of id x && q x) (and_from (is_child_of id may.child) (q may.child) may.own holds))

asked_stop : (goal : Goal) (i : List ℕ) (ask : OrderKind) (past : List Event)
    → is_due goal (step.Order i ask) past ≡ true → is_signal ask ≡ true → MayStop i ask past
asked_stop goal i ask past may signal = grind (arith, due_facts)

-- before the first stage no child is known
pub dawn_known : {P : Type 0} (goal : Goal) (past : List Event) → is_sound goal past ≡ true → stage_of past ≡ None
    → (id : List ℕ) → has_child id (known_children past) ≡ true → P
dawn_known goal past sound dawn id there = grind (arith, any_less, known_kept, sound_holds)

-- a `told` of another id does not change the known child of this id
other_found : (id i : List ℕ) (past : List Event) (o : Option Child) → same_id id i ≡ false
    → find (is_child_of id) (known_children (Told i ∷ past)) ≡ o → find (is_child_of id) (known_children past) ≡ o
other_found id i past o differ there =
    sym (same_find (is_child_of id) (known_children (Told i ∷ past)) (known_children past)
    (told_other id i (unreaped_children past) (known_children past) differ)) ∙ there

-- while a signal is open, the known child of its id is excluded
pub signal_excluded : (goal : Goal) (past : List Event) → is_sound goal past ≡ true → (id : List ℕ) (ask : OrderKind)
    → open_of id past ≡ Some ask → is_signal ask ≡ true → (child : Child)
    → find (is_child_of id) (known_children past) ≡ Some child → is_excluded past child ≡ true
signal_excluded goal past h = sound_ind goal (λ before. (id : List ℕ) (ask : OrderKind) → open_of id before ≡ Some ask
    → is_signal ask ≡ true → (child : Child) → find (is_child_of id) (known_children before) ≡ Some child
    → is_excluded before
    child ≡ true) (λ table distinct id ask is signal child there. absurd (none-some ask is)) next past h where
      next : (happening : Event) (before : List Event) → may_come goal happening before ≡ true
          → is_sound goal before ≡ true
          → ((id : List ℕ) (ask : OrderKind) → open_of id before ≡ Some ask → is_signal ask ≡ true → (child : Child)
          → find (is_child_of id) (known_children before) ≡ Some child → is_excluded before child ≡ true)
          → (id : List ℕ)
          (ask : OrderKind) → open_of id (happening ∷ before) ≡ Some ask → is_signal ask ≡ true → (child : Child) → find
          (is_child_of id) (known_children (happening ∷ before)) ≡ Some child
          → is_excluded (happening ∷ before) child ≡ true
      next (NewTable table) before may sound rest id ask is signal child there =
          quiet_signal id ask before (and_parts (is_quiet before) (is_distinct table) may).0 is signal
      next (Enter stage grace) before may sound rest id ask is signal child there =
          elim (due_facts goal before (step.Enter stage grace) may) [
            | inl quiet ↦ quiet_signal id ask before quiet is signal
            | inr dawn ↦ dawn_known goal before sound dawn id (found_has id (known_children before) child there)
          ]
      next (Asked i given) before may sound rest id ask is signal child there = at_id (same_id id i) refl is where
        order : given ≡ ask → MayStop i given before
        order same = asked_stop goal i given before may (ap is_signal same ∙ signal)

        at_id : (b : Bool) → same_id id i ≡ b → cond b (Some given) (open_of id before) ≡ Some ask
            → is_excluded before child ≡ true
        at_id true same is =
            let stop : MayStop i given before = order (same_Some given ask is) in
            stop_holds goal before sound i given stop (is_excluded before)
            (stop_excluded stop.child given before stop.due)
            child (ap (λ x. find (is_child_of x) (known_children before)) (sym (same_id-is id i same)) ∙ there)
        at_id false differ is = rest id ask is signal child there
      next (Told i) before may sound rest id ask is signal child there = cleared (same_id id i) (open_of id before) ask
          (λ differ was. rest id ask was signal child (other_found id i before (Some child) differ there)) is
      next _ before may sound rest id ask is signal child there = rest id ask is signal child there

-- while a signal is open, no signal to that child has failed since the last round
stop_unmissed : (child : Child) (ask : OrderKind) (past : List Event) → stop_due child past ≡ Some ask
    → is_missed child past ≡ false
stop_unmissed child ask past h = grind arith

abbrev IsUnmissed : List Event → Type 0
IsUnmissed past = (id : List ℕ) (ask : OrderKind) → open_of id past ≡ Some ask → is_signal ask ≡ true → (child : Child)
    → find (is_child_of id) (known_children past) ≡ Some child → is_missed child past ≡ false

pub signal_unmissed : (goal : Goal) (past : List Event) → is_sound goal past ≡ true → (id : List ℕ) (ask : OrderKind)
    → open_of id past ≡ Some ask → is_signal ask ≡ true → (child : Child)
    → find (is_child_of id) (known_children past) ≡ Some child → is_missed child past ≡ false
signal_unmissed goal past h = sound_ind goal IsUnmissed
    (λ table distinct id ask is signal child there. absurd (none-some ask is)) next past h where
      next : (happening : Event) (before : List Event) → may_come goal happening before ≡ true
          → is_sound goal before ≡ true → IsUnmissed before → IsUnmissed (happening ∷ before)
      next (NewTable table) before may sound rest id ask is signal child there =
          quiet_signal id ask before (and_parts (is_quiet before) (is_distinct table) may).0 is signal
      next (Enter stage grace) before may sound rest id ask is signal child there =
          elim (due_facts goal before (step.Enter stage grace) may) [
            | inl quiet ↦ quiet_signal id ask before quiet is signal
            | inr dawn ↦ dawn_known goal before sound dawn id (found_has id (known_children before) child there)
          ]
      next (Asked i given) before may sound rest id ask is signal child there =
          missed_still child (Asked i given) before refl ∙ at_id (same_id id i) refl is where
            order : given ≡ ask → MayStop i given before
            order same = asked_stop goal i given before may (ap is_signal same ∙ signal)

            at_id : (b : Bool) → same_id id i ≡ b → cond b (Some given) (open_of id before) ≡ Some ask
                → is_missed child before ≡ false
            at_id true same is =
                let stop : MayStop i given before = order (same_Some given ask is) in
                not-true (is_missed child before)
                (stop_holds goal before sound i given stop (λ (c : Child). not (is_missed c
                before))
                (not_from_false (is_missed stop.child before) (stop_unmissed stop.child given before stop.due)) child
                (ap (λ x. find (is_child_of x) (known_children before)) (sym (same_id-is id i same)) ∙ there))
            at_id false differ is = rest id ask is signal child there
      next (Told i) before may sound rest id ask is signal child there =
          missed_told child i before ∙ cleared (same_id id i) (open_of id before) ask own is where
            own : same_id id i ≡ false → open_of id before ≡ Some ask → (is_excluded before child
                && (same_id child.id i && has_untold_miss child.id before || is_missed child before)) ≡ false
            own differ was =
                let known : find (is_child_of id) (known_children before) ≡ Some child =
                other_found id i before (Some child) differ there in
                let apart : same_id child.id i ≡ false =
                ap (λ x. same_id x i) (sym (found_own id (known_children before) child known)) ∙ differ in
                ap (λ b. is_excluded before child && (b && has_untold_miss child.id before || is_missed child before))
                apart
                ∙ and_right (is_excluded before child) (is_missed child before) (rest id ask was signal child known)
      next Nudge before may sound rest id ask is signal child there = refl
      next happening before may sound rest id ask is signal child there =
          and_right (in_spell child happening before) (is_missed child before) (rest id ask is signal child there)

-- while a Start is open, its id has no known child
pub start_childless : (goal : Goal) (past : List Event) → is_sound goal past ≡ true → (id : List ℕ)
    → open_of id past ≡ Some Start → has_child id (known_children past) ≡ false
start_childless goal past h = sound_ind goal (λ before. (id : List ℕ) → open_of id before ≡ Some Start → has_child id
    (known_children before) ≡ false) (λ table distinct id is. absurd (none-some Start is)) next past h where
      next : (happening : Event) (before : List Event) → may_come goal happening before ≡ true
          → is_sound goal before ≡ true
          → ((id : List ℕ) → open_of id before ≡ Some Start → has_child id (known_children before) ≡ false)
          → (id : List ℕ)
          → open_of id (happening ∷ before) ≡ Some Start → has_child id (known_children (happening ∷ before)) ≡ false
      next (Asked i Start) before may sound rest id is = at_id (same_id id i) refl is where
        at_id : (b : Bool) → same_id id i ≡ b → cond b (Some Start) (open_of id before) ≡ Some Start
            → has_child id (known_children before) ≡ false
        at_id true same is = ap (λ x. has_child x (known_children before)) (same_id-is id i same)
            ∙ falsely (has_child i (known_children before)) (has_child i (kept_children before))
            (known_kept (is_child_of i) before) (due_facts goal before (step.Order i Start) may).run.childless
        at_id false differ is = rest id is
      next (Asked i ask) before may sound rest id is =
          rest id (start_stays (same_id id i) ask (open_of id before) refl is)
      next (Told i) before may sound rest id is = cleared (same_id id i) (open_of id before) Start
          (λ differ was. same_has id (known_children (Told i ∷ before)) (known_children before)
          (told_other id i (unreaped_children before) (known_children before) differ) ∙ rest id was) is
      next _ before may sound rest id is = rest id is

-- while a birth is not told, its id has no known child, and no look at it is due
pub unborn_childless : (goal : Goal) (past : List Event) → is_sound goal past ≡ true → (id : List ℕ) (n : ℕ)
    → answered_of id past ≡ Some (answer.Born n) → has_child id (known_children past) ≡ false
unborn_childless goal past sound id n is = start_childless goal past sound id (born_open goal past sound id n is)

pub unborn_unlooked : (goal : Goal) (past : List Event) → is_sound goal past ≡ true → (id : List ℕ) (n : ℕ)
    → answered_of id past ≡ Some (answer.Born n) → wants_look id past ≡ false
unborn_unlooked goal past h = sound_ind goal (λ before. (id : List ℕ) (n : ℕ) → answered_of id before
    ≡ Some (answer.Born n) → wants_look id before ≡ false) (λ table distinct id n is. refl) next past h where
      next : (happening : Event) (before : List Event) → may_come goal happening before ≡ true
          → is_sound goal before ≡ true
          → ((id : List ℕ) (n : ℕ) → answered_of id before ≡ Some (answer.Born n) → wants_look id before ≡ false)
          → (id : List ℕ) (n : ℕ) → answered_of id (happening ∷ before) ≡ Some (answer.Born n)
          → wants_look id (happening ∷ before) ≡ false
      next (Birth i m) before may sound rest id n is = grind arith
      next (NoBirth i) before may sound rest id n is = grind arith
      next (Reaped i m status) before may sound rest id n is = grind arith
      next (Still i) before may sound rest id n is = grind arith
      next (NoLook i) before may sound rest id n is = grind arith
      next (Hit i) before may sound rest id n is = grind arith
      next (Miss i) before may sound rest id n is = grind arith
      next (Told i) before may sound rest id n is = grind arith
      next (Asked i Look) before may sound rest id n is =
          and_right (not (same_id id i)) (wants_look id before) (rest id n is)
      next Nudge before may sound rest id n is = unborn_childless goal before sound id n is
      next _ before may sound rest id n is = rest id n is

-- an id of the table in force is not among those that left it
pub left_apart : (goal : Goal) (past : List Event) → is_sound goal past ≡ true → (id : List ℕ)
    → list_any (has_id id) (table_of past) ≡ true → list_any (same_id id) (removed_ids past) ≡ false
left_apart goal past sound id there = apart past there where
  apart : (before : List Event) → list_any (has_id id) (table_of before) ≡ true
      → list_any (same_id id) (removed_ids before) ≡ false
  apart [] there = refl
  apart (NewTable table ∷ before) there = any_without (same_id id) (λ x. not (list_any (has_id x) table))
      (λ x same. not_from_true (list_any (has_id x) table) (ap (λ y. list_any (has_id y) table)
      (sym (same_id-is id x same)) ∙ there)) (ids_of (table_of before) ++ removed_ids before)
  apart (_ ∷ before) there = apart before there

-- whether an id has a known child after an answer, given whether it had one before
abbrev pub has_after : Answer → Bool → Bool
has_after (answer.Born n) before = true
has_after (answer.Ended status) before = false
has_after _ before = before

has_found : (id : List ℕ) (xs : List Child) → has_child id xs ≡ is_some (find (is_child_of id) xs)
has_found id [] = refl
has_found id (x ∷ xs) = grind (arith, has_found id xs)

-- which ids have a known child after a `told`
pub told_leaves : (goal : Goal) (past : List Event) → is_sound goal past ≡ true → (id : List ℕ) (given : Answer)
    → answered_of id past ≡ Some given
    → has_child id (known_children (Told id ∷ past)) ≡ has_after given (has_child id (known_children past))
told_leaves goal past sound id given is = has_found id (known_children (Told id ∷ past))
    ∙ ap is_some (told_child goal past sound id given is) ∙ after given where
      after : (x : Answer) → is_some (child_after id past x (find (is_child_of id) (known_children past)))
          ≡ has_after x (has_child id (known_children past))
      after x = grind (arith, has_found)

-- an answer to a Look or a signal belongs to an id with a known child
pub answered_known : (goal : Goal) (past : List Event) → is_sound goal past ≡ true → (id : List ℕ) (given : Answer)
    → answered_of id past ≡ Some given → answers given Start ≡ false → has_child id (known_children past) ≡ true
answered_known goal past sound id given is other = grind (arith, answers_open, order_known)

-- exactly one signal was sent, a TERM
abbrev pub is_one_term : List Signal → Bool
is_one_term (signal ∷ []) = is_order Term signal.order
is_one_term _ = false

-- no signal was sent
abbrev pub are_none : List Signal → Bool
are_none [] = true
are_none _ = false

-- no signal was sent, or a TERM, or a TERM and then a KILL
abbrev pub hits_are : List Signal → Bool
hits_are [] = true
hits_are (signal ∷ []) = is_order Term signal.order
hits_are (signal ∷ first ∷ []) = is_order Kill signal.order && is_order Term first.order
hits_are _ = false

-- the signals sent fit the open order: none at a TERM, one TERM at a KILL
abbrev pub hits_fit : Option OrderKind → List Signal → Bool
hits_fit (Some Term) hits = are_none hits
hits_fit (Some Kill) hits = is_one_term hits
hits_fit _ hits = hits_are hits

fit_are : (o : Option OrderKind) (hits : List Signal) → hits_fit o hits ≡ true → hits_are hits ≡ true
fit_are o hits h = grind arith

quiet_fit : (id : List ℕ) (past : List Event) (hits : List Signal) → is_quiet past ≡ true → hits_are hits ≡ true
    → hits_fit (open_of id past) hits ≡ true
quiet_fit id past hits quiet are = read (open_of id past) refl where
  read : (o : Option OrderKind) → open_of id past ≡ o → hits_fit o hits ≡ true
  read None is = are
  read (Some Start) is = are
  read (Some Look) is = are
  read (Some Term) is = quiet_signal id Term past quiet is refl
  read (Some Kill) is = quiet_signal id Kill past quiet is refl

cut_are : (b : Bool) (hits : List Signal) → hits_are hits ≡ true → hits_are (cond b hits []) ≡ true
cut_are b hits are = grind arith

-- a TERM is due if no signal was sent, a KILL after exactly one TERM
pub term_first : (child : Child) (past : List Event) → stop_due child past ≡ Some Term
    → are_none (spell_hits child past) ≡ true
term_first child past h = grind arith

pub kill_second : (child : Child) (past : List Event) → stop_due child past ≡ Some Kill
    → is_one_term (spell_hits child past) ≡ true
kill_second child past h = grind arith

asked_fit : (goal : Goal) (i : List ℕ) (given : OrderKind) (past : List Event) → is_due goal (step.Order i given) past
    ≡ true → is_sound goal past ≡ true → (child : Child) → find (is_child_of i) (known_children past) ≡ Some child
    → hits_are (spell_hits child past) ≡ true → hits_fit (Some given) (spell_hits child past) ≡ true
asked_fit goal i Start past may sound child there are = are
asked_fit goal i Look past may sound child there are = are
asked_fit goal i Term past may sound child there are =
    let stop : MayStop i Term past = due_facts goal past (step.Order i Term) may in
    stop_holds goal past sound i Term stop (λ x. are_none (spell_hits x past))
    (term_first stop.child past stop.due) child there
asked_fit goal i Kill past may sound child there are =
    let stop : MayStop i Kill past = due_facts goal past (step.Order i Kill) may in
    stop_holds goal past sound i Kill stop (λ x. is_one_term (spell_hits x past))
    (kill_second stop.child past stop.due) child there

-- only a signal is answered by a hit, and the hit extends fitting signals by one of the allowed shapes
hit_signal : (given : Answer) (o : Option OrderKind) → option_map_or (answers given) o false ≡ true
    → is_hit given ≡ true → option_map_or is_signal o false ≡ true
hit_signal given o h hit = grind arith

told_fit : (b hit : Bool) (now : ℕ) (o : Option OrderKind) (hits : List Signal)
    → (hit ≡ true → option_map_or is_signal o false ≡ true) → hits_fit o hits ≡ true
    → hits_are (cond b (map (told_at now) (cond hit (o ∷ []) []) ++ hits) hits) ≡ true
told_fit b hit now o hits signal fit = grind arith

told_hits : (goal : Goal) (past : List Event) → is_sound goal past ≡ true → (id : List ℕ) (given : Answer)
    → answered_of id past ≡ Some given → ((child : Child) → find (is_child_of id) (known_children past) ≡ Some child
    → hits_fit (open_of id past) (spell_hits child past) ≡ true) → (child : Child) → find (is_child_of id)
    (known_children (Told id ∷ past)) ≡ Some child → hits_are (spell_hits child (Told id ∷ past)) ≡ true
told_hits goal past sound id given is rest child there =
    after given is (sym (told_child goal past sound id given is) ∙ there) where
      stays : (x : Answer) → answered_of id past ≡ Some x → find (is_child_of id) (known_children past) ≡ Some child
          → hits_are (spell_hits child (Told id ∷ past)) ≡ true
      stays x is was = ap hits_are (spell_told child id past ∙ ap (λ hits. cond (same_id child.id id && is_excluded past
          child) (map (told_at (time_of past)) hits ++ spell_hits child past) (spell_hits child past)) untold)
          ∙ told_fit (same_id child.id id && is_excluded past child) (is_hit x) (time_of past) (open_of id past)
          (spell_hits
          child past) (hit_signal x (open_of id past) (answers_open goal past sound id x is)) (rest child was) where
            untold : untold_hits child.id past ≡ cond (is_hit x) (open_of id past ∷ []) []
            untold = ap (λ y. untold_hits y past) (sym (found_own id (known_children past) child was))
                ∙ (answered_tells goal past sound id x is).hits

      after : (x : Answer) → answered_of id past ≡ Some x
          → child_after id past x (find (is_child_of id) (known_children past))
          ≡ Some child → hits_are (spell_hits child (Told id ∷ past)) ≡ true
      after (answer.Born n) is here =
          ap (λ x. hits_are (spell_hits x (Told id ∷ past))) (sym (same_Some (newborn id n past) child here))
          ∙ ap hits_are (spell_none (newborn id n past) (Told id ∷ past) (newborn_spared goal past sound id n is))
      after (answer.Ended status) is here = absurd (none-some child here)
      after answer.NotBorn is here = stays answer.NotBorn is here
      after answer.Alive is here = stays answer.Alive is here
      after answer.NoLook is here = stays answer.NoLook is here
      after answer.Hit is here = stays answer.Hit is here
      after answer.Miss is here = stays answer.Miss is here

-- the signals told in the spell of a known child fit the open order of its id
pub hits_fitting : (goal : Goal) (past : List Event) → is_sound goal past ≡ true → (id : List ℕ) (child : Child)
    → find (is_child_of id) (known_children past) ≡ Some child
    → hits_fit (open_of id past) (spell_hits child past) ≡ true
hits_fitting goal past h = sound_ind goal (λ before. (id : List ℕ) (child : Child) → find (is_child_of id)
    (known_children before) ≡ Some child → hits_fit (open_of id before) (spell_hits child before) ≡ true)
    (λ table distinct id child there. absurd (none-some child there)) next past h where
      next : (happening : Event) (before : List Event) → may_come goal happening before ≡ true
          → is_sound goal before ≡ true
          → ((id : List ℕ) (child : Child) → find (is_child_of id) (known_children before) ≡ Some child
          → hits_fit (open_of id before) (spell_hits child before) ≡ true) → (id : List ℕ) (child : Child)
          → find (is_child_of id) (known_children (happening ∷ before)) ≡ Some child
          → hits_fit (open_of id (happening ∷ before)) (spell_hits child (happening ∷ before)) ≡ true
      next (NewTable table) before may sound rest id child there = quiet_fit id before
          (spell_hits child (NewTable table ∷ before)) (and_parts (is_quiet before) (is_distinct table) may).0
          (ap hits_are (spell_table child table before) ∙ cut_are (is_excluded (NewTable table ∷ before) child)
          (spell_hits child before) (fit_are (open_of id before) (spell_hits child before) (rest id child there)))
      next (Enter stage grace) before may sound rest id child there =
          elim (due_facts goal before (step.Enter stage grace) may) [
            | inl quiet ↦ quiet_fit id before (spell_hits child (Enter stage grace ∷ before)) quiet (ap hits_are
                (spell_enter child stage grace before) ∙ cut_are (is_excluded (Enter stage grace ∷ before) child)
                (spell_hits child before) (fit_are (open_of id before) (spell_hits child before) (rest id child there)))
            | inr dawn ↦ dawn_known goal before sound dawn id (found_has id (known_children before) child there)
          ]
      next (Asked i given) before may sound rest id child there = ap (hits_fit (open_of id (Asked i given ∷ before)))
          (spell_still child (Asked i given) before refl) ∙ at_id (same_id id i) refl where
            at_id : (b : Bool) → same_id id i ≡ b
                → hits_fit (cond b (Some given) (open_of id before)) (spell_hits child before) ≡ true
            at_id true same = asked_fit goal i given before may sound child
                (ap (λ x. find (is_child_of x) (known_children before)) (sym (same_id-is id i same)) ∙ there)
                (fit_are (open_of id before) (spell_hits child before) (rest id child there))
            at_id false differ = rest id child there
      next (Birth i n) before may sound rest id child there =
          ap (hits_fit (open_of id before)) (spell_birth child i n before) ∙ at_id (same_id child.id i) refl where
            started : open_of i before ≡ Some Start
            started = undone_is_open i Start before
                (is_order-is Start (undone_of i before) (start_undone goal i n before may))

            at_id : (b : Bool) → same_id child.id i ≡ b
                → hits_fit (open_of id before) (cond b [] (spell_hits child before)) ≡ true
            at_id true same =
                both_ways (has_child i (known_children before)) (ap (λ x. has_child x (known_children before))
                (sym (found_own id (known_children before) child there ∙ same_id-is child.id i same))
                ∙ found_has id (known_children before) child there) (start_childless goal before sound i started)
            at_id false differ = rest id child there
      next (Told i) before may sound rest id child there = at_id (same_id id i) refl where
        own : id ≡ i → (o : Option Answer) → answered_of id before ≡ o → is_some o ≡ true
            → hits_are (spell_hits child (Told i ∷ before)) ≡ true
        own same None is h = absurd (false≢true h)
        own same (Some given) is h =
            ap (λ x. hits_are (spell_hits child (Told x ∷ before))) (sym same) ∙ told_hits goal before sound id given is
            (rest id) child (ap (λ x. find (is_child_of id) (known_children (Told x ∷ before))) same ∙ there)

        at_id : (b : Bool) → same_id id i ≡ b
            → hits_fit (cond b None (open_of id before)) (spell_hits child (Told i ∷ before)) ≡ true
        at_id true same =
            let one : id ≡ i = same_id-is id i same in
            own one (answered_of id before) refl (answered_untold id before ∙ ap (λ x. is_untold x before) one ∙ may)
        at_id false differ =
            let was : find (is_child_of id) (known_children before) ≡ Some child =
            other_found id i before (Some child) differ there in
            let apart : same_id child.id i ≡ false =
            ap (λ x. same_id x i) (sym (found_own id (known_children before) child was)) ∙ differ in
            ap (hits_fit (open_of id before))
            (spell_told child i before ∙ ap (λ b. cond (b && is_excluded before child) (map (told_at (time_of before))
            (untold_hits child.id before) ++ spell_hits child before) (spell_hits child before)) apart)
            ∙ rest id child was
      next Nudge before may sound rest id child there =
          ap (hits_fit (open_of id before)) (spell_nudge child before) ∙ rest id child there
      next happening before may sound rest id child there =
          ap (hits_fit (open_of id before)) (spell_still child happening before refl) ∙ rest id child there

-- so these signals are none, a TERM, or a TERM and then a KILL
pub hits_shape : (goal : Goal) (past : List Event) → is_sound goal past ≡ true → (id : List ℕ) (child : Child)
    → find (is_child_of id) (known_children past) ≡ Some child → hits_are (spell_hits child past) ≡ true
hits_shape goal past sound id child there =
    fit_are (open_of id past) (spell_hits child past) (hits_fitting goal past sound id child there)
