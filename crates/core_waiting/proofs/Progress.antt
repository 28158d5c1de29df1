-- If the children that init waited for at one rest are gone at the next, a waited entry was started in between, or the
-- level is announced settled.
use Rattle.core_waiting.proofs.Words.{arith, ◌≡◌, refl, sym, ◌∙◌, ap, ℕ, Bool, true, false, not, ◌&&◌, ◌||◌, cond, List}
use Rattle.core_waiting.proofs.Words.{[], ◌∷◌, ◌++◌, filter, ◌⊎◌, inl, inr, Option, Some, None, list_any, list_all}
use Rattle.core_waiting.proofs.Words.{option_map_or, false≢true, false_from_ne_true, true_from_ne_false, and_parts}
use Rattle.core_waiting.proofs.Words.{and_from, or_left, or_right, or_parts, or_from, Entry, Act, OrderKind, Start}
use Rattle.core_waiting.proofs.Words.{Look, Term, Kill, same_id, wanted_by, is_limited, waited_of, same_id-is}
use Rattle.core_waiting.proofs.Words.{same_id-self, both_ways, falsely, or_either, not_from, any_less, Passing, passing}
use Rattle.core_waiting.proofs.Words.{entry_of, NewTable, Enter, Asked, Birth, Told, Goal, Event, table_of, stage_of}
use Rattle.core_waiting.proofs.Words.{Child, is_child_of, has_child, open_of, is_quiet, is_idle, newborn, kept_children}
use Rattle.core_waiting.proofs.Words.{starts_now, is_order, has_no_running_child, is_asked, is_called, is_wanted}
use Rattle.core_waiting.proofs.Words.{may_live}
use Rattle.core_waiting.proofs.Words.{is_excluded, may_come, is_sound, kept_before_told, undone_is_open, is_order-is}
use Rattle.core_waiting.proofs.Words.{due_facts, sound_holds, start_undone, born_ready, placed_spared, quiet_start}
use Rattle.core_waiting.proofs.Words.{is_table, at_moment, sound_step, Excluded, WaitedFor, InTheWay, AtRest}
use Rattle.core_waiting.proofs.Words.{why_of_entry, is_awaited, awaited_children, is_level_announced, is_calm}
use Rattle.core_waiting.proofs.Words.{is_waited_id, is_start_of, is_waited_start, is_gone}
use Rattle.std.proofs.Common.{is_some}
use Rattle.trace_events.specs.declared.happenings.Happening.TheVariants.{Call, Power}
use Rattle.trace_events.specs.declared.steps.Step.TheVariants as step
use Rattle.core_waiting.proofs.Rest.{announced_or_awaited, entry_awaited, idle_quiet, not_first}
use Rattle.core_waiting.proofs.Settled.{found_id}
use Rattle.core_waiting.proofs.Once.{calm_before, calm_parts, wanted_before, same_table, not_again}

-- a calm stretch of a sound trace, one happening at a time
no_table : (happening : Event) → is_calm (happening ∷ []) ≡ true → is_table happening ≡ false
no_table (NewTable table) calm = absurd (false≢true calm)
no_table happening calm = refl

pub record Next (goal : Goal) (happening : Event) (between past : List Event) : Type 0 where
  pub may : may_come goal happening (between ++ past) ≡ true
  pub sound : is_sound goal (between ++ past) ≡ true
  pub here : is_calm (happening ∷ []) ≡ true
  pub calm : is_calm between ≡ true

pub next_of : (goal : Goal) (happening : Event) (between past : List Event) → is_sound goal
    (happening ∷ (between ++ past)) ≡ true → is_calm (happening ∷ between) ≡ true → Next goal happening between past
next_of goal happening between past sound calm =
    let parts = calm_parts happening between calm in
    let step = sound_step goal happening (between ++ past) (no_table happening parts.0) sound in
    record { may = step.0; sound = step.1; here = parts.0; calm = parts.1 }

pub same_stage : (between past : List Event) → is_calm between ≡ true → stage_of (between ++ past) ≡ stage_of past
same_stage [] past calm = refl
same_stage (NewTable table ∷ between) past calm = absurd (false≢true calm)
same_stage (Enter s grace ∷ between) past calm = absurd (false≢true calm)
same_stage (Power kind ∷ between) past calm = absurd (false≢true calm)
same_stage (Call letter ∷ between) past calm = absurd (false≢true calm)
same_stage (happening ∷ between) past calm = same_stage between past calm

pub excluded_still : (between past : List Event) → is_calm between ≡ true → (child : Child)
    → is_excluded (between ++ past) child ≡ is_excluded past child
excluded_still between past calm child =
    λ i. not (may_live (entry_of child.id (same_table between past calm i)) child.act (same_stage between past calm i))

-- an id that is not started has no open Start after the stretch, and so no new child
not_ordered : (b : Bool) (ask : OrderKind) (o : Option OrderKind) → is_order Start (Some ask) ≡ false
    → is_order Start o ≡ false → is_order Start (cond b (Some ask) o) ≡ false
not_ordered true ask o other rest = other
not_ordered false ask o other rest = rest

cleared_order : (b : Bool) (o : Option OrderKind) → is_order Start o ≡ false → is_order Start (cond b None o) ≡ false
cleared_order true o rest = refl
cleared_order false o rest = rest

pub no_start : (id : List ℕ) (between past : List Event) → is_order Start (open_of id past) ≡ false
    → list_any (is_start_of id) between ≡ false → is_order Start (open_of id (between ++ past)) ≡ false
no_start id [] past free none = free
no_start id (Asked i Start ∷ between) past free none =
    let parts = or_parts (same_id id i) (list_any (is_start_of id) between) none in
    ap (λ b. is_order Start (cond b (Some Start) (open_of id (between ++ past)))) parts.0
    ∙ no_start id between past free parts.1
no_start id (Asked i Look ∷ between) past free none =
    not_ordered (same_id id i) Look (open_of id (between ++ past)) refl (no_start id between past free none)
no_start id (Asked i Term ∷ between) past free none =
    not_ordered (same_id id i) Term (open_of id (between ++ past)) refl (no_start id between past free none)
no_start id (Asked i Kill ∷ between) past free none =
    not_ordered (same_id id i) Kill (open_of id (between ++ past)) refl (no_start id between past free none)
no_start id (Told i ∷ between) past free none =
    cleared_order (same_id id i) (open_of id (between ++ past)) (no_start id between past free none)
no_start id (happening ∷ between) past free none = no_start id between past free none

pub kept_back : (goal : Goal) (id : List ℕ) (q : Child → Bool) (between past : List Event)
    → is_sound goal (between ++ past) ≡ true → is_calm between ≡ true → is_order Start (open_of id past) ≡ false
    → list_any (is_start_of id) between ≡ false
    → list_any (λ x. is_child_of id x && q x) (kept_children (between ++ past))
    ≡ true → list_any (λ x. is_child_of id x && q x) (kept_children past) ≡ true
kept_back goal id q (Asked i Start ∷ between) past sound calm free none there =
    let next = next_of goal (Asked i Start) between past sound calm in
    kept_back goal id q between past next.sound next.calm free
    (or_parts (same_id id i) (list_any (is_start_of id) between) none).1 there
kept_back goal id q (Birth i n ∷ between) past sound calm free none there =
    let next = next_of goal (Birth i n) between past sound calm in
    or_either (same_id id i && q (newborn i n (between ++ past)))
    (list_any (λ x. is_child_of id x && q x) (kept_children (between ++ past))) there
    (λ own. both_ways (is_order Start (open_of id (between ++ past)))
    (ap (is_order Start) (ap (λ x. open_of x (between ++ past)) (same_id-is id i
    (and_parts (same_id id i) (q (newborn i n (between ++ past))) own).0) ∙ undone_is_open i Start (between ++ past)
    (is_order-is Start _ (start_undone goal i n (between ++ past) next.may)))) (no_start id between past free none))
    (kept_back goal id q between past next.sound next.calm free none)
kept_back goal id q (Told i ∷ between) past sound calm free none there =
    let next = next_of goal (Told i) between past sound calm in
    kept_back goal id q between past next.sound next.calm free none
    (kept_before_told (λ x. is_child_of id x && q x) i (between ++ past) there)
kept_back goal id q (happening ∷ between) past sound calm free none there =
    let next = next_of goal happening between past sound calm in
    kept_back goal id q between past next.sound next.calm free none there
kept_back goal id q between past sound calm free none there = grind arith

-- once an id was started, no kept child is excluded, and its entry is not wanted again
pub record Quit (id : List ℕ) (past : List Event) : Type 0 where
  pub spared : list_any (is_excluded past) (kept_children past) ≡ false
  pub done : (e : Entry) → id ≡ e.id → is_limited e.act ≡ false → is_wanted e past ≡ false

pub spared_step : (goal : Goal) (happening : Event) (past : List Event) → may_come goal happening past ≡ true
    → is_sound goal past ≡ true → is_calm (happening ∷ []) ≡ true → list_any (is_excluded past) (kept_children past)
    ≡ false → list_any (is_excluded (happening ∷ past)) (kept_children (happening ∷ past)) ≡ false
spared_step goal (NewTable table) past may sound calm spared = absurd (false≢true calm)
spared_step goal (Enter s grace) past may sound calm spared = absurd (false≢true calm)
spared_step goal (Birth i n) past may sound calm spared =
    or_from (is_excluded past (newborn i n past)) (list_any (is_excluded past) (kept_children past))
    (placed_spared i n past (born_ready goal i n past may (sound_holds goal past sound)).placed) spared
spared_step goal (Told i) past may sound calm spared = falsely (list_any (is_excluded past) (kept_children (Told i
    ∷ past))) (list_any (is_excluded past) (kept_children past)) (kept_before_told (is_excluded past) i past) spared
spared_step goal happening past may sound calm spared = spared

quit_step : (goal : Goal) (id : List ℕ) (happening : Event) (past : List Event) → may_come goal happening past ≡ true
    → is_sound goal past ≡ true → is_calm (happening ∷ []) ≡ true → Quit id past → Quit id (happening ∷ past)
quit_step goal id happening past may sound calm quit = record {
  spared = spared_step goal happening past may sound calm quit.spared;
  done = λ e own free. falsely (is_wanted e (happening ∷ past)) (is_wanted e past)
      (calm_before e happening past free calm) (quit.done e own free);
}

quit_start : (goal : Goal) (id i : List ℕ) (past : List Event) → may_come goal (Asked i Start) past ≡ true
    → same_id id i ≡ true → Quit id (Asked i Start ∷ past)
quit_start goal id i past may same = record {
  spared = (due_facts goal past (step.Order i Start) may).spared;
  done =
      λ e own free. ap (λ x. is_wanted e (Asked x Start ∷ past)) (sym (same_id-is id i same) ∙ own)
      ∙ not_again e past free;
}

pub quit_at : (goal : Goal) (id : List ℕ) (between past : List Event) → is_sound goal (between ++ past) ≡ true
    → is_calm between ≡ true → list_any (is_start_of id) between ≡ true → Quit id (between ++ past)
quit_at goal id [] past sound calm some = absurd (false≢true some)
quit_at goal id (Asked i Start ∷ between) past sound calm some =
    let next = next_of goal (Asked i Start) between past sound calm in
    or_either (same_id id i) (list_any (is_start_of id) between) some
    (quit_start goal id i (between ++ past) next.may)
    (λ before. quit_step goal id (Asked i Start) (between ++ past) next.may next.sound next.here
    (quit_at goal id between past next.sound next.calm before))
quit_at goal id (happening ∷ between) past sound calm some =
    let next = next_of goal happening between past sound calm in
    quit_step goal id happening (between ++ past) next.may next.sound next.here
    (quit_at goal id between past next.sound next.calm some)

-- an entry with a respawn limit is wanted only if it has neither a child nor an open Start
limited_idle : (a : Act) (starts idle fresh called : Bool) → is_limited a ≡ true
    → (starts && wanted_by a idle fresh called) ≡ true → idle ≡ true
limited_idle a starts idle fresh called limited h = grind arith

busy_unlimited : (e : Entry) (past : List Event) → has_child e.id (kept_children past) ≡ true → is_wanted e past ≡ true
    → is_limited e.act ≡ false
busy_unlimited e past there wanted = false_from_ne_true (is_limited e.act)
    (λ limited. false≢true (sym (ap (λ b. not b && not (is_order Start (open_of e.id past))) there) ∙ limited_idle e.act
    (starts_now e past) (has_no_running_child e.id past) (not (is_asked e.id past)) (is_called e past) limited wanted))

-- why init waits for a child that is not excluded
record Wants (child : Child) (past : List Event) : Type 0 where
  pub entry : Entry
  pub found : entry_of child.id (table_of past) ≡ Some entry
  pub asks : (waited_of entry || is_wanted entry past) ≡ true

wants_of : (child : Child) (past : List Event) → is_excluded past child ≡ false → is_awaited past child ≡ true
    → Wants child past
wants_of child past spared h = read (entry_of child.id (table_of past)) refl (ap (λ b. is_some
    (cond b (Some Excluded) (why_of_entry (entry_of child.id (table_of past)) past))) (sym spared) ∙ h) where
      asks : (waited wanted : Bool) → is_some (cond waited (Some WaitedFor) (cond wanted (Some InTheWay) None)) ≡ true
          → (waited || wanted) ≡ true
      asks true wanted h = refl
      asks false true h = refl
      asks false false h = h

      read : (o : _) → entry_of child.id (table_of past) ≡ o → is_some (why_of_entry o past) ≡ true → Wants child past
      read None is h = absurd (false≢true h)
      read (Some e) is h = record { entry = e; found = is; asks = asks (waited_of e) (is_wanted e past) h }

-- if init waits for a child after the stretch that was kept before it, it waited for it before
was_awaited : (between past : List Event) → is_calm between ≡ true → (child : Child) → has_child child.id
    (kept_children (between ++ past)) ≡ true → is_awaited (between ++ past) child ≡ true → is_awaited past child ≡ true
was_awaited between past calm child there h = at (is_excluded (between ++ past) child) refl where
  at : (b : Bool) → is_excluded (between ++ past) child ≡ b → is_awaited past child ≡ true
  at true own = ap (λ b. is_some (cond b (Some Excluded) (why_of_entry (entry_of child.id (table_of past)) past)))
      (sym (excluded_still between past calm child) ∙ own)
  at false spared = by (wants_of child (between ++ past) spared h) where
    by : Wants child (between ++ past) → is_awaited past child ≡ true
    by wants = entry_awaited past child wants.entry found (or_either (waited_of wants.entry) (is_wanted wants.entry
        (between ++ past)) wants.asks (or_left (waited_of wants.entry) (is_wanted wants.entry past))
        (λ wanted. or_right (waited_of wants.entry) (is_wanted wants.entry past) (wanted_before wants.entry between past
        (busy_unlimited wants.entry (between ++ past) own wanted) calm wanted))) where
          found : entry_of child.id (table_of past) ≡ Some wants.entry
          found = ap (entry_of child.id) (sym (same_table between past calm)) ∙ wants.found

          own : has_child wants.entry.id (kept_children (between ++ past)) ≡ true
          own = ap (λ i. has_child i (kept_children (between ++ past)))
              (sym (found_id child.id (table_of (between ++ past)) wants.entry wants.found)) ∙ there

pub filtered_none : (p q : Child → Bool) (xs : List Child) → list_all p (filter q xs) ≡ true
    → list_any (λ x. q x && not (p x)) xs ≡ false
filtered_none p q [] h = grind arith
filtered_none p q (x ∷ xs) h = grind (arith, filtered_none p q xs)

is_waited_at : (past : List Event) (id : List ℕ) → is_waited_id id past ≡ true → (happening : Event)
    → is_start_of id happening ≡ true → is_waited_start past happening ≡ true
is_waited_at past id waited (Asked i Start) own = ap (λ x. is_waited_id x past) (sym (same_id-is id i own)) ∙ waited
is_waited_at past id waited _ own = absurd (false≢true own)

-- if init waits for a child after a calm stretch, it waited for it before and the child is not gone, or a waited entry
-- was started in the stretch
pub awaited_from : (goal : Goal) (between past : List Event) → is_sound goal (between ++ past) ≡ true → is_calm between
    ≡ true → is_quiet past ≡ true → list_any (is_awaited (between ++ past)) (kept_children (between ++ past)) ≡ true
    → (list_any (is_waited_start past) between ≡ true)
    ⊎ (list_any (λ y. is_awaited past y && not (is_gone between past y)) (kept_children past) ≡ true)
awaited_from goal between past sound calm quiet some =
    by (passing (is_awaited (between ++ past)) (kept_children (between ++ past)) some) where
      by : Passing (is_awaited (between ++ past)) (kept_children (between ++ past)) → (list_any (is_waited_start past)
          between ≡ true)
          ⊎ (list_any (λ y. is_awaited past y && not (is_gone between past y)) (kept_children past) ≡ true)
      by there = at (list_any (is_start_of there.item.id) between) refl where
        id : List ℕ
        id = there.item.id

        own : has_child there.item.id (kept_children (between ++ past)) ≡ true
        own = there.within (is_child_of there.item.id) (same_id-self there.item.id)

        started : list_any (is_start_of there.item.id) between ≡ true → Quit there.item.id (between ++ past)
            → list_any (is_waited_start past) between ≡ true
        started some quit =
            read (wants_of there.item (between ++ past) (false_from_ne_true (is_excluded (between ++ past) there.item)
            (λ bad. false≢true (sym quit.spared ∙ there.within (is_excluded (between ++ past)) bad))) there.passes)
          where
            read : Wants there.item (between ++ past) → list_any (is_waited_start past) between ≡ true
            read wants = or_either (waited_of wants.entry) (is_wanted wants.entry (between ++ past)) wants.asks
                (λ waited. any_less (is_start_of there.item.id) (is_waited_start past)
                (is_waited_at past there.item.id (ap (λ o. option_map_or waited_of o false)
                (ap (entry_of there.item.id) (sym (same_table between past calm)) ∙ wants.found)
                ∙ waited)) between some)
                (λ wanted. both_ways (is_wanted wants.entry (between ++ past)) wanted
                (quit.done wants.entry entry_id (busy_unlimited wants.entry (between ++ past)
                (ap (λ i. has_child i (kept_children (between ++ past))) (sym entry_id) ∙ own) wanted))) where
                  entry_id : there.item.id ≡ wants.entry.id
                  entry_id = found_id there.item.id (table_of (between ++ past)) wants.entry wants.found

        left : list_any (is_start_of there.item.id) between ≡ false
            → Passing (λ x. is_child_of there.item.id x && is_awaited (between ++ past) x) (kept_children past)
            → list_any (λ y. is_awaited past y && not (is_gone between past y)) (kept_children past) ≡ true
        left none x =
            x.within (λ y. is_awaited past y && not (is_gone between past y)) (and_from (is_awaited past x.item)
            (not (is_gone between past x.item)) (was_awaited between past calm x.item kept parts.1) (not_from
            (is_gone between past x.item)
            (or_from (not (has_child x.item.id (kept_children (between ++ past)))) (list_any
            (is_start_of x.item.id) between) (ap not kept)
            (ap (λ i. list_any (is_start_of i) between) (sym same) ∙ none))))
          where
            parts : (is_child_of there.item.id x.item ≡ true) × (is_awaited (between ++ past) x.item ≡ true)
            parts = and_parts (is_child_of there.item.id x.item) (is_awaited (between ++ past) x.item) x.passes

            same : there.item.id ≡ x.item.id
            same = same_id-is there.item.id x.item.id parts.0

            kept : has_child x.item.id (kept_children (between ++ past)) ≡ true
            kept = ap (λ i. has_child i (kept_children (between ++ past))) (sym same) ∙ own

        at : (b : Bool) → list_any (is_start_of there.item.id) between ≡ b → (list_any (is_waited_start past) between
            ≡ true) ⊎ (list_any (λ y. is_awaited past y && not (is_gone between past y)) (kept_children past) ≡ true)
        at true begun = inl (started begun (quit_at goal there.item.id between past sound calm begun))
        at false none = inr (left none
            (passing (λ x. is_child_of there.item.id x && is_awaited (between ++ past) x) (kept_children past)
            (kept_back goal
            there.item.id (is_awaited (between ++ past)) between past sound calm
            (quiet_start there.item.id past quiet) none
            (there.within (λ x. is_child_of there.item.id x && is_awaited (between ++ past) x)
            (and_from (is_child_of there.item.id
            there.item) (is_awaited (between ++ past) there.item) (same_id-self there.item.id) there.passes)))))

pub progress : (goal : Goal) (between past : List Event) → is_sound goal (between ++ past) ≡ true
    → is_calm between ≡ true → is_quiet past ≡ true → AtRest goal (between ++ past) → is_idle (between ++ past) ≡ true
    → list_all (is_gone between past) (awaited_children past) ≡ true → is_level_announced (between ++ past) ≡ false
    → list_any (is_waited_start past) between ≡ true
progress goal between past sound calm quiet rest idle_later gone untold = elim (awaited_from goal between past sound
    calm quiet (true_from_ne_false (list_any (is_awaited (between ++ past)) (kept_children (between ++ past)))
    (λ none. false≢true (sym untold ∙ announced_or_awaited goal (between ++ past) sound rest idle_later none)))) [
      | inl begun ↦ begun
      | inr left ↦ both_ways
          (list_any (λ y. is_awaited past y && not (is_gone between past y)) (kept_children past)) left
          (filtered_none (is_gone between past) (is_awaited past) (kept_children past) gone)
    ]

pub rests_progress : (goal : Goal) (later between past : List Event) → is_sound goal (later ++ (between ++ past)) ≡ true
    → is_calm between ≡ true → AtRest goal past → is_idle past ≡ true → AtRest goal (between ++ past)
    → is_idle (between ++ past) ≡ true → list_all (is_gone between past) (awaited_children past) ≡ true
    → is_level_announced (between ++ past) ≡ false → list_any (is_waited_start past) between ≡ true
rests_progress goal later between past sound calm rest idle rest_later idle_later gone untold = progress goal between
    past (at_moment goal (λ x. AtRest goal x → is_sound goal x ≡ true) (λ h. absurd (not_first goal h)) (λ x ok h. ok)
    later (between ++ past) sound rest_later) calm (idle_quiet past idle) rest_later idle_later gone untold
