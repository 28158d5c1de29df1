-- Before a KILL of a sound trace a TERM reached the child, at least the grace ago, and no KILL since.
use Rattle.std.proofs.Common.{◌≡◌, refl, sym, ◌∙◌, ap, subst, ℕ, Bool, true, false, not, ◌&&◌, ◌||◌, ◌+◌, cond, nat_le}
use Rattle.std.proofs.Common.{max, List, [], ◌∷◌, ◌++◌, map, Option, Some, None, is_some, arith}
use Rattle.std.specs.List.{list_any}
use Rattle.std.specs.Option.{option_map_or}
use Rattle.std.proofs.lemmas.Bool.{false≢true, and_parts, and_from, or_left, or_right, or_parts, le-leb, leb-true}
use Rattle.std.proofs.lemmas.List.Folds.{list_any-append}
use Rattle.init_words.specs.declared.entries.Entry.{Entry}
use Rattle.init_words.specs.declared.stages.Stage.{Stage}
use Rattle.init_words.specs.declared.orders.OrderKind.{OrderKind}
use Rattle.init_words.specs.declared.orders.OrderKind.TheVariants.{Start, Look, Term, Kill}
use Rattle.init_words.specs.Ids.{same_id}
use Rattle.init_words.proofs.Same.{same_id-is}
use Rattle.init_words.proofs.Tests.{any_filtered, or_either}
use Rattle.inittab_text.specs.Tables.{entry_of}
use Rattle.trace_events.specs.declared.happenings.Happening.TheVariants.{Birth, Clock, Enter, Hit, Reaped, Told}
use Rattle.trace_events.specs.declared.steps.Goal.{Goal}
use Rattle.trace_events.specs.declared.steps.Step.TheVariants as step
use Rattle.trace_events.specs.Event.{Event}
use Rattle.trace_events.specs.Past.{Child, grace_of, is_child, is_child_of, open_of, stage_of, table_of, time_of}
use Rattle.trace_events.specs.Past.{unreaped_children}
use Rattle.trace_events.specs.Wanted.{is_excluded, is_order, starts_in}
use Rattle.trace_events.specs.Spells.{Signal, in_spell, is_grace_over, spell_hits, tells_hits, told_at, untold_hits}
use Rattle.trace_events.specs.Due.{is_due}
use Rattle.trace_events.specs.Sound.{is_sound, may_come}
use Rattle.trace_laws.proofs.Dues.{MayStop, due_facts}
use Rattle.trace_laws.proofs.Keeps.{free_told, sound_holds, sound_ind, stop_unreaped}
use Rattle.trace_laws.proofs.Kills.{hits_told}
use Rattle.trace_laws.proofs.Signals.{OneRipe, kill_ripe}
use Rattle.trace_laws.proofs.Tests.{is_order-is}
use Rattle.trace_laws.proofs.Births.{birth_placed}

-- what a signal that reached the id's child makes of the test
abbrev pub hit_by : Option OrderKind → Bool → Bool → Bool
hit_by (Some Term) early before = early || before
hit_by (Some Kill) early before = false
hit_by _ early before = before

-- a TERM reached the id's child so long before `now`, and no KILL since
abbrev pub was_hit : List ℕ → ℕ → ℕ → List Event → Bool
was_hit id grace now [] = false
was_hit id grace now (Birth i n ∷ past) = not (same_id id i) && was_hit id grace now past
was_hit id grace now (Hit i ∷ past) = cond (same_id id i)
    (hit_by (open_of id past) (nat_le (time_of past + grace) now) (was_hit id grace now past))
    (was_hit id grace now past)
was_hit id grace now (_ ∷ past) = was_hit id grace now past

-- ---- of Hits that are not told

-- a signal more
one_more : (order : Option OrderKind) (early before : Bool) (orders : List (Option OrderKind)) → early ≡ true
    → list_any (is_order Term) (order ∷ orders) ≡ true → list_any (is_order Kill) (order ∷ orders) ≡ false
    → (list_any (is_order Term) orders ≡ true → list_any (is_order Kill) orders ≡ false → before ≡ true)
    → hit_by order early before ≡ true
one_more None early before orders soon term none rest = rest term none
one_more (Some Term) early before orders soon term none rest = or_left early before soon
one_more (Some Kill) early before orders soon term none rest = absurd (false≢true (sym none))
one_more (Some Start) early before orders soon term none rest = rest term none
one_more (Some Look) early before orders soon term none rest = rest term none

later_clock : (reading grace now past : ℕ) → nat_le (max reading past + grace) now ≡ true
    → nat_le (past + grace) now ≡ true
later_clock reading grace now past h =
    le-leb (past + grace) now (omega (arith, leb-true (max reading past + grace) now h))

untold_hit : (id : List ℕ) (grace now : ℕ) (past : List Event) → list_any (is_order Term) (untold_hits id past) ≡ true
    → list_any (is_order Kill) (untold_hits id past) ≡ false → nat_le (time_of past + grace) now ≡ true
    → was_hit id grace now past ≡ true
untold_hit id grace now [] term none soon = absurd (false≢true term)
untold_hit id grace now (Birth i n ∷ past) term none soon =
    by (same_id id i) term none (λ t k. untold_hit id grace now past t k soon)
  where
    by : (b : Bool) → list_any (is_order Term) (cond b [] (untold_hits id past)) ≡ true
        → list_any (is_order Kill) (cond b [] (untold_hits id past)) ≡ false
        → (list_any (is_order Term) (untold_hits id past) ≡ true
        → list_any (is_order Kill) (untold_hits id past) ≡ false
        → was_hit id grace now past ≡ true) → (not b && was_hit id grace now past) ≡ true
    by true t k rest = absurd (false≢true t)
    by false t k rest = rest t k
untold_hit id grace now (Told i ∷ past) term none soon =
    by (same_id id i) term none (λ t k. untold_hit id grace now past t k soon)
  where
    by : (b : Bool) → list_any (is_order Term) (cond b [] (untold_hits id past)) ≡ true
        → list_any (is_order Kill) (cond b [] (untold_hits id past)) ≡ false
        → (list_any (is_order Term) (untold_hits id past) ≡ true
        → list_any (is_order Kill) (untold_hits id past) ≡ false
        → was_hit id grace now past ≡ true) → was_hit id grace now past ≡ true
    by true t k rest = absurd (false≢true t)
    by false t k rest = rest t k
untold_hit id grace now (Hit i ∷ past) term none soon =
    by (same_id id i) term none (λ t k. untold_hit id grace now past t k soon)
  where
    by : (b : Bool)
        → list_any (is_order Term) (cond b (open_of id past ∷ untold_hits id past) (untold_hits id past)) ≡ true
        → list_any (is_order Kill) (cond b (open_of id past ∷ untold_hits id past) (untold_hits id past)) ≡ false
        → (list_any (is_order Term) (untold_hits id past) ≡ true
        → list_any (is_order Kill) (untold_hits id past) ≡ false
        → was_hit id grace now past ≡ true) → cond b (hit_by (open_of id past) (nat_le (time_of past + grace) now)
        (was_hit id grace now past)) (was_hit id grace now past) ≡ true
    by true t k rest = one_more (open_of id past) (nat_le (time_of past + grace) now) (was_hit id grace now past)
        (untold_hits id past) soon t k rest
    by false t k rest = rest t k
untold_hit id grace now (Clock reading ∷ past) term none soon =
    untold_hit id grace now past term none (later_clock _ grace now (time_of past) soon)
untold_hit id grace now (_ ∷ past) term none soon = untold_hit id grace now past term none soon

-- ---- of the Hits of a spell

abbrev killing : Signal → Bool
killing signal = is_order Kill signal.order

-- of Hits that are told now, one of them ripe
told_ripe : (grace now time : ℕ) (orders : List (Option OrderKind))
    → list_any (is_grace_over grace now) (map (told_at time) orders) ≡ true
    → (list_any (is_order Term) orders ≡ true) × (nat_le (time + grace) now ≡ true)
told_ripe grace now time [] h = absurd (false≢true h)
told_ripe grace now time (order ∷ orders) h =
    or_either (is_grace_over grace now (told_at time order))
    (list_any (is_grace_over grace now) (map (told_at time) orders)) h
    (λ here. let parts = and_parts (is_order Term order) (nat_le (time + grace) now) here in
    (or_left (is_order Term order) (list_any (is_order Term) orders) parts.0, parts.1))
    (λ more. let rest = told_ripe grace now time orders more in
    (or_right (is_order Term order) (list_any (is_order Term) orders) rest.0, rest.1))

told_kills : (time : ℕ) (orders : List (Option OrderKind))
    → list_any killing (map (told_at time) orders) ≡ list_any (is_order Kill) orders
told_kills time [] = refl
told_kills time (order ∷ orders) = ap (λ b. is_order Kill order || b) (told_kills time orders)

-- within the spell
spell_step : (child : Child) (grace now : ℕ) (happening : Event) (past : List Event) (hit : Bool)
    → list_any (is_grace_over grace now) (spell_hits child (happening ∷ past)) ≡ true
    → list_any killing (spell_hits child (happening ∷ past)) ≡ false
    → (in_spell child happening past ≡ true
    → list_any (is_grace_over grace now) (tells_hits child happening past ++ spell_hits child past) ≡ true
    → list_any killing (tells_hits child happening past ++ spell_hits child past) ≡ false → hit ≡ true) → hit ≡ true
spell_step child grace now happening past hit ripe none rest = by (in_spell child happening past) refl ripe none
  where
    by : (b : Bool) → in_spell child happening past ≡ b
        → list_any (is_grace_over grace now) (cond b (tells_hits child happening past ++ spell_hits child past) [])
        ≡ true
        → list_any killing (cond b (tells_hits child happening past ++ spell_hits child past) []) ≡ false → hit ≡ true
    by true within r k = rest within r k
    by false within r k = absurd (false≢true r)

spell_hit : (child : Child) (grace now : ℕ) (past : List Event)
    → list_any (is_grace_over grace now) (spell_hits child past) ≡ true
    → list_any killing (spell_hits child past) ≡ false
    → list_any (is_order Kill) (untold_hits child.id past) ≡ false → was_hit child.id grace now past ≡ true
spell_hit child grace now [] ripe none free = absurd (false≢true ripe)
spell_hit child grace now (Birth i n ∷ past) ripe none free =
    spell_step child grace now (Birth i n) past (was_hit child.id grace now (Birth i n ∷ past)) ripe none
    (λ within r k. by (same_id child.id i)
    (and_parts (is_excluded (Birth i n ∷ past) child) (not (same_id child.id i)) within).1 free
    (λ f. spell_hit child grace now past r k f))
  where
    by : (b : Bool) → not b ≡ true → list_any (is_order Kill) (cond b [] (untold_hits child.id past)) ≡ false
        → (list_any (is_order Kill) (untold_hits child.id past) ≡ false → was_hit child.id grace now past ≡ true)
        → (not b && was_hit child.id grace now past) ≡ true
    by true differ f rest = absurd (false≢true differ)
    by false differ f rest = rest f
spell_hit child grace now (Hit i ∷ past) ripe none free =
    spell_step child grace now (Hit i) past (was_hit child.id grace now (Hit i ∷ past)) ripe none
    (λ within r k. by (same_id child.id i) free (λ f. spell_hit child grace now past r k f))
  where
    held : (order : Option OrderKind) (early before : Bool) (orders : List (Option OrderKind))
        → list_any (is_order Kill) (order ∷ orders) ≡ false
        → (list_any (is_order Kill) orders ≡ false → before ≡ true) → hit_by order early before ≡ true
    held None early before orders f rest = rest f
    held (Some Term) early before orders f rest = or_right early before (rest f)
    held (Some Kill) early before orders f rest = absurd (false≢true (sym f))
    held (Some Start) early before orders f rest = rest f
    held (Some Look) early before orders f rest = rest f

    by : (b : Bool) → list_any (is_order Kill)
        (cond b (open_of child.id past ∷ untold_hits child.id past) (untold_hits child.id past)) ≡ false
        → (list_any (is_order Kill) (untold_hits child.id past) ≡ false → was_hit child.id grace now past ≡ true)
        → cond b (hit_by (open_of child.id past) (nat_le (time_of past + grace) now) (was_hit child.id grace now past))
        (was_hit child.id grace now past) ≡ true
    by true f rest = held (open_of child.id past) (nat_le (time_of past + grace) now) (was_hit child.id grace now past)
        (untold_hits child.id past) f rest
    by false f rest = rest f
spell_hit child grace now (Told i ∷ past) ripe none free =
    spell_step child grace now (Told i) past (was_hit child.id grace now past) ripe none
    (λ within r k. by (same_id child.id i) r k free (λ more m f. spell_hit child grace now past more m f))
  where
    Earlier : Type 0
    Earlier = list_any (is_grace_over grace now) (spell_hits child past) ≡ true
        → list_any killing (spell_hits child past) ≡ false
        → list_any (is_order Kill) (untold_hits child.id past) ≡ false → was_hit child.id grace now past ≡ true

    telling : list_any (is_grace_over grace now) (map (told_at (time_of past)) (untold_hits child.id past)
        ++ spell_hits child past) ≡ true → list_any killing (map (told_at (time_of past)) (untold_hits child.id past)
        ++ spell_hits child past) ≡ false → Earlier → was_hit child.id grace now past ≡ true
    telling r k rest =
        let told : List Signal = map (told_at (time_of past)) (untold_hits child.id past) in
        let apart = or_parts (list_any killing told) (list_any killing (spell_hits child past))
        (sym (list_any-append killing told (spell_hits child past)) ∙ k) in
        let free : list_any (is_order Kill) (untold_hits child.id past) ≡ false =
        sym (told_kills (time_of past) (untold_hits child.id past)) ∙ apart.0 in
        or_either (list_any (is_grace_over grace now) told) (list_any (is_grace_over grace now) (spell_hits child past))
        (sym (list_any-append (is_grace_over grace now) told (spell_hits child past)) ∙ r)
        (λ here. let two = told_ripe grace now (time_of past) (untold_hits child.id past) here in
        untold_hit child.id grace now past two.0 free two.1)
        (λ more. rest more apart.1 free)

    by : (b : Bool)
        → list_any (is_grace_over grace now) (cond b (map (told_at (time_of past)) (untold_hits child.id past)) []
        ++ spell_hits child past) ≡ true → list_any killing (cond b (map (told_at (time_of past))
        (untold_hits child.id past)) [] ++ spell_hits child past) ≡ false
        → list_any (is_order Kill) (cond b [] (untold_hits child.id past)) ≡ false → Earlier
        → was_hit child.id grace now past ≡ true
    by true r k f rest = telling r k rest
    by false r k f rest = rest r k f
spell_hit child grace now (happening ∷ past) ripe none free =
    spell_step child grace now happening past (was_hit child.id grace now (happening ∷ past)) ripe none
    (λ within r k. spell_hit child grace now past r k free)

-- ---- where a KILL is due

placed_staged : (o : Option Entry) (stage : Option Stage) → option_map_or (λ e. starts_in e stage) o false ≡ true
    → is_some stage ≡ true
placed_staged None stage h = absurd (false≢true h)
placed_staged (Some e) None h = absurd (false≢true h)
placed_staged (Some e) (Some stage) h = refl

-- where there is a child, there is a stage
child_staged : (p : Child → Bool) (goal : Goal) (past : List Event) → is_sound goal past ≡ true
    → list_any p (unreaped_children past) ≡ true → is_some (stage_of past) ≡ true
child_staged p goal past sound = sound_ind goal (λ before. list_any p (unreaped_children before) ≡ true
    → is_some (stage_of before) ≡ true) (λ table distinct h. absurd (false≢true h)) next past sound
  where
    next : (happening : Event) (before : List Event) → may_come goal happening before ≡ true
        → is_sound goal before ≡ true → (list_any p (unreaped_children before) ≡ true
        → is_some (stage_of before) ≡ true) → list_any p (unreaped_children (happening ∷ before)) ≡ true
        → is_some (stage_of (happening ∷ before)) ≡ true
    next (Birth i n) before may sound rest h =
        placed_staged (entry_of i (table_of before)) (stage_of before) (birth_placed goal [] i n before
        (and_from (may_come goal (Birth i n) before) (is_sound goal before) may sound))
    next (Reaped i n status) before may sound rest h =
        rest (any_filtered p (λ child. not (is_child i n child)) (unreaped_children before) h)
    next (Enter stage grace) before may sound rest h = refl
    next happening before may sound rest h = rest h

pub kill_staged : (goal : Goal) (id : List ℕ) (past : List Event) → is_due goal (step.Order id Kill) past ≡ true
    → is_sound goal past ≡ true → is_some (stage_of past) ≡ true
kill_staged goal id past due sound = child_staged (λ child. is_child_of id child && true) goal past sound
    (stop_unreaped id Kill past (sound_holds goal past sound).told (due_facts goal past (step.Order id Kill) due)
    (λ child. true) refl)

pub kill_hit : (goal : Goal) (id : List ℕ) (past : List Event) → is_due goal (step.Order id Kill) past ≡ true
    → is_sound goal past ≡ true → was_hit id (grace_of past) (time_of past) past ≡ true
kill_hit goal id past due sound = subst (λ x. was_hit x (grace_of past) (time_of past) past ≡ true)
    (sym (same_id-is id may.child.id may.own))
    (spell_hit may.child (grace_of past) (time_of past) past ripe none free) where
      may : MayStop id Kill past
      may = due_facts goal past (step.Order id Kill) due

      one : OneRipe (grace_of past) (time_of past) (spell_hits may.child past)
      one = kill_ripe may.child past may.due

      ripe : list_any (is_grace_over (grace_of past) (time_of past)) (spell_hits may.child past) ≡ true
      ripe = ap (list_any (is_grace_over (grace_of past) (time_of past))) one.only
          ∙ or_left (is_grace_over (grace_of past) (time_of past) one.signal) false one.ripe

      term : one.signal.order ≡ Some Term
      term = is_order-is Term one.signal.order (and_parts (is_order Term one.signal.order) _ one.ripe).0

      none : list_any killing (spell_hits may.child past) ≡ false
      none = ap (list_any killing) one.only ∙ ap (λ order. is_order Kill order || false) term

      free : list_any (is_order Kill) (untold_hits may.child.id past) ≡ false
      free = ap (λ x. list_any (is_order Kill) (untold_hits x past)) (sym (same_id-is id may.child.id may.own))
          ∙ ap (list_any (is_order Kill))
          (hits_told id past (free_told id past (sound_holds goal past sound).told may.unasked))
