-- How each happening changes the spell of a child, and what a `told` adds to it.
use Rattle.trace_laws.proofs.Words.{◌≡◌, refl, sym, ◌∙◌, ap, subst, ℕ, Bool, true, false, not, ◌&&◌, ◌||◌, cond, List}
use Rattle.trace_laws.proofs.Words.{[], ◌∷◌, ◌++◌, map, Some, None, is_some, arith, and_right, or_parts, or_from}
use Rattle.trace_laws.proofs.Words.{none-some, Entry, Stage, OrderKind, Start, Look, Term, Kill, Answer, same_id}
use Rattle.trace_laws.proofs.Words.{NewTable, Asked, Birth, NoBirth, Reaped, Still, NoLook, Hit, Miss, Told, Nudge}
use Rattle.trace_laws.proofs.Words.{Goal, Event, Child, time_of, open_of, undone_of, is_untold, is_order, is_excluded}
use Rattle.trace_laws.proofs.Words.{answered_of, untold_hits, has_untold_miss, told_at, spell_hits, is_missed, may_come}
use Rattle.trace_laws.proofs.Words.{is_sound, is_hit, is_miss, same_id-is, and_true, both_ways, or_either}
use Rattle.init_words.specs.declared.orders.Answer.TheVariants as answer
use Rattle.trace_events.specs.declared.happenings.Happening.TheVariants.{Enter}
use Rattle.trace_laws.proofs.Tests.{is_order-is}
use Rattle.trace_laws.proofs.Keeps.{look_undone, sound_holds, sound_ind, asked_free, free_told}
use Rattle.trace_laws.proofs.Told.{answered_untold}
use Rattle.trace_laws.proofs.Kills.{hits_told}

-- a child that is not excluded has no spell
pub spell_none : (child : Child) (past : List Event) → is_excluded past child ≡ false → spell_hits child past ≡ []
spell_none child [] free = refl
spell_none child (happening ∷ past) free = rw free refl

pub missed_none : (child : Child) (past : List Event) → is_excluded past child ≡ false → is_missed child past ≡ false
missed_none child [] free = refl
missed_none child (Nudge ∷ past) free = refl
missed_none child (happening ∷ past) free = rw free refl

-- so the spell of a child continues while the child stays excluded
spell_on : (child : Child) (past : List Event)
    → cond (is_excluded past child && true) (spell_hits child past) [] ≡ spell_hits child past
spell_on child past = grind (arith, spell_none)

missed_on : (child : Child) (past : List Event)
    → (is_excluded past child && true && is_missed child past) ≡ is_missed child past
missed_on child past = grind (arith, missed_none)

-- a happening that does not change which children are excluded or what was told, and is neither a birth nor a round
abbrev pub is_still : Event → Bool
is_still (NewTable table) = false
is_still (Enter stage grace) = false
is_still (Birth i n) = false
is_still (Told i) = false
is_still Nudge = false
is_still _ = true

pub spell_still : (child : Child) (happening : Event) (past : List Event) → is_still happening ≡ true
    → spell_hits child (happening ∷ past) ≡ spell_hits child past
spell_still child happening past still = grind (arith, spell_on)

pub missed_still : (child : Child) (happening : Event) (past : List Event) → is_still happening ≡ true
    → is_missed child (happening ∷ past) ≡ is_missed child past
missed_still child happening past still = grind (arith, missed_on)

-- a round does not change the spell; it clears the mark of a signal that failed
pub spell_nudge : (child : Child) (past : List Event) → spell_hits child (Nudge ∷ past) ≡ spell_hits child past
spell_nudge child past = spell_on child past

-- a stage or a table ends the spell of a child that it does not exclude
pub spell_enter : (child : Child) (stage : Stage) (grace : ℕ) (past : List Event) → spell_hits child
    (Enter stage grace ∷ past) ≡ cond (is_excluded (Enter stage grace ∷ past) child) (spell_hits child past) []
spell_enter child stage grace past =
    ap (λ b. cond b (spell_hits child past) []) (and_true (is_excluded (Enter stage grace ∷ past) child))

pub spell_table : (child : Child) (table : List Entry) (past : List Event) → spell_hits child (NewTable table ∷ past)
    ≡ cond (is_excluded (NewTable table ∷ past) child) (spell_hits child past) []
spell_table child table past =
    ap (λ b. cond b (spell_hits child past) []) (and_true (is_excluded (NewTable table ∷ past) child))

pub missed_enter : (child : Child) (stage : Stage) (grace : ℕ) (past : List Event) → is_missed child
    (Enter stage grace ∷ past) ≡ (is_excluded (Enter stage grace ∷ past) child && is_missed child past)
missed_enter child stage grace past =
    ap (λ b. b && is_missed child past) (and_true (is_excluded (Enter stage grace ∷ past) child))

pub missed_table : (child : Child) (table : List Entry) (past : List Event)
    → is_missed child (NewTable table ∷ past) ≡ (is_excluded (NewTable table ∷ past) child && is_missed child past)
missed_table child table past =
    ap (λ b. b && is_missed child past) (and_true (is_excluded (NewTable table ∷ past) child))

-- a birth of another id does not change the spell
pub spell_birth : (child : Child) (i : List ℕ) (n : ℕ) (past : List Event)
    → spell_hits child (Birth i n ∷ past) ≡ cond (same_id child.id i) [] (spell_hits child past)
spell_birth child i n past = grind (arith, spell_none)

-- `told` adds the signals of its id that are under way
pub spell_told : (child : Child) (i : List ℕ) (past : List Event)
    → spell_hits child (Told i ∷ past) ≡ cond (same_id child.id i && is_excluded past child)
    (map (told_at (time_of past)) (untold_hits child.id past) ++ spell_hits child past) (spell_hits child past)
spell_told child i past = grind (arith, spell_none)

pub missed_told : (child : Child) (i : List ℕ) (past : List Event) → is_missed child (Told i ∷ past)
    ≡ (is_excluded past child && (same_id child.id i && has_untold_miss child.id past || is_missed child past))
missed_told child i past = ap (λ b. b && (same_id child.id i && has_untold_miss child.id past || is_missed child past))
    (and_true (is_excluded past child))

-- an id without untold acts has no untold failed signal
pub misses_told : (id : List ℕ) (past : List Event) → is_untold id past ≡ false → has_untold_miss id past ≡ false
misses_told id [] h = refl
misses_told id (Told i ∷ past) h = grind (arith, misses_told id past)
misses_told id (Birth i n ∷ past) h = and_right (not (same_id id i)) (has_untold_miss id past)
    (misses_told id past (or_parts (same_id id i) (is_untold id past) h).1)
misses_told id (Miss i ∷ past) h = let parts = or_parts (same_id id i) (is_untold id past) h in
    or_from (same_id id i) (has_untold_miss id past) parts.0 (misses_told id past parts.1)
misses_told id (NoBirth i ∷ past) h = misses_told id past (or_parts (same_id id i) (is_untold id past) h).1
misses_told id (Reaped i n status ∷ past) h = misses_told id past (or_parts (same_id id i) (is_untold id past) h).1
misses_told id (Still i ∷ past) h = misses_told id past (or_parts (same_id id i) (is_untold id past) h).1
misses_told id (NoLook i ∷ past) h = misses_told id past (or_parts (same_id id i) (is_untold id past) h).1
misses_told id (Hit i ∷ past) h = misses_told id past (or_parts (same_id id i) (is_untold id past) h).1
misses_told id (_ ∷ past) h = misses_told id past h

-- a single answer is under way: a signal that was sent on the open order, a failed signal, or neither
pub record Tells (id : List ℕ) (past : List Event) (given : Answer) : Type 0 where
  pub hits : untold_hits id past ≡ cond (is_hit given) (open_of id past ∷ []) []
  pub miss : has_untold_miss id past ≡ is_miss given

record Nothing (id : List ℕ) (past : List Event) : Type 0 where
  hits : untold_hits id past ≡ []
  miss : has_untold_miss id past ≡ false

act_nothing : (goal : Goal) (past : List Event) → is_sound goal past ≡ true → (i : List ℕ) (ask : OrderKind)
    → is_order ask (undone_of i past) ≡ true → (id : List ℕ) → same_id id i ≡ true → Nothing id past
act_nothing goal past sound i ask undone id same = subst (λ x. Nothing x past) (sym (same_id-is id i same))
    (record { hits = hits_told i past clear; miss = misses_told i past clear }) where
      clear : is_untold i past ≡ false
      clear = (sound_holds goal past sound).done i ask (is_order-is ask (undone_of i past) undone)

signal_nothing : (goal : Goal) (past : List Event) → is_sound goal past ≡ true → (i : List ℕ)
    → (is_order Term (undone_of i past) || is_order Kill (undone_of i past)) ≡ true → (id : List ℕ)
    → same_id id i ≡ true → Nothing id past
signal_nothing goal past sound i h id same =
    or_either (is_order Term (undone_of i past)) (is_order Kill (undone_of i past)) h
    (λ term. act_nothing goal past sound i Term term id same) (λ kill. act_nothing goal past sound i Kill kill id same)

same_tells : (id : List ℕ) (past before : List Event) (given : Answer) → untold_hits id past ≡ untold_hits id before
    → has_untold_miss id past ≡ has_untold_miss id before → open_of id past ≡ open_of id before → Tells id before given
    → Tells id past given
same_tells id past before given hits miss order tells = record {
  hits = hits ∙ tells.hits ∙ ap (λ o. cond (is_hit given) (o ∷ []) []) (sym order);
  miss = miss ∙ tells.miss;
}

act_tells : (id i : List ℕ) (x given : Answer) (past before : List Event) → open_of id past ≡ open_of id before
    → (same_id id i ≡ true → Tells id past x) → (same_id id i ≡ false → (untold_hits id past ≡ untold_hits id before)
    × (has_untold_miss id past ≡ has_untold_miss id before)) → (answered_of id before ≡ Some given
    → Tells id before given) → cond (same_id id i) (Some x) (answered_of id before) ≡ Some given → Tells id past given
act_tells id i x given past before order own other rest h = grind arith

pub answered_tells : (goal : Goal) (past : List Event) → is_sound goal past ≡ true → (id : List ℕ) (given : Answer)
    → answered_of id past ≡ Some given → Tells id past given
answered_tells goal past h = sound_ind goal (λ before. (id : List ℕ) (given : Answer) → answered_of id before
    ≡ Some given → Tells id before given) (λ table distinct id given is. absurd (none-some given is)) next past h where
      next : (happening : Event) (before : List Event) → may_come goal happening before ≡ true
          → is_sound goal before ≡ true
          → ((id : List ℕ) (given : Answer) → answered_of id before ≡ Some given → Tells id before given)
          → (id : List ℕ)
          (given : Answer) → answered_of id (happening ∷ before) ≡ Some given → Tells id (happening ∷ before) given
      next (Birth i n) before may sound rest id given is = act_tells id i (answer.Born n) given
          (Birth i n ∷ before) before refl (λ same. record { hits = rw same refl; miss = rw same refl })
          (λ differ. (rw differ refl, rw differ refl)) (rest id given) is
      next (NoBirth i) before may sound rest id given is = act_tells id i answer.NotBorn given
          (NoBirth i ∷ before) before refl (λ same. let none = act_nothing goal before sound i Start may id same in
          record { hits = none.hits; miss = none.miss }) (λ differ. (refl, refl)) (rest id given) is
      next (Reaped i n status) before may sound rest id given is =
          act_tells id i (answer.Ended status) given (Reaped i n status ∷ before) before refl
          (λ same. let none = act_nothing goal before sound i Look (look_undone goal i n status before may).0 id same in
          record { hits = none.hits; miss = none.miss }) (λ differ. (refl, refl)) (rest id given) is
      next (Still i) before may sound rest id given is =
          act_tells id i answer.Alive given (Still i ∷ before) before refl
          (λ same. let none = act_nothing goal before sound i Look may id same in
          record { hits = none.hits; miss = none.miss }) (λ differ. (refl, refl)) (rest id given) is
      next (NoLook i) before may sound rest id given is =
          act_tells id i answer.NoLook given (NoLook i ∷ before) before refl
          (λ same. let none = act_nothing goal before sound i Look may id same in
          record { hits = none.hits; miss = none.miss }) (λ differ. (refl, refl)) (rest id given) is
      next (Hit i) before may sound rest id given is = act_tells id i answer.Hit given (Hit i ∷ before) before refl
          (λ same. let none = signal_nothing goal before sound i may id same in
          record { hits = rw (same, none.hits) refl; miss = none.miss }) (λ differ. (rw differ refl, refl))
          (rest id given) is
      next (Miss i) before may sound rest id given is = act_tells id i answer.Miss given (Miss i ∷ before) before refl
          (λ same. let none = signal_nothing goal before sound i may id same in
          record { hits = none.hits; miss = rw same refl }) (λ differ. (refl, rw differ refl)) (rest id given) is
      next (Told i) before may sound rest id given is = at_id (same_id id i) refl is where
        at_id : (b : Bool) → same_id id i ≡ b → cond b None (answered_of id before) ≡ Some given
            → Tells id (Told i ∷ before) given
        at_id true same is = absurd (none-some given is)
        at_id false differ is = same_tells id (Told i ∷ before) before given (rw differ refl) (rw differ refl)
            (rw differ refl) (rest id given is)
      next (Asked i ask) before may sound rest id given is = at_id (same_id id i) refl where
        at_id : (b : Bool) → same_id id i ≡ b → Tells id (Asked i ask ∷ before) given
        at_id true same = both_ways (is_untold id before) (sym (answered_untold id before) ∙ ap is_some is)
            (free_told id before (sound_holds goal before sound).told
            (ap (λ x. open_of x before) (same_id-is id i same) ∙ asked_free goal i ask before may))
        at_id false differ =
            same_tells id (Asked i ask ∷ before) before given refl refl (rw differ refl) (rest id given is)
      next happening before may sound rest id given is =
          same_tells id (happening ∷ before) before given refl refl refl (rest id given is)
