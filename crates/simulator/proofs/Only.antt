-- For a level, an inittab and a script there is only one run.
use Rattle.simulator.proofs.Words.{◌≡◌, refl, sym, ap, ◌∙◌, subst, ◌⊎◌, inl, inr, ℕ, Bool, true, false, ◌&&◌, cond}
use Rattle.simulator.proofs.Words.{List, [], ◌∷◌, ◌++◌, length, reverse, append_assoc, Some, arith, ◌==◌, false≢true}
use Rattle.simulator.proofs.Words.{and_parts, append_cancel_right, reverse-reverse, Letter, PowerKind, same_letter}
use Rattle.simulator.proofs.Words.{same_id, same_ask-is, same_id-is, same_level-is, Goal, Step, Enter, Call, Power}
use Rattle.simulator.proofs.Words.{Reread, Order, Hold, Settle, Reexec, Idle, due, first, same_step, Event, is_next}
use Rattle.simulator.proofs.Words.{is_rest, is_reread, is_run, step_in, may_come, with_step, first_table, heard}
use Rattle.simulator.proofs.Words.{is_scripted, reverse_onto, is_in_range, are_in_range, are_in_range-push, one_trace}
use Rattle.simulator.proofs.Words.{RunsToRest, Scenario, goal_in, heard_text, past_text}
use Rattle.std.proofs.Common.{eqb-true}
use Rattle.std.proofs.lemmas.List.{length-append}
use Rattle.std.proofs.lemmas.Option.{none-some, same_Some}
use Rattle.init_words.specs.declared.levels.Letter.TheVariants.{A, B, C}
use Rattle.init_words.specs.declared.orders.PowerKind.TheVariants as power
use Rattle.init_words.specs.Orders.{same_ask, same_power, same_stage}
use Rattle.init_words.proofs.Same.{same_stage-is}
use Rattle.trace_events.specs.declared.happenings.Happening.TheVariants as event
use Rattle.simulator.proofs.Moves.{first_more, heard_more}

-- Two steps or happenings that compare equal are the same.

same_letter_is : (k l : Letter) → same_letter k l ≡ true → k ≡ l
same_letter_is A A is = refl
same_letter_is B B is = refl
same_letter_is C C is = refl
same_letter_is _ _ is = absurd (false≢true is)

same_power_is : (k l : PowerKind) → same_power k l ≡ true → k ≡ l
same_power_is power.Fail power.Fail is = refl
same_power_is power.FailNow power.FailNow is = refl
same_power_is power.Ok power.Ok is = refl
same_power_is _ _ is = absurd (false≢true is)

same_step_is : (s t : Step) → same_step s t ≡ true → s ≡ t
same_step_is (Enter k m) (Enter l n) is =
    let both = and_parts (same_stage k l) (m == n) is in
    rw (same_stage-is k l both.0, eqb-true m n both.1) refl
same_step_is (Call k) (Call l) is = ap (λ letter. Call letter) (same_letter_is k l is)
same_step_is (Power k) (Power l) is = ap (λ kind. Power kind) (same_power_is k l is)
same_step_is (Order i a) (Order j b) is =
    let both = and_parts (same_id i j) (same_ask a b) is in
    rw (same_id-is i j both.0, same_ask-is a b both.1) refl
same_step_is (Hold i) (Hold j) is = ap (λ id. Hold id) (same_id-is i j is)
same_step_is (Settle k) (Settle l) is = ap (λ level. Settle level) (same_level-is k l is)
same_step_is Reread Reread is = refl
same_step_is Reexec Reexec is = refl
same_step_is Idle Idle is = refl
same_step_is _ _ is = absurd (false≢true is)

-- a step as a happening adds that happening, and init is not at rest at it
step_adds : (h : Event) (s : Step) → step_in h ≡ Some s → (with_step s [] ≡ h ∷ []) × (is_rest s ≡ false)
step_adds (event.Enter now grace) s is =
    subst (λ t. (with_step t [] ≡ event.Enter now grace ∷ []) × (is_rest t ≡ false)) (same_Some _ _ is) (refl, refl)
step_adds (event.Call letter) s is =
    subst (λ t. (with_step t [] ≡ event.Call letter ∷ []) × (is_rest t ≡ false)) (same_Some _ _ is) (refl, refl)
step_adds (event.Power kind) s is =
    subst (λ t. (with_step t [] ≡ event.Power kind ∷ []) × (is_rest t ≡ false)) (same_Some _ _ is) (refl, refl)
step_adds (event.Asked id ask) s is =
    subst (λ t. (with_step t [] ≡ event.Asked id ask ∷ []) × (is_rest t ≡ false)) (same_Some _ _ is) (refl, refl)
step_adds (event.Hold id) s is =
    subst (λ t. (with_step t [] ≡ event.Hold id ∷ []) × (is_rest t ≡ false)) (same_Some _ _ is) (refl, refl)
step_adds (event.Settle level) s is =
    subst (λ t. (with_step t [] ≡ event.Settle level ∷ []) × (is_rest t ≡ false)) (same_Some _ _ is) (refl, refl)
step_adds _ s is = absurd (none-some s is)

-- what may come next if this is the first due step: that step, or a line of the script if init is at rest
abbrev NextOne : Step → Event → Type 0
NextOne due_now h = (step_in h ≡ Some due_now) ⊎ ((is_scripted h ≡ true) × (is_rest due_now ≡ true))

rests_then : (s : Step) → is_reread s ≡ true → is_rest s ≡ true
rests_then Reread is = refl
rests_then _ is = absurd (false≢true is)

next_one : (s : Step) (h : Event) → is_next s h ≡ true → NextOne s h
next_one s (event.NewTable table) is = inr (refl, rests_then s is)
next_one s event.NotRead is = inr (refl, rests_then s is)
next_one s (event.Enter now grace) is = inl (ap Some (sym (same_step_is s (Enter now grace) is)))
next_one s (event.Call letter) is = inl (ap Some (sym (same_step_is s (Call letter) is)))
next_one s (event.Power kind) is = inl (ap Some (sym (same_step_is s (Power kind) is)))
next_one s (event.Asked id ask) is = inl (ap Some (sym (same_step_is s (Order id ask) is)))
next_one s (event.Hold id) is = inl (ap Some (sym (same_step_is s (Hold id) is)))
next_one s (event.Settle level) is = inl (ap Some (sym (same_step_is s (Settle level) is)))
next_one s _ is = inr (refl, is)

abbrev head_or : Event → List Event → Event
head_or none [] = none
head_or none (x ∷ xs) = x

-- two happenings that may come next are the same, or both come from the script
one_or_said : (s : Step) (h k : Event) → is_next s h ≡ true → is_next s k ≡ true
    → (h ≡ k) ⊎ ((is_scripted h ≡ true) × (is_scripted k ≡ true))
one_or_said s h k first_is second_is = by (next_one s h first_is) (next_one s k second_is)
  where
    by : NextOne s h → NextOne s k → (h ≡ k) ⊎ ((is_scripted h ≡ true) × (is_scripted k ≡ true))
    by (inl one) (inl other) = inl (ap (head_or h) (sym (step_adds h s one).0 ∙ (step_adds k s other).0))
    by (inl one) (inr (said, rests)) = absurd (false≢true (sym (step_adds h s one).1 ∙ rests))
    by (inr (said, rests)) (inl other) = absurd (false≢true (sym (step_adds k s other).1 ∙ rests))
    by (inr one) (inr other) = inr (one.0, other.0)

-- A run and how it began.

-- the later run continues the earlier one
abbrev Extends : List Event → List Event → Type 0
Extends q [] = q ≡ []
Extends q (h ∷ p) = (q ≡ h ∷ p) ⊎ Extends q p

parts : (goal : Goal) (h x : Event) (past : List Event) → is_run goal (h ∷ x ∷ past) ≡ true
    → (is_next (first (due goal (x ∷ past))) h ≡ true) × (is_run goal (x ∷ past) ≡ true)
parts goal (event.NewTable table) x past runs =
    let all = and_parts (is_next (first (due goal (x ∷ past))) (event.NewTable table)
    && may_come goal (event.NewTable table) (x ∷ past)) (is_run goal (x ∷ past)) runs in (
      (and_parts (is_next (first (due goal (x ∷ past))) (event.NewTable table))
          (may_come goal (event.NewTable table) (x ∷ past)) all.0).0,
      all.1,
    )
parts goal h x past runs =
    let all =
    and_parts (is_next (first (due goal (x ∷ past))) h && may_come goal h (x ∷ past)) (is_run goal (x ∷ past)) runs in
    ((and_parts (is_next (first (due goal (x ∷ past))) h) (may_come goal h (x ∷ past)) all.0).0, all.1)

cons_some : {P : Type 0} (x : Event) (xs : List Event) → x ∷ xs ≡ [] → P
cons_some x xs none = let long : length (x ∷ xs) ≡ 0 = ap length none in absurd (omega (arith, long))

run_within : (goal : Goal) (k : Event) (q p : List Event) → is_run goal p ≡ true → Extends (k ∷ q) p
    → is_run goal (k ∷ q) ≡ true
run_within goal k q [] runs behind = cons_some k q behind
run_within goal k q (h ∷ p) runs (inl same) = subst (λ t. is_run goal t ≡ true) (sym same) runs
run_within goal k q (h ∷ []) runs (inr none) = cons_some k q none
run_within goal k q (h ∷ x ∷ p) runs (inr behind) = run_within goal k q (x ∷ p) (parts goal h x p runs).1 behind

heard_within : (goal : Goal) (k : Event) (q p : List Event) → is_run goal p ≡ true → Extends (k ∷ q) p
    → (more : List Event) × (heard p ≡ more ++ heard (k ∷ q))
heard_within goal k q [] runs behind = cons_some k q behind
heard_within goal k q (h ∷ p) runs (inl same) = ([], ap heard (sym same))
heard_within goal k q (h ∷ []) runs (inr none) = cons_some k q none
heard_within goal k q (h ∷ x ∷ p) runs (inr behind) =
    let (more, is) = heard_within goal k q (x ∷ p) (parts goal h x p runs).1 behind in
    by more is (is_scripted h)
  where
    by : (more : List Event) → heard (x ∷ p) ≡ more ++ heard (k ∷ q) → (b : Bool)
        → (all : List Event) × (cond b (h ∷ heard (x ∷ p)) (heard (x ∷ p)) ≡ all ++ heard (k ∷ q))
    by more is true = (h ∷ more, ap (λ es. h ∷ es) is)
    by more is false = (more, is)

-- a run begins with its table
opens_with : (goal : Goal) (q : List Event) → is_run goal q ≡ true → Extends (event.NewTable (first_table q) ∷ []) q
opens_with goal [] runs = absurd (false≢true runs)
opens_with goal (event.NewTable table ∷ []) runs = inl refl
opens_with goal (h ∷ []) runs =
    absurd (false≢true (and_parts (is_next (first (due goal [])) h && may_come goal h []) (is_run goal []) runs).1)
opens_with goal (h ∷ x ∷ past) runs =
    let before = (parts goal h x past runs).1 in
    inr (subst (λ table. Extends (event.NewTable table ∷ []) (x ∷ past)) (sym (first_more goal h (x ∷ past) before))
    (opens_with goal (x ∷ past) before))

next_behind : (q p : List Event) → Extends q p → (q ≡ p) ⊎ ((k : Event) × Extends (k ∷ q) p)
next_behind q [] same = inl same
next_behind q (h ∷ p) (inl same) = inl same
next_behind q (h ∷ p) (inr behind) = by (next_behind q p behind)
  where
    by : (q ≡ p) ⊎ ((k : Event) × Extends (k ∷ q) p) → (q ≡ h ∷ p) ⊎ ((k : Event) × Extends (k ∷ q) (h ∷ p))
    by (inl same) = inr (h, inl (ap (λ es. h ∷ es) same))
    by (inr (k, more)) = inr (k, inr more)

-- The part of a run that came from the script.

abbrev tail_of : List Event → List Event
tail_of [] = []
tail_of (x ∷ xs) = xs

last_one : (xs ys : List Event) (h k : Event) → xs ++ h ∷ [] ≡ ys ++ k ∷ [] → h ≡ k
last_one [] [] h k same = ap (head_or h) same
last_one [] (y ∷ ys) h k same = absurd (omega (arith, ap length same, length-append ys (k ∷ [])))
last_one (x ∷ xs) [] h k same = absurd (omega (arith, ap length same, length-append xs (h ∷ [])))
last_one (x ∷ xs) (y ∷ ys) h k same = last_one xs ys h k (ap tail_of same)

same_place : (m n t : List Event) (h k : Event) → m ++ h ∷ t ≡ n ++ k ∷ t → h ≡ k
same_place m n t h k same = last_one m n h k (append_cancel_right (m ++ h ∷ []) (n ++ k ∷ []) t
    (append_assoc m (h ∷ []) t ∙ same ∙ sym (append_assoc n (k ∷ []) t)))

heard_said : (goal : Goal) (h : Event) (past : List Event) → is_run goal past ≡ true → is_scripted h ≡ true
    → heard (h ∷ past) ≡ h ∷ heard past
heard_said goal h past runs said =
    heard_more goal h past runs ∙ ap (λ (b : Bool). cond b (h ∷ heard past) (heard past)) said

-- what came from the script earlier is a part of it
heard_before : (goal : Goal) (h : Event) (past all more : List Event) → is_run goal past ≡ true
    → all ≡ more ++ heard (h ∷ past) → (less : List Event) × (all ≡ less ++ heard past)
heard_before goal h past all more runs is =
    by (is_scripted h) (is ∙ ap (λ es. more ++ es) (heard_more goal h past runs))
  where
    by : (b : Bool) → all ≡ more ++ cond b (h ∷ heard past) (heard past)
        → (less : List Event) × (all ≡ less ++ heard past)
    by true same = (more ++ h ∷ [], same ∙ sym (append_assoc more (h ∷ []) (heard past)))
    by false same = (more, same)

-- of two runs with the same table whose lines come from the same script, one continues the other
comparable : (goal : Goal) (p q all m n : List Event) → is_run goal p ≡ true → is_run goal q ≡ true
    → first_table p ≡ first_table q → all ≡ m ++ heard p → all ≡ n ++ heard q → Extends p q ⊎ Extends q p
comparable goal [] q all m n runs other table here there = absurd (false≢true runs)
comparable goal (h ∷ []) q all m n runs other table here there = by (opens_with goal (h ∷ []) runs)
  where
    by : Extends (event.NewTable (first_table (h ∷ [])) ∷ []) (h ∷ []) → Extends (h ∷ []) q ⊎ Extends q (h ∷ [])
    by (inl same) =
        inl (subst (λ es. Extends es q) (ap (λ t. event.NewTable t ∷ []) (sym table) ∙ same) (opens_with goal q other))
    by (inr none) = cons_some (event.NewTable (first_table (h ∷ []))) [] none
comparable goal (h ∷ x ∷ past) q all m n runs other table here there =
    let before = (parts goal h x past runs).1 in
    let (less, is) = heard_before goal h (x ∷ past) all m before here in
    by
    (comparable goal (x ∷ past) q all less n before other (sym (first_more goal h (x ∷ past) before) ∙ table) is there)
  where
    one : (k : Event) → Extends (k ∷ x ∷ past) q → h ≡ k
    one k behind =
        let before = (parts goal h x past runs).1 in
        let (more, was) = heard_within goal k (x ∷ past) q other behind in
        elim (one_or_said (first (due goal (x ∷ past))) h k (parts goal h x past runs).0
        (parts goal k x past (run_within goal k (x ∷ past) q other behind)).0) [
          | inl same ↦ same
          | inr said ↦
              same_place m (n ++ more) (heard (x ∷ past)) h k
              (ap (λ es. m ++ es) (sym (heard_said goal h (x ∷ past) before said.0)) ∙ sym here ∙ there
              ∙ ap (λ es. n ++ es) (was ∙ ap (λ es. more ++ es) (heard_said goal k (x ∷ past) before said.1))
              ∙ sym (append_assoc n more (k ∷ heard (x ∷ past))))
        ]

    next : (x ∷ past ≡ q) ⊎ ((k : Event) × Extends (k ∷ x ∷ past) q)
        → Extends (h ∷ x ∷ past) q ⊎ Extends q (h ∷ x ∷ past)
    next (inl same) = inr (inr (inl (sym same)))
    next (inr (k, behind)) = inl (subst (λ e. Extends (e ∷ x ∷ past) q) (sym (one k behind)) behind)

    by : Extends (x ∷ past) q ⊎ Extends q (x ∷ past) → Extends (h ∷ x ∷ past) q ⊎ Extends q (h ∷ x ∷ past)
    by (inl behind) = next (next_behind (x ∷ past) q behind)
    by (inr behind) = inr (inr behind)

-- a run that continues one after which init is at rest has read more of the script, or is the same run
rested_same : (goal : Goal) (p q : List Event) → is_run goal p ≡ true → is_run goal q ≡ true
    → is_rest (first (due goal p)) ≡ true → heard q ≡ heard p → Extends p q → p ≡ q
rested_same goal [] q runs other rests same behind = absurd (false≢true runs)
rested_same goal (x ∷ past) q runs other rests same behind = by (next_behind (x ∷ past) q behind)
  where
    longer : (k : Event) → Extends (k ∷ x ∷ past) q → is_scripted k ≡ true → x ∷ past ≡ q
    longer k more said =
        let (front, was) = heard_within goal k (x ∷ past) q other more in
        let all : heard (x ∷ past) ≡ front ++ k ∷ heard (x ∷ past) =
        sym same ∙ was ∙ ap (λ es. front ++ es) (heard_said goal k (x ∷ past) runs said) in
        absurd (omega (arith, ap length all, length-append front (k ∷ heard (x ∷ past))))

    said_then : (k : Event) → NextOne (first (due goal (x ∷ past))) k → is_scripted k ≡ true
    said_then k (inl taken) = absurd (false≢true (sym (step_adds k (first (due goal (x ∷ past))) taken).1 ∙ rests))
    said_then k (inr said) = said.0

    by : (x ∷ past ≡ q) ⊎ ((k : Event) × Extends (k ∷ x ∷ past) q) → x ∷ past ≡ q
    by (inl done) = done
    by (inr (k, more)) =
        longer k more (said_then k
        (next_one (first (due goal (x ∷ past))) k (parts goal k x past (run_within goal k (x ∷ past) q other more)).0))

-- two runs with the same table that have read the same lines, and after which init is at rest, are the same
pub one_run : (goal : Goal) (p q : List Event) → is_run goal p ≡ true → is_run goal q ≡ true
    → is_rest (first (due goal p)) ≡ true → is_rest (first (due goal q)) ≡ true
    → first_table p ≡ first_table q → heard p ≡ heard q → p ≡ q
one_run goal p q runs other rests other_rests table same =
    elim (comparable goal p q (heard p) [] [] runs other table refl same) [
      | inl behind ↦ rested_same goal p q runs other rests (sym same) behind
      | inr behind ↦ sym (rested_same goal q p other runs other_rests same behind)
    ]

-- Runs over a script.

are_back : (trace : List Event) → are_in_range trace ≡ true → are_in_range (reverse trace) ≡ true
are_back [] are = refl
are_back (h ∷ trace) are =
    let both = and_parts (is_in_range h) (are_in_range trace) are in
    subst (λ es. are_in_range es ≡ true) (sym (reverse_onto trace h []))
    (are_in_range-push (reverse trace) h (are_back trace both.1) both.0)

-- a text is that of only one list of happenings
one_heard : (p q : List Event) → are_in_range p ≡ true → are_in_range q ≡ true → past_text p ≡ past_text q → p ≡ q
one_heard p q one other same =
    sym (reverse-reverse p) ∙ ap reverse (one_trace (reverse p) (reverse q) (are_back p one) (are_back q other) same)
    ∙ reverse-reverse q

pub only : (s : Scenario) (rest : List ℕ) (p q : List Event) → RunsToRest s rest p → RunsToRest s rest q → p ≡ q
only s rest p q one other =
    let same : heard_text p ≡ heard_text q =
    append_cancel_right (heard_text p) (heard_text q) rest (one.run.hears ∙ sym other.run.hears) in
    one_run (goal_in s) p q one.run.runs other.run.runs one.rests other.rests (one.run.opens ∙ sym other.run.opens)
    (one_heard (heard p) (heard q) one.run.are other.run.are same)
