-- From one happening to the next: the state still agrees with the past, and the first breach stays the first.
use Rattle.trace_check.proofs.Words.{◌≡◌, ◌<◌, ◌≤◌, sym, ◌∙◌, ap, subst, ℕ, ◌+◌, true, List, [], ◌∷◌, ◌++◌, length}
use Rattle.trace_check.proofs.Words.{reverse, take, take_all, drop, get_or, is_some, arith, Some, None, is_distinct}
use Rattle.trace_check.proofs.Words.{Event, table_of, stage_of, time_of, is_child_of, unreaped_children, broken, Fault}
use Rattle.trace_check.proofs.Words.{breach_at, earlier, first_breach, is_lone, JudgeState, at, among, times_at}
use Rattle.trace_check.proofs.Words.{StateAfterHappening, table_after, stage_after, grace_after, time_after}
use Rattle.trace_check.proofs.Words.{order_after}
use Rattle.trace_check.proofs.Words.{kept_after, asked_after, called_after, sent_after, starts_after, hold_after}
use Rattle.trace_check.proofs.Words.{term_after, flaw_in, Reads, Judging, Judged}
use Rattle.std.proofs.lemmas.List.{take_more, reverse-append, length-reverse, length-take-le, take-append-drop}
use Rattle.trace_check.proofs.Keeping.{table_step, stage_step, grace_step, time_step, order_step, kept_step, asked_step}
use Rattle.trace_check.proofs.Keeping.{called_step, sent_step, starts_step, hold_step}
use Rattle.trace_check.proofs.Bearing.{lone_step, child_step, term_step}
use Rattle.trace_check.proofs.Judging.{alive, flaw_reads}

pub lawful_parts : (happening : Event) (past : List Event) → first_breach (happening ∷ past) ≡ None
    → (first_breach past ≡ None) × (broken happening past ≡ None)
lawful_parts happening past lawful = grind arith

pub lone_lawful : (past : List Event) → first_breach past ≡ None → (id : List ℕ)
    → is_lone (is_child_of id) (unreaped_children past) ≡ true
lone_lawful [] lawful id = grind (arith, lawful_parts, lone_step)
lone_lawful (happening ∷ past) lawful id = grind (arith, lone_lawful past, lawful_parts, lone_step)

-- the state agrees with the past with one more happening
pub reads_after : (happening : Event) (past : List Event) (old new : JudgeState)
    → StateAfterHappening (table_of past) old new happening
    → ((id : List ℕ) → is_lone (is_child_of id) (unreaped_children past) ≡ true)
    → is_distinct (table_of past) ≡ true → Reads old past → Reads new (happening ∷ past)
reads_after happening past old new took lone distinct r = record {
  stage = took.stage ∙ ap (stage_after happening) r.stage ∙ stage_step happening past;
  grace = took.grace ∙ ap (grace_after happening) r.grace ∙ grace_step happening past;
  time = took.time ∙ ap (time_after happening) r.time ∙ time_step happening past;
  orders = λ id. took.orders id ∙ ap (order_after happening id) (r.orders id) ∙ order_step happening id past;
  kept = λ id. took.kept id ∙ ap (kept_after (λ i. is_some (at i old.children)) happening id) (r.kept id)
      ∙ kept_step (λ i. is_some (at i old.children)) happening id past (alive old past r lone distinct);
  asked =
      λ id. took.asked id ∙ ap (asked_after (table_of past) happening id) (r.asked id) ∙ asked_step happening id past;
  called = λ id. took.called id
      ∙ ap (λ stage. called_after (table_of past) stage happening id (among id old.called)) r.stage ∙ ap
      (called_after (table_of past) (stage_of past) happening id) (r.called id)
      ∙ called_step happening id past distinct;
  sent = λ id. took.sent id ∙ ap (sent_after (λ i. at i old.orders) happening id) (r.sent id)
      ∙ sent_step (λ i. at i old.orders) happening id past r.orders;
  starts = λ id. took.starts id ∙ ap (λ time. starts_after time happening id (times_at id old.starts)) r.time
      ∙ ap (starts_after (time_of past) happening id) (r.starts id) ∙ starts_step happening id past;
  holds = λ id. took.holds id ∙ ap (λ time. hold_after time happening id (at id old.holds)) r.time
      ∙ ap (hold_after (time_of past) happening id) (r.holds id) ∙ hold_step happening id past;
  children = λ id. took.children id ∙ child_step (λ i. at i old.children) happening id past r.children (lone id);
  termed = λ id. took.termed id
      ∙ ap (λ stage. term_after (table_of past) stage old.time (λ i. at i old.children) (λ i. among i old.sent)
      (λ i. at i old.termed) happening id) r.stage
      ∙ ap (λ time. term_after (table_of past) (stage_of past) time (λ i. at i old.children) (λ i. among i old.sent)
      (λ i. at i old.termed) happening id) r.time
      ∙ term_step (λ i. at i old.children) (λ i. among i old.sent) (λ i. at i old.termed) happening id past
      (r.children id) (r.sent id) (r.termed id) (lone id);
}

-- the law that the judge finds is the law that the happening breaks
pub flaw_is : (happening : Event) (past : List Event) (judge : Judging) → is_distinct judge.table ≡ true
    → Judged judge past → flaw_in judge.table judge.state happening ≡ broken happening past
flaw_is happening past judge distinct judged = grind (arith, flaw_reads, lone_lawful)

-- one more happening that breaks no law was judged
pub judged_more : (happening : Event) (old new : Judging) → is_distinct old.table ≡ true
    → flaw_in old.table old.state happening ≡ None → StateAfterHappening old.table old.state new.state happening
    → new.table
    ≡ table_after happening old.table → (past : List Event) → Judged old past → Judged new (happening ∷ past)
judged_more happening old new distinct flawless took after past judged = record {
  lawful = ap (λ o. earlier o (breach_at (length past) (broken happening past))) judged.lawful
      ∙ ap (breach_at (length past)) (sym (flaw_is happening past old distinct judged) ∙ flawless);
  in_force = after ∙ ap (table_after happening) judged.in_force ∙ table_step happening past;
  reads =
      reads_after happening past old.state new.state (subst (λ t. StateAfterHappening t old.state new.state happening)
      judged.in_force took) (lone_lawful past judged.lawful)
      (ap is_distinct (sym judged.in_force) ∙ distinct) judged.reads;
}

-- the next happening of a trace is the newest of the past
pub one_more : (trace : List Event) (position : ℕ) (happening : Event) → position < length trace → happening
    ≡ get_or trace position happening → reverse (take (position + 1) trace) ≡ happening ∷ reverse (take position trace)
one_more trace position happening within is = ap reverse (take_more trace position happening within) ∙ reverse-append
    (take position trace) (get_or trace position happening ∷ []) ∙ ap (λ x. x ∷ reverse (take position trace)) (sym is)

-- the first breach stays the first when happenings are added
pub kept_breach : (newer older : List Event) (fault : Fault) → first_breach older ≡ Some fault
    → first_breach (newer ++ older) ≡ Some fault
kept_breach [] older fault is = is
kept_breach (happening ∷ newer) older fault is = ap (λ o. earlier o
    (breach_at (length (newer ++ older)) (broken happening (newer ++ older)))) (kept_breach newer older fault is)

whole : (trace : List Event) (position : ℕ)
    → reverse trace ≡ reverse (drop position trace) ++ reverse (take position trace)
whole trace position =
    ap reverse (sym (take-append-drop position trace)) ∙ reverse-append (take position trace) (drop position trace)

-- a breach after a lawful past is the first
pub breach_here : (happening : Event) (past : List Event) (law : ℕ) → first_breach past ≡ None → Some law
    ≡ broken happening past → first_breach (happening ∷ past) ≡ Some (record { position = length past; law = law })
breach_here happening past law lawful broke = ap
    (λ o. earlier o (breach_at (length past) (broken happening past))) lawful ∙ ap (breach_at (length past)) (sym broke)

pub breach_found : (trace : List Event) (position law : ℕ) (happening : Event) → first_breach (reverse (take position
    trace)) ≡ None → position < length trace → happening ≡ get_or trace position happening → Some law ≡ broken happening
    (reverse (take position trace)) → Some (record { position = position; law = law }) ≡ first_breach (reverse trace)
breach_found trace position law happening lawful within is broke =
    sym (ap first_breach (whole trace (position + 1)) ∙ kept_breach (reverse (drop (position + 1) trace))
    (reverse (take (position + 1) trace)) (record { position = position; law = law }) here) where
      past : List Event
      past = reverse (take position trace)

      here : first_breach (reverse (take (position + 1) trace)) ≡ Some (record { position = position; law = law })
      here = grind (arith, one_more, breach_here, past, length-reverse, length-take-le)

-- if all happenings have passed, there is no breach
pub passed_all : (trace : List Event) (position : ℕ) → first_breach (reverse (take position trace)) ≡ None
    → length trace ≤ position → None ≡ first_breach (reverse trace)
passed_all trace position lawful all =
    sym (ap (λ xs. first_breach (reverse xs)) (sym (take_all position trace all)) ∙ lawful)
