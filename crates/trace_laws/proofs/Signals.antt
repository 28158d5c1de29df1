-- Each signal of a sound trace goes to an excluded child, and a KILL only after a TERM and the grace period.
use Rattle.trace_laws.proofs.Words.{◌≡◌, refl, ◌∙◌, ap, ℕ, Bool, true, false, ◌&&◌, List, [], ◌∷◌, ◌++◌, Some, arith}
use Rattle.trace_laws.proofs.Words.{list_any, and_from, or_left, Term, Kill, Asked, Goal, Event, Child, grace_of}
use Rattle.trace_laws.proofs.Words.{time_of, is_child_of, unreaped_children, is_excluded, Signal, is_grace_over}
use Rattle.trace_laws.proofs.Words.{stop_due}
use Rattle.trace_laws.proofs.Words.{spell_hits, is_due, is_sound, may_term, may_kill, any_less}
use Rattle.trace_events.specs.declared.steps.Step.TheVariants as step
use Rattle.trace_laws.proofs.Dues.{MayStop, due_facts}
use Rattle.trace_laws.proofs.Keeps.{sound_holds, asked_may_term, stop_unreaped, stop_excluded}
use Rattle.trace_laws.proofs.Births.{step_at}

-- a KILL is due only after exactly one signal, a TERM whose grace period is over
pub record OneRipe (grace now : ℕ) (hits : List Signal) : Type 0 where
  pub signal : Signal
  pub only : hits ≡ signal ∷ []
  pub ripe : is_grace_over grace now signal ≡ true

pub kill_ripe : (child : Child) (past : List Event) → stop_due child past ≡ Some Kill
    → OneRipe (grace_of past) (time_of past) (spell_hits child past)
kill_ripe child past h = grind arith

pub asked_may_kill : (goal : Goal) (id : List ℕ) (past : List Event) → is_due goal (step.Order id Kill) past ≡ true
    → is_sound goal past ≡ true → may_kill id past ≡ true
asked_may_kill goal id past due sound =
    any_less (λ child. is_child_of id child && stopped child) (λ child. is_child_of id child
    && is_excluded past child && list_any ripe (spell_hits child past)) nest (unreaped_children past)
    (stop_unreaped id Kill past (sound_holds goal past sound).told may stopped (and_from (is_excluded past may.child)
    (list_any ripe (spell_hits may.child past)) (stop_excluded may.child Kill past may.due) told)) where
      ripe : Signal → Bool
      ripe = is_grace_over (grace_of past) (time_of past)

      stopped : Child → Bool
      stopped child = is_excluded past child && list_any ripe (spell_hits child past)

      may : MayStop id Kill past
      may = due_facts goal past (step.Order id Kill) due

      one : OneRipe (grace_of past) (time_of past) (spell_hits may.child past)
      one = kill_ripe may.child past may.due

      told : list_any ripe (spell_hits may.child past) ≡ true
      told = ap (list_any ripe) one.only ∙ or_left (ripe one.signal) false one.ripe

      nest : (child : Child) → (is_child_of id child && stopped child) ≡ true
          → (is_child_of id child && is_excluded past child && list_any ripe (spell_hits child past)) ≡ true
      nest child h = grind arith

pub term_may : (goal : Goal) (later : List Event) (id : List ℕ) (past : List Event)
    → is_sound goal (later ++ Asked id Term ∷ past) ≡ true → may_term id past ≡ true
term_may goal later id past h = let parts = step_at goal later (Asked id Term) past refl h in
    asked_may_term goal id Term past parts.0 (sound_holds goal past parts.1).told refl

pub kill_may : (goal : Goal) (later : List Event) (id : List ℕ) (past : List Event)
    → is_sound goal (later ++ Asked id Kill ∷ past) ≡ true → may_kill id past ≡ true
kill_may goal later id past h = let parts = step_at goal later (Asked id Kill) past refl h in
    asked_may_kill goal id past parts.0 parts.1
