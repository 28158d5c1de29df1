-- What is noted of turns over a host that records its calls, the verdict of their judge, and how their log ended.
use Rattle.initd_command.proofs.Words.{◌≡◌, refl, sym, ◌∙◌, ap, subst, ℕ, Bool, true, false, not, ◌&&◌, if◌then◌else◌}
use Rattle.initd_command.proofs.Words.{List, [], ◌++◌, reverse, Option, Some, None, is_some, append-nil, reverse-append}
use Rattle.initd_command.proofs.Words.{reverse-reverse, Entry, Event, LogState, HostCall, IsRunning, Notes, AreNotesOf}
use Rattle.initd_command.proofs.Words.{is_wanted, Served, waiting_text, IsOpening, start_point, RunArguments}
use Rattle.initd_command.proofs.Words.{Judgement}
use Rattle.initd_command.proofs.Words.{IsJudgementOf, AreNotesOfRun, IsServed, LogEnds, TurnsFrom, judgement_for}
use Rattle.initd_command.proofs.Words.{noted_of}
use Rattle.std.proofs.Common.{IfSome}
use Rattle.std.specs.Bool.{then_some}
use Rattle.std.proofs.lemmas.Bool.{and_parts, not-true}
use Rattle.init_words.specs.declared.levels.Level.{Level}
use Rattle.supervisor.specs.CallsLead.{Takes, IfPossibleFrom, Went}
use Rattle.supervisor.specs.Point.{point_after}
use Rattle.trace_events.specs.declared.steps.Goal.{Goal}
use Rattle.core_model.specs.State.{CoreState, opening_goal}
use Rattle.core_model.specs.Fit.{FitsWithLastStatuses}
use Rattle.supervisor.specs.Parts.{HoldsAfterTurns}
use Rattle.supervisor.proofs.Opened.{from_opening, opening_short}
use Rattle.inittab_text.specs.Tables.{is_distinct}

-- if the run is to be judged, its verdict is right
found_for : (service : RunArguments) (found : Judgement) (past : List Event) → IsJudgementOf found past
    → IfSome (judgement_for service found) (λ judgement. IsJudgementOf judgement past)
found_for service found past finds = by service.judge
  where
    by : (asked : Bool) → IfSome (then_some asked found) (λ judgement. IsJudgementOf judgement past)
    by true = finds
    by false = tt

judged_for : (service : RunArguments) (found : Judgement) → is_some (judgement_for service found) ≡ service.judge
judged_for service found = by service.judge
  where
    by : (asked : Bool) → is_some (then_some asked found) ≡ asked
    by true = refl
    by false = refl

pub judged_still : (service : RunArguments) (found : Judgement) (judgement : Option Judgement)
    → judgement ≡ judgement_for service found → is_some judgement ≡ service.judge
judged_still service found judgement is = subst (λ j. is_some j ≡ service.judge) (sym is) (judged_for service found)

-- the lines are those of a core that fits the trace
abbrev IsWaiting : List ℕ → List Event → Type 0
IsWaiting waiting past = (goal : Goal) × (core : CoreState) × FitsWithLastStatuses core goal past
    × (waiting ≡ waiting_text core)

-- the notes of a trace, with the verdict of its judge
noted_of_trace : (wanted : Option (List ℕ)) (notes : Notes) (waiting : List ℕ) (judgement : Option Judgement)
    (past : List Event) → notes.wanted ≡ wanted
    → AreNotesOf notes past → IsWaiting waiting past → IfSome judgement (λ found. IsJudgementOf found past)
    → AreNotesOfRun wanted (noted_of notes waiting judgement) past
noted_of_trace wanted notes waiting judgement past same of waits finds = record {
  last = λ id is. of.last id (ap (is_wanted id) same ∙ is);
  running = going notes.complete refl;
  waiting = waits;
  judgement = finds;
}
  where
    going : (complete : Bool) → notes.complete ≡ complete
        → IfSome (if complete then Some notes.running else None) (λ running. IsRunning running past)
    going true all = of.running all
    going false none = tt

-- ending the log does not change the number of turns
pub served_still : (P : ℕ → Bool → Type 0) (served ended : Served) (logged : Bool)
    → ended ≡ record served { logged = logged } → P served.turns served.drained → P ended.turns ended.drained
served_still P served ended logged is so = subst (λ (s : Served). P s.turns s.drained) (sym is) so

pub is_served : (service : RunArguments) (served ended : Served) (logged : Bool)
    → ended ≡ record served { logged = logged } → IsServed service served → IsServed service ended
is_served service served ended logged is limits = subst (IsServed service) (sym is) limits

-- how a log has ended that took the part of the trace that it did not miss
module _ (has_ended : Bool → List Event → Type 0) (whole : Bool) (past missed took : List Event)
    (parts : past ≡ missed ++ took) (ends : has_ended whole (reverse took)) where
  log_ends : (logged : Bool) → (logged ≡ true → missed ≡ []) → LogEnds has_ended (logged && whole) (reverse past)
  log_ends logged all = by logged whole refl all
    where
      front : reverse took ++ reverse missed ≡ reverse past
      front = sym (reverse-append missed took) ∙ ap reverse (sym parts)

      by : (logged kept : Bool) → kept ≡ whole → (logged ≡ true → missed ≡ [])
          → LogEnds has_ended (logged && kept) (reverse past)
      by true true is none = subst (λ b. has_ended b (reverse past)) (sym is)
          (subst (λ trace. has_ended whole (reverse trace)) (sym (parts ∙ ap (λ m. m ++ took) (none refl))) ends)
      by true false is none = (reverse took, reverse missed, front, whole, ends)
      by false kept is none = (reverse took, reverse missed, front, whole, ends)

-- the calls led from the opening on, with a log that had taken nothing before
abbrev pub LedFrom : Option Level → List Entry → CoreState → LogState → LogState → List HostCall → Type 0
LedFrom level table core old new =
    IfPossibleFrom (IsOpening level table) (Went (λ p. []) (HoldsAfterTurns core) old new)

-- init's core after the calls fits their trace
pub led_fits : (level : Option Level) (table : List Entry) (core : CoreState) (old new : LogState)
    (calls : List HostCall) → is_distinct table ≡ true → LedFrom level table core old new calls
    → TurnsFrom level table calls (FitsWithLastStatuses core (opening_goal level table))
led_fits level table core old new calls distinct leads allowed carried =
    (from_opening level table
    (Went (λ p. []) (HoldsAfterTurns core) old new) calls distinct leads allowed carried).fits.0.fits

-- turns over a log that had taken nothing before, and was ended after them
pub noted_over : (has_ended : Bool → List Event → Type 0) (notes : Notes) (found : Judgement) (whole : Bool)
    (core : CoreState) (old now : LogState)
    (service : RunArguments) (level : Option Level) (table : List Entry) (served ended : Served)
    (judgement : Option Judgement) (calls : List HostCall)
    → ended ≡ record served { logged = served.logged && whole } → judgement ≡ judgement_for service found
    → old.taken [] → old.noted ≡ service.result → notes.wanted ≡ now.noted → served.logged ≡ not now.failed
    → ((trace : List Event) → now.taken trace
    → AreNotesOf notes (reverse trace) × IsJudgementOf found (reverse trace) × has_ended whole trace)
    → is_distinct table ≡ true → LedFrom level table core old now calls
    → TurnsFrom level table calls (λ past. (ended.logged ≡ true → AreNotesOfRun service.result
    (noted_of notes (waiting_text core) judgement) past) × LogEnds has_ended ended.logged (reverse past))
noted_over has_ended notes found whole core old now service level table served ended judgement calls goes asked none
    result wanted logged tells distinct leads = λ allowed carried.
    let went =
    from_opening level table (Went (λ p. []) (HoldsAfterTurns core) old now) calls distinct leads allowed carried in
    let past = (point_after calls (start_point table)).past in
    let took = went.log (opening_short level table) in
    let takes : Takes old now [] took.came [] = took.log [] none in
    let parts : past ≡ takes.missed ++ takes.took = took.grown ∙ append-nil took.came ∙ takes.parts in
    let all : served.logged ≡ true → takes.missed ≡ [] = λ h. takes.whole (not-true now.failed (sym logged ∙ h)) in
    let so : ended.logged ≡ (served.logged && whole) = ap (λ s. s.logged) goes in
    let (of, finds, ends) = tells (reverse takes.took) takes.told in (
      (λ h.
          let every : takes.took ≡ past =
          sym (parts ∙ ap (λ m. m ++ takes.took) (all (and_parts served.logged whole (sym so ∙ h)).0)) in
          let same : reverse (reverse takes.took) ≡ past = reverse-reverse takes.took ∙ every in
          noted_of_trace service.result notes (waiting_text core) judgement past (wanted ∙ took.same ∙ result)
          (subst (AreNotesOf notes) same of)
          (opening_goal level table, core, went.fits.0.fits, refl)
          (subst (λ j. IfSome j (λ given. IsJudgementOf given past)) (sym asked)
          (found_for service found past (subst (IsJudgementOf found) same finds)))),
      subst (λ b. LogEnds has_ended b (reverse past)) (sym so)
          (log_ends has_ended whole past takes.missed takes.took parts ends served.logged all),
    )
