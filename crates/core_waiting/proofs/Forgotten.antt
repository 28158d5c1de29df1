-- A list of due steps that omits one of its ten ranks would break the law. For each rank there is a sound trace that
-- takes no step of that rank, at whose end nothing of the other nine is due and no order is open, and for which a
-- clause is wrong. And for each reason there is a rest at which `rest` would be wrong without it.
use Rattle.core_waiting.proofs.Words.{◌≡◌, refl, ℕ, Bool, zero, suc, true, false, not, ◌||◌, List, [], ◌∷◌, ◌++◌}
use Rattle.core_waiting.proofs.Words.{filter, codes, Option, Some, list_all, Entry, At, NewTable, NotRead, Enter, Nudge}
use Rattle.core_waiting.proofs.Words.{Got, Goal, Step, Event, stage_of, Child, is_idle, kept_children, known_children}
use Rattle.core_waiting.proofs.Words.{is_request_pending, due_first, due_reexec, due_reread, due_level, due_news}
use Rattle.core_waiting.proofs.Words.{due_stops}
use Rattle.core_waiting.proofs.Words.{due_starts, due_stage, due_settle, due_looks, due, is_sound, WhyAwaited, Excluded}
use Rattle.core_waiting.proofs.Words.{WaitedFor, InTheWay, why_awaited, awaited_children, is_level_announced, is_empty}
use Rattle.core_waiting.proofs.Words.{is_stopping, is_looked_at}
use Rattle.init_words.specs.declared.actions.Act.TheVariants as act
use Rattle.init_words.specs.declared.levels.Level.TheVariants as level
use Rattle.init_words.specs.declared.stages.Stage.TheVariants as stage
use Rattle.init_words.specs.declared.orders.PowerKind.TheVariants as power
use Rattle.initctl_frame.specs.declared.requests.HeardRequest.TheVariants as got
use Rattle.trace_events.specs.declared.happenings.Happening.TheVariants.{Settle}
use Rattle.core_waiting.proofs.Rows.{entry, opening, started, goes_to, entered, stopped, waited_for}

-- the ten ranks, and the due steps of all of them except the one with this number
abbrev ranks : Goal → List Event → List (List Step)
ranks goal past =
    due_first goal (stage_of past) past ∷ due_reexec past ∷ due_reread past ∷ due_level past ∷ due_news past
    ∷ due_stops past ∷ due_starts past ∷ due_stage goal past ∷ due_settle past ∷ due_looks past ∷ []

abbrev joined : List Step → List (List Step) → List Step
joined steps [] = steps
joined steps (more ∷ rest) = joined (steps ++ more) rest

abbrev all_of : List (List Step) → List Step
all_of [] = []
all_of (steps ∷ more) = joined steps more

abbrev without : ℕ → List (List Step) → List (List Step)
without n [] = []
without zero (steps ∷ more) = steps ∷ more
without (suc zero) (steps ∷ more) = more
without (suc n) (steps ∷ more) = steps ∷ without n more

abbrev due_without : ℕ → Goal → List Event → List Step
due_without rank goal past = all_of (without rank (ranks goal past))

-- what the clauses require of a trace at whose end no step is due and no order is open
abbrev is_accounted_for : List Event → Bool
is_accounted_for past = not (is_idle past) || is_level_announced past || not (is_empty (awaited_children past))

record Breaks (rank : ℕ) (goal : Goal) (past : List Event) (asked : Bool) : Type 0 where
  sound : is_sound goal past ≡ true
  rests : due_without rank goal past ≡ []
  idle : is_idle past ≡ true
  broken : asked ≡ false

abbrev respawns : List Entry
respawns = (entry (codes "r") (At level.L3 ∷ []) act.Respawn) ∷ []

abbrev settled : List Event
settled = Settle level.L3 ∷ started (codes "r") 7 ++ entered level.L3 respawns

reexec : Breaks 2 (opening level.L3) (Got got.Reexec ∷ settled) (not (is_request_pending (Got got.Reexec ∷ settled)))
reexec = record { sound = refl; rests = refl; idle = refl; broken = refl }

reread : Breaks 3 (opening level.L3) (Got got.Reload ∷ settled) (not (is_request_pending (Got got.Reload ∷ settled)))
reread = record { sound = refl; rests = refl; idle = refl; broken = refl }

abbrev wished : List Event
wished = NotRead ∷ Got (got.Level level.L2 5) ∷ settled

level_wish : Breaks 4 (opening level.L3) wished (not (is_request_pending wished))
level_wish = record { sound = refl; rests = refl; idle = refl; broken = refl }

abbrev failed : List Event
failed = Got (got.Power power.Fail) ∷ settled

news : Breaks 5 (opening level.L3) failed (not (is_request_pending failed))
news = record { sound = refl; rests = refl; idle = refl; broken = refl }

abbrev unsignalled : List Event
unsignalled = goes_to level.L2 ++ settled

stops : Breaks 6 (opening level.L3) unsignalled (list_all (is_stopping unsignalled) (kept_children unsignalled))
stops = record { sound = refl; rests = refl; idle = refl; broken = refl }

starts : Breaks 7 (opening level.L3) (entered level.L3 respawns) (is_accounted_for (entered level.L3 respawns))
starts = record { sound = refl; rests = refl; idle = refl; broken = refl }

abbrev still_sysinit : List Event
still_sysinit = Enter stage.Sysinit 5 ∷ NewTable [] ∷ []

next_stage : Breaks 8 (opening level.L3) still_sysinit (is_accounted_for still_sysinit)
next_stage = record { sound = refl; rests = refl; idle = refl; broken = refl }

settles : Breaks 9 (opening level.L3) (entered level.L3 []) (is_accounted_for (entered level.L3 []))
settles = record { sound = refl; rests = refl; idle = refl; broken = refl }

looks : Breaks 10 (opening level.L3) (Nudge ∷ settled)
    (list_all (is_looked_at (Nudge ∷ settled)) (known_children (Nudge ∷ settled)))
looks = record { sound = refl; rests = refl; idle = refl; broken = refl }

-- the children that init waits for, except those for this reason, and a rest at which there are none of them
abbrev is_for : WhyAwaited → Option WhyAwaited → Bool
is_for Excluded (Some Excluded) = true
is_for WaitedFor (Some WaitedFor) = true
is_for InTheWay (Some InTheWay) = true
is_for _ _ = false

abbrev awaited_but : WhyAwaited → List Event → List Child
awaited_but why past = filter (λ child. not (is_for why (why_awaited past child))) (awaited_children past)

record Needs (why : WhyAwaited) (goal : Goal) (past : List Event) : Type 0 where
  sound : is_sound goal past ≡ true
  rests : due goal past ≡ []
  broken : (not (is_idle past) || is_level_announced past || not (is_empty (awaited_but why past))) ≡ false

excluded : Needs Excluded (opening level.L3) stopped
excluded = record { sound = refl; rests = refl; broken = refl }

waited : Needs WaitedFor (opening level.L3) waited_for
waited = record { sound = refl; rests = refl; broken = refl }
