-- A worked example: a trace as `initd run` writes it, orderly and undisturbed, up to the announcement. The system acts
-- while steps are still due, so it is not a run of `initd simulate`.
use Rattle.trace_laws.proofs.Words.{◌≡◌, refl, ℕ, true, false, List, [], ◌∷◌, codes, Entry, Act, Mark, At, Start, Look}
use Rattle.trace_laws.proofs.Words.{NewTable, Asked, Birth, Death, Reaped, Told, Clock, Nudge, Goal, Event}
use Rattle.trace_laws.proofs.Words.{is_announced, is_sound, is_run, is_orderly, is_undisturbed}
use Rattle.init_words.specs.declared.actions.Act.TheVariants as act
use Rattle.init_words.specs.declared.levels.Level.TheVariants as level
use Rattle.init_words.specs.declared.stages.Stage.TheVariants as stage
use Rattle.init_words.specs.declared.children.Status.TheVariants.{Exit}
use Rattle.trace_events.specs.declared.happenings.Happening.TheVariants.{Enter, Settle}

abbrev entry : List ℕ → List Mark → Act → Entry
entry id levels action =
    record { id = id; levels = record { items = levels }; act = action; process = record { items = codes "x" } }

abbrev goal : Goal
goal = record { level = level.L3; grace = 5 }

abbrev begun : List Event
begun = Clock 1 ∷ NewTable (entry (codes "s") [] act.Sysinit ∷ entry (codes "a") (At level.L3 ∷ []) act.Once
    ∷ entry (codes "b") (At level.L3 ∷ []) act.Once ∷ []) ∷ []

abbrev booted : List Event
booted = Told (codes "s") ∷ Reaped (codes "s") 10 (Exit 0) ∷ Death 10 ∷ Asked (codes "s") Look ∷ Nudge ∷ Clock 1
    ∷ Told (codes "s") ∷ Birth (codes "s") 10 ∷ Asked (codes "s") Start ∷ Enter stage.Sysinit 5 ∷ Nudge ∷ begun

abbrev run : List Event
run = Settle level.L3 ∷ Told (codes "b") ∷ Birth (codes "b") 12 ∷ Asked (codes "b") Start ∷ Told (codes "a")
    ∷ Birth (codes "a") 11 ∷ Asked (codes "a") Start ∷ Enter (stage.Run level.L3) 5 ∷ Enter stage.Boot 5 ∷ booted

pub sound : is_sound goal run ≡ true
sound = refl

pub simulated : is_run goal run ≡ false
simulated = refl

pub orderly : is_orderly goal run ≡ true
orderly = refl

pub mild : is_undisturbed run ≡ true
mild = refl

pub announced : is_announced run ≡ true
announced = refl
