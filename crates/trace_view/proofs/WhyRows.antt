-- Worked examples: entries in sound pasts, and why each is not started next, checked by computation (`refl`).
use Rattle.trace_view.proofs.Words.{◌≡◌, refl, ℕ, true, List, [], ◌∷◌, ◌++◌, codes, Some, Entry, Act, Start, Look, Term}
use Rattle.trace_view.proofs.Words.{Goal, Event, RanBefore, StageOver, OtherStage, ChildKept, NotCalled, WasStarted}
use Rattle.trace_view.proofs.Words.{line_at_fault, following_line, why}
use Rattle.init_words.specs.declared.actions.Act.TheVariants as act
use Rattle.init_words.specs.declared.children.Status.TheVariants.{Exit}
use Rattle.init_words.specs.declared.levels.Level.{Level}
use Rattle.init_words.specs.declared.levels.Level.TheVariants as level
use Rattle.init_words.specs.declared.levels.Mark.{Mark}
use Rattle.init_words.specs.declared.levels.Mark.TheVariants.{At}
use Rattle.init_words.specs.declared.orders.PowerKind.TheVariants.{Fail}
use Rattle.init_words.specs.declared.stages.Stage.TheVariants.{Sysinit, Boot, Run}
use Rattle.initctl_frame.specs.declared.requests.HeardRequest.TheVariants as got
use Rattle.trace_events.specs.declared.happenings.Happening.TheVariants.{NewTable, Enter, Power, Asked, Birth, Death}
use Rattle.trace_events.specs.declared.happenings.Happening.TheVariants.{Reaped, Hit, Told, Nudge, Got}
use Rattle.trace_events.specs.Sound.{is_sound}

abbrev entry : List ℕ → List Mark → Act → Entry
entry id levels action =
    record { id = id; levels = record { items = levels }; act = action; process = record { items = codes "x" } }

abbrev opening : Level → Goal
opening l = record { level = l; grace = 5 }

-- an order, its act, and its `told`
abbrev started : List ℕ → ℕ → List Event
started id n = Told id ∷ Birth id n ∷ Asked id Start ∷ []

abbrev ended : List ℕ → ℕ → List Event
ended id n = Told id ∷ Reaped id n (Exit 0) ∷ Death n ∷ Asked id Look ∷ Nudge ∷ []

-- a power entry in level 3: a power event calls it, and its child ends
abbrev powered : List Event
powered = Enter (Run level.L3) 5 ∷ Enter Boot 5 ∷ Enter Sysinit 5
    ∷ NewTable (entry (codes "p") (At level.L3 ∷ []) act.Powerfail ∷ []) ∷ []

abbrev called : List Event
called = ended (codes "p") 2 ++ started (codes "p") 2 ++ Power Fail ∷ Got (got.Power Fail) ∷ powered

called-sound : is_sound (opening level.L3) called ≡ true
called-sound = refl

powered-not_called : why (codes "p") powered ≡ NotCalled
powered-not_called = refl

called-was_started : why (codes "p") called ≡ WasStarted
called-was_started = refl

-- after a table was read again, nothing has called it
read_again-not_called : why (codes "p")
    (NewTable (entry (codes "p") (At level.L3 ∷ []) act.Powerfail ∷ []) ∷ Got got.Reload ∷ called) ≡ NotCalled
read_again-not_called = refl

-- a boot entry in level S, on the way to which Boot is skipped; then after a request for level 3, which goes through
-- Boot
abbrev booting : List Entry
booting = entry (codes "b") [] act.Boot ∷ []

abbrev single : List Event
single = Enter (Run level.S) 5 ∷ Enter Sysinit 5 ∷ NewTable booting ∷ []

abbrev booted : List Event
booted = started (codes "b") 1 ++ Enter Boot 5 ∷ NewTable booting ∷ Got (got.Level level.L3 5) ∷ single

single-to_come : why (codes "b") single ≡ OtherStage
single-to_come = refl

booted-sound : is_sound (opening level.S) (Enter (Run level.L3) 5 ∷ booted) ≡ true
booted-sound = refl

-- its child lives on in the level; after the child has ended, the entry ran before
booted-lives : why (codes "b") (Enter (Run level.L3) 5 ∷ booted) ≡ ChildKept 1
booted-lives = refl

booted-ran : why (codes "b") (ended (codes "b") 1 ++ Enter (Run level.L3) 5 ∷ booted) ≡ RanBefore
booted-ran = refl

-- its line was given the action boot in the level, where it ran with another action: with boot it never ran
abbrev respawned : List Event
respawned = Told (codes "x") ∷ Hit (codes "x") ∷ Asked (codes "x") Term ∷ NewTable (entry (codes "x") [] act.Boot ∷ [])
    ∷ Got got.Reload ∷ started (codes "x") 1 ++ Enter (Run level.L3) 5 ∷ Enter Boot 5 ∷ Enter Sysinit 5
    ∷ NewTable (entry (codes "x") (At level.L3 ∷ []) act.Respawn ∷ []) ∷ []

respawned-sound : is_sound (opening level.L3) (ended (codes "x") 1 ++ respawned) ≡ true
respawned-sound = refl

respawned-over : why (codes "x") respawned ≡ StageOver
respawned-over = refl

ended-over : why (codes "x") (ended (codes "x") 1 ++ respawned) ≡ StageOver
ended-over = refl

-- if it had the action boot before that, it ran then, and the line is that of its birth then
abbrev twice : List Event
twice = NewTable booting ∷ Got got.Reload ∷ ended (codes "b") 2 ++ started (codes "b") 2 ++ NewTable (entry (codes "b")
    (At level.L3 ∷ []) act.Respawn ∷ []) ∷ Got got.Reload ∷ ended (codes "b") 1 ++ Enter (Run level.L3) 5 ∷ booted

twice-sound : is_sound (opening level.S) twice ≡ true
twice-sound = refl

twice-ran : why (codes "b") twice ≡ RanBefore
twice-ran = refl

twice-line : line_at_fault (codes "b") RanBefore twice ≡ Some
    (following_line (Asked (codes "b") Start ∷ Enter Boot 5 ∷ NewTable booting ∷ Got (got.Level level.L3 5) ∷ single))
twice-line = refl
