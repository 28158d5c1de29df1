-- Worked traces, each with the values that the definitions give for it, which `refl` computes.
use Rattle.std.proofs.Common.{◌≡◌, refl, ℕ, true, false, List, [], ◌∷◌, ◌++◌, codes, Some}
use Rattle.init_words.specs.declared.entries.Entry.{Entry}
use Rattle.init_words.specs.declared.actions.Act.{Act}
use Rattle.init_words.specs.declared.actions.Act.TheVariants as act
use Rattle.init_words.specs.declared.levels.Level.{Level}
use Rattle.init_words.specs.declared.levels.Level.TheVariants as level
use Rattle.init_words.specs.declared.levels.Letter.TheVariants as letter
use Rattle.init_words.specs.declared.levels.Mark.{Mark}
use Rattle.init_words.specs.declared.levels.Mark.TheVariants.{At, OnCall}
use Rattle.init_words.specs.declared.stages.Stage.TheVariants as stage
use Rattle.init_words.specs.declared.orders.OrderKind.TheVariants.{Start, Look, Term, Kill}
use Rattle.init_words.specs.declared.orders.PowerKind.TheVariants as power
use Rattle.init_words.specs.declared.children.Status.TheVariants.{Exit, Killed}
use Rattle.initctl_frame.specs.declared.requests.HeardRequest.TheVariants as got
use Rattle.trace_events.specs.declared.happenings.Happening.TheVariants.{NewTable, NotRead, Enter, Call, Power, Asked}
use Rattle.trace_events.specs.declared.happenings.Happening.TheVariants.{Hold, Settle, Birth, NoBirth, Death, Reaped}
use Rattle.trace_events.specs.declared.happenings.Happening.TheVariants.{Still, Hit, Told, Clock, Nudge, Got}
use Rattle.trace_events.specs.declared.steps.Goal.{Goal}
use Rattle.trace_events.specs.declared.steps.Step.TheVariants as step
use Rattle.trace_events.specs.Event.{Event}
use Rattle.trace_events.specs.Due.{due, first}
use Rattle.trace_events.specs.Sound.{is_sound}
use Rattle.trace_events.specs.Lawful.{is_lawful, first_breach}
use Rattle.trace_events.specs.Run.{is_run}

abbrev entry : List ℕ → List Mark → Act → List ℕ → Entry
entry id levels action process =
    record { id = id; levels = record { items = levels }; act = action; process = record { items = process } }

-- the initial goal with this level
abbrev opening : Level → Goal
opening l = record { level = l; grace = 5 }

-- an empty table: there is nothing to run
abbrev empty_table : List Event
empty_table = Settle level.S ∷ Enter (stage.Run level.S) 5 ∷ Enter stage.Sysinit 5 ∷ NewTable ([]) ∷ []

empty_table-is_sound : is_sound (opening level.S) empty_table ≡ true
empty_table-is_sound = refl

empty_table-is_run : is_run (opening level.S) empty_table ≡ true
empty_table-is_run = refl

empty_table-rests : first (due (opening level.S) empty_table) ≡ step.Idle
empty_table-rests = refl

empty_table-is_lawful : is_lawful empty_table ≡ true
empty_table-is_lawful = refl

-- a waited entry ends before the next one is started
abbrev waited_then_respawn : List Event
waited_then_respawn = Settle level.L3 ∷ Told (codes "r") ∷ Birth (codes "r") 11 ∷ Asked (codes "r") Start ∷ Told
    (codes "w") ∷ Reaped (codes "w") 10 (Exit 0) ∷ Death 10 ∷ Asked (codes "w") Look ∷ Nudge ∷ Told (codes "w") ∷ Birth
    (codes "w") 10 ∷ Asked (codes "w") Start ∷ Enter (stage.Run level.L3) 5 ∷ Enter stage.Boot 5 ∷ Enter stage.Sysinit 5
    ∷ NewTable ((entry (codes "id") ((At level.L3) ∷ []) act.Initdefault ([])) ∷ (entry (codes "w") ((At level.L3) ∷ [])
    act.Wait (codes "prep")) ∷ (entry (codes "r") ((At level.L3) ∷ []) act.Respawn (codes "serv")) ∷ []) ∷ []

waited_then_respawn-is_sound : is_sound (opening level.L3) waited_then_respawn ≡ true
waited_then_respawn-is_sound = refl

waited_then_respawn-is_run : is_run (opening level.L3) waited_then_respawn ≡ true
waited_then_respawn-is_run = refl

waited_then_respawn-rests : first (due (opening level.L3) waited_then_respawn) ≡ step.Idle
waited_then_respawn-rests = refl

waited_then_respawn-is_lawful : is_lawful waited_then_respawn ≡ true
waited_then_respawn-is_lawful = refl

-- a start fails: the waited entry counts as asked, and the next one is started
abbrev start_fails : List Event
start_fails = Asked (codes "r") Start ∷ Told (codes "w") ∷ NoBirth (codes "w") ∷ Asked (codes "w") Start
    ∷ Enter (stage.Run level.L3) 5 ∷ Enter stage.Boot 5 ∷ Enter stage.Sysinit 5 ∷ NewTable
    ((entry (codes "id") ((At level.L3) ∷ []) act.Initdefault ([])) ∷ (entry (codes "w") ((At level.L3) ∷ []) act.Wait
    (codes "prep")) ∷ (entry (codes "r") ((At level.L3) ∷ []) act.Respawn (codes "serv")) ∷ []) ∷ []

start_fails-is_sound : is_sound (opening level.L3) start_fails ≡ true
start_fails-is_sound = refl

start_fails-is_run : is_run (opening level.L3) start_fails ≡ true
start_fails-is_run = refl

start_fails-rests : first (due (opening level.L3) start_fails) ≡ step.Idle
start_fails-rests = refl

start_fails-is_lawful : is_lawful start_fails ≡ true
start_fails-is_lawful = refl

-- a level is entered only after the open start was answered; then the child is stopped
abbrev level_while_starting : List Event
level_while_starting = Hit (codes "r") ∷ Asked (codes "r") Term ∷ Enter (stage.Run level.L1) 5 ∷ NotRead
    ∷ Told (codes "r") ∷ Birth (codes "r") 10 ∷ Got (got.Level level.L1 5) ∷ Asked (codes "r") Start ∷ Enter
    (stage.Run level.L3) 5 ∷ Enter stage.Boot 5 ∷ Enter stage.Sysinit 5 ∷ NewTable ((entry (codes "id") ((At level.L3)
    ∷ []) act.Initdefault ([])) ∷ (entry (codes "r") ((At level.L3) ∷ []) act.Respawn (codes "serv")) ∷ []) ∷ []

level_while_starting-is_sound : is_sound (opening level.L3) level_while_starting ≡ true
level_while_starting-is_sound = refl

level_while_starting-is_run : is_run (opening level.L3) level_while_starting ≡ true
level_while_starting-is_run = refl

level_while_starting-rests : first (due (opening level.L3) level_while_starting) ≡ step.Idle
level_while_starting-rests = refl

level_while_starting-is_lawful : is_lawful level_while_starting ≡ true
level_while_starting-is_lawful = refl

-- KILL is sent when the grace period is over
abbrev kill_after_grace : List Event
kill_after_grace = Asked (codes "r") Kill ∷ Clock 105 ∷ Clock 104 ∷ Told (codes "r") ∷ Clock 100 ∷ Hit (codes "r")
    ∷ Asked (codes "r") Term ∷ Enter (stage.Run level.L1) 5 ∷ NotRead ∷ Told (codes "r") ∷ Birth (codes "r") 10
    ∷ Got (got.Level level.L1 5) ∷ Asked (codes "r") Start ∷ Enter (stage.Run level.L3) 5 ∷ Enter stage.Boot 5
    ∷ Enter stage.Sysinit 5 ∷ NewTable ((entry (codes "id") ((At level.L3) ∷ []) act.Initdefault ([]))
    ∷ (entry (codes "r") ((At level.L3) ∷ []) act.Respawn (codes "serv")) ∷ []) ∷ []

kill_after_grace-is_sound : is_sound (opening level.L3) kill_after_grace ≡ true
kill_after_grace-is_sound = refl

kill_after_grace-is_run : is_run (opening level.L3) kill_after_grace ≡ true
kill_after_grace-is_run = refl

kill_after_grace-rests : first (due (opening level.L3) kill_after_grace) ≡ step.Idle
kill_after_grace-rests = refl

kill_after_grace-is_lawful : is_lawful kill_after_grace ≡ true
kill_after_grace-is_lawful = refl

-- setting the clock back does not shorten the grace period
abbrev clock_set_back : List Event
clock_set_back = Asked (codes "r") Kill ∷ Clock 105 ∷ Clock 104 ∷ Told (codes "r") ∷ Clock 40 ∷ Clock 100
    ∷ Hit (codes "r") ∷ Asked (codes "r") Term ∷ Enter (stage.Run level.L1) 5 ∷ NotRead ∷ Told (codes "r")
    ∷ Birth (codes "r") 10 ∷ Got (got.Level level.L1 5) ∷ Asked (codes "r") Start ∷ Enter (stage.Run level.L3) 5 ∷ Enter
    stage.Boot 5 ∷ Enter stage.Sysinit 5 ∷ NewTable ((entry (codes "id") ((At level.L3) ∷ []) act.Initdefault ([]))
    ∷ (entry (codes "r") ((At level.L3) ∷ []) act.Respawn (codes "serv")) ∷ []) ∷ []

clock_set_back-is_sound : is_sound (opening level.L3) clock_set_back ≡ true
clock_set_back-is_sound = refl

clock_set_back-is_run : is_run (opening level.L3) clock_set_back ≡ true
clock_set_back-is_run = refl

clock_set_back-rests : first (due (opening level.L3) clock_set_back) ≡ step.Idle
clock_set_back-rests = refl

clock_set_back-is_lawful : is_lawful clock_set_back ≡ true
clock_set_back-is_lawful = refl

-- the eleventh start in two minutes is held for five minutes
abbrev hold_and_release : List Event
hold_and_release = Asked (codes "r") Start ∷ Clock 419 ∷ Clock 418 ∷ Hold (codes "r") ∷ Told (codes "r") ∷ Reaped
    (codes "r") 7 (Exit 1) ∷ Death 7 ∷ Asked (codes "r") Look ∷ Nudge ∷ Clock 119 ∷ Settle level.S ∷ Told (codes "r")
    ∷ Birth (codes "r") 7 ∷ Asked (codes "r") Start ∷ Told (codes "r") ∷ NoBirth (codes "r") ∷ Asked (codes "r") Start
    ∷ Told (codes "r") ∷ NoBirth (codes "r") ∷ Asked (codes "r") Start ∷ Told (codes "r") ∷ NoBirth (codes "r")
    ∷ Asked (codes "r") Start ∷ Told (codes "r") ∷ NoBirth (codes "r") ∷ Asked (codes "r") Start ∷ Told (codes "r")
    ∷ NoBirth (codes "r") ∷ Asked (codes "r") Start ∷ Told (codes "r") ∷ NoBirth (codes "r") ∷ Asked (codes "r") Start
    ∷ Told (codes "r") ∷ NoBirth (codes "r") ∷ Asked (codes "r") Start ∷ Told (codes "r") ∷ NoBirth (codes "r") ∷ Asked
    (codes "r") Start ∷ Told (codes "r") ∷ NoBirth (codes "r") ∷ Asked (codes "r") Start ∷ Enter (stage.Run level.S) 5
    ∷ Enter stage.Sysinit 5 ∷ NewTable ((entry (codes "r") ((At level.S) ∷ []) act.Respawn (codes "x")) ∷ []) ∷ []

hold_and_release-is_sound : is_sound (opening level.S) hold_and_release ≡ true
hold_and_release-is_sound = refl

hold_and_release-is_run : is_run (opening level.S) hold_and_release ≡ true
hold_and_release-is_run = refl

hold_and_release-rests : first (due (opening level.S) hold_and_release) ≡ step.Idle
hold_and_release-rests = refl

hold_and_release-is_lawful : is_lawful hold_and_release ≡ true
hold_and_release-is_lawful = refl

-- the window slides: a start is allowed again when the oldest is two minutes old
abbrev window_slides : List Event
window_slides = Hold (codes "r") ∷ Told (codes "r") ∷ NoBirth (codes "r") ∷ Asked (codes "r") Start ∷ Told (codes "r")
    ∷ Reaped (codes "r") 7 (Exit 1) ∷ Death 7 ∷ Asked (codes "r") Look ∷ Nudge ∷ Clock 120 ∷ Settle level.S
    ∷ Told (codes "r") ∷ Birth (codes "r") 7 ∷ Asked (codes "r") Start ∷ Told (codes "r") ∷ NoBirth (codes "r")
    ∷ Asked (codes "r") Start ∷ Told (codes "r") ∷ NoBirth (codes "r") ∷ Asked (codes "r") Start ∷ Told (codes "r")
    ∷ NoBirth (codes "r") ∷ Asked (codes "r") Start ∷ Told (codes "r") ∷ NoBirth (codes "r") ∷ Asked (codes "r") Start
    ∷ Told (codes "r") ∷ NoBirth (codes "r") ∷ Asked (codes "r") Start ∷ Told (codes "r") ∷ NoBirth (codes "r")
    ∷ Asked (codes "r") Start ∷ Told (codes "r") ∷ NoBirth (codes "r") ∷ Asked (codes "r") Start ∷ Told (codes "r")
    ∷ NoBirth (codes "r") ∷ Asked (codes "r") Start ∷ Told (codes "r") ∷ NoBirth (codes "r") ∷ Clock 60
    ∷ Asked (codes "r") Start ∷ Enter (stage.Run level.S) 5 ∷ Enter stage.Sysinit 5
    ∷ NewTable ((entry (codes "r") ((At level.S) ∷ []) act.Respawn (codes "x")) ∷ []) ∷ []

window_slides-is_sound : is_sound (opening level.S) window_slides ≡ true
window_slides-is_sound = refl

window_slides-is_run : is_run (opening level.S) window_slides ≡ true
window_slides-is_run = refl

window_slides-rests : first (due (opening level.S) window_slides) ≡ step.Idle
window_slides-rests = refl

window_slides-is_lawful : is_lawful window_slides ≡ true
window_slides-is_lawful = refl

-- a child number is used again after its child was reaped
abbrev number_given_again : List Event
number_given_again = Asked (codes "a") Start ∷ Told (codes "a") ∷ Told (codes "b") ∷ Birth (codes "b") 700 ∷ Reaped
    (codes "a") 700 (Exit 0) ∷ Death 700 ∷ Asked (codes "a") Look ∷ Nudge ∷ Told (codes "a") ∷ Birth (codes "a") 700
    ∷ Asked (codes "b") Start ∷ Asked (codes "a") Start ∷ Enter (stage.Run level.L3) 5 ∷ Enter stage.Boot 5 ∷ Enter
    stage.Sysinit 5 ∷ NewTable ((entry (codes "id") ((At level.L3) ∷ []) act.Initdefault ([])) ∷ (entry (codes "a") ((At
    level.L3) ∷ []) act.Respawn (codes "x")) ∷ (entry (codes "b") ((At level.L3) ∷ []) act.Once (codes "y")) ∷ []) ∷ []

number_given_again-is_sound : is_sound (opening level.L3) number_given_again ≡ true
number_given_again-is_sound = refl

number_given_again-is_run : is_run (opening level.L3) number_given_again ≡ true
number_given_again-is_run = refl

number_given_again-rests : first (due (opening level.L3) number_given_again) ≡ step.Idle
number_given_again-rests = refl

number_given_again-is_lawful : is_lawful number_given_again ≡ true
number_given_again-is_lawful = refl

-- an entry is removed from the table: its child is stopped
abbrev entry_removed : List Event
entry_removed = Settle level.S ∷ Told (codes "r") ∷ Reaped (codes "r") 7 Killed ∷ Death 7 ∷ Asked (codes "r") Look
    ∷ Nudge ∷ Told (codes "r") ∷ Hit (codes "r") ∷ Asked (codes "r") Term ∷ NewTable ([]) ∷ Got got.Reload
    ∷ Settle level.S ∷ Told (codes "r") ∷ Birth (codes "r") 7 ∷ Asked (codes "r") Start ∷ Enter (stage.Run level.S) 5
    ∷ Enter stage.Sysinit 5 ∷ NewTable ((entry (codes "r") ((At level.S) ∷ []) act.Respawn (codes "x")) ∷ []) ∷ []

entry_removed-is_sound : is_sound (opening level.S) entry_removed ≡ true
entry_removed-is_sound = refl

entry_removed-is_run : is_run (opening level.S) entry_removed ≡ true
entry_removed-is_run = refl

entry_removed-rests : first (due (opening level.S) entry_removed) ≡ step.Idle
entry_removed-rests = refl

entry_removed-is_lawful : is_lawful entry_removed ≡ true
entry_removed-is_lawful = refl

-- the same table is read again: nothing is stopped
abbrev same_table_read : List Event
same_table_read =
    Settle level.S ∷ NewTable ((entry (codes "r") ((At level.S) ∷ []) act.Respawn (codes "x")) ∷ []) ∷ Got got.Reload
    ∷ Settle level.S ∷ Told (codes "r") ∷ Birth (codes "r") 7 ∷ Asked (codes "r") Start ∷ Enter (stage.Run level.S) 5
    ∷ Enter stage.Sysinit 5 ∷ NewTable ((entry (codes "r") ((At level.S) ∷ []) act.Respawn (codes "x")) ∷ []) ∷ []

same_table_read-is_sound : is_sound (opening level.S) same_table_read ≡ true
same_table_read-is_sound = refl

same_table_read-is_run : is_run (opening level.S) same_table_read ≡ true
same_table_read-is_run = refl

same_table_read-rests : first (due (opening level.S) same_table_read) ≡ step.Idle
same_table_read-rests = refl

same_table_read-is_lawful : is_lawful same_table_read ≡ true
same_table_read-is_lawful = refl

-- a changed command takes effect at the next start
abbrev command_changed : List Event
command_changed =
    Settle level.S ∷ NewTable ((entry (codes "r") ((At level.S) ∷ []) act.Respawn (codes "y")) ∷ []) ∷ Got got.Reload
    ∷ Settle level.S ∷ Told (codes "r") ∷ Birth (codes "r") 7 ∷ Asked (codes "r") Start ∷ Enter (stage.Run level.S) 5
    ∷ Enter stage.Sysinit 5 ∷ NewTable ((entry (codes "r") ((At level.S) ∷ []) act.Respawn (codes "x")) ∷ []) ∷ []

command_changed-is_sound : is_sound (opening level.S) command_changed ≡ true
command_changed-is_sound = refl

command_changed-is_run : is_run (opening level.S) command_changed ≡ true
command_changed-is_run = refl

command_changed-rests : first (due (opening level.S) command_changed) ≡ step.Idle
command_changed-rests = refl

command_changed-is_lawful : is_lawful command_changed ≡ true
command_changed-is_lawful = refl

-- a changed action stops the child
abbrev action_changed : List Event
action_changed = Asked (codes "r") Term ∷ NewTable ((entry (codes "r") ((At level.S) ∷ []) act.Once (codes "x")) ∷ [])
    ∷ Got got.Reload ∷ Settle level.S ∷ Told (codes "r") ∷ Birth (codes "r") 7 ∷ Asked (codes "r") Start
    ∷ Enter (stage.Run level.S) 5 ∷ Enter stage.Sysinit 5
    ∷ NewTable ((entry (codes "r") ((At level.S) ∷ []) act.Respawn (codes "x")) ∷ []) ∷ []

action_changed-is_sound : is_sound (opening level.S) action_changed ≡ true
action_changed-is_sound = refl

action_changed-is_run : is_run (opening level.S) action_changed ≡ true
action_changed-is_run = refl

action_changed-rests : first (due (opening level.S) action_changed) ≡ step.Idle
action_changed-rests = refl

action_changed-is_lawful : is_lawful action_changed ≡ true
action_changed-is_lawful = refl

-- Boot is entered on the first way from S to another level
abbrev boot_on_the_way_up : List Event
boot_on_the_way_up = Got (got.Level level.L2 5) ∷ Settle level.L2 ∷ Told (codes "r") ∷ Birth (codes "r") 6
    ∷ Asked (codes "r") Start ∷ Enter (stage.Run level.L2) 5 ∷ Told (codes "b") ∷ Reaped (codes "b") 5 (Exit 0)
    ∷ Death 5 ∷ Asked (codes "b") Look ∷ Nudge ∷ Told (codes "b") ∷ Birth (codes "b") 5 ∷ Asked (codes "b") Start
    ∷ Enter stage.Boot 5 ∷ NotRead ∷ Got (got.Level level.L2 5) ∷ Settle level.S ∷ Enter (stage.Run level.S) 5 ∷ Enter
    stage.Sysinit 5 ∷ NewTable ((entry (codes "id") ((At level.S) ∷ []) act.Initdefault ([])) ∷ (entry (codes "b")
    ([]) act.Bootwait (codes "prep")) ∷ (entry (codes "r") ((At level.L2) ∷ []) act.Respawn (codes "serv")) ∷ []) ∷ []

boot_on_the_way_up-is_sound : is_sound (opening level.S) boot_on_the_way_up ≡ true
boot_on_the_way_up-is_sound = refl

boot_on_the_way_up-is_run : is_run (opening level.S) boot_on_the_way_up ≡ true
boot_on_the_way_up-is_run = refl

boot_on_the_way_up-rests : first (due (opening level.S) boot_on_the_way_up) ≡ step.Idle
boot_on_the_way_up-rests = refl

boot_on_the_way_up-is_lawful : is_lawful boot_on_the_way_up ≡ true
boot_on_the_way_up-is_lawful = refl

-- a power event calls its waited entry
abbrev power_fails : List Event
power_fails = Asked (codes "r") Look ∷ Asked (codes "pw") Look ∷ Nudge ∷ Told (codes "pw") ∷ Birth (codes "pw") 5
    ∷ Asked (codes "pw") Start ∷ Power power.Fail ∷ Got (got.Power power.Fail) ∷ Settle level.L3 ∷ Told (codes "r")
    ∷ Birth (codes "r") 4 ∷ Asked (codes "r") Start ∷ Enter (stage.Run level.L3) 5 ∷ Enter stage.Boot 5
    ∷ Enter stage.Sysinit 5 ∷ NewTable ((entry (codes "id") ((At level.L3) ∷ []) act.Initdefault ([]))
    ∷ (entry (codes "pw") ((At level.L3) ∷ []) act.Powerwait (codes "p"))
    ∷ (entry (codes "r") ((At level.L3) ∷ []) act.Respawn (codes "s")) ∷ []) ∷ []

power_fails-is_sound : is_sound (opening level.L3) power_fails ≡ true
power_fails-is_sound = refl

power_fails-is_run : is_run (opening level.L3) power_fails ≡ true
power_fails-is_run = refl

power_fails-rests : first (due (opening level.L3) power_fails) ≡ step.Idle
power_fails-rests = refl

power_fails-is_lawful : is_lawful power_fails ≡ true
power_fails-is_lawful = refl

-- sysinit, boot and the level, one after the other
abbrev all_stages : List Event
all_stages = Settle level.L3 ∷ Told (codes "o") ∷ NoBirth (codes "o") ∷ Asked (codes "o") Start
    ∷ Enter (stage.Run level.L3) 5 ∷ Told (codes "b") ∷ Birth (codes "b") 2 ∷ Asked (codes "b") Start
    ∷ Enter stage.Boot 5 ∷ Told (codes "s") ∷ Reaped (codes "s") 1 (Exit 0) ∷ Death 1 ∷ Asked (codes "s") Look ∷ Nudge
    ∷ Told (codes "s") ∷ Birth (codes "s") 1 ∷ Asked (codes "s") Start ∷ Enter stage.Sysinit 5 ∷ NewTable ((entry
    (codes "id") ((At level.L3) ∷ []) act.Initdefault ([])) ∷ (entry (codes "s") ([]) act.Sysinit (codes "a")) ∷ (entry
    (codes "b") ([]) act.Boot (codes "b")) ∷ (entry (codes "o") ((At level.L3) ∷ []) act.Once (codes "c")) ∷ []) ∷ []

all_stages-is_sound : is_sound (opening level.L3) all_stages ≡ true
all_stages-is_sound = refl

all_stages-is_run : is_run (opening level.L3) all_stages ≡ true
all_stages-is_run = refl

all_stages-rests : first (due (opening level.L3) all_stages) ≡ step.Idle
all_stages-rests = refl

all_stages-is_lawful : is_lawful all_stages ≡ true
all_stages-is_lawful = refl

-- a letter starts its ondemand entry, and the entry is started again when its child has ended
abbrev on_call : Entry
on_call = entry (codes "d") (OnCall letter.A ∷ []) act.Ondemand (codes "x")

abbrev settled_on_call : List Event
settled_on_call = Settle level.L3 ∷ Enter (stage.Run level.L3) 5 ∷ Enter stage.Boot 5 ∷ Enter stage.Sysinit 5
    ∷ NewTable ((entry (codes "id") ((At level.L3) ∷ []) act.Initdefault ([])) ∷ on_call ∷ []) ∷ []

abbrev letter_called : List Event
letter_called = Asked (codes "d") Start ∷ Told (codes "d") ∷ Reaped (codes "d") 5 (Exit 0) ∷ Death 5
    ∷ Asked (codes "d") Look ∷ Nudge ∷ Told (codes "d") ∷ Birth (codes "d") 5 ∷ Asked (codes "d") Start ∷ Call letter.A
    ∷ Got (got.Call letter.A) ∷ settled_on_call

letter_called-is_sound : is_sound (opening level.L3) letter_called ≡ true
letter_called-is_sound = refl

letter_called-is_run : is_run (opening level.L3) letter_called ≡ true
letter_called-is_run = refl

letter_called-rests : first (due (opening level.L3) letter_called) ≡ step.Idle
letter_called-rests = refl

letter_called-is_lawful : is_lawful letter_called ≡ true
letter_called-is_lawful = refl

-- after ten failed starts the entry is held, and another call does not end the hold
abbrev failed_start : List Event
failed_start = Told (codes "d") ∷ NoBirth (codes "d") ∷ Asked (codes "d") Start ∷ []

abbrev five_failed_starts : List Event
five_failed_starts = failed_start ++ failed_start ++ failed_start ++ failed_start ++ failed_start

abbrev called_while_held : List Event
called_while_held = Call letter.A ∷ Got (got.Call letter.A) ∷ Hold (codes "d") ∷ five_failed_starts
    ++ five_failed_starts ++ Call letter.A ∷ Got (got.Call letter.A) ∷ settled_on_call

called_while_held-is_sound : is_sound (opening level.L3) called_while_held ≡ true
called_while_held-is_sound = refl

called_while_held-is_run : is_run (opening level.L3) called_while_held ≡ true
called_while_held-is_run = refl

called_while_held-rests : first (due (opening level.L3) called_while_held) ≡ step.Idle
called_while_held-rests = refl

called_while_held-is_lawful : is_lawful called_while_held ≡ true
called_while_held-is_lawful = refl

-- a child that was called stays alive in another level, and is not started again there when it ends
abbrev call_of_another_level : List Event
call_of_another_level = Settle level.L2 ∷ Told (codes "d") ∷ Reaped (codes "d") 5 (Exit 0) ∷ Death 5 ∷ Asked
    (codes "d") Look ∷ Nudge ∷ Enter (stage.Run level.L2) 5 ∷ NotRead ∷ Got (got.Level level.L2 5) ∷ Told (codes "d")
    ∷ Birth (codes "d") 5 ∷ Asked (codes "d") Start ∷ Call letter.A ∷ Got (got.Call letter.A) ∷ settled_on_call

call_of_another_level-is_sound : is_sound (opening level.L3) call_of_another_level ≡ true
call_of_another_level-is_sound = refl

call_of_another_level-rests : first (due (opening level.L3) call_of_another_level) ≡ step.Idle
call_of_another_level-rests = refl

-- ten starts that fail at once, then a hold
abbrev ten_failed_starts : List Event
ten_failed_starts = Settle level.S ∷ Hold (codes "r") ∷ Told (codes "r") ∷ NoBirth (codes "r") ∷ Asked (codes "r") Start
    ∷ Told (codes "r") ∷ NoBirth (codes "r") ∷ Asked (codes "r") Start ∷ Told (codes "r") ∷ NoBirth (codes "r")
    ∷ Asked (codes "r") Start ∷ Told (codes "r") ∷ NoBirth (codes "r") ∷ Asked (codes "r") Start ∷ Told (codes "r")
    ∷ NoBirth (codes "r") ∷ Asked (codes "r") Start ∷ Told (codes "r") ∷ NoBirth (codes "r") ∷ Asked (codes "r") Start
    ∷ Told (codes "r") ∷ NoBirth (codes "r") ∷ Asked (codes "r") Start ∷ Told (codes "r") ∷ NoBirth (codes "r")
    ∷ Asked (codes "r") Start ∷ Told (codes "r") ∷ NoBirth (codes "r") ∷ Asked (codes "r") Start ∷ Told (codes "r")
    ∷ NoBirth (codes "r") ∷ Asked (codes "r") Start ∷ Enter (stage.Run level.S) 5 ∷ Enter stage.Sysinit 5
    ∷ NewTable ((entry (codes "r") ((At level.S) ∷ []) act.Respawn (codes "x")) ∷ []) ∷ []

ten_failed_starts-is_sound : is_sound (opening level.S) ten_failed_starts ≡ true
ten_failed_starts-is_sound = refl

ten_failed_starts-is_run : is_run (opening level.S) ten_failed_starts ≡ true
ten_failed_starts-is_run = refl

ten_failed_starts-rests : first (due (opening level.S) ten_failed_starts) ≡ step.Idle
ten_failed_starts-rests = refl

ten_failed_starts-is_lawful : is_lawful ten_failed_starts ≡ true
ten_failed_starts-is_lawful = refl

-- two rounds over a host: a clock reading and a round come before the first stage
abbrev two_rounds : List Event
two_rounds = Told (codes "r") ∷ Still (codes "r") ∷ Asked (codes "r") Look ∷ Settle level.L3 ∷ Nudge ∷ Told (codes "r")
    ∷ Birth (codes "r") 11 ∷ Clock 0 ∷ Asked (codes "r") Start ∷ Told (codes "w") ∷ NoBirth (codes "w") ∷ Asked
    (codes "w") Start ∷ Enter (stage.Run level.L3) 5 ∷ Enter stage.Boot 5 ∷ Enter stage.Sysinit 5 ∷ Nudge ∷ Clock 0
    ∷ NewTable ((entry (codes "id") ((At level.L3) ∷ []) act.Initdefault ([])) ∷ (entry (codes "w") ((At level.L3) ∷ [])
    act.Wait (codes "prep")) ∷ (entry (codes "r") ((At level.L3) ∷ []) act.Respawn (codes "serv")) ∷ []) ∷ []

two_rounds-is_sound : is_sound (opening level.L3) two_rounds ≡ true
two_rounds-is_sound = refl

two_rounds-rests : first (due (opening level.L3) two_rounds) ≡ step.Idle
two_rounds-rests = refl

-- forged: an entry is started in another level while the child of an earlier entry is unreaped
abbrev breach_of_turn : List Event
breach_of_turn = Birth (codes "b") 11 ∷ Asked (codes "b") Start ∷ Enter (stage.Run level.L1) 5 ∷ Told (codes "a")
    ∷ Birth (codes "a") 10 ∷ Asked (codes "a") Start ∷ Enter (stage.Run level.L3) 5 ∷ NewTable ((entry (codes "a") ((At
    level.L3) ∷ []) act.Once (codes "x")) ∷ (entry (codes "b") ((At level.L1) ∷ []) act.Once (codes "y")) ∷ []) ∷ []

breach_of_turn-breaks : first_breach breach_of_turn ≡ Some (record { position = 7; law = 4 })
breach_of_turn-breaks = refl

breach_of_turn-not_sound : is_sound (opening level.L3) breach_of_turn ≡ false
breach_of_turn-not_sound = refl

-- forged: a level is settled before anything else
abbrev settle_of_nothing : List Event
settle_of_nothing = Settle level.L3 ∷ []

settle_of_nothing-breaks : first_breach settle_of_nothing ≡ Some (record { position = 0; law = 5 })
settle_of_nothing-breaks = refl

settle_of_nothing-not_sound : is_sound (opening level.L3) settle_of_nothing ≡ false
settle_of_nothing-not_sound = refl

-- forged: a birth before anything else
abbrev birth_of_nothing : List Event
birth_of_nothing = Birth (codes "a") 1 ∷ []

birth_of_nothing-breaks : first_breach birth_of_nothing ≡ Some (record { position = 0; law = 2 })
birth_of_nothing-breaks = refl

birth_of_nothing-not_sound : is_sound (opening level.L3) birth_of_nothing ≡ false
birth_of_nothing-not_sound = refl

-- forged: a hold of an entry to which the respawn limit does not apply
abbrev hold_of_once : List Event
hold_of_once = Hold (codes "a") ∷ NewTable ((entry (codes "a") ((At level.L3) ∷ []) act.Once (codes "x")) ∷ []) ∷ []

hold_of_once-breaks : first_breach hold_of_once ≡ Some (record { position = 1; law = 6 })
hold_of_once-breaks = refl

hold_of_once-not_sound : is_sound (opening level.L3) hold_of_once ≡ false
hold_of_once-not_sound = refl

-- forged: a KILL to nobody
abbrev kill_of_nobody : List Event
kill_of_nobody = Asked (codes "a") Kill ∷ Enter (stage.Run level.L3) 5
    ∷ NewTable ((entry (codes "a") ((At level.L3) ∷ []) act.Respawn (codes "x")) ∷ []) ∷ []

kill_of_nobody-breaks : first_breach kill_of_nobody ≡ Some (record { position = 2; law = 7 })
kill_of_nobody-breaks = refl

kill_of_nobody-not_sound : is_sound (opening level.L3) kill_of_nobody ≡ false
kill_of_nobody-not_sound = refl

-- forged: eleven starts at once
abbrev eleventh_start : List Event
eleventh_start = Asked (codes "r") Start ∷ Asked (codes "r") Start ∷ Asked (codes "r") Start ∷ Asked (codes "r") Start
    ∷ Asked (codes "r") Start ∷ Asked (codes "r") Start ∷ Asked (codes "r") Start ∷ Asked (codes "r") Start
    ∷ Asked (codes "r") Start ∷ Asked (codes "r") Start ∷ Asked (codes "r") Start ∷ Enter (stage.Run level.S) 5
    ∷ NewTable ((entry (codes "r") ((At level.S) ∷ []) act.Respawn (codes "x")) ∷ []) ∷ []

eleventh_start-breaks : first_breach eleventh_start ≡ Some (record { position = 12; law = 6 })
eleventh_start-breaks = refl

eleventh_start-not_sound : is_sound (opening level.L3) eleventh_start ≡ false
eleventh_start-not_sound = refl

-- wrong: a later entry is started while the waited one is alive
abbrev too_early : List Event
too_early = Asked (codes "r") Start ∷ Told (codes "w") ∷ Birth (codes "w") 10 ∷ Asked (codes "w") Start
    ∷ Enter (stage.Run level.L3) 5 ∷ Enter stage.Boot 5 ∷ Enter stage.Sysinit 5 ∷ NewTable
    ((entry (codes "id") ((At level.L3) ∷ []) act.Initdefault ([])) ∷ (entry (codes "w") ((At level.L3) ∷ []) act.Wait
    (codes "prep")) ∷ (entry (codes "r") ((At level.L3) ∷ []) act.Respawn (codes "serv")) ∷ []) ∷ []

too_early-not_sound : is_sound (opening level.L3) too_early ≡ false
too_early-not_sound = refl
