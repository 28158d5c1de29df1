-- Worked examples of rests, each with the children that init waits for and the reasons, checked by computation
-- (`refl`).
use Rattle.core_waiting.proofs.Words.{◌≡◌, refl, ℕ, true, false, List, [], ◌∷◌, ◌++◌, codes, map, Option, Some, Entry}
use Rattle.core_waiting.proofs.Words.{Act, Level, Mark, At, OnCall, Start, Look, Term, Exit, NewTable, NotRead, Enter}
use Rattle.core_waiting.proofs.Words.{Asked, Birth, NoBirth, Death, Reaped, Hit, Miss, Told, Clock, Nudge, Got, Goal}
use Rattle.core_waiting.proofs.Words.{Event, Child, is_idle, due, is_sound, WhyAwaited, Excluded, WaitedFor, InTheWay}
use Rattle.core_waiting.proofs.Words.{why_awaited, awaited_children, is_level_announced, is_on_power}
use Rattle.core_waiting.proofs.Words.{count_wanted_waits}
use Rattle.core_waiting.proofs.Words.{after_rounds, AreRoundsWithoutRequests, undisturbed_among}
use Rattle.init_words.specs.declared.actions.Act.TheVariants as act
use Rattle.init_words.specs.declared.levels.Level.TheVariants as level
use Rattle.init_words.specs.declared.levels.Letter.TheVariants as letter
use Rattle.init_words.specs.declared.stages.Stage.TheVariants as stage
use Rattle.init_words.specs.declared.orders.PowerKind.TheVariants as power
use Rattle.initctl_frame.specs.declared.requests.HeardRequest.TheVariants as got
use Rattle.trace_events.specs.declared.happenings.Happening.TheVariants.{Call, Power, Hold, Settle}

abbrev pub entry : List ℕ → List Mark → Act → Entry
entry id levels action =
    record { id = id; levels = record { items = levels }; act = action; process = record { items = codes "x" } }

-- the opening goal with this level
abbrev pub opening : Level → Goal
opening l = record { level = l; grace = 5 }

-- the ids of the children that init waits for, and the reason for each
abbrev ids : List Event → List (List ℕ)
ids past = map (λ (child : Child). child.id) (awaited_children past)

abbrev whys : List Event → List (Option WhyAwaited)
whys past = map (why_awaited past) (awaited_children past)

-- an order, its act, and its `told`
abbrev pub started : List ℕ → ℕ → List Event
started id n = Told id ∷ Birth id n ∷ Asked id Start ∷ []

abbrev termed : List ℕ → List Event
termed id = Told id ∷ Hit id ∷ Asked id Term ∷ []

abbrev missed : List ℕ → List Event
missed id = Told id ∷ Miss id ∷ Asked id Term ∷ []

abbrev ended : List ℕ → ℕ → List Event
ended id n = Told id ∷ Reaped id n (Exit 0) ∷ Death n ∷ Asked id Look ∷ []

-- another level is requested, and inittab cannot be read
abbrev pub goes_to : Level → List Event
goes_to l = Enter (stage.Run l) 5 ∷ NotRead ∷ Got (got.Level l 5) ∷ []

abbrev pub entered : Level → List Entry → List Event
entered l table = Enter (stage.Run l) 5 ∷ Enter stage.Boot 5 ∷ Enter stage.Sysinit 5 ∷ NewTable table ∷ []

abbrev failed : List Event
failed = Told (codes "r") ∷ NoBirth (codes "r") ∷ Asked (codes "r") Start ∷ []

-- the child of a respawn entry, which the new level excludes: it was sent a TERM whose grace is not over
abbrev pub stopped : List Event
stopped = termed (codes "r") ++ goes_to level.L2 ++ Settle level.L3 ∷ started (codes "r") 7
    ++ entered level.L3 ((entry (codes "r") (At level.L3 ∷ []) act.Respawn) ∷ [])

stopped-is_sound : is_sound (opening level.L3) stopped ≡ true
stopped-is_sound = refl

stopped-rests : due (opening level.L3) stopped ≡ []
stopped-rests = refl

stopped-is_idle : is_idle stopped ≡ true
stopped-is_idle = refl

stopped-told : is_level_announced stopped ≡ false
stopped-told = refl

stopped-awaits : ids stopped ≡ codes "r" ∷ []
stopped-awaits = refl

stopped-why : whys stopped ≡ Some Excluded ∷ []
stopped-why = refl

-- the signal to it failed, and is tried again in the next round
abbrev signal_missed : List Event
signal_missed = missed (codes "r") ++ goes_to level.L2 ++ Settle level.L3 ∷ started (codes "r") 7
    ++ entered level.L3 ((entry (codes "r") (At level.L3 ∷ []) act.Respawn) ∷ [])

signal_missed-is_sound : is_sound (opening level.L3) signal_missed ≡ true
signal_missed-is_sound = refl

signal_missed-rests : due (opening level.L3) signal_missed ≡ []
signal_missed-rests = refl

signal_missed-is_idle : is_idle signal_missed ≡ true
signal_missed-is_idle = refl

signal_missed-told : is_level_announced signal_missed ≡ false
signal_missed-told = refl

signal_missed-awaits : ids signal_missed ≡ codes "r" ∷ []
signal_missed-awaits = refl

signal_missed-why : whys signal_missed ≡ Some Excluded ∷ []
signal_missed-why = refl

-- a child whose id left the table
abbrev left_the_table : List Event
left_the_table = termed (codes "r") ++ NewTable [] ∷ Got got.Reload ∷ Settle level.L3 ∷ started (codes "r") 7
    ++ entered level.L3 ((entry (codes "r") (At level.L3 ∷ []) act.Respawn) ∷ [])

left_the_table-is_sound : is_sound (opening level.L3) left_the_table ≡ true
left_the_table-is_sound = refl

left_the_table-rests : due (opening level.L3) left_the_table ≡ []
left_the_table-rests = refl

left_the_table-is_idle : is_idle left_the_table ≡ true
left_the_table-is_idle = refl

left_the_table-told : is_level_announced left_the_table ≡ false
left_the_table-told = refl

left_the_table-awaits : ids left_the_table ≡ codes "r" ∷ []
left_the_table-awaits = refl

left_the_table-why : whys left_the_table ≡ Some Excluded ∷ []
left_the_table-why = refl

-- a wait entry runs, and the one after it has to wait
abbrev pub waited_for : List Event
waited_for = started (codes "w") 7 ++ entered level.L3
    ((entry (codes "w") (At level.L3 ∷ []) act.Wait) ∷ (entry (codes "r") (At level.L3 ∷ []) act.Respawn) ∷ [])

waited_for-is_sound : is_sound (opening level.L3) waited_for ≡ true
waited_for-is_sound = refl

waited_for-rests : due (opening level.L3) waited_for ≡ []
waited_for-rests = refl

waited_for-is_idle : is_idle waited_for ≡ true
waited_for-is_idle = refl

waited_for-told : is_level_announced waited_for ≡ false
waited_for-told = refl

waited_for-awaits : ids waited_for ≡ codes "w" ∷ []
waited_for-awaits = refl

waited_for-why : whys waited_for ≡ Some WaitedFor ∷ []
waited_for-why = refl

-- a bootwait entry runs in Boot
abbrev boot_waits : List Event
boot_waits = started (codes "b") 7 ++ Enter stage.Boot 5 ∷ Enter stage.Sysinit 5
    ∷ NewTable ((entry (codes "b") ([]) act.Bootwait) ∷ (entry (codes "r") (At level.L3 ∷ []) act.Respawn) ∷ []) ∷ []

boot_waits-is_sound : is_sound (opening level.L3) boot_waits ≡ true
boot_waits-is_sound = refl

boot_waits-rests : due (opening level.L3) boot_waits ≡ []
boot_waits-rests = refl

boot_waits-is_idle : is_idle boot_waits ≡ true
boot_waits-is_idle = refl

boot_waits-told : is_level_announced boot_waits ≡ false
boot_waits-told = refl

boot_waits-awaits : ids boot_waits ≡ codes "b" ∷ []
boot_waits-awaits = refl

boot_waits-why : whys boot_waits ≡ Some WaitedFor ∷ []
boot_waits-why = refl

-- the child of a once entry from the last level lives on: the entry starts again in this level when the child is gone
abbrev pub in_its_way : List Event
in_its_way = goes_to level.L2 ++ Settle level.L3 ∷ started (codes "o") 7
    ++ entered level.L3 ((entry (codes "o") (At level.L2 ∷ At level.L3 ∷ []) act.Once) ∷ [])

in_its_way-is_sound : is_sound (opening level.L3) in_its_way ≡ true
in_its_way-is_sound = refl

in_its_way-rests : due (opening level.L3) in_its_way ≡ []
in_its_way-rests = refl

in_its_way-is_idle : is_idle in_its_way ≡ true
in_its_way-is_idle = refl

in_its_way-told : is_level_announced in_its_way ≡ false
in_its_way-told = refl

in_its_way-awaits : ids in_its_way ≡ codes "o" ∷ []
in_its_way-awaits = refl

in_its_way-why : whys in_its_way ≡ Some InTheWay ∷ []
in_its_way-why = refl

-- two children at once, the one whose birth was told last first
abbrev two_awaited : List Event
two_awaited = termed (codes "r") ++ goes_to level.L2 ++ Settle level.L3 ∷ started (codes "o") 8 ++ started (codes "r") 7
    ++ entered level.L3 ((entry (codes "r") (At level.L3 ∷ []) act.Respawn)
    ∷ (entry (codes "o") (At level.L2 ∷ At level.L3 ∷ []) act.Once) ∷ [])

two_awaited-is_sound : is_sound (opening level.L3) two_awaited ≡ true
two_awaited-is_sound = refl

two_awaited-rests : due (opening level.L3) two_awaited ≡ []
two_awaited-rests = refl

two_awaited-is_idle : is_idle two_awaited ≡ true
two_awaited-is_idle = refl

two_awaited-told : is_level_announced two_awaited ≡ false
two_awaited-told = refl

two_awaited-awaits : ids two_awaited ≡ codes "r" ∷ codes "o" ∷ []
two_awaited-awaits = refl

two_awaited-why : whys two_awaited ≡ Some Excluded ∷ Some InTheWay ∷ []
two_awaited-why = refl

-- a start is not answered: init waits for no child
abbrev order_open : List Event
order_open = Asked (codes "o") Start ∷ entered level.L3 ((entry (codes "o") (At level.L3 ∷ []) act.Once) ∷ [])

order_open-is_sound : is_sound (opening level.L3) order_open ≡ true
order_open-is_sound = refl

order_open-rests : due (opening level.L3) order_open ≡ []
order_open-rests = refl

order_open-is_idle : is_idle order_open ≡ false
order_open-is_idle = refl

order_open-told : is_level_announced order_open ≡ false
order_open-told = refl

order_open-awaits : ids order_open ≡ []
order_open-awaits = refl

order_open-why : whys order_open ≡ []
order_open-why = refl

-- a settled level: children of respawn, once and boot entries run, and init waits for none of them
abbrev all_kept_up : List Event
all_kept_up = Settle level.L3 ∷ started (codes "o") 9 ++ started (codes "r") 8 ++ Enter (stage.Run level.L3) 5
    ∷ started (codes "b") 7 ++ Enter stage.Boot 5 ∷ Enter stage.Sysinit 5 ∷ NewTable ((entry (codes "b") ([]) act.Boot)
    ∷ (entry (codes "r") (At level.L3 ∷ []) act.Respawn) ∷ (entry (codes "o") (At level.L3 ∷ []) act.Once) ∷ []) ∷ []

all_kept_up-is_sound : is_sound (opening level.L3) all_kept_up ≡ true
all_kept_up-is_sound = refl

all_kept_up-rests : due (opening level.L3) all_kept_up ≡ []
all_kept_up-rests = refl

all_kept_up-is_idle : is_idle all_kept_up ≡ true
all_kept_up-is_idle = refl

all_kept_up-told : is_level_announced all_kept_up ≡ true
all_kept_up-told = refl

all_kept_up-awaits : ids all_kept_up ≡ []
all_kept_up-awaits = refl

all_kept_up-why : whys all_kept_up ≡ []
all_kept_up-why = refl

-- a table without entries
abbrev no_entries : List Event
no_entries = Settle level.S ∷ Enter (stage.Run level.S) 5 ∷ Enter stage.Sysinit 5 ∷ NewTable [] ∷ []

no_entries-is_sound : is_sound (opening level.S) no_entries ≡ true
no_entries-is_sound = refl

no_entries-rests : due (opening level.S) no_entries ≡ []
no_entries-rests = refl

no_entries-is_idle : is_idle no_entries ≡ true
no_entries-is_idle = refl

no_entries-told : is_level_announced no_entries ≡ true
no_entries-told = refl

no_entries-awaits : ids no_entries ≡ []
no_entries-awaits = refl

no_entries-why : whys no_entries ≡ []
no_entries-why = refl

-- an entry called by a letter runs in a settled level
abbrev on_call : List Event
on_call = started (codes "d") 7 ++ Call letter.A ∷ Got (got.Call letter.A) ∷ Settle level.L3
    ∷ entered level.L3 ((entry (codes "d") (OnCall letter.A ∷ []) act.Ondemand) ∷ [])

on_call-is_sound : is_sound (opening level.L3) on_call ≡ true
on_call-is_sound = refl

on_call-rests : due (opening level.L3) on_call ≡ []
on_call-rests = refl

on_call-is_idle : is_idle on_call ≡ true
on_call-is_idle = refl

on_call-told : is_level_announced on_call ≡ true
on_call-told = refl

on_call-awaits : ids on_call ≡ []
on_call-awaits = refl

on_call-why : whys on_call ≡ []
on_call-why = refl

-- in a settled level a power event calls a powerwait entry, and init waits for it: the level stays announced
abbrev power_waits : List Event
power_waits = started (codes "p") 8 ++ Power power.Fail ∷ Got (got.Power power.Fail) ∷ Settle level.L3
    ∷ started (codes "r") 7 ++ entered level.L3
    ((entry (codes "p") (At level.L3 ∷ []) act.Powerwait) ∷ (entry (codes "r") (At level.L3 ∷ []) act.Respawn) ∷ [])

power_waits-is_sound : is_sound (opening level.L3) power_waits ≡ true
power_waits-is_sound = refl

power_waits-rests : due (opening level.L3) power_waits ≡ []
power_waits-rests = refl

power_waits-is_idle : is_idle power_waits ≡ true
power_waits-is_idle = refl

power_waits-told : is_level_announced power_waits ≡ true
power_waits-told = refl

power_waits-awaits : ids power_waits ≡ codes "p" ∷ []
power_waits-awaits = refl

power_waits-why : whys power_waits ≡ Some WaitedFor ∷ []
power_waits-why = refl

-- the power event comes again while the child of the first call runs
abbrev power_again : List Event
power_again = Power power.Fail ∷ Got (got.Power power.Fail) ∷ started (codes "p") 8 ++ Power power.Fail ∷ Got (got.Power
    power.Fail) ∷ Settle level.L3 ∷ entered level.L3 ((entry (codes "p") (At level.L3 ∷ []) act.Powerfail) ∷ [])

power_again-is_sound : is_sound (opening level.L3) power_again ≡ true
power_again-is_sound = refl

power_again-rests : due (opening level.L3) power_again ≡ []
power_again-rests = refl

power_again-is_idle : is_idle power_again ≡ true
power_again-is_idle = refl

power_again-told : is_level_announced power_again ≡ true
power_again-told = refl

power_again-awaits : ids power_again ≡ codes "p" ∷ []
power_again-awaits = refl

power_again-why : whys power_again ≡ Some InTheWay ∷ []
power_again-why = refl

-- a held entry counts as served
abbrev held_back : List Event
held_back = Settle level.S ∷ Hold (codes "r") ∷ failed ++ failed ++ failed ++ failed ++ failed ++ failed ++ failed
    ++ failed ++ failed ++ failed ++ Enter (stage.Run level.S) 5 ∷ Enter stage.Sysinit 5
    ∷ NewTable ((entry (codes "r") (At level.S ∷ []) act.Respawn) ∷ []) ∷ []

held_back-is_sound : is_sound (opening level.S) held_back ≡ true
held_back-is_sound = refl

held_back-rests : due (opening level.S) held_back ≡ []
held_back-rests = refl

held_back-is_idle : is_idle held_back ≡ true
held_back-is_idle = refl

held_back-told : is_level_announced held_back ≡ true
held_back-told = refl

held_back-awaits : ids held_back ≡ []
held_back-awaits = refl

held_back-why : whys held_back ≡ []
held_back-why = refl

-- two wait entries: from the rest at which the first one runs, one more is to come, and the level is announced settled
-- in the second round but not in the first
abbrev first_runs : List Event
first_runs = started (codes "v") 7 ++ entered level.L3 ((entry (codes "v") (At level.L3 ∷ []) act.Wait)
    ∷ (entry (codes "w") (At level.L3 ∷ []) act.Wait) ∷ (entry (codes "r") (At level.L3 ∷ []) act.Respawn) ∷ [])

abbrev first_ends : List Event
first_ends = started (codes "w") 8 ++ ended (codes "v") 7 ++ Nudge ∷ Clock 5 ∷ []

abbrev second_ends : List Event
second_ends = Settle level.L3 ∷ started (codes "r") 9 ++ ended (codes "w") 8 ++ Nudge ∷ Clock 10 ∷ []

two_rounds-are_sound : is_sound (opening level.L3) (after_rounds (second_ends ∷ first_ends ∷ []) first_runs) ≡ true
two_rounds-are_sound = refl

two_rounds-are_unasked : AreRoundsWithoutRequests (opening level.L3) (second_ends ∷ first_ends ∷ []) first_runs
two_rounds-are_unasked = (((refl, refl), refl, refl, refl), refl, refl, refl)

two_rounds-undisturbed : undisturbed_among (second_ends ∷ first_ends ∷ []) first_runs ≡ 2
two_rounds-undisturbed = refl

first_runs-count_wanted_waits : count_wanted_waits first_runs ≡ 1
first_runs-count_wanted_waits = refl

first_ends-told : is_level_announced (after_rounds (first_ends ∷ []) first_runs) ≡ false
first_ends-told = refl

second_ends-told : is_level_announced (after_rounds (second_ends ∷ first_ends ∷ []) first_runs) ≡ true
second_ends-told = refl

power_waits-on_power : map (is_on_power power_waits) (awaited_children power_waits) ≡ true ∷ []
power_waits-on_power = refl

power_again-on_power : map (is_on_power power_again) (awaited_children power_again) ≡ true ∷ []
power_again-on_power = refl
