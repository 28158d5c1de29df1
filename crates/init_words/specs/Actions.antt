-- The action table: the meaning of each of the fifteen actions of inittab(5), with one definition per column (init(8)).
use Rattle.std.specs.Prelude.{◌&&◌, ℕ, Bool, true, false, not, ◌==◌, List, [], ◌∷◌, find, codes, Option}
use Rattle.std.specs.Str.{bytes_eq}
use Rattle.init_words.specs.declared.actions.Act.{Act}
use Rattle.init_words.specs.declared.actions.Act.TheVariants as act
use Rattle.init_words.specs.declared.levels.Level.TheVariants as level
use Rattle.init_words.specs.declared.levels.Mark.{Mark}
use Rattle.init_words.specs.declared.levels.Mark.TheVariants.{At}
use Rattle.init_words.specs.declared.orders.PowerKind.{PowerKind}
use Rattle.init_words.specs.declared.orders.PowerKind.TheVariants as power
use Rattle.init_words.specs.declared.stages.Stage.{Stage}
use Rattle.init_words.specs.declared.stages.Stage.TheVariants.{Sysinit, Boot, Run}
use Rattle.init_words.specs.Levels.{names, same_level}

-- the name of an action in inittab(5)
abbrev pub word_of : Act → List ℕ
word_of act.Sysinit = codes "sysinit"
word_of act.Boot = codes "boot"
word_of act.Bootwait = codes "bootwait"
word_of act.Wait = codes "wait"
word_of act.Once = codes "once"
word_of act.Respawn = codes "respawn"
word_of act.Ondemand = codes "ondemand"
word_of act.Powerwait = codes "powerwait"
word_of act.Powerfail = codes "powerfail"
word_of act.Powerokwait = codes "powerokwait"
word_of act.Powerfailnow = codes "powerfailnow"
word_of act.Off = codes "off"
word_of act.Initdefault = codes "initdefault"
word_of act.Ctrlaltdel = codes "ctrlaltdel"
word_of act.Kbrequest = codes "kbrequest"

-- the fifteen actions
abbrev pub acts : List Act
acts =
    act.Sysinit ∷ act.Boot ∷ act.Bootwait ∷ act.Wait ∷ act.Once ∷ act.Respawn ∷ act.Ondemand
    ∷ act.Powerwait ∷ act.Powerfail ∷ act.Powerokwait ∷ act.Powerfailnow
    ∷ act.Off ∷ act.Initdefault ∷ act.Ctrlaltdel ∷ act.Kbrequest ∷ []

-- the action with this name, which must be in lower case; none if there is no such action
unfoldable pub act_read : List ℕ → Option Act
act_read word = find (λ a. bytes_eq (word_of a) word) acts

-- a number for each action; two actions are compared by their numbers
abbrev pub act_number : Act → ℕ
act_number act.Sysinit = 0
act_number act.Boot = 1
act_number act.Bootwait = 2
act_number act.Wait = 3
act_number act.Once = 4
act_number act.Respawn = 5
act_number act.Ondemand = 6
act_number act.Powerwait = 7
act_number act.Powerfail = 8
act_number act.Powerokwait = 9
act_number act.Powerfailnow = 10
act_number act.Off = 11
act_number act.Initdefault = 12
act_number act.Ctrlaltdel = 13
act_number act.Kbrequest = 14

abbrev pub same_act : Act → Act → Bool
same_act a b = act_number a == act_number b

-- an entry with this action and these runlevels is started in the stage
abbrev pub starts_by : Act → List Mark → Stage → Bool
starts_by act.Sysinit levels Sysinit = true
starts_by act.Boot levels Boot = true
starts_by act.Bootwait levels Boot = true
starts_by act.Wait levels (Run l) = names (At l) levels
starts_by act.Once levels (Run l) = names (At l) levels
starts_by act.Respawn levels (Run l) = names (At l) levels
starts_by act.Powerwait levels (Run l) = names (At l) levels
starts_by act.Powerfail levels (Run l) = names (At l) levels
starts_by act.Powerokwait levels (Run l) = names (At l) levels
starts_by act.Powerfailnow levels (Run l) = names (At l) levels
starts_by act.Ondemand levels (Run l) = not (same_level l level.S)
starts_by _ levels stage = false

-- a child of an entry with this action and these runlevels may keep running in a stage in which the entry is started;
-- a child of a boot or bootwait entry may also keep running in every runlevel
abbrev pub lives_by : Act → List Mark → Stage → Bool
lives_by act.Boot levels (Run l) = true
lives_by act.Bootwait levels (Run l) = true
lives_by action levels stage = starts_by action levels stage

-- init waits for the process to end before it starts later entries
abbrev pub waited_by : Act → Bool
waited_by act.Sysinit = true
waited_by act.Bootwait = true
waited_by act.Wait = true
waited_by act.Powerwait = true
waited_by act.Powerokwait = true
waited_by _ = false

-- the runlevels field of entries with this action is ignored
abbrev pub ignores_levels : Act → Bool
ignores_levels act.Sysinit = true
ignores_levels act.Boot = true
ignores_levels act.Bootwait = true
ignores_levels _ = false

-- the runlevels of an entry with this action if its runlevels field is empty, as characters
abbrev pub default_levels : Act → List ℕ
default_levels act.Powerwait = codes "S0123456789"
default_levels act.Powerfail = codes "S0123456789"
default_levels act.Powerokwait = codes "S0123456789"
default_levels act.Powerfailnow = codes "S0123456789"
default_levels act.Initdefault = []
default_levels _ = codes "0123456789"

-- entries with this action keep their process field; initdefault entries have none
abbrev pub has_process : Act → Bool
has_process act.Initdefault = false
has_process _ = true

-- entries with this action must have a process
abbrev pub needs_process : Act → Bool
needs_process act.Initdefault = false
needs_process act.Off = false
needs_process act.Ctrlaltdel = false
needs_process act.Kbrequest = false
needs_process _ = true

-- a power event of this kind calls entries with this action
abbrev pub is_called_by : PowerKind → Act → Bool
is_called_by power.Fail act.Powerwait = true
is_called_by power.Fail act.Powerfail = true
is_called_by power.FailNow act.Powerfailnow = true
is_called_by power.Ok act.Powerokwait = true
is_called_by _ _ = false

-- a letter calls entries with this action (`telinit a`, `b`, `c`)
abbrev pub is_ondemand : Act → Bool
is_ondemand act.Ondemand = true
is_ondemand _ = false

-- an entry that was called stays called when it is started, so it is restarted whenever its process ends; an entry for
-- a power event is started once
abbrev pub stays_called : Act → Bool
stays_called act.Ondemand = true
stays_called _ = false

-- an entry that starts in the stage is to be started now: a respawn entry if it has no child and none is being started
-- (`idle`); a sysinit, boot, bootwait, wait or once entry if its start was not ordered yet (`fresh`); an entry for a
-- power event if it was called (`called`); and an ondemand entry if it was called and is idle
abbrev pub wanted_by : Act → Bool → Bool → Bool → Bool
wanted_by act.Respawn idle fresh called = idle
wanted_by act.Sysinit idle fresh called = fresh
wanted_by act.Boot idle fresh called = fresh
wanted_by act.Bootwait idle fresh called = fresh
wanted_by act.Wait idle fresh called = fresh
wanted_by act.Once idle fresh called = fresh
wanted_by act.Powerwait idle fresh called = called
wanted_by act.Powerfail idle fresh called = called
wanted_by act.Powerfailnow idle fresh called = called
wanted_by act.Powerokwait idle fresh called = called
wanted_by act.Ondemand idle fresh called = called && idle
wanted_by _ idle fresh called = false

-- the respawn limit applies to entries with this action
abbrev pub is_limited : Act → Bool
is_limited act.Respawn = true
is_limited act.Ondemand = true
is_limited _ = false

-- an entry no longer keeps its level from being settled: a wait or once entry once its start was ordered (`asked`), a
-- respawn entry while it has a child or is held (`kept_up`), and any other entry always
abbrev pub served_by : Act → Bool → Bool → Bool
served_by act.Wait asked kept_up = asked
served_by act.Once asked kept_up = asked
served_by act.Respawn asked kept_up = kept_up
served_by _ asked kept_up = true
