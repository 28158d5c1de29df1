-- Inittab entries: the command to run, and the columns of the action table for an entry (inittab(5)).
use Rattle.std.specs.Prelude.{ℕ, Bool, if◌then◌else◌, List, [], ◌∷◌, ◌==◌}
use Rattle.init_words.specs.declared.entries.Entry.{Entry}
use Rattle.init_words.specs.declared.stages.Stage.{Stage}
use Rattle.init_words.specs.Actions.{starts_by, lives_by, waited_by}

-- a process field without its leading '+', if it has one
abbrev pub without_plus : List ℕ → List ℕ
without_plus [] = []
without_plus (b ∷ process) = if b == 43 then process else b ∷ process

-- the command line to run
abbrev pub command_of : Entry → List ℕ
command_of e = without_plus e.process.items

-- the entry is started in the stage
abbrev pub starts_of : Entry → Stage → Bool
starts_of e stage = starts_by e.act e.levels.items stage

-- a child of the entry may keep running in the stage
abbrev pub lives_of : Entry → Stage → Bool
lives_of e stage = lives_by e.act e.levels.items stage

-- init waits for the entry's process to end before it starts later entries
abbrev pub waited_of : Entry → Bool
waited_of e = waited_by e.act
