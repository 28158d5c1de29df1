-- The lines that init prints about the happenings that it announces; it prints nothing about other happenings.
use Rattle.std.specs.Prelude.{ℕ, List, [], ◌∷◌, ◌++◌, codes}
use Rattle.init_words.specs.declared.stages.Stage.{Stage}
use Rattle.init_words.specs.declared.stages.Stage.TheVariants as stage
use Rattle.init_words.specs.Levels.{level_code}
use Rattle.trace_events.specs.declared.happenings.Handed.{Handed as HandOver}
use Rattle.trace_events.specs.declared.happenings.Handed.TheVariants as handed
use Rattle.trace_events.specs.declared.happenings.Happening.TheVariants.{NotRead, Enter, Hold, Settle, Handed}
use Rattle.trace_events.specs.Event.{Event}

-- the line for entering a stage
abbrev pub entered : Stage → List ℕ
entered stage.Sysinit = codes "INIT: Entering stage sysinit\n"
entered stage.Boot = codes "INIT: Entering stage boot\n"
entered (stage.Run level) = codes "INIT: Entering runlevel: " ++ level_code level ∷ codes "\n"

-- the line for a hand-over; empty if the whole state was handed over
abbrev pub handed_over : HandOver → List ℕ
handed_over handed.Whole = []
handed_over _ = codes "initd: re-execution refused\n"

-- the line for a happening; empty if init does not announce it
abbrev pub announcement : Event → List ℕ
announcement (Enter stage grace) = entered stage
announcement (Settle level) = codes "INIT: Runlevel " ++ level_code level ∷ codes " settled\n"
announcement (Hold id) = codes "INIT: Id \"" ++ id ++ codes "\" respawning too fast: disabled for 5 minutes\n"
announcement NotRead = codes "initd: inittab not read\n"
announcement (Handed how) = handed_over how
announcement _ = []
