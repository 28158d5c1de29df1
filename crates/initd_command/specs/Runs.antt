-- How each command line of initd ends: a simulated run, a judged trace, a run over the operating system, or the
-- version.
use Rattle.std.specs.Prelude.{◌≡◌, ◌⊎◌, ℕ, if◌then◌else◌, List, codes, Option, Some, None}
use Rattle.std.specs.Io.KnownBytes.{Appends, Keeps}
use Rattle.initd_command.specs.Words.{AppendsPrefix, IsTextAt, KnownTexts, SimFault, Done, Ends, Scenario, scenario}
use Rattle.initd_command.specs.Words.{CheckArguments, SimulateArguments, InitdArguments, judges, initd_read_of}
use Rattle.initd_command.specs.Words.{simulates, runs}
use Rattle.initd_command.specs.Words.{version}
use Rattle.command_words.specs.VersionLine.{version_line}
use Rattle.initd_command.specs.declared.run.Obstacle.TheVariants.{Memory}
use Rattle.initd_command.specs.Endings.{Ending, EndsUnread, done, usage, refused, stopped, unflushed, unversioned}
use Rattle.initd_command.specs.Endings.{usage_named}
use Rattle.initd_command.specs.Services.{EndsRun}
use Rattle.initd_command.specs.Verdicts.{EndsCheck}

-- how a simulated run may end
abbrev pub EndsSimulation : Scenario → Ending → Option (List ℕ) → Option (List ℕ) → Type 0
EndsSimulation s done old new = Done s old new
EndsSimulation s (stopped script f) old new = (script ≡ s.script) × Ends s f old new
EndsSimulation s unflushed old new = Done s old new ⊎ ((f : SimFault) × Ends s f old new)
EndsSimulation s _ old new = ⊥

-- how `initd simulate` ends: one of its files was not read, or it ends as the simulated run over the two texts does
abbrev pub EndsSimulate : KnownTexts → SimulateArguments → Ending → Option (List ℕ) → Option (List ℕ) → Type 0
EndsSimulate text_at run ending old new =
    (EndsUnread run.table ending old new ⊎ EndsUnread run.script ending old new)
    ⊎ ((inittab script : List ℕ) × IsTextAt text_at run.table inittab × IsTextAt text_at run.script script
    × EndsSimulation (scenario run.level inittab script) ending old new)

-- how `initd --version` ends: the version is written, or a prefix of it
abbrev pub EndsVersion : Ending → Option (List ℕ) → Option (List ℕ) → Type 0
EndsVersion done old new = Appends old new (version_line (codes "initd"))
EndsVersion unversioned old new = AppendsPrefix old new (version_line (codes "initd"))
EndsVersion _ old new = ⊥

-- the known texts at the paths of traces to judge; with --pieces, no text is known
abbrev pub judged_at : KnownTexts → CheckArguments → KnownTexts
judged_at text_at options = if options.pieces then (λ _. None) else text_at

-- how a valid command line ends
abbrev pub CommandLineEnds : KnownTexts → InitdArguments → Ending → Option (List ℕ) → Option (List ℕ) → Type 0
CommandLineEnds text_at version ending old new = EndsVersion ending old new
CommandLineEnds text_at (simulates run) ending old new = EndsSimulate text_at run ending old new
CommandLineEnds text_at (judges check) ending old new = EndsCheck (judged_at text_at check) check ending old new
CommandLineEnds text_at (runs service) ending old new = EndsRun text_at service ending old new

-- how a run with these arguments ends: with the usage if they are not a command line, otherwise as the command line
-- does
abbrev pub ParsedArgumentsEnd : KnownTexts → List (List ℕ) → Option InitdArguments → Ending → Option (List ℕ)
    → Option (List ℕ) → Type 0
ParsedArgumentsEnd text_at words None ending old new =
    (reason : List ℕ) × (ending ≡ usage (usage_named words) reason) × Keeps old new
ParsedArgumentsEnd text_at words (Some options) ending old new = CommandLineEnds text_at options ending old new

-- how a run with arguments ends: as their command line does, or because memory ran out while the arguments were read
abbrev pub ArgumentsEnd : KnownTexts → List (List ℕ) → Ending → Option (List ℕ) → Option (List ℕ) → Type 0
ArgumentsEnd text_at words ending old new =
    ((ending ≡ refused Memory) × Keeps old new) ⊎ ParsedArgumentsEnd text_at words (initd_read_of words) ending old new
