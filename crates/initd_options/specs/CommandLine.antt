-- The command lines `initd simulate [--level L] TABLE SCRIPT`, `initd check [--growing] [--pieces] TRACE`, `initd run`
-- with its options, and `initd --version`.
use Rattle.std.specs.Prelude.{Bool, if◌then◌else◌, List, [], ◌∷◌, codes, Option, Some, None, option_and_then}
use Rattle.std.specs.Prelude.{option_map, string_bytes}
use Rattle.std.specs.Str.{bytes_eq}
use Rattle.clap.specs.Words.{App, Row, Text}
use Rattle.command_words.specs.CommandLines.{asks_version, given_by, is_set, line_of, value_said, written}
use Rattle.init_words.specs.declared.levels.Level.{Level}
use Rattle.initd_options.specs.Options.{RunArguments, level_option, run_of, run_arguments}
use Rattle.initd_options.specs.declared.command.TheConstants.{CHECK, SIMULATE}
use Rattle.initd_options.specs.declared.options.TheConstants.{OPTIONS}
use Rattle.initd_options.specs.declared.command.CheckWords.{CheckWords}
use Rattle.initd_options.specs.declared.command.SimulateWords.{SimulateWords}
use Rattle.initd_options.specs.declared.command.Words.{Words}
use Rattle.initd_options.specs.declared.command.Words.TheVariants.{Version, Simulate, Check, Run as Serve}

abbrev pub simulate_line : App
simulate_line = line_of (codes "simulate") (written SIMULATE.now)

abbrev pub check_line : App
check_line = line_of (codes "check") (written CHECK.now)

abbrev pub run_line : App
run_line = line_of (codes "run") (written OPTIONS.now)

-- the level to go to, if one is given, and the paths of the inittab and the script
pub record SimulateArguments : Type 0 where
  pub level : Option Level
  pub table : Text
  pub script : Text

-- whether the trace may end in an incomplete happening, whether the pieces before it are judged with it, and its path
pub record CheckArguments : Type 0 where
  pub growing : Bool
  pub pieces : Bool
  pub trace : Text

-- what initd is to do: print its version, simulate a run of init, judge a trace, or run init on the operating system
pub data InitdArguments : Type 0 where
  version : InitdArguments
  simulates : SimulateArguments → InitdArguments
  judges : CheckArguments → InitdArguments
  runs : RunArguments → InitdArguments

abbrev pub simulation_of : SimulateWords → SimulateArguments
simulation_of words =
    record { level = words.level; table = string_bytes words.table; script = string_bytes words.script }

abbrev pub check_of : CheckWords → CheckArguments
check_of words = record { growing = words.growing; pieces = words.pieces; trace = string_bytes words.trace }

abbrev pub arguments_of : Words → InitdArguments
arguments_of Version = version
arguments_of (Simulate words) = simulates (simulation_of words)
arguments_of (Check words) = judges (check_of words)
arguments_of (Serve arguments) = runs (run_of arguments)

-- the arguments of `initd simulate`, given the values of its rows; none if the level is not valid
abbrev pub simulation_arguments : List Row → Option SimulateArguments
simulation_arguments rows =
    option_map (λ level. record {
      level = level;
      table = value_said (codes "TABLE") rows;
      script = value_said (codes "SCRIPT") rows;
    })
    (level_option rows)

-- the arguments after `simulate`; none if they are not valid
abbrev pub simulation_read_of : List Text → Option SimulateArguments
simulation_read_of words = option_and_then simulation_arguments (given_by simulate_line words)

-- the arguments of `initd check`, given the values of its rows
abbrev pub check_arguments : List Row → CheckArguments
check_arguments rows = record {
  growing = is_set (codes "--growing") rows;
  pieces = is_set (codes "--pieces") rows;
  trace = value_said (codes "TRACE") rows;
}

-- the arguments after `check`; none if they are not valid
abbrev pub check_read_of : List Text → Option CheckArguments
check_read_of words = option_map check_arguments (given_by check_line words)

-- the arguments after `run`; none if they are not valid
abbrev pub run_read_of : List Text → Option RunArguments
run_read_of words = option_and_then run_arguments (given_by run_line words)

-- the arguments of a command; none if there is no such command, or its arguments are not valid
abbrev pub command_arguments : Text → List Text → Option InitdArguments
command_arguments command words =
    if bytes_eq command (codes "simulate") then option_map simulates (simulation_read_of words)
    else if bytes_eq command (codes "check") then option_map judges (check_read_of words)
    else if bytes_eq command (codes "run") then option_map runs (run_read_of words)
    else None

-- what the arguments of `initd` ask for, except `--version`; none if they are not valid
abbrev pub line_arguments : List Text → Option InitdArguments
line_arguments [] = None
line_arguments (command ∷ words) = command_arguments command words

-- what the arguments of `initd` ask for; none if they are not valid
abbrev pub initd_read_of : List Text → Option InitdArguments
initd_read_of words = if asks_version words then Some version else line_arguments words
