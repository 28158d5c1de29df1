-- The command line `rc [-n] [-v] [--strict] [--direct] [--as-sysv] [--timeout SEC] DIR PREV NEW`, or with `--level-file
-- F` and without PREV.
use Rattle.std.specs.Prelude.{ℕ, ◌+◌, nat_lt, Bool, if◌then◌else◌, List, codes, Option, Some, None, option_and_then}
use Rattle.std.specs.Prelude.{option_map, ◌==◌, ◌||◌, string_bytes}
use Rattle.std.specs.List.{list_all}
use Rattle.std.specs.Str.{byte, bytes_eq}
use Rattle.clap.specs.Words.{App, Row, Text, first_of}
use Rattle.command_words.specs.Arguments.{arguments, described}
use Rattle.command_words.specs.CommandLines.{given_by, is_set, value_said}
use Rattle.init_words.specs.declared.levels.Level.{Level}
use Rattle.init_words.specs.Levels.{level_read}
use Rattle.program_io.specs.Arguments.{only_byte}
use Rattle.rc_command.specs.declared.command.RunOptions.{RunOptions}
use Rattle.rc_command.specs.declared.command.TheConstants.{OPTIONS, SECONDS_LIMIT}
use Rattle.rc_driver.specs.declared.runs.LevelChange.{LevelChange}
use Rattle.text_lines.specs.Numbers.{number_read}
use Rattle.rc_command.specs.declared.command.Words.{Words}
use Rattle.rc_links.specs.Names.{is_name_byte}

abbrev pub command_line : App
command_line = described (codes "rc") (arguments OPTIONS.now)

-- a run: the folder that contains the folders of the runlevels, the previous level if there was one, the new level,
-- and the options
pub record RcArguments : Type 0 where
  pub dir : Text
  pub previous : Option Level
  pub new : Level
  pub options : RunOptions

-- a parsed command line, which may name a file for the previous level
pub record Asked : Type 0 where
  pub dir : Text
  pub previous : Option Level
  pub file : Option Text
  pub new : Level
  pub sysv : Bool
  pub options : RunOptions

-- a command line of the program, as lists
abbrev pub arguments_of : Words → Asked
arguments_of words = record {
  dir = string_bytes words.dir;
  previous = words.previous;
  file = option_map (λ (text : _). string_bytes text) words.level_file;
  new = words.new;
  sysv = words.sysv;
  options = words.options;
}

-- the path of a folder consists of '/' and of bytes that are allowed in the name of a service
abbrev pub is_dir : Text → Bool
is_dir word = list_all (λ b. is_name_byte b || b == byte "/") word

-- the runlevel that a word names, 0 to 9 or S; none for any other word
abbrev pub level_of : Text → Option Level
level_of word = if bytes_eq word (codes "s") then None else option_and_then level_read (only_byte word)

-- the previous level that a word names: `Some None` for the word N; none if the word is neither N nor a level
abbrev pub previous_of : Text → Option (Option Level)
previous_of word = if bytes_eq word (codes "N") then Some None else option_map Some (level_of word)

-- the number of seconds that a word gives, from 1 to the limit
abbrev pub seconds_read : Text → Option ℕ
seconds_read word =
    option_and_then (λ seconds. if nat_lt 0 seconds then Some seconds else None) (number_read (SECONDS_LIMIT + 1) word)

-- the number of seconds in the value of --timeout: `Some None` if no value is given, none if it is not a number from 1
-- to the limit
abbrev pub seconds_in : Option Text → Option (Option ℕ)
seconds_in None = Some None
seconds_in (Some word) = option_map Some (seconds_read word)

-- the time limit that the command line gives
abbrev pub seconds_option : List Row → Option (Option ℕ)
seconds_option rows = seconds_in (first_of (codes "--timeout") rows)

-- the options of a run, with this time limit
abbrev pub options_with : Option ℕ → List Row → RunOptions
options_with seconds rows = record {
  dry = is_set (codes "-n") rows;
  strict = is_set (codes "--strict") rows;
  way = record {
    direct = is_set (codes "--direct") rows || is_set (codes "--as-sysv") rows;
    verbose = is_set (codes "-v") rows;
    seconds = seconds;
    levels = None;
  };
}

-- the options, with the change of level if scripts are run as sysv-rc runs them
abbrev pub entering : Bool → LevelChange → RunOptions → RunOptions
entering sysv change options =
    if sysv then record options { way = record options.way { levels = Some change } } else options

-- the run with this folder, this change of level and these options
abbrev pub arguments_at : Text → LevelChange → RunOptions → RcArguments
arguments_at dir change options = record { dir = dir; previous = change.before; new = change.new; options = options }

-- the run that a command line asks for, given the previous level
abbrev pub run_arguments : Asked → Option Level → RcArguments
run_arguments asked before =
    let change : LevelChange = record { before = before; new = asked.new } in
    arguments_at asked.dir change (entering asked.sysv change asked.options)

-- the change from no previous level to the level that a word names
abbrev pub new_of : Text → Option LevelChange
new_of after = option_map (λ new. record { before = None; new = new }) (level_of after)

-- the change between the levels that two words name
abbrev pub levels_of : Text → Text → Option LevelChange
levels_of before after =
    option_and_then (λ previous. option_map (λ new. record { before = previous; new = new }) (level_of after))
    (previous_of before)

-- the change of level in the arguments: PREV and NEW; with --level-file, whose first argument is then NEW, only the new
-- level
abbrev pub levels_in : Option Text → Text → Option Text → Option LevelChange
levels_in None first (Some second) = levels_of first second
levels_in None first None = None
levels_in (Some file) first None = new_of first
levels_in (Some file) first (Some second) = None

-- the change of level that the command line gives
abbrev pub levels_given : List Row → Option LevelChange
levels_given rows =
    levels_in (first_of (codes "--level-file") rows) (value_said (codes "PREV") rows) (first_of (codes "NEW") rows)

-- the command line that the rows of the table describe, with these options
abbrev pub rc_arguments : List Row → Bool → RunOptions → Option Asked
rc_arguments rows sysv options =
    if is_dir (value_said (codes "DIR") rows) then
    option_map
    (λ (levels : LevelChange). record {
      dir = value_said (codes "DIR") rows;
      previous = levels.before;
      file = first_of (codes "--level-file") rows;
      new = levels.new;
      sysv = sysv;
      options = options;
    })
    (levels_given rows)
    else None

-- the command line that the rows of the table describe
abbrev pub arguments_in : List Row → Option Asked
arguments_in rows =
    option_and_then
    (λ seconds. rc_arguments rows (is_set (codes "--as-sysv") rows) (options_with seconds rows)) (seconds_option rows)

-- the command line for the arguments of the program; none if it is rejected
abbrev pub rc_read_of : List Text → Option Asked
rc_read_of words = option_and_then arguments_in (given_by command_line words)
