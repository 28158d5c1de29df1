-- The options of `initd run` and their values.
use Rattle.std.specs.Prelude.{ℕ, Bool, true, false, ◌+◌, ◌-◌, ◌*◌, ◌^◌, ◌==◌, ◌&&◌, if◌then◌else◌, nat_lt, nat_le, List}
use Rattle.std.specs.Prelude.{[], ◌∷◌, ◌++◌, length, codes, Option, Some, None, option_and_then, option_map}
use Rattle.std.specs.Prelude.{string_bytes, is_some, ◌||◌}
use Rattle.std.specs.Char.{is_ascii_digit}
use Rattle.std.specs.Option.{option_or}
use Rattle.clap.specs.Words.{Row, Text, first_of}
use Rattle.command_words.specs.CommandLines.{is_set, value_said}
use Rattle.init_words.specs.declared.levels.Level.{Level}
use Rattle.init_words.specs.Ids.{id_read}
use Rattle.text_lines.specs.Lines.{cut}
use Rattle.text_lines.specs.Numbers.{number_read}
use Rattle.initd_options.specs.declared.options.RunWords.{RunWords}
use Rattle.initd_options.specs.declared.options.TheConstants.{DELAY_LIMIT, FOREVER, KEEP_LIMIT, PAUSE_DEFAULT}
use Rattle.initd_options.specs.declared.options.TheConstants.{PAUSE_LIMIT}
use Rattle.initd_options.specs.declared.options.TheConstants.{PAUSE_SECONDS, SIZE_LEAST, SIZE_MOST, TURNS_DEFAULT}
use Rattle.initd_options.specs.declared.options.TheConstants.{TURNS_LIMIT, UNITS_LIMIT}
use Rattle.init_words.specs.Levels.{level_read}
use Rattle.program_io.specs.Arguments.{only_byte}

-- the level that a one-character word names
abbrev pub level_word_read : Text → Option Level
level_word_read word = option_and_then level_read (only_byte word)

-- the level that the word names: `Some None` if no word is given, none if the word is not a level
abbrev pub level_in : Option Text → Option (Option Level)
level_in None = Some None
level_in (Some word) = option_map Some (level_word_read word)

-- the value of `--level`, checked
abbrev pub level_option : List Row → Option (Option Level)
level_option rows = level_in (first_of (codes "--level") rows)

-- a word without its leading zeros
abbrev pub without_zeros : Text → Text
without_zeros [] = []
without_zeros (byte ∷ word) = if byte == 48 then without_zeros word else byte ∷ word

-- the number of turns that the word gives, from 1 to the limit
abbrev pub turns_read : Text → Option ℕ
turns_read word =
    option_and_then (λ turns. if nat_lt 0 turns then Some turns else None)
    (number_read (TURNS_LIMIT + 1) (without_zeros word))

-- the maximum number of turns, given whether --forever is set and the value of --turns; only one of these may be given
abbrev pub turns_in : Bool → Option Text → Option ℕ
turns_in false None = Some TURNS_DEFAULT
turns_in false (Some word) = turns_read word
turns_in true None = Some FOREVER
turns_in true (Some word) = None

-- the maximum number of turns according to `--turns` and `--forever`
abbrev pub turns_option : List Row → Option ℕ
turns_option rows = turns_in (is_set (codes "--forever") rows) (first_of (codes "--turns") rows)

-- the end of the run is specified, by `--turns`, `--forever` or `--drain`
abbrev pub names_end : List Row → Bool
names_end rows =
    is_some (first_of (codes "--turns") rows) || is_set (codes "--forever") rows || is_set (codes "--drain") rows

-- the value of a digit
abbrev pub digit_read : ℕ → Option ℕ
digit_read byte = if is_ascii_digit byte then Some (byte - 48) else None

-- the number of hundredths that the one or two digits after the point give
abbrev pub part_read : List ℕ → Option ℕ
part_read (tenth ∷ []) = option_map (λ t. t * 10) (digit_read tenth)
part_read (tenth ∷ hundredth ∷ []) =
    option_and_then (λ t. option_map (λ h. t * 10 + h) (digit_read hundredth)) (digit_read tenth)
part_read _ = None

-- the number before the point, at most the longest pause; 0 if there is none
abbrev pub whole_read : List ℕ → Option ℕ
whole_read [] = Some 0
whole_read digits = number_read (PAUSE_SECONDS + 1) digits

-- the number of hundredths in a decimal number whose whole part is at most the longest pause
abbrev pub hundredths_in : List ℕ → Option (List ℕ × List ℕ) → Option ℕ
hundredths_in word None = option_map (λ whole. whole * 100) (number_read (PAUSE_SECONDS + 1) word)
hundredths_in word (Some parts) =
    option_and_then (λ whole. option_map (λ part. whole * 100 + part) (part_read parts.1)) (whole_read parts.0)

abbrev pub hundredths_read : List ℕ → Option ℕ
hundredths_read word = hundredths_in word (cut 46 word)

-- the number of hundredths in a decimal number of seconds, from 0.01 to the longest pause
abbrev pub pause_read : Text → Option ℕ
pause_read word = option_and_then
    (λ length. if nat_lt 0 length && nat_le length PAUSE_LIMIT then Some length else None) (hundredths_read word)

-- the longest pause if none is given: a minute if the children are watched and each request rings the bell, otherwise a
-- second
abbrev pub pause_default : List Row → ℕ
pause_default rows =
    if is_set (codes "--watch") rows && is_set (codes "--bell") rows then PAUSE_LIMIT else PAUSE_DEFAULT

-- the longest pause, in hundredths of a second: the given one, or else the default
abbrev pub pause_in : ℕ → Option Text → Option ℕ
pause_in default None = Some default
pause_in default (Some word) = pause_read word

-- the value of `--pause`, checked
abbrev pub pause_option : List Row → Option ℕ
pause_option rows = pause_in (pause_default rows) (first_of (codes "--pause") rows)

-- the id that the word is: `Some None` if no word is given, none if the word is not an id
abbrev pub result_in : Option Text → Option (Option (List ℕ))
result_in None = Some None
result_in (Some word) = option_map Some (id_read word)

-- `--result`: the id whose last status becomes the status of the run
abbrev pub result_option : List Row → Option (Option (List ℕ))
result_option rows = result_in (first_of (codes "--result") rows)

-- whether the trace is brief; none if it is to be brief but no trace is given
abbrev pub brief_in : Bool → Option Text → Option Bool
brief_in true None = None
brief_in brief trace = Some brief

-- the value of `--brief`, checked
abbrev pub brief_option : List Row → Option Bool
brief_option rows = brief_in (is_set (codes "--brief") rows) (first_of (codes "--trace") rows)

-- the number of bytes in this many units of `unit` bytes; none if anything follows the letter after the number
abbrev pub in_units : ℕ → Option (List ℕ × List ℕ) → Option ℕ
in_units unit None = None
in_units unit (Some parts) =
    option_and_then (λ number. if length parts.1 == 0 then Some (number * unit) else None)
    (number_read UNITS_LIMIT parts.0)

-- the number of bytes that the word gives, as a number of units followed by the letter of the unit
abbrev pub units_read : ℕ → ℕ → Text → Option ℕ
units_read letter unit word = in_units unit (cut letter word)

-- the number of bytes that the word gives in bytes, kibibytes (K), mebibytes (M) or gibibytes (G), within the limits
abbrev pub size_read : Text → Option ℕ
size_read word =
    option_and_then (λ size. if nat_le SIZE_LEAST size && nat_le size SIZE_MOST then Some size else None)
    (option_or
    (option_or (option_or (number_read (2 ^ 64) word) (units_read 75 1024 word)) (units_read 77 1048576 word))
    (units_read 71 1073741824 word))

-- the length at which a trace is put away: `Some None` if no length is given; none if it is not valid or no trace is
-- given
abbrev pub size_in : Option Text → Option Text → Option (Option ℕ)
size_in None trace = Some None
size_in (Some word) None = None
size_in (Some word) (Some trace) = option_map Some (size_read word)

-- the value of `--trace-size`, checked
abbrev pub size_given : List Row → Option (Option ℕ)
size_given rows = size_in (first_of (codes "--trace-size") rows) (first_of (codes "--trace") rows)

-- a number of files, at least one
abbrev pub keep_read : Text → Option ℕ
keep_read word =
    option_and_then (λ keep. if nat_lt 0 keep then Some keep else None) (number_read (KEEP_LIMIT + 1) word)

-- the number of put-away files that are kept: `Some None` if no number is given; none if it is not valid, or if no
-- length at which they are put away is given
abbrev pub keep_in : Option Text → Option Text → Option (Option ℕ)
keep_in None size = Some None
keep_in (Some word) None = None
keep_in (Some word) (Some size) = option_map Some (keep_read word)

-- the value of `--trace-keep`, checked
abbrev pub keep_given : List Row → Option (Option ℕ)
keep_given rows = keep_in (first_of (codes "--trace-keep") rows) (first_of (codes "--trace-size") rows)

-- a delay in seconds, from 1 to the limit
abbrev pub delay_read : Text → Option ℕ
delay_read word =
    option_and_then (λ delay. if nat_lt 0 delay then Some delay else None) (number_read (DELAY_LIMIT + 1) word)

-- the longest delay of a start: `Some None` if no delay is given, none if it is not valid
abbrev pub delay_in : Option Text → Option (Option ℕ)
delay_in None = Some None
delay_in (Some word) = option_map Some (delay_read word)

-- the value of `--respawn-delay`, checked
abbrev pub delay_given : List Row → Option (Option ℕ)
delay_given rows = delay_in (first_of (codes "--respawn-delay") rows)

-- The arguments of `initd run`. First the paths of the inittab, of the folder of its further files, if given, of the
-- channel of requests, and of the state file; and whether to skip the requests that the channel already has. For the
-- trace: its path, if given; whether it is brief; the length at which it is put away, if any; the number of put-away
-- files that are kept, if not all; and whether each happening is judged. For the run: the level to go to, if given;
-- the maximum number of turns; whether it ends when nothing is left to do and no child is running; whether its end is
-- specified; the longest pause, in hundredths of a second; and the id whose last status becomes the status of the run,
-- if given. Finally: whether each start and end of a child is reported; the folder of the children's output, if given;
-- whether signals go to process groups; the longest delay of a start in seconds, if starts are delayed; whether an
-- inittab with a faulty line is rejected; whether lines begin with the time; whether the bell is created; and whether
-- the children are watched.
pub record RunArguments : Type 0 where
  pub inittab : Text
  pub inittab_dir : Option Text
  pub initctl : Text
  pub fresh : Bool
  pub state : Text
  pub trace : Option Text
  pub brief : Bool
  pub trace_size : Option ℕ
  pub trace_keep : Option ℕ
  pub judge : Bool
  pub level : Option Level
  pub turns : ℕ
  pub drain : Bool
  pub names_end : Bool
  pub pause : ℕ
  pub result : Option (List ℕ)
  pub verbose : Bool
  pub logs : Option Text
  pub groups : Bool
  pub respawn_delay : Option ℕ
  pub strict : Bool
  pub stamp : Bool
  pub bell : Bool
  pub watch : Bool

-- the arguments, in the form in which the parser returns them, as lists
abbrev pub run_of : RunWords → RunArguments
run_of arguments = record {
  inittab = string_bytes arguments.inittab;
  inittab_dir = option_map (λ (path : _). string_bytes path) arguments.inittab_dir;
  initctl = string_bytes arguments.initctl;
  fresh = arguments.fresh;
  state = string_bytes arguments.state;
  trace = option_map (λ (path : _). string_bytes path) arguments.trace;
  brief = arguments.brief;
  trace_size = arguments.trace_size;
  trace_keep = arguments.trace_keep;
  judge = arguments.judge;
  level = arguments.level;
  turns = arguments.turns;
  drain = arguments.drain;
  names_end = arguments.names_end;
  pause = arguments.pause;
  result = arguments.result;
  verbose = arguments.verbose;
  logs = option_map (λ (path : _). string_bytes path) arguments.logs;
  groups = arguments.groups;
  respawn_delay = arguments.respawn_delay;
  strict = arguments.strict;
  stamp = arguments.stamp;
  bell = arguments.bell;
  watch = arguments.watch;
}

-- the arguments, given the values of the options that can be rejected
abbrev pub service_with : List Row → Option Level → ℕ → ℕ → Option (List ℕ) → Bool → Option ℕ → Option ℕ → Option ℕ
    → RunArguments
service_with rows level turns pause result brief size keep delay = record {
  inittab = value_said (codes "--inittab") rows;
  inittab_dir = first_of (codes "--inittab-dir") rows;
  initctl = value_said (codes "--initctl") rows;
  fresh = is_set (codes "--fresh") rows;
  state = value_said (codes "--state") rows;
  trace = first_of (codes "--trace") rows;
  brief = brief;
  trace_size = size;
  trace_keep = keep;
  judge = is_set (codes "--judge") rows;
  level = level;
  turns = turns;
  drain = is_set (codes "--drain") rows;
  names_end = names_end rows;
  pause = pause;
  result = result;
  verbose = is_set (codes "--verbose") rows;
  logs = first_of (codes "--logs") rows;
  groups = is_set (codes "--groups") rows;
  respawn_delay = delay;
  strict = is_set (codes "--strict") rows;
  stamp = is_set (codes "--stamp") rows;
  bell = is_set (codes "--bell") rows;
  watch = is_set (codes "--watch") rows;
}

-- the arguments after `run`; none if the level, the turns, the pause, the id, the length, the number of files or the
-- delay is not valid, or if an option is given without another one that it requires
abbrev pub run_arguments : List Row → Option RunArguments
run_arguments rows =
    option_and_then
    (λ level. option_and_then
    (λ turns. option_and_then
    (λ pause. option_and_then
    (λ result. option_and_then
    (λ brief. option_and_then
    (λ size. option_and_then
    (λ keep. option_map (λ delay. service_with rows level turns pause result brief size keep delay) (delay_given rows))
    (keep_given rows))
    (size_given rows))
    (brief_option rows))
    (result_option rows))
    (pause_option rows))
    (turns_option rows))
    (level_option rows)
