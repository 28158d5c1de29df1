-- The command line `telinit [-t SEC] [-d DIR] [--initctl P] CHAR`, or `--power KIND` in place of CHAR (telinit(8)).
use Rattle.std.specs.Prelude.{ℕ, Bool, ◌&&◌, not, if◌then◌else◌, nat_le, List, [], ◌++◌, codes, Option, Some, None}
use Rattle.std.specs.Prelude.{option_and_then, option_map, length, string_bytes, ◌==◌}
use Rattle.std.specs.List.{list_all}
use Rattle.std.specs.Char.{is_ascii_digit}
use Rattle.std.specs.Str.{bytes_eq}
use Rattle.std.specs.Str.Parse.{digits_value}
use Rattle.clap.specs.Words.{App, Row, Text, first_of}
use Rattle.command_words.specs.Arguments.{arguments, described}
use Rattle.command_words.specs.CommandLines.{given_by, value_said}
use Rattle.init_words.specs.declared.limits.TheConstants.{GRACE_LIMIT}
use Rattle.init_words.specs.declared.orders.PowerKind.{PowerKind}
use Rattle.init_words.specs.declared.orders.PowerKind.TheVariants as power
use Rattle.initctl_frame.specs.declared.requests.Request.{Request}
use Rattle.initctl_frame.specs.declared.requests.Request.TheVariants as request
use Rattle.initctl_frame.specs.Frames.{block_of}
use Rattle.initctl_frame.specs.Signs.{sign_read}
use Rattle.program_io.specs.Arguments.{only_byte}
use Rattle.telinit_command.specs.declared.command.TheConstants.{OPTIONS}
use Rattle.telinit_command.specs.declared.command.Words.{Words}

abbrev pub command_line : App
command_line = described (codes "telinit") (arguments OPTIONS.now)

-- a word of one or more decimal digits
abbrev pub is_numeral : List ℕ → Bool
is_numeral word = not (length word == 0) && list_all is_ascii_digit word

-- the number of seconds that a word gives in decimal, if it is within the limit
abbrev pub seconds_read : List ℕ → Option ℕ
seconds_read word =
    let secs = digits_value 10 word in
    if is_numeral word && nat_le secs GRACE_LIMIT then Some secs else None

-- the power event that a word names
abbrev pub power_read : Text → Option PowerKind
power_read word =
    if bytes_eq word (codes "fail") then Some power.Fail
    else if bytes_eq word (codes "failnow") then Some power.FailNow
    else if bytes_eq word (codes "ok") then Some power.Ok
    else None

-- the argument CHAR, or the power event in the value of --power; none unless exactly one of them is given
abbrev pub sign_or_power : Option Text → Option Text → Option (Text × Option PowerKind)
sign_or_power None None = None
sign_or_power (Some sign) None = Some (sign, None)
sign_or_power None (Some word) = option_map (λ kind. ([], Some kind)) (power_read word)
sign_or_power (Some sign) (Some word) = None

-- the path of a name in a folder; the name alone if there is no folder
abbrev pub in_folder : Text → Text → Text
in_folder folder name = if length folder == 0 then name else folder ++ (codes "/" ++ name)

-- the path of a channel: the path of --initctl if it is given, otherwise `initctl` in the given folder, or else in the
-- folder in the environment
abbrev pub path_in : Option Text → Text → Text → Text
path_in (Some path) folder home = path
path_in None folder home = in_folder (if length folder == 0 then home else folder) (codes "initctl")

-- the path of the channel in the options
abbrev pub path_option : Text → List Row → Text
path_option home rows = path_in (first_of (codes "--initctl") rows) (value_said (codes "-d") rows) home

-- a parsed command line, with the defaults for options that are not given
pub record TelinitWords : Type 0 where
  pub secs : ℕ
  pub path : Text
  pub sign : Text
  pub power : Option PowerKind

-- a command line of the program, as lists
abbrev pub words_of : Words → TelinitWords
words_of words = record {
  secs = words.secs;
  path = string_bytes words.path;
  sign = string_bytes words.sign;
  power = words.power;
}

-- the parsed command line for the rows of the table, if the seconds are 0 to 3,600; `home` is the folder in the
-- environment
abbrev pub words_of_rows : Text → List Row → Option TelinitWords
words_of_rows home rows =
    option_and_then
    (λ secs. option_map
    (λ asked. record { secs = secs; path = path_option home rows; sign = asked.0; power = asked.1 })
    (sign_or_power (first_of (codes "CHAR") rows) (first_of (codes "--power") rows)))
    (seconds_read (value_said (codes "-t") rows))

-- the command line for the arguments; none if clap finds a fault in them
abbrev pub words_read_of : Text → List Text → Option TelinitWords
words_read_of home words = option_and_then (words_of_rows home) (given_by command_line words)

-- the request, with this number of seconds, that the character CHAR makes, which must be a character of telinit(8); or
-- the request for the power event
abbrev pub request_by : ℕ → Text → Option PowerKind → Option Request
request_by secs sign None = option_map (λ code. request.Runlvl code secs) (option_and_then sign_read (only_byte sign))
request_by secs sign (Some kind) = Some (request.Power kind)

-- the request that a command line makes; none if its CHAR is not valid
abbrev pub request_of : TelinitWords → Option Request
request_of words = request_by words.secs words.sign words.power

-- the channel and the request
pub record TelinitArguments : Type 0 where
  pub path : Text
  pub request : Request

-- the channel that a command line names and the request that it makes, if it makes one
abbrev pub arguments_of : TelinitWords → Option TelinitArguments
arguments_of words = option_map (λ asked. record { path = words.path; request = asked }) (request_of words)

-- the channel that the arguments name and the request that they make; none if the command line is rejected, or if its
-- CHAR is not valid
abbrev pub telinit_read_of : Text → List Text → Option TelinitArguments
telinit_read_of home words = option_and_then arguments_of (words_read_of home words)

-- the request block that the arguments ask for
abbrev pub block_for : Text → List Text → Option (List ℕ)
block_for home words = option_map (λ arguments. block_of arguments.request) (telinit_read_of home words)
