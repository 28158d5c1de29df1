-- The command line of `initview`. Options and their values can be anywhere; the first other argument is the command.
use Rattle.std.specs.Prelude.{ℕ, suc, ◌+◌, Bool, true, false, not, ◌&&◌, ◌||◌, ◌==◌, if◌then◌else◌, List, [], ◌∷◌}
use Rattle.std.specs.Prelude.{codes, length, map, Option, Some, None, option_and_then, unwrap_or}
use Rattle.std.specs.List.{list_all}
use Rattle.std.specs.Option.{is_some, option_map}
use Rattle.std.specs.Str.{bytes_eq}
use Rattle.initview_command.specs.Words.{App, Text, all_of, first_of, number_read, given_by, is_set, line_of}
use Rattle.initview_command.specs.Words.{value_said, written, Level}
use Rattle.clap.specs.Words.{Row}
use Rattle.command_words.specs.CommandLines.{Line}
use Rattle.init_words.specs.Ids.{id_read}
use Rattle.init_words.specs.Levels.{level_read}
use Rattle.initview_lines.specs.declared.lines.RowFormat.{RowFormat}
use Rattle.initview_lines.specs.declared.lines.RowFormat.TheVariants as shape
use Rattle.initview_lines.specs.declared.lines.WhichRows.{WhichRows}
use Rattle.initview_lines.specs.declared.lines.WhichRows.TheVariants as which
use Rattle.initview_command.specs.declared.asking.TraceQuery.{TraceQuery}
use Rattle.initview_command.specs.declared.asking.TraceQuery.TheVariants as question
use Rattle.initview_command.specs.declared.asking.TableQuestion.{TableQuestion}
use Rattle.initview_command.specs.declared.asking.TableQuestion.TheVariants as table
use Rattle.initview_command.specs.declared.asking.Paths.{Paths}
use Rattle.initview_command.specs.declared.asking.TheConstants.{LAST_LIMIT, OPTIONS}
use Rattle.initview_command.specs.declared.asking.Command.{Command}
use Rattle.initview_command.specs.declared.asking.Command.TheVariants.{Show, Draw, Follow, Explain, Reload, Timing}
use Rattle.initview_command.specs.declared.asking.Command.TheVariants.{Tables}
use Rattle.initview_command.specs.declared.charting.Form.{Form}
use Rattle.initview_command.specs.declared.charting.Form.TheVariants.{Lines, Svg}
use Rattle.initview_command.specs.declared.charting.TheConstants.{WIDTH}
use Rattle.initview_command.specs.Charting.{width_of}

abbrev pub command_line : App
command_line = line_of (codes "initview") (written OPTIONS.now)

-- the arguments that are not options: the command and its arguments
abbrev pub words_said : List Row → List Text
words_said rows = unwrap_or (all_of (codes "WORD") rows) []

-- the command line gives the option that the row of the table describes
abbrev pub is_given : List Row → Line → Bool
is_given rows row =
    if length row.1 == 0 then is_set row.0 rows
    else not (bytes_eq row.1 (codes "..")) && is_some (first_of row.0 rows)

-- the level that a word names, if it is a single character that names a level
abbrev pub level_in : Text → Option Level
level_in [] = None
level_in (code ∷ []) = level_read code
level_in (code ∷ more ∷ word) = None

-- the value of --level: none if it is not a level, `Some None` if the option is not given
abbrev pub level_given : Option Text → Option (Option Level)
level_given None = Some None
level_given (Some word) = option_map Some (level_in word)

-- the level that the command line gives
abbrev pub level_said : List Row → Option (Option Level)
level_said rows = level_given (first_of (codes "--level") rows)

-- the format that --json selects
abbrev pub shape_said : List Row → RowFormat
shape_said rows = if is_set (codes "--json") rows then shape.Json else shape.Lines

-- the rows that --faults selects
abbrev pub which_said : List Row → WhichRows
which_said rows = if is_set (codes "--faults") rows then which.Faulty else which.All

-- the form that --svg or --width selects; none if the width is not valid, or if both options are given
abbrev pub form_given : WhichRows → Bool → Option Text → Option Form
form_given rows false None = Some (Lines WIDTH rows)
form_given rows false (Some width) = option_map (λ columns. Lines columns rows) (width_of width)
form_given rows true None = Some (Svg rows)
form_given rows true (Some width) = None

-- the form that the command line selects
abbrev pub form_said : List Row → Option Form
form_said rows = form_given (which_said rows) (is_set (codes "--svg") rows) (first_of (codes "--width") rows)

-- --local is given
abbrev pub local_said : List Row → Bool
local_said rows = is_set (codes "--local") rows

-- the number of lines, if it is not 0
abbrev pub some_lines : Option ℕ → Option ℕ
some_lines (Some (suc count)) = Some (suc count)
some_lines _ = None

-- the number of lines that an argument specifies; none if it is not a number from 1 to 10,000
abbrev pub last_of : Text → Option ℕ
last_of word = some_lines (number_read (LAST_LIMIT + 1) word)

-- the value of -n: none if it is not a number from 1 to 10,000, `Some None` if the option is not given
abbrev pub last_given : Option Text → Option (Option ℕ)
last_given None = Some None
last_given (Some word) = option_map Some (last_of word)

-- the number of lines that the command line requests
abbrev pub last_said : List Row → Option (Option ℕ)
last_said rows = last_given (first_of (codes "-n") rows)

-- the command `status [--json] [--local] TRACE [ID]`
abbrev pub show_of : List Row → List Text → Option Command
show_of rows (trace ∷ []) = Some (Show (question.Status (shape_said rows)))
show_of rows (trace ∷ id ∷ []) = option_map (λ i. Show (question.Row i (shape_said rows))) (id_read id)
show_of rows _ = None

-- the command `timeline [--svg | --width N] [--faults] [--local] TRACE`
abbrev pub draw_of : List Row → List Text → Option Command
draw_of rows (trace ∷ []) = option_map Draw (form_said rows)
draw_of rows _ = None

-- the command `why` for an id; none if the id is not valid
abbrev pub explained : Text → Option Command
explained id = option_map Explain (id_read id)

-- the command `why ID TRACE [TABLE..]`
abbrev pub explain_of : List Text → Option Command
explain_of (id ∷ trace ∷ tables) = explained id
explain_of _ = None

-- the command `diff`, which is about a trace if --trace is given
abbrev pub diff_by : Bool → Option Level → Command
diff_by traced level = if traced then Reload level else Tables (table.Diff level)

-- the command `diff [--trace TRACE] [--level LEVEL] OLD NEW`
abbrev pub diff_of : List Row → List Text → Option Command
diff_of rows (old ∷ new ∷ []) = option_map (diff_by (is_some (first_of (codes "--trace") rows))) (level_said rows)
diff_of rows _ = None

-- the command `plan`, which is about a trace if --trace is given
abbrev pub plan_by : Bool → Option Level → Command
plan_by traced level = if traced then Timing level else Tables (table.Plan level)

-- the command `plan [--trace TRACE] [--level LEVEL] TABLE [FILE..]`
abbrev pub plan_of : List Row → List Text → Option Command
plan_of rows [] = None
plan_of rows words = option_map (plan_by (is_some (first_of (codes "--trace") rows))) (level_said rows)

-- the command `lint [--programs FOLDERS] TABLE [FILE..]`
abbrev pub lint_of : List Row → List Text → Option Command
lint_of rows [] = None
lint_of rows words =
    Some (Tables (if is_some (first_of (codes "--programs") rows) then table.Programs else table.Lint))

-- the command with this name, if it is one of the commands about inittabs: diff, plan and lint
abbrev pub tables_of : List Row → Text → List Text → Option Command
tables_of rows verb words =
    if bytes_eq verb (codes "diff") then diff_of rows words
    else if bytes_eq verb (codes "plan") then plan_of rows words
    else if bytes_eq verb (codes "lint") then lint_of rows words
    else None

-- the command `left [--json] TRACE` or `follow [-n N] [--local] TRACE`
abbrev pub plain_of : List Row → Text → List Text → Option Command
plain_of rows verb (trace ∷ []) =
    if bytes_eq verb (codes "left") then Some (Show (question.Left (shape_said rows)))
    else if bytes_eq verb (codes "follow") then option_map Follow (last_said rows)
    else None
plain_of rows verb _ = None

-- the first command, or the other one if there is none
abbrev pub or_tables : Option Command → Option Command → Option Command
or_tables (Some what) other = Some what
or_tables None other = other

-- the command with this name
abbrev pub asked_by : List Row → Text → List Text → Option Command
asked_by rows verb words =
    if bytes_eq verb (codes "status") then show_of rows words
    else if bytes_eq verb (codes "timeline") then draw_of rows words
    else if bytes_eq verb (codes "why") then explain_of words
    else or_tables (plain_of rows verb words) (tables_of rows verb words)

-- the command that the arguments select, even if it does not accept all options; none if there is no such command
abbrev pub asked : List Row → List Text → Option Command
asked rows [] = None
asked rows (verb ∷ words) = asked_by rows verb words

-- a question about inittabs accepts the option
abbrev pub table_takes : TableQuestion → Text → Bool
table_takes table.Lint option = bytes_eq option (codes "--programs")
table_takes table.Programs option = bytes_eq option (codes "--programs")
table_takes (table.Diff level) option = bytes_eq option (codes "--trace") || bytes_eq option (codes "--level")
table_takes (table.Plan level) option = bytes_eq option (codes "--trace") || bytes_eq option (codes "--level")

-- a question about a trace accepts the option
abbrev pub trace_takes : TraceQuery → Text → Bool
trace_takes (question.Left shape) option = bytes_eq option (codes "--json")
trace_takes _ option = bytes_eq option (codes "--json") || bytes_eq option (codes "--local")

-- the command `timeline` accepts the option
abbrev pub draw_takes : Text → Bool
draw_takes option =
    bytes_eq option (codes "--svg") || (bytes_eq option (codes "--width")
    || (bytes_eq option (codes "--faults") || bytes_eq option (codes "--local")))

-- the commands `diff --trace` and `plan --trace` accept the option
abbrev pub goes_by_level : Text → Bool
goes_by_level option =
    bytes_eq option (codes "--inittab-dir") || (bytes_eq option (codes "--trace") || bytes_eq option (codes "--level"))

-- the command accepts the option; each command that reads files of an inittab accepts --inittab-dir
abbrev pub takes : Command → Text → Bool
takes (Show question) option = trace_takes question option
takes (Draw form) option = draw_takes option
takes (Follow last) option = bytes_eq option (codes "-n") || bytes_eq option (codes "--local")
takes (Explain id) option = bytes_eq option (codes "--inittab-dir")
takes (Reload level) option = goes_by_level option
takes (Timing level) option = goes_by_level option
takes (Tables question) option = bytes_eq option (codes "--inittab-dir") || table_takes question option

-- the command accepts the option that the row of the table describes, or the command line does not give it
abbrev pub belongs : List Row → Command → Line → Bool
belongs rows what row = not (is_given rows row) || takes what row.0

-- the command accepts all options in the command line
abbrev pub has_only : List Row → Command → Bool
has_only rows what = list_all (belongs rows what) (written OPTIONS.now)

-- the command, if it accepts all options in the command line
abbrev pub where_only : List Row → Command → Option Command
where_only rows what = if has_only rows what then Some what else None

-- the command that the options and arguments select
abbrev pub what_of : List Row → List Text → Option Command
what_of rows words = option_and_then (where_only rows) (asked rows words)

-- the command that a command line selects
abbrev pub asked_of : List Text → Option Command
asked_of words = option_and_then (λ rows. what_of rows (words_said rows)) (given_by command_line words)

-- the second of the arguments, or an empty text
abbrev pub second_word : List Text → Text
second_word (first ∷ second ∷ words) = second
second_word _ = []

abbrev pub third_word : List Text → Text
third_word (first ∷ second ∷ third ∷ words) = third
third_word _ = []

abbrev pub after_third : List Text → List Text
after_third (first ∷ second ∷ third ∷ words) = words
after_third _ = []

abbrev pub after_first : List Text → List Text
after_first (first ∷ words) = words
after_first [] = []

-- the path of the trace, or the folders to search for programs
abbrev pub path_of : Command → List Row → List Text → Text
path_of (Reload level) rows words = value_said (codes "--trace") rows
path_of (Timing level) rows words = value_said (codes "--trace") rows
path_of (Tables question) rows words = value_said (codes "--programs") rows
path_of (Explain id) rows words = third_word words
path_of _ rows words = second_word words

-- the paths of the inittab files
abbrev pub files_of : Command → List Text → List Text
files_of (Explain id) words = after_third words
files_of _ words = after_first words

-- the path of the trace or the folders with programs, the paths of the inittab files, and the folder with additional
-- files of an inittab
pub record PathTexts : Type 0 where
  pub path : Text
  pub files : List Text
  pub folder : Option Text

-- the paths in the options and arguments of a command
abbrev pub paths_of : Command → List Row → List Text → PathTexts
paths_of what rows words = record {
  path = path_of what rows words;
  files = files_of what words;
  folder = first_of (codes "--inittab-dir") rows;
}

-- the paths that the program passes on, as lists
abbrev pub path_texts : Paths → PathTexts
path_texts paths = record {
  path = paths.path.now;
  files = map (λ file. file.now) paths.files.now;
  folder = option_map (λ folder. folder.now) paths.folder;
}
