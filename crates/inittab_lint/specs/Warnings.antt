-- The warnings about a line that init accepts but that does not do what it seems to do (inittab(5)).
use Rattle.std.specs.Prelude.{ℕ, Bool, true, false, not, ◌&&◌, ◌||◌, ◌==◌, ◌-◌, ◌+◌, if◌then◌else◌, List, [], ◌∷◌, ◌++◌}
use Rattle.std.specs.Prelude.{map, filter, length, slice_get, Option, Some, None, is_some}
use Rattle.std.specs.List.{list_any, starts_with}
use Rattle.text_lines.specs.Lines.{lines_of, skip_blanks}
use Rattle.init_words.specs.declared.actions.Act.{Act}
use Rattle.init_words.specs.declared.actions.Act.TheVariants as act
use Rattle.init_words.specs.Actions.{act_read, ignores_levels, is_ondemand, needs_process, same_act}
use Rattle.init_words.specs.Entries.{without_plus}
use Rattle.init_words.specs.Levels.{letter_read, level_read}
use Rattle.inittab_text.specs.Kept.{levels_meant}
use Rattle.inittab_text.specs.Lines.{FieldBytes, fields_of, is_ignored}
use Rattle.inittab_text.specs.Written.{is_empty}
use Rattle.inittab_lint.specs.declared.shell.Operator.{Operator}
use Rattle.inittab_lint.specs.declared.shell.Operator.TheVariants as operator
use Rattle.inittab_lint.specs.declared.traps.LineWarning.{LineWarning}
use Rattle.inittab_lint.specs.declared.traps.Warning.{Warning}
use Rattle.inittab_lint.specs.declared.traps.Warning.TheVariants as warning
use Rattle.inittab_lint.specs.Shell.{begins_with, ends_with, expands_early, first_word, has_comment, is_assigned}
use Rattle.inittab_lint.specs.Shell.{is_shell_word, operator_of}

-- the character has a meaning in the runlevels field of entries with this action: a letter for ondemand, no character
-- for sysinit, boot and bootwait, and a level for all other actions
abbrev pub counts : Act → ℕ → Bool
counts action b =
    if ignores_levels action then false
    else if is_ondemand action then is_some (letter_read b)
    else is_some (level_read b)

-- some character in the runlevels field is ignored
abbrev pub has_idle : Act → List ℕ → Bool
has_idle action levels = list_any (λ b. not (counts action b)) levels

-- no character in the runlevels field, or in its default, has a meaning
abbrev pub counts_none : Act → List ℕ → Bool
counts_none action levels = not (list_any (counts action) (levels_meant action levels))

-- the process of an entry without a leading +; empty if its action starts no process
abbrev pub run_by : Act → List ℕ → List ℕ
run_by action process = if needs_process action then without_plus process else []

-- an operator was found, and it is this one
abbrev pub is_operator : Operator → Option Operator → Bool
is_operator operator.Chain (Some operator.Chain) = true
is_operator operator.Pipe (Some operator.Pipe) = true
is_operator operator.Background (Some operator.Background) = true
is_operator operator.Unclosed (Some operator.Unclosed) = true
is_operator _ _ = false

-- the warning applies to a process
abbrev pub holds_of : Warning → List ℕ → Bool
holds_of warning.Return process = ends_with 13 process
holds_of warning.At process = begins_with 64 (first_word process)
holds_of warning.ShellWord process = is_shell_word (first_word process)
holds_of warning.Assignment process = is_assigned (first_word process)
holds_of warning.Chain process = is_operator operator.Chain (operator_of process)
holds_of warning.Pipe process = is_operator operator.Pipe (operator_of process)
holds_of warning.Background process = is_operator operator.Background (operator_of process)
holds_of warning.Unclosed process = is_operator operator.Unclosed (operator_of process)
holds_of warning.Comment process = has_comment process
holds_of warning.Early process = expands_early process
holds_of _ process = false

-- the warning applies to an entry with this action, these runlevels and this process
abbrev pub holds : Act → List ℕ → List ℕ → Warning → Bool
holds action levels process warning.Runlevel =
    (needs_process action || same_act action act.Initdefault)
    && (not (ignores_levels action) && has_idle action levels)
holds action levels process warning.IgnoredLevels = ignores_levels action && not (is_empty levels)
holds action levels process warning.NoLevel =
    needs_process action && (not (ignores_levels action) && (not (is_ondemand action) && counts_none action levels))
holds action levels process warning.NoLetter = is_ondemand action && counts_none action levels
holds action levels process warning.Boot = same_act action act.Boot
holds action levels process warning.SignalOnly = same_act action act.Ctrlaltdel || same_act action act.Kbrequest
holds action levels process kind = holds_of kind (run_by action process)

-- the warnings that depend only on the line, in the order of the output
abbrev pub all_warnings : List Warning
all_warnings =
    warning.Runlevel ∷ warning.IgnoredLevels ∷ warning.NoLevel ∷ warning.NoLetter ∷ warning.Boot
    ∷ warning.SignalOnly ∷ warning.Return ∷ warning.At ∷ warning.ShellWord ∷ warning.Assignment ∷ warning.Chain
    ∷ warning.Pipe ∷ warning.Background ∷ warning.Unclosed ∷ warning.Comment ∷ warning.Early ∷ []

-- the warnings that apply to an entry with this action and these fields
abbrev pub warnings_by : Act → FieldBytes → List Warning
warnings_by action f = filter (holds action f.levels f.process) all_warnings

-- the warnings about an entry with these fields; none if its action is unknown
abbrev pub warnings_with : Option Act → FieldBytes → List Warning
warnings_with None f = []
warnings_with (Some action) f = warnings_by action f

-- the warnings about a line with these fields; none if the line has too few fields
abbrev pub warnings_at : Option FieldBytes → List Warning
warnings_at None = []
warnings_at (Some f) = warnings_with (act_read f.action) f

-- the text begins with a byte order mark (UTF-8), which some editors write
abbrev pub begins_marked : List ℕ → Bool
begins_marked line = starts_with (λ a b. a == b) line (239 ∷ 187 ∷ 191 ∷ [])

-- the warnings about a line: only one if it begins with a byte order mark; none if it is empty or a comment
abbrev pub warnings_of_line : List ℕ → List Warning
warnings_of_line line =
    let text = skip_blanks line in
    if begins_marked line then warning.Marked ∷ []
    else if is_ignored text then [] else warnings_at (fields_of text)

-- the warning for the line with this number in the file with this number
abbrev pub at_line : ℕ → ℕ → Warning → LineWarning
at_line part line kind = record { part = part; line = line; kind = kind }

-- the warnings about the lines of a text; lines are numbered from `number`
abbrev pub warnings_of_lines : ℕ → ℕ → List (List ℕ) → List LineWarning
warnings_of_lines part number [] = []
warnings_of_lines part number (line ∷ lines) =
    map (at_line part number) (warnings_of_line line) ++ warnings_of_lines part (number + 1) lines

-- the warnings about several texts; texts are numbered from `part`
abbrev pub warnings_of_texts : ℕ → List (List ℕ) → List LineWarning
warnings_of_texts part [] = []
warnings_of_texts part (text ∷ texts) =
    warnings_of_lines part 1 (lines_of text) ++ warnings_of_texts (part + 1) texts

-- the warnings about the files of an inittab
abbrev pub warnings_of : List (List ℕ) → List LineWarning
warnings_of texts = warnings_of_texts 0 texts
