-- The program that a line of an inittab starts (inittab(5)).
use Rattle.std.specs.Prelude.{ℕ, Bool, true, false, ◌||◌, if◌then◌else◌, List, [], Option, Some, None}
use Rattle.std.specs.List.{list_any}
use Rattle.text_lines.specs.Lines.{skip_blanks}
use Rattle.init_words.specs.declared.actions.Act.{Act}
use Rattle.init_words.specs.Actions.{act_read}
use Rattle.inittab_text.specs.Lines.{FieldBytes, fields_of, is_ignored}
use Rattle.inittab_lint.specs.declared.traps.LineWarning.{LineWarning}
use Rattle.inittab_lint.specs.declared.traps.Warning.{Warning}
use Rattle.inittab_lint.specs.declared.traps.Warning.TheVariants as warning
use Rattle.inittab_lint.specs.Shell.{begins_with, first_word, is_assigned, is_shell_word, is_special}
use Rattle.inittab_lint.specs.Warnings.{run_by}

-- the word is not just the name of a program: it has a character that the shell interprets, it has a meaning to the
-- shell, it is an assignment, or it begins with @
abbrev pub is_read : List ℕ → Bool
is_read word = list_any is_special word || is_shell_word word || is_assigned word || begins_with 64 word

-- the word if it is just the name of a program, otherwise empty
abbrev pub named_by : List ℕ → List ℕ
named_by word = if is_read word then [] else word

-- the program of an entry, if its action is known and needs a process, otherwise empty
abbrev pub program_with : Option Act → FieldBytes → List ℕ
program_with None f = []
program_with (Some action) f = named_by (first_word (run_by action f.process))

-- the program of a line with these fields; empty if the line has too few fields
abbrev pub program_at : Option FieldBytes → List ℕ
program_at None = []
program_at (Some f) = program_with (act_read f.action) f

-- the program that a line starts; empty if the line is empty or a comment
abbrev pub program_of : List ℕ → List ℕ
program_of line =
    let text = skip_blanks line in
    if is_ignored text then [] else program_at (fields_of text)

-- the warning is that the program was not found, which depends on the file system
abbrev pub is_missing_program : Warning → Bool
is_missing_program warning.Missing = true
is_missing_program _ = false

abbrev pub is_missing : LineWarning → Bool
is_missing found = is_missing_program found.kind
