-- The command line that a table of options and arguments defines in clap's terms, and the values that arguments assign
-- to the rows of the table. `line_of` and `bare_line` are opaque, because a goal in which they unfold contains the
-- whole parser.
use Rattle.std.specs.Prelude.{◌≡◌, ℕ, Bool, true, false, List, [], ◌∷◌, ◌++◌, ◌==◌, if◌then◌else◌, codes, drop, length}
use Rattle.std.specs.Prelude.{map, Option, Some, None, unwrap_or}
use Rattle.std.specs.Borrow.{Bor}
use Rattle.std.specs.List.{starts_with}
use Rattle.std.specs.Str.{bytes_eq}
use Rattle.clap.specs.declared.builder.action.ArgAction.TheVariants.{Append, SetTrue}
use Rattle.clap.specs.declared.builder.command.Command.{Command, out-Command}
use Rattle.clap.specs.Words.{App, Row, Rule, Text, app_of, fault_of, first_of, matches_of, new_app, new_rule, with_rule}

-- a row of a table: the name of an option or argument, the placeholder for its value in the usage, and its default
abbrev pub Line : Type 0
Line = Text × Text × Text

abbrev pub text_of : Bor Text × Bor Text × Bor Text → Line
text_of row = (row.0.now, row.1.now, row.2.now)

abbrev pub texts_of : List (Bor Text × Bor Text × Bor Text) → List Line
texts_of = map text_of

-- a text constant
abbrev pub Written : Type 0
Written = record { now : Text }

-- the table of rows of text constants
abbrev pub written : List (Written × Written × Written) → List Line
written = map (λ row. (row.0.now, row.1.now, row.2.now))

-- the long option name `NAME`, if the name has the form `--NAME`
abbrev pub long_of : Text → Option Text
long_of name = if starts_with (λ a b. a == b) name (codes "--") then Some (drop 2 name) else None

-- the option character `C`, if the name has the form `-C`
abbrev pub letter_of : Text → Option ℕ
letter_of (dash ∷ letter ∷ []) = if dash == 45 then Some letter else None
letter_of _ = None

-- the rule for an option: a flag if the placeholder is empty, otherwise an option with a value, which has a default
-- unless the default is empty
abbrev pub taking : Text → Text → Rule → Rule
taking value default rule =
    if length value == 0 then record rule { action = Some SetTrue }
    else if length default == 0 then record rule { value_names = 1 }
    else record rule { value_names = 1; defaults = default ∷ [] }

-- the rule for a positional argument: optional for `?`, one or more for `..`, otherwise required
abbrev pub standing : Text → Rule → Rule
standing count rule =
    if bytes_eq count (codes "?") then rule
    else if bytes_eq count (codes "..") then record rule { required = true; action = Some Append }
    else record rule { required = true }

-- the rule for a row: if it has a long name or a character, an option, otherwise a positional argument
abbrev pub rule_by : Option Text → Option ℕ → Line → Rule
rule_by (Some long) letter row = taking row.1 row.2 (record (new_rule row.0) { long = Some long })
rule_by None (Some letter) row = taking row.1 row.2 (record (new_rule row.0) { short = Some letter })
rule_by None None row = standing row.1 (new_rule row.0)

-- the rule for a row of the table
abbrev pub row_rule : Line → Rule
row_rule row = rule_by (long_of row.0) (letter_of row.0) row

-- a command line with these rules added in order
abbrev pub with_rules : App → List Rule → App
with_rules app [] = app
with_rules app (rule ∷ rules) = with_rules (with_rule app rule) rules

-- a command line without arguments: it expects no program name before the arguments, and the last one wins if an option
-- is repeated
unfoldable pub bare_line : Text → App
bare_line name =
    let named = new_app name in
    record named { top = record named.top { no_binary_name = true; args_override_self = true } }

-- the command line that a table defines
unfoldable pub line_of : Text → List Line → App
line_of name table = with_rules (bare_line name) (map row_rule table)

-- `new` is `old` with these rules added after its own
pub record AddsAll (old : Command) (rules : List Rule) (new : Command) : Type 0 where
  pub whole : app_of new ≡ with_rules (app_of old) rules
  pub local : (out-Command new).has_globals ≡ (out-Command old).has_globals

-- the command has this command line, and no arguments that its subcommands inherit
abbrev pub IsLine : App → Command → Type 0
IsLine app made = (app_of made ≡ app) × ((out-Command made).has_globals ≡ false)

-- the values that the arguments assign to the rows of a command line; none if clap finds a fault in the arguments
abbrev pub given_by : App → List Text → Option (List Row)
given_by line words = if length (fault_of line words) == 0 then Some (matches_of line words) else None

-- the value given for a row, or its default, or the empty text
abbrev pub value_said : Text → List Row → Text
value_said id rows = unwrap_or (first_of id rows) []

-- the flag is set
abbrev pub is_set : Text → List Row → Bool
is_set id rows = bytes_eq (value_said id rows) (codes "true")

-- the reason for rejecting the value of an option
abbrev pub refusal_text : Text → Text → Text → Text
refusal_text id value why = id ++ codes " " ++ value ++ codes ": " ++ why

-- the only argument is `--version`
abbrev pub asks_version : List Text → Bool
asks_version [] = false
asks_version (word ∷ []) = bytes_eq word (codes "--version")
asks_version (word ∷ second ∷ others) = false
