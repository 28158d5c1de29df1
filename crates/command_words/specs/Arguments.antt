-- The command line that the description of a program defines in clap's terms. `described` is opaque, because a goal in
-- which it unfolds contains the whole parser.
use Rattle.std.specs.Prelude.{◌==◌, ◌∷◌, [], if◌then◌else◌, ℕ, List, length, map, Option, Some, None, true}
use Rattle.std.specs.Borrow.{Bor}
use Rattle.clap.specs.declared.builder.action.ArgAction.TheVariants.{Append, SetTrue}
use Rattle.clap.specs.Words.{App, Rule, Text, new_rule}
use Rattle.command_words.specs.declared.arguments.Form.{Form}
use Rattle.command_words.specs.declared.arguments.Form.TheVariants as form
use Rattle.command_words.specs.CommandLines.{Written, bare_line, letter_of, long_of, with_rules}

-- a row of a description: the name of an option or argument, its form, the name of its value, and its default
pub record Argument : Type 0 where
  pub name : Text
  pub form : Form
  pub value : Text
  pub default : Text

abbrev pub argument_of : Bor Text × Form × Bor Text × Bor Text × Bor Text → Argument
argument_of row = record { name = row.0.now; form = row.1; value = row.2.now; default = row.3.now }

abbrev pub arguments_of : List (Bor Text × Form × Bor Text × Bor Text × Bor Text) → List Argument
arguments_of = map argument_of

-- the rows of a constant
abbrev pub arguments : List (Written × Form × Written × Written × Written) → List Argument
arguments = map (λ row. record { name = row.0.now; form = row.1; value = row.2.now; default = row.3.now })

-- the rule of a name, with the long name or the character of an option
abbrev pub rule_named : Option Text → Option ℕ → Rule → Rule
rule_named (Some long) letter rule = record rule { long = Some long }
rule_named None (Some letter) rule = record rule { short = Some letter }
rule_named None None rule = rule

-- the rule of a name: an option for `--NAME` and `-C`, otherwise a positional argument
abbrev pub with_name : Text → Rule
with_name name = rule_named (long_of name) (letter_of name) (new_rule name)

-- the rule with a form; the name of the value and the default are those of an option with a value
abbrev pub with_form : Form → Text → Text → Rule → Rule
with_form form.Flag value default rule = record rule { action = Some SetTrue }
with_form form.Valued value default rule =
    if length default == 0 then record rule { value_names = 1 }
    else record rule { value_names = 1; defaults = default ∷ [] }
with_form form.Optional value default rule = rule
with_form form.Required value default rule = record rule { required = true }
with_form form.Repeated value default rule = record rule { required = true; action = Some Append }

-- the rule of a row
abbrev pub argument_rule : Argument → Rule
argument_rule row = with_form row.form row.value row.default (with_name row.name)

-- the command line of a description
unfoldable pub described : Text → List Argument → App
described name table = with_rules (bare_line name) (map argument_rule table)
