use Rattle.std.proofs.Common.{rules, arith, ◌≡◌, ℕ, ◌<◌, ◌≤◌, Bool, true, false, List, length, Option, Some, None, refl}
use Rattle.std.proofs.Common.{sym}
use Rattle.std.specs.Prelude.{if◌then◌else◌, ◌&&◌, nat_le}
use Rattle.std.specs.List.{list_all}
use Rattle.std.specs.Char.{is_ascii_digit}
use Rattle.std.specs.Str.Parse.{digits_value}
use Rattle.std.proofs.lemmas.Bool.Decides.{nat_tests}
use Rattle.std.proofs.lemmas.Str.Parse.{IsNumeralModel, numerals_by_value, parse_gives}
use Rattle.telinit_command.specs.CommandLine.{is_numeral}
use Rattle.telinit_command.proofs.command.read_grace.Goals as goal

digits : IsNumeralModel (λ ds. list_all is_ascii_digit ds ≡ true) (digits_value 10)
digits = numerals_by_value _ (search rules)

refused : (test : Bool) (secs : ℕ) → (test ≡ true → ⊥) → ◌≡◌ {A = Option ℕ} None (if test then Some secs else None)
refused true secs never = absurd (never refl)
refused false secs never = refl

some_digit : (word : List ℕ) (secs : ℕ) → (is_numeral word && nat_le secs 3600) ≡ true → 0 < length word
some_digit word secs both = grind (arith, nat_tests)

few_seconds : (numeral : Bool) (secs : ℕ) → (numeral && nat_le secs 3600) ≡ true → secs ≤ 3600
few_seconds numeral secs both = grind (arith, nat_tests)

pub returns-in_default : goal.returns-in_default
returns-in_default c =
    let word = c.args.word.now in
    let secs = digits_value 10 word in
    refused (is_numeral word && nat_le secs 3600) secs (λ both.
    let few : secs ≤ 3600 = few_seconds (is_numeral word) secs both in
    c.in_default.not-Ok secs (parse_gives digits 16 word c.parse.result c.parse.ensures.value.0
    (sym c.if-not-is_all_digits.ensures) (some_digit word secs both) (omega arith)))
