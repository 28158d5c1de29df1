-- Numbers in strict decimal form.
use Rattle.std.specs.Prelude.{ℕ, ◌&&◌, if◌then◌else◌, nat_lt, List, decimal, Option, Some, None}
use Rattle.std.specs.Str.{bytes_eq}
use Rattle.std.specs.Str.Parse.{digits_value, without_leading_plus}

-- the number that the text is in decimal, without a sign or leading zeros, if the number is below the limit
abbrev pub number_read : ℕ → List ℕ → Option ℕ
number_read limit text =
    let number = digits_value 10 (without_leading_plus text) in
    if nat_lt number limit && bytes_eq (decimal number) text then Some number else None
