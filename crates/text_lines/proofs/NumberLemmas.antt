-- A text that is not UTF-8, or that does not parse, is not a number.
use Rattle.text_lines.proofs.CommonWords.{Bool, true, false, ◌≡◌, ◌&&◌, ◌<◌, ◌^◌, ℕ, List, [], ◌∷◌, arith, Some, None}
use Rattle.text_lines.proofs.CommonWords.{Result, Ok, Err, refl, ap, ◌∙◌, cond, nat_lt, decimal, Bor, result_ok}
use Rattle.text_lines.proofs.CommonWords.{false≢true, ltb-true, IsUtf8-from_ascii, bytes_eq, has_byte}
use Rattle.std.proofs.Common.{is_ok, MatchResult, IsUtf8}
use Rattle.std.specs.Str.Parse.{AllDigits, ParsesUnsigned, without_leading_plus}
use Rattle.std.proofs.lemmas.Fmt.{parse-decimal, IsAscii-decimal, decimal_is_IsNumeral}
use Rattle.std.proofs.lemmas.Slice.Eq.{bytes_eq-Decides}
use Rattle.text_lines.specs.Numbers.{number_read}

-- a text that is the decimal form of no `u64` is not read as a number
pub none_read : (text : List ℕ) → ((n : ℕ) → n < 2 ^ 64 → text ≡ decimal n → false ≡ true)
    → None ≡ number_read (2 ^ 64) text
none_read text never = grind (arith, ltb-true, bytes_eq-Decides)

pub no_text : {S E : Type 0} (text : List ℕ) (A : S → Type 0) (B : E → Type 0) (r : Result S E) → MatchResult r
    (λ s. A s × IsUtf8 text) (λ e. (¬ IsUtf8 text) × B e) → false ≡ is_ok r → None ≡ number_read (2 ^ 64) text
no_text text A B (Ok s) m bad = absurd (false≢true bad)
no_text text A B (Err e) m bad =
    none_read text (λ n small is. absurd (m.0 (rw is (IsUtf8-from_ascii (decimal n) (IsAscii-decimal n small)))))

pub no_number : {E : Type 0} (text : List ℕ) (r : Result ℕ E) → ParsesUnsigned 64 10 text r → false ≡ is_ok r
    → None ≡ number_read (2 ^ 64) text
no_number {E} text r parses bad =
    none_read text (λ n small is. bad ∙ ap is_ok (parse-decimal 64 n text r small small is parses))

pub same_text : {E : Type 0} (text : List ℕ) (U : Type 0) (B : E → Type 0) (r : Result (Bor (List ℕ)) E)
    (s : Bor (List ℕ)) → MatchResult r (λ s. (s.now ≡ text) × U) B → Some s ≡ result_ok r → s.now ≡ text
same_text text U B r s m is = grind arith

-- the decimal form of a number below the limit is read as that number
plus_none : (ds : List ℕ) → AllDigits 10 ds → without_leading_plus ds ≡ ds
plus_none ds digits = grind arith

pub number_read-decimal : (limit n : ℕ) → n < 2 ^ 64 → nat_lt n limit ≡ true → number_read limit (decimal n) ≡ Some n
number_read-decimal limit n small within =
    let numeral = decimal_is_IsNumeral n small in
    let plain = plus_none (decimal n) numeral.0.1 in
    rw (plain, numeral.1, within, (bytes_eq-Decides (decimal n) (decimal n)).1 refl) refl

read_by : (limit n m : ℕ) (text : List ℕ) (b c : Bool) → nat_lt n limit ≡ b → bytes_eq (decimal n) text ≡ c
    → cond (b && c) (Some n) None ≡ Some m → (decimal m ≡ text) × (nat_lt m limit ≡ true)
read_by limit n m text true true below same is = grind (arith, bytes_eq-Decides)
read_by limit n m text true false below same is = absurd (cc)
read_by limit n m text false c below same is = absurd (cc)

-- a number that was read is below the limit, and the text is its decimal form
pub decimal-number_read : (limit : ℕ) (text : List ℕ) (n : ℕ) → number_read limit text ≡ Some n
    → (decimal n ≡ text) × (nat_lt n limit ≡ true)
decimal-number_read limit text n is = grind (arith, read_by)

-- a byte below the digits does not occur in a decimal form
lacks_digits : (byte : ℕ) (ds : List ℕ) → byte < 48 → AllDigits 10 ds → has_byte byte ds ≡ false
lacks_digits byte [] low digits = grind arith
lacks_digits byte (c ∷ ds) low digits = grind (arith, lacks_digits byte ds)

pub decimal-lacks : (byte n : ℕ) → byte < 48 → n < 2 ^ 64 → has_byte byte (decimal n) ≡ false
decimal-lacks byte n low small = lacks_digits byte (decimal n) low (decimal_is_IsNumeral n small).0.1
