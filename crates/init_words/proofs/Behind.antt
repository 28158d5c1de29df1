-- Texts that are extended step by step are the old text followed by all the pieces.
use Rattle.std.proofs.Common.{◌≡◌, ap, ◌∙◌, ℕ, List, ◌++◌}
use Rattle.std.proofs.lemmas.List.{append_assoc}

pub one_more : (text new line rest all : List ℕ) → new ≡ text ++ line → text ++ (line ++ rest) ≡ all → new ++ rest ≡ all
one_more text new line rest all is so = ap (λ t. t ++ rest) is ∙ append_assoc text line rest ∙ so

pub two_more : (text first second one two : List ℕ) → one ≡ text ++ first → two ≡ one ++ second
    → two ≡ text ++ (first ++ second)
two_more text first second one two is so = so ∙ ap (λ t. t ++ second) is ∙ append_assoc text first second

pub three_more : (text first second third one two three : List ℕ) → one ≡ text ++ first → two ≡ one ++ second
    → three ≡ two ++ third → three ≡ text ++ (first ++ (second ++ third))
three_more text first second third one two three is so then =
    two_more text first (second ++ third) one three is (two_more one second third two three so then)

pub four_more : (text first second third fourth one two three four : List ℕ) → one ≡ text ++ first → two ≡ one ++ second
    → three ≡ two ++ third → four ≡ three ++ fourth → four ≡ text ++ (first ++ (second ++ (third ++ fourth)))
four_more text first second third fourth one two three four is so then last =
    two_more text first (second ++ (third ++ fourth)) one four is
    (three_more one second third fourth two three four so then last)
