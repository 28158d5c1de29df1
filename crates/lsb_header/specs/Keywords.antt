-- The keywords of a header (LSB Core 5.0).
use Rattle.std.specs.Prelude.{ℕ, Bool, ◌==◌, List, [], ◌∷◌, find, Option, codes}
use Rattle.std.specs.Str.{str_eq_ignore_ascii_case}
use Rattle.lsb_header.specs.declared.keywords.Keyword.{Keyword}
use Rattle.lsb_header.specs.declared.keywords.Keyword.TheVariants as keyword

-- a keyword as it is written
abbrev pub word_of : Keyword → List ℕ
word_of keyword.Provides = codes "Provides"
word_of keyword.RequiredStart = codes "Required-Start"
word_of keyword.RequiredStop = codes "Required-Stop"
word_of keyword.ShouldStart = codes "Should-Start"
word_of keyword.ShouldStop = codes "Should-Stop"
word_of keyword.DefaultStart = codes "Default-Start"
word_of keyword.DefaultStop = codes "Default-Stop"
word_of keyword.ShortDescription = codes "Short-Description"
word_of keyword.Description = codes "Description"

abbrev pub keywords : List Keyword
keywords =
    keyword.Provides ∷ keyword.RequiredStart ∷ keyword.RequiredStop ∷ keyword.ShouldStart ∷ keyword.ShouldStop
    ∷ keyword.DefaultStart ∷ keyword.DefaultStop ∷ keyword.ShortDescription ∷ keyword.Description ∷ []

-- the keyword that a word names, in any ASCII case
unfoldable pub keyword_read : List ℕ → Option Keyword
keyword_read word = find (λ k. str_eq_ignore_ascii_case (word_of k) word) keywords

-- a number for each keyword, by which they are compared
abbrev pub keyword_number : Keyword → ℕ
keyword_number keyword.Provides = 0
keyword_number keyword.RequiredStart = 1
keyword_number keyword.RequiredStop = 2
keyword_number keyword.ShouldStart = 3
keyword_number keyword.ShouldStop = 4
keyword_number keyword.DefaultStart = 5
keyword_number keyword.DefaultStop = 6
keyword_number keyword.ShortDescription = 7
keyword_number keyword.Description = 8

-- two keywords are the same
abbrev pub same_keyword : Keyword → Keyword → Bool
same_keyword k l = keyword_number k == keyword_number l
