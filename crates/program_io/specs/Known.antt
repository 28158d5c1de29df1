-- Which texts are known to be at which paths.
use Rattle.std.specs.Prelude.{◌≡◌, ℕ, if◌then◌else◌, List, [], ◌∷◌, Option, Some, None, IfSome}
use Rattle.std.specs.Str.{bytes_eq}

-- a map from each path to the text there, if that text is known
abbrev pub KnownTexts : Type 0
KnownTexts = List ℕ → Option (List ℕ)

-- the text is the one known to be at the path; it may be any text if none is known
abbrev pub IsTextAt : KnownTexts → List ℕ → List ℕ → Type 0
IsTextAt text_at path text = IfSome (text_at path) (λ known. text ≡ known)

-- a text that is kept in memory, and its path
pub record Kept : Type 0 where
  pub path : List ℕ
  pub text : List ℕ

-- the record of a text and the path under which it is kept
abbrev pub kept_at : List ℕ → List ℕ → Kept
kept_at path text = record { path = path; text = text }

-- the first text that is kept under the path
abbrev pub text_in : List Kept → KnownTexts
text_in [] path = None
text_in (kept ∷ others) path = if bytes_eq kept.path path then Some kept.text else text_in others path
