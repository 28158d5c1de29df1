-- The files from which a table is read (inittab(5)).
use Rattle.std.specs.Prelude.{ℕ, List, map}

-- the name of a file and its contents
pub record NamedText : Type 0 where
  pub name : List ℕ
  pub bytes : List ℕ

-- the contents of the files
abbrev pub texts_of : List NamedText → List (List ℕ)
texts_of parts = map (λ (part : NamedText). part.bytes) parts
