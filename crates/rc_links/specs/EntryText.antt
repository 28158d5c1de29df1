-- An entry of a folder, as lists.
use Rattle.std.specs.Prelude.{ℕ, List}

-- an entry's name and its target, which is empty if the entry is not a symbolic link
pub record EntryText : Type 0 where
  pub name : List ℕ
  pub leads : List ℕ
