-- The byte of a one-byte argument, and the message printed if memory runs out.
use Rattle.std.specs.Prelude.{ℕ, List, [], ◌∷◌, ◌++◌, codes, Option, Some, None}

-- the only byte of a text; none if the text does not have exactly one byte
abbrev pub only_byte : List ℕ → Option ℕ
only_byte [] = None
only_byte (byte ∷ []) = Some byte
only_byte (first ∷ second ∷ others) = None

-- the message printed if memory runs out before anything is written: the program's name, the fault, and what to do
unfoldable pub no_memory_text : List ℕ → List ℕ
no_memory_text name = name ++ codes ": out of memory: nothing was written; free some memory and try again\n"
