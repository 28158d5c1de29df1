-- The output so far, as far as it is known.
use Rattle.std.specs.Prelude.{◌≡◌, Bool, true, List, [], ◌++◌, Option, Some, None, ⊤}
use Rattle.initview_lines.specs.declared.lines.Line.{Line}

-- the lines written, in order, if they are known; whether the reader of the output is gone; and whether times are local
pub record KnownOutput : Type 0 where
  pub lines : Option (List Line)
  pub unread : Bool
  pub local : Bool

-- these lines have been appended, if the output is known
abbrev pub AppendsLines : Option (List Line) → Option (List Line) → List Line → Type 0
AppendsLines None new lines = ⊤
AppendsLines (Some before) None lines = ⊥
AppendsLines (Some before) (Some after) lines = after ≡ before ++ lines

-- these lines have been appended, and the choice of local times is unchanged
abbrev pub WritesLines : KnownOutput → KnownOutput → List Line → Type 0
WritesLines old new lines = (new.local ≡ old.local) × AppendsLines old.lines new.lines lines

-- no line has been appended
abbrev pub WritesNothing : KnownOutput → KnownOutput → Type 0
WritesNothing old new = WritesLines old new []

-- a prefix of these lines, possibly all of them, has been appended
abbrev pub WritesLinePrefix : KnownOutput → KnownOutput → List Line → Type 0
WritesLinePrefix old new lines = (front : List Line) × (rest : List Line) × (front ++ rest ≡ lines)
    × WritesLines old new front

-- the output after the change to local times
abbrev pub with_local_times : KnownOutput → KnownOutput
with_local_times old = record { lines = old.lines; unread = old.unread; local = true }
