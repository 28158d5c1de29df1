-- The progress in reading a followed trace.
use Rattle.std.specs.Prelude.{◌≡◌, ◌≤◌, ℕ, ◌+◌, ◌*◌, ◌-◌, List, [], ◌++◌, length, Option, Some, None}
use Rattle.std.specs.Io.KnownBytes.{Consumes}
use Rattle.initview_command.specs.Words.{PIECE_LIMIT, PIECES_LIMIT, KnownOutput}
use Rattle.initview_lines.specs.declared.lines.Line.{Line}
use Rattle.initview_command.specs.declared.following.Reader.{Reader}
use Rattle.initview_command.specs.Following.{HasLines, HasWritten, IsAllOf, IsFor, Start}

-- the maximum number of bytes that are read before each line is written as soon as it is known
abbrev pub there_limit : ℕ
there_limit = PIECE_LIMIT * (PIECES_LIMIT + 1)

-- a text of at most `there_limit` bytes was read from the input, and the lines for it were written
abbrev pub HasFollowed : Start → Option (List ℕ) → Reader → Option (List ℕ) → KnownOutput → Type 0
HasFollowed start input reader remaining now =
    (text : List ℕ) × Consumes input remaining text × (length text ≤ there_limit) × HasWritten start reader text now

-- a text of at most `limit` bytes was read from the input, and these lines for it are kept: at least the last `count`
abbrev pub MayKeep : ℕ → ℕ → Option (List ℕ) → Reader → List Line → Option (List ℕ) → Type 0
MayKeep limit count input reader lines remaining =
    (text : List ℕ) × (hidden : List Line) × Consumes input remaining text × (length text ≤ limit)
    × IsFor (Some count) reader text × HasLines reader (hidden ++ lines) text
    × (length hidden ≤ length (hidden ++ lines) - count)

-- a text of at most `limit` bytes was read from the input, and exactly the last `count` lines for it are kept
abbrev pub HasKept : ℕ → ℕ → Option (List ℕ) → Reader → List Line → Option (List ℕ) → Type 0
HasKept limit count input reader lines remaining =
    (text : List ℕ) × (hidden : List Line) × Consumes input remaining text × (length text ≤ limit)
    × IsFor (Some count) reader text × HasLines reader (hidden ++ lines) text
    × (length hidden ≡ length (hidden ++ lines) - count)

-- the reader has read the first piece of the input, if there is one
abbrev pub FirstReader : Option Reader → Option (List ℕ) → Option (List ℕ) → List Line → Type 0
FirstReader None input remaining lines = IsAllOf input []
FirstReader (Some reader) input remaining lines = (count : ℕ) → MayKeep PIECE_LIMIT count input reader lines remaining
