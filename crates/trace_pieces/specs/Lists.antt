-- The list of a trace's pieces (`TRACE.0.pieces`, init-trace(5)): the text of each of its lines, and the pieces of the
-- last run that the list describes.
use Rattle.std.specs.Prelude.{◌≡◌, ℕ, Bool, true, false, ◌&&◌, if◌then◌else◌, nat_lt, nat_le, min, ◌^◌, ◌+◌, ◌-◌}
use Rattle.std.specs.Prelude.{List, [], ◌∷◌, ◌++◌, length, map, not, codes, decimal, Option, Some, None}
use Rattle.std.specs.Prelude.{option_and_then, ◌==◌}
use Rattle.std.specs.List.{list_any}
use Rattle.std.specs.Str.{bytes_eq}
use Rattle.text_lines.specs.Lines.{cut, lines_of}
use Rattle.text_lines.specs.Numbers.{number_read}
use Rattle.trace_pieces.specs.declared.lists.ListLine.{ListLine}
use Rattle.trace_pieces.specs.declared.lists.ListLine.TheVariants.{Begins, Begun, Gone, Taken}
use Rattle.trace_pieces.specs.declared.lists.ListLine.TheVariants.{Piece as Away}
use Rattle.trace_pieces.specs.declared.lists.Piece.{Piece}

-- A line of the list, with its newline. The keyword comes last, so that no line is a prefix of another one.
abbrev pub line_text : ListLine → List ℕ
line_text (Begins first) = decimal first ++ codes " begins\n"
line_text (Begun first) = decimal first ++ codes " begun\n"
line_text (Away number length) = decimal number ++ (codes " " ++ (decimal length ++ codes " piece\n"))
line_text (Gone length) = decimal length ++ codes " gone\n"
line_text (Taken number) = decimal number ++ codes " taken\n"

-- a number in strict decimal form, below 2^64
abbrev pub read : List ℕ → Option ℕ
read text = number_read (2 ^ 64) text

-- the line for a piece with this number, if the words after the number are a length and `piece`
abbrev pub piece_line : ℕ → List ℕ × List ℕ → Option ListLine
piece_line number words =
    if bytes_eq words.1 (codes "piece")
    then option_and_then (λ length. Some (Away number length)) (read words.0)
    else None

-- the line that consists of this number and these words; none if that is not a valid line
abbrev pub line_after : ℕ → List ℕ → Option ListLine
line_after number words =
    if bytes_eq words (codes "begins") then Some (Begins number)
    else if bytes_eq words (codes "begun") then Some (Begun number)
    else if bytes_eq words (codes "gone") then Some (Gone number)
    else if bytes_eq words (codes "taken") then Some (Taken number)
    else option_and_then (piece_line number) (cut 32 words)

-- the list line that a text without a newline represents; none if the text is not a valid line
abbrev pub line_at : List ℕ → Option ListLine
line_at line =
    option_and_then (λ parts. option_and_then (λ number. line_after number parts.1) (read parts.0)) (cut 32 line)

-- The last run according to the list: the lowest number that its next piece can have, unless a user assigned a number
-- by renaming files; the pieces that still exist, oldest first; whether older ones were removed; and whether a later
-- run announced that it would truncate the trace's file.
pub record PieceList : Type 0 where
  pub next : Option ℕ
  pub pieces : List Piece
  pub lacks_front : Bool
  pub is_ending : Bool

-- the empty list
abbrev pub no_line : PieceList
no_line = record { next = None; pieces = []; lacks_front = false; is_ending = false }

-- the next number is known and is at most this one
abbrev pub rises_to : Option ℕ → ℕ → Bool
rises_to None number = false
rises_to (Some next) number = nat_le next number

-- the next number, but at most 2^64 - 1
abbrev pub number_behind : ℕ → ℕ
number_behind number = min (number + 1) (2 ^ 64 - 1)

-- there is a piece with this number
abbrev pub has_number : List Piece → ℕ → Bool
has_number pieces number = list_any (λ piece. piece.number == number) pieces

-- the piece, with its number raised by one if it is at least `number`
abbrev pub moved_up : ℕ → Piece → Piece
moved_up number piece =
    if nat_lt piece.number number then piece else record piece { number = number_behind piece.number }

-- the pieces after a number was reused: the piece that had the number and all later ones must have been renamed to the
-- next number
abbrev pub all_moved_up : ℕ → List Piece → List Piece
all_moved_up number pieces = if has_number pieces number then map (moved_up number) pieces else pieces

-- The list before a piece with this number is added. If the number is below the list's next number, a user assigned it
-- by renaming files: later pieces have moved up by one, and the next number is no longer known.
abbrev pub room_for : PieceList → ℕ → PieceList
room_for list number =
    if rises_to list.next number
    then record list { next = Some (number_behind number) }
    else record list { next = None; pieces = all_moved_up number list.pieces }

-- the list with a piece of this number and length added
abbrev pub with_piece : PieceList → ℕ → ℕ → PieceList
with_piece list number length =
    record list { pieces = list.pieces ++ (record { number = number; length = Some length } ∷ []) }

-- the pieces without the oldest one
abbrev pub behind_oldest : List Piece → List Piece
behind_oldest [] = []
behind_oldest (piece ∷ pieces) = pieces

-- the list without its oldest piece, and with the mark that older pieces were removed
abbrev pub without_oldest : PieceList → PieceList
without_oldest list = record list { pieces = behind_oldest list.pieces; lacks_front = true }

-- the list after one more line; a file that was renamed to a name that no piece can have counts as a piece with number
-- 0
abbrev pub with_line : PieceList → ListLine → PieceList
with_line list (Begins first) = record list { is_ending = true }
with_line list (Begun first) = record { next = Some first; pieces = []; lacks_front = false; is_ending = false }
with_line list (Away number length) = with_piece (room_for list number) number length
with_line list (Gone length) = with_piece (record list { next = None }) 0 length
with_line list (Taken number) = without_oldest list

-- the list after the line, if there is one, otherwise unchanged
abbrev pub with_found : PieceList → Option ListLine → PieceList
with_found list None = list
with_found list (Some line) = with_line list line

-- the list after one more line, given as text; the line is ignored if it is not valid
abbrev pub with_text : PieceList → List ℕ → PieceList
with_text list line = with_found list (line_at line)

-- the list after more lines, given as texts
abbrev pub with_lines : PieceList → List (List ℕ) → PieceList
with_lines list [] = list
with_lines list (line ∷ lines) = with_lines (with_text list line) lines

-- the list that a text describes
abbrev pub list_of : List ℕ → PieceList
list_of text = with_lines no_line (lines_of text)

-- the piece with the next number, if a file with that number was put away but is not in the list yet
abbrev pub unlisted : Option ℕ → Bool → List Piece
unlisted (Some number) true = record { number = number; length = None } ∷ []
unlisted _ _ = []

-- the pieces that precede the file at the trace's path; none if that file is empty and a later run announced that it
-- would truncate it
abbrev pub pieces_before : PieceList → Bool → Bool → List Piece
pieces_before list is_empty has_next =
    if list.is_ending && is_empty then [] else list.pieces ++ unlisted list.next has_next

-- pieces older than the listed ones were removed
abbrev pub lacks_front : PieceList → Bool → Bool
lacks_front list is_empty = list.lacks_front && not (list.is_ending && is_empty)

-- the oldest piece, if there is one
abbrev pub first_piece : List Piece → Option Piece
first_piece [] = None
first_piece (piece ∷ pieces) = Some piece

-- the oldest piece, if there are more pieces than this number
abbrev pub oldest_beyond : PieceList → ℕ → Option Piece
oldest_beyond list most = if nat_le (length list.pieces) most then None else first_piece list.pieces

-- the list gives this length for the file, or gives no length
abbrev pub is_length : Option ℕ → ℕ → Bool
is_length None length = true
is_length (Some listed) length = listed == length

-- according to the list, a file of this length can be all of the piece
abbrev pub is_whole : Piece → ℕ → Bool
is_whole piece length = is_length piece.length length

-- the list after more lines
abbrev pub with_all : PieceList → List ListLine → PieceList
with_all list [] = list
with_all list (line ∷ lines) = with_all (with_line list line) lines

-- the lines for files that init puts away, given their lengths, numbered from this number on
abbrev pub away_from : ℕ → List ℕ → List ListLine
away_from number [] = []
away_from number (length ∷ lengths) = Away number length ∷ away_from (number_behind number) lengths

-- the pieces for files with these lengths, numbered from this number on
abbrev pub numbered : ℕ → List ℕ → List Piece
numbered number [] = []
numbered number (length ∷ lengths) =
    record { number = number; length = Some length } ∷ numbered (number_behind number) lengths

-- the list describes a run with exactly these pieces, none of which was removed
abbrev pub IsOfRun : List Piece → PieceList → Type 0
IsOfRun pieces list = (list.pieces ≡ pieces) × (list.lacks_front ≡ false) × (list.is_ending ≡ false)

-- the list after init has removed this piece, if any: init writes a `taken` line and then removes the file
abbrev pub without_found : PieceList → Option Piece → PieceList
without_found list None = list
without_found list (Some piece) = with_line list (Taken piece.number)

-- the list after init has removed its oldest piece, if it has more pieces than this number
abbrev pub with_most : ℕ → PieceList → PieceList
with_most most list = without_found list (oldest_beyond list most)

-- the list after init has put away files with these lengths, numbered from this number on, and has removed the oldest
-- piece each time the list exceeded the limit
abbrev pub keeping : ℕ → PieceList → ℕ → List ℕ → PieceList
keeping most list number [] = list
keeping most list number (length ∷ lengths) =
    keeping most (with_most most (with_line list (Away number length))) (number_behind number) lengths

-- Of all pieces of a run, the list has the newest ones, up to the limit. It is marked as lacking older pieces exactly
-- if pieces were removed.
abbrev pub IsKept : ℕ → List Piece → PieceList → Type 0
IsKept most all list =
    (taken : List Piece) × (taken ++ list.pieces ≡ all) × (length list.pieces ≡ min most (length all))
    × (list.lacks_front ≡ nat_lt 0 (length taken)) × (list.is_ending ≡ false)
