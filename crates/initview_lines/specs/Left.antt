-- What is left after a run: the children that were born and not reaped, and the entries whose start is open.
use Rattle.std.specs.Prelude.{Bool, true, false, List, ◌++◌, filter, map, ℕ, Option, Some, None}
use Rattle.initview_lines.specs.CommonWords.{Entry, Event, Child, table_of, unreaped_children, Row, row_of}
use Rattle.init_words.specs.declared.orders.OrderKind.{OrderKind}
use Rattle.init_words.specs.declared.orders.OrderKind.TheVariants.{Start}
use Rattle.initview_lines.specs.declared.lines.Line.{Line}
use Rattle.initview_lines.specs.declared.lines.Line.TheVariants as line
use Rattle.initview_lines.specs.declared.lines.RowFormat.{RowFormat}

abbrev pub child_line : RowFormat → Child → Line
child_line shape child = line.Left shape child.id (Some child.number)

abbrev pub start_line : RowFormat → Entry → Line
start_line shape entry = line.Left shape entry.id None

-- there is no child, and a start is open
abbrev pub is_unanswered : Option ℕ → Option OrderKind → Bool
is_unanswered None (Some Start) = true
is_unanswered _ _ = false

-- a start of the id is open, and the id has no child
abbrev pub is_starting : Row → Bool
is_starting row = is_unanswered row.child row.order

-- a start of the entry is open, and the entry has no child
abbrev pub is_open : List Event → Entry → Bool
is_open past entry = is_starting (row_of entry.id past)

-- the lines for the unreaped children, youngest first, then for the open starts, in table order
abbrev pub left_in : RowFormat → List Event → List Line
left_in shape past =
    map (child_line shape) (unreaped_children past) ++ map (start_line shape) (filter (is_open past) (table_of past))
