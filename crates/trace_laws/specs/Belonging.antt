-- The children that belong to a level.
use Rattle.std.specs.Prelude.{Bool, List, Some}
use Rattle.trace_laws.specs.Words.{Level, Run, entry_of, Event, table_of, Child, may_live}

-- the child belongs to an entry of the level: its id is in the table with the same action as at the child's birth, and
-- the children of that entry may live in the level
abbrev pub belongs : Level → List Event → Child → Bool
belongs level past child = may_live (entry_of child.id (table_of past)) child.act (Some (Run level))
