-- Tables: lists of entries, with lookup by id (inittab(5)).
use Rattle.std.specs.Prelude.{ℕ, Bool, true, not, ◌&&◌, if◌then◌else◌, List, [], ◌∷◌, map, find, Option, Some, None}
use Rattle.std.specs.List.{list_any}
use Rattle.std.specs.Option.{option_map, option_or}
use Rattle.init_words.specs.declared.entries.Entry.{Entry}
use Rattle.init_words.specs.declared.actions.Act.{Act}
use Rattle.init_words.specs.declared.actions.Act.TheVariants.{Initdefault}
use Rattle.init_words.specs.declared.levels.Level.{Level}
use Rattle.init_words.specs.declared.levels.Mark.{Mark}
use Rattle.init_words.specs.declared.levels.Mark.TheVariants.{At, OnCall}
use Rattle.init_words.specs.Actions.{same_act}
use Rattle.init_words.specs.Ids.{same_id}

-- the ids of the entries, in order
abbrev pub ids_of : List Entry → List (List ℕ)
ids_of table = map (λ (e : Entry). e.id) table

-- the entry has this id
abbrev pub has_id : List ℕ → Entry → Bool
has_id id e = same_id id e.id

-- the first entry with this id
abbrev pub entry_of : List ℕ → List Entry → Option Entry
entry_of id table = find (has_id id) table

-- the action of the first entry with this id
abbrev pub act_of : List ℕ → List Entry → Option Act
act_of id table = option_map (λ (e : Entry). e.act) (entry_of id table)

-- no id occurs twice
abbrev pub is_distinct : List Entry → Bool
is_distinct [] = true
is_distinct (e ∷ es) = not (list_any (has_id e.id) es) && is_distinct es

-- the first runlevel among the marks
abbrev pub first_level : List Mark → Option Level
first_level [] = None
first_level (At level ∷ marks) = Some level
first_level (OnCall letter ∷ marks) = first_level marks

-- the default runlevel that an entry specifies: the first runlevel of an initdefault entry
abbrev pub default_of : Entry → Option Level
default_of e = if same_act e.act Initdefault then first_level e.levels.items else None

-- the default runlevel of a table: the one specified by the first entry that specifies one
abbrev pub default_level_of : List Entry → Option Level
default_level_of [] = None
default_level_of (e ∷ table) = option_or (default_of e) (default_level_of table)
