-- The parts of an entry that come from the fields of a line (inittab(5)).
use Rattle.std.specs.Prelude.{ℕ, not, if◌then◌else◌, List, [], ◌∷◌, ◌++◌, filter, Option, Some, None}
use Rattle.std.specs.List.{filter_map}
use Rattle.init_words.specs.declared.entries.Entry.{Entry}
use Rattle.init_words.specs.declared.actions.Act.{Act}
use Rattle.init_words.specs.declared.levels.Mark.{Mark}
use Rattle.init_words.specs.Actions.{ignores_levels, has_process, default_levels}
use Rattle.init_words.specs.Levels.{mark_read, same_mark, names}
use Rattle.inittab_text.specs.Lines.{FieldBytes}

-- the runlevels of an entry, as characters: its runlevels field, or the default of its action if the field is empty
abbrev pub levels_meant : Act → List ℕ → List ℕ
levels_meant act [] = default_levels act
levels_meant act (b ∷ field) = b ∷ field

-- the marks without repeats, each at its first position
abbrev pub without_repeats : List Mark → List Mark
without_repeats [] = []
without_repeats (mark ∷ marks) = mark ∷ filter (λ other. not (same_mark mark other)) (without_repeats marks)

-- the marks for the characters of a field, in upper or lower case, without repeats; other characters are ignored
abbrev pub marks_of : List ℕ → List Mark
marks_of field = without_repeats (filter_map mark_read field)

-- the marks with another one appended, unless it is already present
abbrev pub with_mark : List Mark → Option Mark → List Mark
with_mark marks None = marks
with_mark marks (Some mark) = if names mark marks then marks else marks ++ mark ∷ []

-- the marks for the runlevels field of an entry; none if the action ignores the field
abbrev pub levels_kept : Act → List ℕ → List Mark
levels_kept act field = if ignores_levels act then [] else marks_of (levels_meant act field)

-- the process field as written; empty if the action has no process
abbrev pub process_kept : Act → List ℕ → List ℕ
process_kept act field = if has_process act then field else []

-- the entry that a line with this action and these fields describes
abbrev pub kept_of : Act → FieldBytes → Entry
kept_of act f = record {
  id = f.id;
  levels = record { items = levels_kept act f.levels };
  act = act;
  process = record { items = process_kept act f.process };
}
