-- The written form of entries, and the conditions that every entry of a table meets (inittab(5)).
use Rattle.std.specs.Prelude.{ℕ, Bool, true, false, not, ◌&&◌, nat_le, if◌then◌else◌, List, [], ◌∷◌, ◌++◌, ◌-◌, map}
use Rattle.std.specs.Prelude.{length, take, Option, Some, None, codes}
use Rattle.std.specs.List.{flat_map, list_all}
use Rattle.std.specs.Option.{option_and_then, option_map}
use Rattle.std.specs.Str.{bytes_eq}
use Rattle.inittab_text.specs.declared.tables.TheConstants.{ENTRY_LIMIT}
use Rattle.init_words.specs.declared.entries.TheConstants.{MARK_LIMIT}
use Rattle.init_words.specs.declared.entries.Entry.{Entry}
use Rattle.init_words.specs.declared.actions.Act.{Act}
use Rattle.init_words.specs.declared.levels.Mark.{Mark}
use Rattle.init_words.specs.Actions.{word_of, ignores_levels, has_process}
use Rattle.init_words.specs.Ids.{is_id}
use Rattle.init_words.specs.Levels.{mark_code, names}
use Rattle.text_lines.specs.Lines.{after_lines, has_byte}
use Rattle.inittab_text.specs.Checks.{is_too_long, is_missing, is_text}
use Rattle.inittab_text.specs.Tables.{is_distinct}
use Rattle.inittab_text.specs.Reading.{table_of_text}

-- the runlevels field as written: the characters of the marks; if there are none, "-", or nothing if the action ignores
-- the field
abbrev pub levels_written : Act → List Mark → List ℕ
levels_written act [] = if ignores_levels act then [] else codes "-"
levels_written act (mark ∷ marks) = map mark_code (mark ∷ marks)

-- the fields of an entry, id:runlevels:action:process
abbrev pub fields_written : Entry → List ℕ
fields_written e = e.id ++ 58 ∷ (levels_written e.act e.levels.items ++ 58 ∷ (word_of e.act ++ 58 ∷ e.process.items))

-- the line of an entry, with its newline
abbrev pub line_of : Entry → List ℕ
line_of e = fields_written e ++ 10 ∷ []

-- the written form of a table: one line per entry
abbrev pub text_of : List Entry → List ℕ
text_of table = flat_map line_of table

-- the table whose written form is this text, if any: the table read from the text, if writing it yields the same text
abbrev pub table_written : List ℕ → Option (List Entry)
table_written text = if bytes_eq (text_of (table_of_text text)) text then Some (table_of_text text) else None

-- the table whose written form is the next `count` lines, and the text after them
abbrev pub table_begun : ℕ → List ℕ → Option (List Entry × List ℕ)
table_begun count text =
    option_and_then
    (λ rest. option_map (λ table. (table, rest)) (table_written (take (length text - length rest) text)))
    (after_lines count text)

abbrev pub is_empty : {X : Type 0} → List X → Bool
is_empty [] = true
is_empty (x ∷ xs) = false

-- no mark occurs twice
abbrev pub has_no_repeat : List Mark → Bool
has_no_repeat [] = true
has_no_repeat (mark ∷ marks) = not (names mark marks) && has_no_repeat marks

-- the marks can be an entry's runlevels: at most MARK_LIMIT marks, each once, and none if the action ignores its
-- runlevels
abbrev pub is_levels : Act → List Mark → Bool
is_levels act marks =
    nat_le (length marks) MARK_LIMIT && has_no_repeat marks && (if ignores_levels act then is_empty marks else true)

-- the text can be the process of an entry with this action: UTF-8 without a newline that passes the checks of the
-- process field, and empty if the action has no process
abbrev pub is_process : Act → List ℕ → Bool
is_process act process =
    not (is_too_long act process) && not (is_missing act process) && is_text process && not (has_byte 10 process)
    && (if has_process act then true else is_empty process)

-- reading an inittab can produce the entry
unfoldable pub is_written : Entry → Bool
is_written e = is_id e.id && is_levels e.act e.levels.items && is_process e.act e.process.items

-- the entries are a table: at most ENTRY_LIMIT entries that reading an inittab can produce, with no id twice
abbrev pub is_table : List Entry → Bool
is_table table = nat_le (length table) ENTRY_LIMIT && is_distinct table && list_all is_written table
