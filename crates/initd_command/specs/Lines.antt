-- The lines of a text, as they are shown in reports.
use Rattle.std.specs.Prelude.{ℕ, ◌-◌, if◌then◌else◌, List, [], codes, nat_eq}
use Rattle.std.specs.List.{starts_with}
use Rattle.std.specs.Option.{option_map_or}
use Rattle.text_lines.specs.Lines.{after_lines, cut}

-- the text before the first newline; all of it if there is none
abbrev pub front_line : List ℕ → List ℕ
front_line text = option_map_or (λ parts. parts.0) (cut 10 text) text

-- the line with this number, counted from 1; empty if there is none
abbrev pub line_at : ℕ → List ℕ → List ℕ
line_at number text = option_map_or front_line (after_lines (number - 1) text) []

-- a script line as it is shown in reports; for a line with a table, that is only the first word
abbrev pub line_told : List ℕ → List ℕ
line_told line = if starts_with nat_eq line (codes "use ") then codes "use" else line
