-- The fields of a line (inittab(5)).
use Rattle.std.specs.Prelude.{ℕ, Bool, true, ◌==◌, List, [], ◌∷◌, Option}
use Rattle.std.specs.Option.{option_map, option_and_then}
use Rattle.text_lines.specs.Lines.{cut}
use Rattle.inittab_text.specs.declared.fields.Fields.{Fields}

-- the line is empty or a comment
abbrev pub is_ignored : List ℕ → Bool
is_ignored [] = true
is_ignored (b ∷ line) = b == 35

-- the four fields of a line, id:runlevels:action:process
pub record FieldBytes : Type 0 where
  pub id : List ℕ
  pub levels : List ℕ
  pub action : List ℕ
  pub process : List ℕ

-- the fields of a line, split at its first three colons; none if there are fewer
abbrev pub fields_of : List ℕ → Option FieldBytes
fields_of line =
    option_and_then (λ first. option_and_then (λ second. option_map
    (λ third. record { id = first.0; levels = second.0; action = third.0; process = third.1 })
    (cut 58 second.1)) (cut 58 first.1)) (cut 58 line)

-- the bytes of the fields
abbrev pub fields_at : Fields → FieldBytes
fields_at f = record { id = f.id.now; levels = f.levels.now; action = f.action.now; process = f.process.now }
