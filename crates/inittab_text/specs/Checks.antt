-- The nine checks of a line, in order (inittab(5)).
use Rattle.std.specs.Prelude.{ℕ, Bool, not, ◌&&◌, nat_lt, nat_le, if◌then◌else◌, List, length, Option, Some, None}
use Rattle.std.specs.Prelude.{is_some, Result, Ok, Err}
use Rattle.std.specs.List.{list_all}
use Rattle.std.specs.Str.{is_utf8}
use Rattle.inittab_text.specs.declared.tables.TheConstants.{ENTRY_LIMIT}
use Rattle.init_words.specs.declared.entries.TheConstants.{MARK_LIMIT, PROCESS_LIMIT}
use Rattle.init_words.specs.declared.entries.Entry.{Entry}
use Rattle.init_words.specs.declared.actions.Act.{Act}
use Rattle.init_words.specs.Ids.{is_id}
use Rattle.inittab_text.specs.declared.faults.LineKind.{LineKind}
use Rattle.inittab_text.specs.declared.faults.LineKind.TheVariants as fault
use Rattle.text_lines.specs.Lines.{has_byte, is_blank, skip_blanks}
use Rattle.init_words.specs.Actions.{act_read, has_process, needs_process}
use Rattle.init_words.specs.Entries.{without_plus}
use Rattle.inittab_text.specs.Lines.{FieldBytes, fields_of, is_ignored}
use Rattle.inittab_text.specs.Kept.{kept_of}
use Rattle.inittab_text.specs.Tables.{entry_of}

-- the process is too long, counting a leading '+'; the check does not apply to an action without a process
abbrev pub is_too_long : Act → List ℕ → Bool
is_too_long act process = has_process act && nat_lt PROCESS_LIMIT (length process)

-- the action needs a process, and the field has only blanks and tabs after its leading '+', if it has one
abbrev pub is_missing : Act → List ℕ → Bool
is_missing act process = needs_process act && list_all is_blank (without_plus process)

-- the line is UTF-8 without NUL bytes
abbrev pub is_text : List ℕ → Bool
is_text line = is_utf8 line && not (has_byte 0 line)

-- the result of the checks of the process and all later checks, for a line with this action that follows these entries
unfoldable pub checked_as : Act → List Entry → List ℕ → FieldBytes → Result (Option Entry) LineKind
checked_as act before line f =
    if is_too_long act f.process then Err fault.Length
    else if is_missing act f.process then Err fault.Empty
    else if not (is_text line) then Err fault.Text
    else if is_some (entry_of f.id before) then Err fault.Twice
    else if nat_le ENTRY_LIMIT (length before) then Err fault.Many
    else Ok (Some (kept_of act f))

-- the result of the check of the action and all later checks
abbrev pub checked_with : Option Act → List Entry → List ℕ → FieldBytes → Result (Option Entry) LineKind
checked_with None before line f = Err fault.Action
checked_with (Some act) before line f = checked_as act before line f

-- the result of all checks of a line, given its fields: the fault for the first check that fails, or else the entry
abbrev pub checked : List Entry → List ℕ → Option FieldBytes → Result (Option Entry) LineKind
checked before line None = Err fault.Fields
checked before line (Some f) =
    if not (is_id f.id) then Err fault.Id
    else if nat_lt MARK_LIMIT (length f.levels) then Err fault.Levels
    else checked_with (act_read f.action) before line f

-- the result for a line that follows these entries, read without its leading blanks: an entry, nothing if the line is
-- ignored, or a fault
unfoldable pub verdict_of : List Entry → List ℕ → Result (Option Entry) LineKind
verdict_of before line =
    let text = skip_blanks line in
    if is_ignored text then Ok None else checked before text (fields_of text)
