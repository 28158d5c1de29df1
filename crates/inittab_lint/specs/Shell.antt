-- How the shell reads a process, which init starts with `sh -c "exec PROCESS"` (inittab(5)): its quotes, parentheses,
-- operators, comments and expansions. A *part* is a quoted, parenthesized or braced section; it is represented by the
-- character that closes it.
use Rattle.std.specs.Prelude.{ℕ, Bool, true, false, not, ◌&&◌, ◌||◌, ◌==◌, ◌-◌, nat_le, if◌then◌else◌, List, [], ◌∷◌}
use Rattle.std.specs.Prelude.{◌++◌, codes, length, take, slice_get, Option, Some, None, is_some, unwrap_or}
use Rattle.std.specs.Prelude.{option_to_list}
use Rattle.std.specs.List.{list_all, list_any}
use Rattle.std.specs.List as list
use Rattle.std.specs.Option.{option_or}
use Rattle.std.specs.Str.{bytes_eq}
use Rattle.text_lines.specs.Lines.{cut, is_blank, skip_blanks, words_of}
use Rattle.inittab_text.specs.Written.{is_empty}
use Rattle.init_words.specs.declared.entries.TheConstants.{PROCESS_LIMIT}
use Rattle.inittab_lint.specs.declared.shell.Operator.{Operator}
use Rattle.inittab_lint.specs.declared.shell.Operator.TheVariants.{Chain, Pipe, Background, Unclosed}

-- the innermost open part is closed by this character
abbrev pub is_part : ℕ → Option ℕ → Bool
is_part close None = false
is_part close (Some b) = b == close

-- the shell reads commands here: outside all parts, or directly in a parenthesis
abbrev pub in_commands : Option ℕ → Bool
in_commands None = true
in_commands (Some close) = close == 41

-- the text here is literal: within single quotes or backquotes
abbrev pub is_literal : Option ℕ → Bool
is_literal part = is_part 39 part || is_part 96 part

-- $( or ${ begins with these two characters
abbrev pub is_dollar : Option ℕ → ℕ → ℕ → Bool
is_dollar part b c = b == 36 && ((c == 40 || c == 123) && not (is_literal part))

-- the closing character of the part that begins here: by $( or ${, a parenthesis among commands, a backquote, or a
-- quote; none if no part begins
abbrev pub opened : Option ℕ → ℕ → ℕ → Option ℕ
opened part b c =
    if is_dollar part b c then (if c == 40 then Some 41 else Some 125)
    else if b == 40 && in_commands part then Some 41
    else if b == 96 && not (is_literal part) then Some b
    else if (b == 34 || b == 39) && (in_commands part || is_part 125 part) then Some b
    else None

-- the two characters form a unit: a backslash, outside single quotes, with any character; $( and ${; and, among
-- commands, <& and >& and >|
abbrev pub is_two : Option ℕ → ℕ → ℕ → Bool
is_two part b c =
    b == 92 && not (is_part 39 part)
    || (is_dollar part b c || in_commands part && (b == 60 && c == 38 || b == 62 && (c == 38 || c == 124)))

-- a word begins after this character: a blank, one of ;&|<>( or the $ of $( and ${, or a ) that does not close the
-- innermost part
abbrev pub starts_word : Option ℕ → ℕ → ℕ → Bool
starts_word part b c =
    is_blank b || (list_any (λ d. d == b) (codes ";&|<>(") || (is_dollar part b c || b == 41 && not (is_part 41 part)))

-- a comment begins: # at the beginning of a word, among commands
abbrev pub is_comment : Option ℕ → Bool → ℕ → Bool
is_comment part start b = start && (b == 35 && in_commands part)

-- the operator that begins here, outside all parts: ; && || chain commands, | is a pipe, & runs a command in the
-- background
abbrev pub operator_at : Option ℕ → ℕ → ℕ → Option Operator
operator_at None b c =
    if b == 59 then Some Chain
    else if b == 38 then (if c == 38 then Some Chain else Some Background)
    else if b == 124 then (if c == 124 then Some Chain else Some Pipe)
    else None
operator_at (Some close) b c = None

-- `Unclosed` if a part is open
abbrev pub unclosed : Option ℕ → Option Operator
unclosed None = None
unclosed (Some close) = Some Unclosed

-- the innermost of the open parts, which are listed from the outermost to the innermost
abbrev pub innermost : List ℕ → Option ℕ
innermost parts = slice_get parts (length parts - 1)

-- the open parts after this character, or after both characters if they form a unit
abbrev pub parts_after : List ℕ → ℕ → ℕ → List ℕ
parts_after parts b c =
    if is_part b (innermost parts) then take (length parts - 1) parts
    else parts ++ option_to_list (opened (innermost parts) b c)

-- a part begins here although the maximum number of parts, PROCESS_LIMIT, is already open
abbrev pub is_deep : List ℕ → ℕ → ℕ → Bool
is_deep parts b c =
    not (is_part b (innermost parts)) && (is_some (opened (innermost parts) b c) && length parts == PROCESS_LIMIT)

-- the first character of a text, or 0
abbrev pub next_in : List ℕ → ℕ
next_in text = unwrap_or (slice_get text 0) 0

-- The first operator of a text outside all parts and before any comment; `Unclosed` if a part is open at the end of the
-- text or at the beginning of a comment. The arguments are the open parts, whether the first character forms a unit
-- with the one before it, and whether a word begins with it.
abbrev pub operator_in : List ℕ → Bool → Bool → List ℕ → Option Operator
operator_in parts was_read start [] = unclosed (innermost parts)
operator_in parts true start (b ∷ text) = operator_in parts false start text
operator_in parts false start (b ∷ text) =
    let part = innermost parts in
    let c = next_in text in
    if is_comment part start b then unclosed part
    else option_or (operator_at part b c)
    (if is_deep parts b c then None
    else operator_in (parts_after parts b c) (is_two part b c) (starts_word part b c) text)

-- the first operator in a process, outside all parts and before any comment; `Unclosed` if a part is not closed before
-- there is one
abbrev pub operator_of : List ℕ → Option Operator
operator_of process = operator_in [] false true process

-- if a process contains one of these characters, init starts it with the shell
abbrev pub is_special : ℕ → Bool
is_special b = list_any (λ c. c == b) (codes "~`!$^&*()=|\\{}[];\"'<>?")

abbrev pub begins_with : ℕ → List ℕ → Bool
begins_with mark [] = false
begins_with mark (b ∷ text) = b == mark

abbrev pub is_byte : ℕ → Option ℕ → Bool
is_byte mark None = false
is_byte mark (Some b) = b == mark

abbrev pub ends_with : ℕ → List ℕ → Bool
ends_with mark text = is_byte mark (slice_get text (length text - 1))

-- a letter, a digit or _
abbrev pub is_name_byte : ℕ → Bool
is_name_byte b =
    nat_le 48 b && nat_le b 57 || (nat_le 65 b && nat_le b 90 || (nat_le 97 b && nat_le b 122 || b == 95))

-- the shell expands a $ before this character: a letter, a digit, _, or one of {(@*#?-$!
abbrev pub is_expansion : ℕ → Bool
is_expansion b = is_name_byte b || list_any (λ c. c == b) (codes "{(@*#?-$!")

-- in the text up to the closing double quote, the shell expands a $ that has no backslash before it; the flag is true
-- if a backslash precedes the first character
abbrev pub expands : Bool → List ℕ → Bool
expands was_read [] = false
expands true (b ∷ text) = expands false text
expands false (b ∷ text) =
    if b == 34 then false
    else b == 36 && is_expansion (next_in text) || expands (b == 92) text

-- the text begins with a double-quoted string in which init's shell expands something
abbrev pub quote_expands : List ℕ → Bool
quote_expands [] = false
quote_expands (b ∷ text) = b == 34 && expands false text

-- a flag such as -c or -ec: it begins with - and ends with c
abbrev pub is_command_flag : List ℕ → Bool
is_command_flag word = begins_with 45 word && ends_with 99 word

-- the text, cut at its first blank, is a flag such as -c, followed by a double-quoted command in which init's shell
-- expands something before the other shell reads it
abbrev pub flag_expands : Option (List ℕ × List ℕ) → Bool
flag_expands None = false
flag_expands (Some parts) = is_command_flag parts.0 && quote_expands (skip_blanks parts.1)

-- the first word is a shell: it ends with sh and has no character that the shell interprets
abbrev pub is_shell : List ℕ → Bool
is_shell word = not (list_any is_special word) && list.ends_with (λ a b. a == b) word (codes "sh")

-- the text, cut at its first blank, is a shell, followed by a flag and a command for which `flag_expands` holds
abbrev pub shell_expands : Option (List ℕ × List ℕ) → Bool
shell_expands None = false
shell_expands (Some parts) = is_shell parts.0 && flag_expands (cut 32 (skip_blanks parts.1))

-- A shell, flag and command for which `shell_expands` holds begin at a word among the commands of a text. The arguments
-- are the open parts, whether the first character forms a unit with the one before it, and whether a word begins with
-- it.
abbrev pub early_in : List ℕ → Bool → Bool → List ℕ → Bool
early_in parts was_read start [] = false
early_in parts true start (b ∷ text) = early_in parts false start text
early_in parts false start (b ∷ text) =
    let part = innermost parts in
    let c = next_in text in
    if is_comment part start b then false
    else if start && (in_commands part && shell_expands (cut 32 (b ∷ text))) then true
    else if is_deep parts b c then false
    else early_in (parts_after parts b c) (is_two part b c) (starts_word part b c) text

-- a command of the process runs a shell with a double-quoted command in which init's shell expands something first
abbrev pub expands_early : List ℕ → Bool
expands_early process = early_in [] false true process

-- a word begins with #; the flag is true if a word can begin with the first character
abbrev pub has_hash : Bool → List ℕ → Bool
has_hash before [] = false
has_hash before (b ∷ text) = before && b == 35 || has_hash (is_blank b) text

-- a word begins with # but does not start a comment, because init starts the process without a shell
abbrev pub has_comment : List ℕ → Bool
has_comment process = not (list_any is_special process) && has_hash true process

-- the first of the words; empty if there is none
abbrev pub first_of : List (List ℕ) → List ℕ
first_of [] = []
first_of (word ∷ words) = word

-- the first word of a process; empty if there is none
abbrev pub first_word : List ℕ → List ℕ
first_word process = first_of (words_of process)

-- the reserved words of sh(1)
abbrev pub reserved_words : List (List ℕ)
reserved_words =
    codes "if" ∷ codes "then" ∷ codes "elif" ∷ codes "else" ∷ codes "fi" ∷ codes "for" ∷ codes "while"
    ∷ codes "until" ∷ codes "do" ∷ codes "done" ∷ codes "case" ∷ codes "esac" ∷ codes "in" ∷ codes "function"
    ∷ codes "{" ∷ codes "}" ∷ codes "!" ∷ codes "[[" ∷ []

-- the special builtins of sh(1), and those of other shells
abbrev pub special_builtins : List (List ℕ)
special_builtins =
    codes "." ∷ codes ":" ∷ codes "source" ∷ codes "exec" ∷ codes "eval" ∷ codes "exit" ∷ codes "return" ∷ codes "break"
    ∷ codes "continue" ∷ codes "export" ∷ codes "readonly" ∷ codes "local" ∷ codes "set" ∷ codes "unset" ∷ codes "shift"
    ∷ codes "trap" ∷ codes "times" ∷ []

-- other builtins of sh(1) that are not programs
abbrev pub builtins : List (List ℕ)
builtins =
    codes "cd" ∷ codes "command" ∷ codes "wait" ∷ codes "read" ∷ codes "ulimit" ∷ codes "umask" ∷ codes "type"
    ∷ codes "hash" ∷ codes "getopts" ∷ codes "alias" ∷ codes "unalias" ∷ codes "jobs" ∷ codes "fg" ∷ codes "bg"
    ∷ codes "fc" ∷ []

-- the word has a meaning to the shell: it is a reserved word or a builtin, or begins with a parenthesis
abbrev pub is_shell_word : List ℕ → Bool
is_shell_word word =
    begins_with 40 word
    || (list_any (bytes_eq word) reserved_words
    || (list_any (bytes_eq word) special_builtins || list_any (bytes_eq word) builtins))

-- a variable name: a text of name characters (`is_name_byte`) that is not empty
abbrev pub is_name : List ℕ → Bool
is_name text = not (is_empty text) && list_all is_name_byte text

-- the text before the first = is a name
abbrev pub is_name_cut : Option (List ℕ × List ℕ) → Bool
is_name_cut None = false
is_name_cut (Some parts) = is_name parts.0

-- the shell reads the word as an assignment
abbrev pub is_assigned : List ℕ → Bool
is_assigned word = is_name_cut (cut 61 word)
