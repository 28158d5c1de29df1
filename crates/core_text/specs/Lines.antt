-- The text of a saved state (telinit(8)) in each version: lines of words, with one blank between words.
use Rattle.std.specs.Prelude.{ℕ, Bool, if◌then◌else◌, List, [], ◌∷◌, ◌++◌, map, length, codes, decimal, Option, Some}
use Rattle.std.specs.Prelude.{None}
use Rattle.std.specs.List.{flat_map, join_with_byte}
use Rattle.core_text.specs.CommonWords.{Status, Exit, Stage, word_of, fields_written, Goal, level_word, stage_word}
use Rattle.core_text.specs.CommonWords.{order_word, Stop, Due, Termed, Killed, CallSet, CoreFields, PlainSlot}
use Rattle.core_text.specs.CommonWords.{SavedState}
use Rattle.init_words.specs.declared.children.Status.TheVariants.{Killed as KilledBySignal}
use Rattle.core_text.specs.declared.versions.Version.{Version}
use Rattle.core_text.specs.declared.versions.Version.TheVariants.{V1, V2}

-- a flag as a digit
abbrev pub bit : Bool → ℕ
bit flag = if flag then 49 else 48

-- flags as a row of digits
abbrev pub bits : List Bool → List ℕ
bits flags = map bit flags

-- the word for a value, or the word `none` if there is no value
abbrev pub or_word : {X : Type 0} → List ℕ → (X → List ℕ) → Option X → List ℕ
or_word none write None = none
or_word none write (Some x) = write x

-- the word for a value, or a dash if there is no value
abbrev pub or_dash : {X : Type 0} → (X → List ℕ) → Option X → List ℕ
or_dash write o = or_word (codes "-") write o

abbrev pub stage_or_none : Option Stage → List ℕ
stage_or_none stage = or_word (codes "none") stage_word stage

-- a level and its grace period in seconds, in one word
abbrev pub goal_word : Goal → List ℕ
goal_word goal = level_word goal.level ++ 58 ∷ decimal goal.grace

abbrev pub stop_word : Stop → List ℕ
stop_word Due = codes "due"
stop_word (Termed time) = codes "term" ++ 58 ∷ decimal time
stop_word (Killed time) = codes "kill" ++ 58 ∷ decimal time

-- the word for the status of a child that ended
abbrev pub status_word : Status → List ℕ
status_word (Exit code) = codes "exit" ++ 58 ∷ decimal code
status_word KilledBySignal = codes "killed"

-- times in seconds, separated by commas, or a dash if there are none
abbrev pub starts_word : List ℕ → List ℕ
starts_word [] = codes "-"
starts_word (time ∷ times) = join_with_byte 44 (map decimal (time ∷ times))

-- the line that consists of these words, separated by blanks
abbrev pub spaced : List (List ℕ) → List ℕ
spaced words = join_with_byte 32 words

abbrev pub version_line : Version → List ℕ
version_line V1 = codes "initd-state 1"
version_line V2 = codes "initd-state 2"

abbrev pub generation_line : ℕ → List ℕ
generation_line generation = spaced (codes "generation" ∷ decimal generation ∷ [])

abbrev pub clock_line : ℕ → List ℕ
clock_line time = spaced (codes "clock" ∷ decimal time ∷ [])

abbrev pub stage_line : Option Stage → ℕ → List ℕ
stage_line stage grace = spaced (codes "stage" ∷ stage_or_none stage ∷ decimal grace ∷ [])

abbrev pub goal_line : Goal → List ℕ
goal_line goal = spaced (codes "goal" ∷ level_word goal.level ∷ decimal goal.grace ∷ [])

abbrev pub flags_line : Bool → Bool → List ℕ
flags_line booted announced = spaced (codes "flags" ∷ bits (booted ∷ announced ∷ []) ∷ [])

abbrev pub power_bits : CallSet → List Bool
power_bits pending = pending.fail ∷ pending.fail_now ∷ pending.ok ∷ []

abbrev pub letter_bits : CallSet → List Bool
letter_bits pending = pending.a ∷ pending.b ∷ pending.c ∷ []

abbrev pub wish_line : Bool → Bool → Option Goal → CallSet → List ℕ
wish_line reread reexec level pending =
    spaced (codes "wish" ∷ bits (reread ∷ reexec ∷ []) ∷ or_dash goal_word level ∷ bits (power_bits pending)
    ∷ bits (letter_bits pending) ∷ [])

-- the lines for the fields of a state
abbrev pub head_lines : CoreFields → List (List ℕ)
head_lines fields =
    generation_line fields.generation
    ∷ clock_line fields.time
    ∷ stage_line fields.stage fields.grace
    ∷ goal_line fields.goal
    ∷ flags_line fields.booted fields.announced
    ∷ wish_line fields.reread fields.reexec fields.level_wish fields.pending
    ∷ []

abbrev pub table_line : ℕ → List ℕ
table_line count = spaced (codes "table" ∷ decimal count ∷ [])

abbrev pub slot_flags : PlainSlot → List Bool
slot_flags plain = plain.asked ∷ plain.called ∷ plain.look ∷ plain.missed ∷ []

-- the words of a record, except the status of its last child
abbrev pub record_words : PlainSlot → List (List ℕ)
record_words plain =
    codes "slot" ∷ plain.id ∷ or_dash decimal plain.child ∷ or_dash word_of plain.act
    ∷ or_dash order_word plain.order ∷ or_dash stop_word plain.stop ∷ bits (slot_flags plain)
    ∷ or_dash decimal plain.held_until ∷ starts_word plain.starts.items ∷ []

-- the line for a record; version 2 adds the status of its last child
abbrev pub slot_line : Version → PlainSlot → List ℕ
slot_line V1 plain = spaced (record_words plain)
slot_line V2 plain = spaced (record_words plain ++ or_dash status_word plain.last ∷ [])

abbrev pub end_line : ℕ → List ℕ
end_line count = spaced (codes "end" ∷ decimal count ∷ [])

-- the lines of a state, except the last one: the version; the fields; the number of entries in the table, and one line
-- as in inittab(5) for each; and one line for each record
abbrev pub body_lines : Version → SavedState → List (List ℕ)
body_lines version state =
    version_line version ∷ (head_lines state.fields ++ (table_line (length state.table)
    ∷ (map fields_written state.table ++ map (slot_line version) state.records)))

-- the lines of a state; the last one gives the number of those before it
abbrev pub state_lines : Version → SavedState → List (List ℕ)
state_lines version state = body_lines version state ++ end_line (length (body_lines version state)) ∷ []

-- the text of these lines, each ended by a newline
abbrev pub text_of_lines : List (List ℕ) → List ℕ
text_of_lines lines = flat_map (λ line. line ++ 10 ∷ []) lines

-- the text of a state in the given version
abbrev pub text_in : Version → SavedState → List ℕ
text_in version state = text_of_lines (state_lines version state)

-- the text that init writes, which has version 2
abbrev pub state_text : SavedState → List ℕ
state_text state = text_in V2 state
