-- How to parse a line of a saved state, word by word. `Lines` defines the meaning of a text: the text represents the
-- state whose written form it is. The definitions here compute that state from the text.
use Rattle.std.specs.Prelude.{◌≡◌, ℕ, Bool, true, false, not, ◌==◌, ◌-◌, ◌&&◌, ◌^◌, if◌then◌else◌, nat_le, List, []}
use Rattle.std.specs.Prelude.{◌∷◌, length, take, codes, Option, Some, None, option_and_then}
use Rattle.std.specs.Option.{option_map}
use Rattle.std.specs.List.{starts_with}
use Rattle.core_text.specs.CommonWords.{cut, pieces_of, after_lines, newlines, Status, Entry, Stage, act_read, id_read}
use Rattle.core_text.specs.CommonWords.{same_id, is_empty, table_begun, Goal, both, level_of_word, stage_of_word}
use Rattle.core_text.specs.CommonWords.{order_of_word, seconds_of_word, child_of_word, code_of_word, STARTS, Stop, Due}
use Rattle.core_text.specs.CommonWords.{Termed, Killed, CallSet, CoreFields, PlainSlot}
use Rattle.text_lines.specs.Numbers.{number_read}
use Rattle.init_words.specs.declared.actions.Act.{Act}
use Rattle.init_words.specs.declared.children.Status.TheVariants.{Killed as KilledBySignal}
use Rattle.init_words.specs.declared.levels.Level.{Level}
use Rattle.init_words.specs.declared.orders.OrderKind.{OrderKind}
use Rattle.core_text.specs.declared.state_fault.StateFault.{StateFault}
use Rattle.core_text.specs.declared.state_fault.StateFault.TheVariants.{Line, Memory}
use Rattle.core_text.specs.Lines.{version_line}
use Rattle.core_text.specs.Range.{is_stage}
use Rattle.core_text.specs.declared.versions.Version.{Version}
use Rattle.core_text.specs.declared.versions.Version.TheVariants.{V1, V2}
use Rattle.core_text.specs.Versions.{holds_id, holds_table}

-- the value that was read, if it passes the test
abbrev pub checked_by : {X : Type 0} → (X → Bool) → Option X → Option X
checked_by test None = None
checked_by test (Some x) = if test x then Some x else None

abbrev pub pair : {X Y : Type 0} → X → Y → X × Y
pair x y = (x, y)

-- the pair of the value before the first occurrence of a byte and the value after it
abbrev pub pair_read : {X Y : Type 0} → ℕ → (List ℕ → Option X) → (List ℕ → Option Y) → List ℕ → Option (X × Y)
pair_read mark first second text = option_and_then (λ parts. both pair (first parts.0) (second parts.1)) (cut mark text)

-- the text after this name and this byte, if the text begins with them
abbrev pub after_prefix : List ℕ → ℕ → List ℕ → Option (List ℕ)
after_prefix name mark text =
    option_and_then (λ parts. if same_id parts.0 name then Some parts.1 else None) (cut mark text)

abbrev pub named_read : {X : Type 0} → List ℕ → ℕ → (List ℕ → Option X) → List ℕ → Option X
named_read name mark read text = option_and_then read (after_prefix name mark text)

-- an optional value: the given word for no value, or the word for a value
abbrev pub or_read : {X : Type 0} → List ℕ → (List ℕ → Option X) → List ℕ → Option (Option X)
or_read none read word = if same_id word none then Some None else option_map Some (read word)

abbrev pub dash_read : {X : Type 0} → (List ℕ → Option X) → List ℕ → Option (Option X)
dash_read read word = or_read (codes "-") read word

abbrev pub time_read : List ℕ → Option ℕ
time_read word = number_read (2 ^ 64) word

abbrev pub generation_read : List ℕ → Option ℕ
generation_read word = checked_by (λ n. nat_le 1 n) (time_read word)

-- the flag that the digit represents
abbrev pub bit_read : ℕ → Option Bool
bit_read byte = if byte == 48 then Some false else if byte == 49 then Some true else None

-- a word that consists of one flag
abbrev pub one_bit : List ℕ → Option Bool
one_bit (byte ∷ []) = bit_read byte
one_bit _ = None

-- a word that consists of a flag followed by other flags
abbrev pub first_bit : {X : Type 0} → (List ℕ → Option X) → List ℕ → Option (Bool × X)
first_bit rest [] = None
first_bit rest (byte ∷ word) = both pair (bit_read byte) (rest word)

abbrev pub two_bits : List ℕ → Option (Bool × Bool)
two_bits word = first_bit one_bit word

abbrev pub three_bits : List ℕ → Option (Bool × (Bool × Bool))
three_bits word = first_bit two_bits word

abbrev pub four_bits : List ℕ → Option (Bool × (Bool × (Bool × Bool)))
four_bits word = first_bit three_bits word

-- a stage and its grace period, which is 0 before the first stage
abbrev pub stage_pair_read : List ℕ → Option (Option Stage × ℕ)
stage_pair_read words =
    checked_by (λ p. is_stage p.0 p.1) (pair_read 32 (or_read (codes "none") stage_of_word) seconds_of_word words)

-- a goal, given its level and its grace period in seconds
abbrev pub goal_made : Level × ℕ → Goal
goal_made p = record { level = p.0; grace = p.1 }

-- a level and its grace period in seconds, separated by this byte
abbrev pub goal_read : ℕ → List ℕ → Option Goal
goal_read mark words = option_map goal_made (pair_read mark level_of_word seconds_of_word words)

-- two flags: a reading of inittab is pending, and a re-execution is pending; the second must be false
abbrev pub reread_read : List ℕ → Option (Bool × Bool)
reread_read word = checked_by (λ p. not p.1) (two_bits word)

-- the values on the line for the pending requests
abbrev pub WishWords : Type 0
WishWords = (Bool × Bool) × (Option Goal × ((Bool × (Bool × Bool)) × (Bool × (Bool × Bool))))

-- the pending requests
abbrev pub wishes_read : List ℕ → Option WishWords
wishes_read words =
    pair_read 32 reread_read (pair_read 32 (dash_read (goal_read 58)) (pair_read 32 three_bits three_bits)) words

-- the stop state after this signal was sent at this time
abbrev pub signal_read : List ℕ × List ℕ → Option Stop
signal_read parts =
    if same_id parts.0 (codes "term") then option_map Termed (time_read parts.1)
    else if same_id parts.0 (codes "kill") then option_map Killed (time_read parts.1)
    else None

-- the stop state of a child
abbrev pub stop_read : List ℕ → Option Stop
stop_read word = if same_id word (codes "due") then Some Due else option_and_then signal_read (cut 58 word)

-- the values that the elements of a list represent; none if one cannot be read
abbrev pub all_read : {X Y : Type 0} → (X → Option Y) → List X → Option (List Y)
all_read read [] = Some []
all_read read (x ∷ xs) = both ◌∷◌ (read x) (all_read read xs)

-- the times of starts, separated by commas, or a dash if there are none; at most as many as the respawn limit counts
abbrev pub starts_read : List ℕ → Option (List ℕ)
starts_read word =
    if same_id word (codes "-") then Some []
    else checked_by (λ times. nat_le (length times) STARTS) (all_read time_read (pieces_of 44 word))

-- an id, if the version allows its length
abbrev pub id_in_read : Version → List ℕ → Option (List ℕ)
id_in_read version word = checked_by (holds_id version) (id_read word)

-- the status of a child that ended
abbrev pub status_read : List ℕ → Option Status
status_read word =
    if same_id word (codes "killed") then Some KilledBySignal else named_read (codes "exit") 58 code_of_word word

-- the times of the last starts, and the status of the last child
abbrev pub EndWords : Type 0
EndWords = List ℕ × Option Status

abbrev pub without_status : List ℕ → EndWords
without_status starts = (starts, None)

-- the times of the last starts, and the status of the last child, which version 1 omits
abbrev pub ends_read : Version → List ℕ → Option EndWords
ends_read V1 words = option_map without_status (starts_read words)
ends_read V2 words = pair_read 32 starts_read (dash_read status_read) words

-- the end of the last hold, followed by the times of the last starts and the status of the last child
abbrev pub LimitWords : Type 0
LimitWords = Option ℕ × EndWords

abbrev pub MarkWords : Type 0
MarkWords = Option Stop × ((Bool × (Bool × (Bool × Bool))) × LimitWords)

abbrev pub SlotWords : Type 0
SlotWords = List ℕ × (Option ℕ × (Option Act × (Option OrderKind × MarkWords)))

abbrev pub record_made : List ℕ → Option ℕ → Option Act → Option OrderKind → MarkWords → PlainSlot
record_made id child act order marks = record {
  id = id;
  child = child;
  act = act;
  order = order;
  stop = marks.0;
  asked = marks.1.0.0;
  called = marks.1.0.1.0;
  look = marks.1.0.1.1.0;
  missed = marks.1.0.1.1.1;
  held_until = marks.1.1.0;
  starts = record { items = marks.1.1.1.0 };
  last = marks.1.1.1.1;
}

abbrev pub slot_made : SlotWords → PlainSlot
slot_made words = record_made words.0 words.1.0 words.1.1.0 words.1.1.1.0 words.1.1.1.1

abbrev pub limits_read : Version → List ℕ → Option LimitWords
limits_read version words = pair_read 32 (dash_read time_read) (ends_read version) words

abbrev pub marks_read : Version → List ℕ → Option MarkWords
marks_read version words =
    pair_read 32 (dash_read stop_read) (pair_read 32 four_bits (limits_read version)) words

-- the words of a record
abbrev pub slot_words_read : Version → List ℕ → Option SlotWords
slot_words_read version words =
    pair_read 32 (id_in_read version) (pair_read 32 (dash_read child_of_word) (pair_read 32 (dash_read act_read)
    (pair_read 32 (dash_read order_of_word) (marks_read version)))) words

-- the values in the lines of a state text, one definition for each kind of line
abbrev pub generation_line_read : List ℕ → Option ℕ
generation_line_read line = named_read (codes "generation") 32 generation_read line

abbrev pub clock_line_read : List ℕ → Option ℕ
clock_line_read line = named_read (codes "clock") 32 time_read line

abbrev pub stage_line_read : List ℕ → Option (Option Stage × ℕ)
stage_line_read line = named_read (codes "stage") 32 stage_pair_read line

abbrev pub goal_line_read : List ℕ → Option Goal
goal_line_read line = named_read (codes "goal") 32 (goal_read 32) line

abbrev pub flags_line_read : List ℕ → Option (Bool × Bool)
flags_line_read line = named_read (codes "flags") 32 two_bits line

abbrev pub wish_line_read : List ℕ → Option WishWords
wish_line_read line = named_read (codes "wish") 32 wishes_read line

abbrev pub table_line_read : List ℕ → Option ℕ
table_line_read line = named_read (codes "table") 32 time_read line

abbrev pub end_line_read : List ℕ → Option ℕ
end_line_read line = named_read (codes "end") 32 time_read line

abbrev pub slot_line_read : Version → List ℕ → Option PlainSlot
slot_line_read version line = option_map slot_made (named_read (codes "slot") 32 (slot_words_read version) line)

-- the value of the first line, and the text after it
abbrev pub line_read : {X : Type 0} → (List ℕ → Option X) → List ℕ → Option (X × List ℕ)
line_read read text = option_and_then (λ parts. option_map (λ x. (x, parts.1)) (read parts.0)) (cut 10 text)

-- two values read one after the other, and the text after both
abbrev pub then_read : {X Y : Type 0} → (List ℕ → Option (X × List ℕ)) → (List ℕ → Option (Y × List ℕ))
    → List ℕ → Option ((X × Y) × List ℕ)
then_read first second text = option_and_then (λ p. option_map (λ q. ((p.0, q.0), q.1)) (second p.1)) (first text)

abbrev pub version_of_line : List ℕ → Option Version
version_of_line line =
    if same_id line (version_line V1) then Some V1 else if same_id line (version_line V2) then Some V2 else None

-- the version in the first line, and the text after it
abbrev pub version_read : List ℕ → Option (Version × List ℕ)
version_read text = line_read version_of_line text

abbrev pub TimeWords : Type 0
TimeWords = ℕ × ℕ

abbrev pub PlaceWords : Type 0
PlaceWords = (Option Stage × ℕ) × Goal

abbrev pub FlagWords : Type 0
FlagWords = (Bool × Bool) × WishWords

abbrev pub times_read : List ℕ → Option (TimeWords × List ℕ)
times_read text = then_read (line_read generation_line_read) (line_read clock_line_read) text

abbrev pub places_read : List ℕ → Option (PlaceWords × List ℕ)
places_read text = then_read (line_read stage_line_read) (line_read goal_line_read) text

abbrev pub flags_read : List ℕ → Option (FlagWords × List ℕ)
flags_read text = then_read (line_read flags_line_read) (line_read wish_line_read) text

abbrev pub news_made : Bool × (Bool × Bool) → Bool × (Bool × Bool) → CallSet
news_made powers letters = record {
  fail = powers.0;
  fail_now = powers.1.0;
  ok = powers.1.1;
  a = letters.0;
  b = letters.1.0;
  c = letters.1.1;
}

abbrev pub fields_made : TimeWords × (PlaceWords × FlagWords) → CoreFields
fields_made words =
    let times = words.0 in
    let places = words.1.0 in
    let flags = words.1.1 in
    record {
      generation = times.0;
      time = times.1;
      stage = places.0.0;
      grace = places.0.1;
      goal = places.1;
      booted = flags.0.0;
      announced = flags.0.1;
      reread = flags.1.0.0;
      reexec = flags.1.0.1;
      level_wish = flags.1.1.0;
      pending = news_made flags.1.1.1.0 flags.1.1.1.1;
    }

-- the value read, converted by a function, and the text after it
abbrev pub made_read : {X Y : Type 0} → (X → Y) → Option (X × List ℕ) → Option (Y × List ℕ)
made_read make found = option_map (λ p. (make p.0, p.1)) found

-- the fields at the start of a text, and the text after them
abbrev pub fields_read : List ℕ → Option (CoreFields × List ℕ)
fields_read text = made_read fields_made (then_read times_read (then_read places_read flags_read) text)

-- the table that consists of the given number of lines, if the version allows its size, and the text after it
abbrev pub table_in : Version → ℕ → List ℕ → Option (List Entry × List ℕ)
table_in version count text =
    checked_by (λ (p : List Entry × List ℕ). holds_table version p.0) (table_begun count text)

-- the table at the start of a text, and the text after it
abbrev pub table_read : Version → List ℕ → Option (List Entry × List ℕ)
table_read version text = option_and_then (λ p. table_in version p.0 p.1) (line_read table_line_read text)

-- the text without its newline, if it is a single line that begins with `end ` and ends with a newline
abbrev pub last_line : List ℕ → Option (List ℕ)
last_line text =
    option_and_then
    (λ parts. if is_empty parts.1 && starts_with ◌==◌ parts.0 (codes "end ") then Some parts.0 else None) (cut 10 text)

-- the text before its last line, and that line; none unless the last line begins with `end ` and ends with a newline
abbrev pub end_split : List ℕ → Option (List ℕ × List ℕ)
end_split text =
    option_and_then (λ rest. option_map (λ last. (take (length text - length rest) text, last)) (last_line rest))
    (after_lines (newlines text - 1) text)

-- the fault names a line and `fact` holds, or the fault is that memory ran out
abbrev pub OnLine : Type 0 → StateFault → Type 0
OnLine fact (Line number) = fact
OnLine fact Memory = Unit {0}
OnLine fact _ = ⊥

-- the fault of a part of the text that could not be parsed
abbrev pub UnreadState : {X : Type 0} → Option X → StateFault → Type 0
UnreadState found why = OnLine (found ≡ None) why

-- the generation that the second line names
abbrev pub generation_of : List ℕ → Option ℕ
generation_of text =
    option_and_then (λ p. option_and_then (λ q. generation_line_read q.0) (cut 10 p.1)) (cut 10 text)
