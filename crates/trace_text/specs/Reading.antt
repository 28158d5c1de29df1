-- How a line of a trace is read, word by word. The meaning of a text is defined by printing: it is the trace that
-- prints as the text (`Lines`). The definitions here say how the reader finds that trace.
use Rattle.std.specs.Prelude.{ℕ, ◌==◌, ◌+◌, ◌&&◌, ◌^◌, if◌then◌else◌, List, [], ◌∷◌, codes, Option, Some, None}
use Rattle.std.specs.Prelude.{option_and_then}
use Rattle.std.specs.Option.{option_map}
use Rattle.text_lines.specs.Lines.{cut, pieces_of}
use Rattle.text_lines.specs.Numbers.{number_read}
use Rattle.init_words.specs.declared.children.Status.{Status}
use Rattle.init_words.specs.declared.children.Status.TheVariants.{Exit, Killed}
use Rattle.init_words.specs.declared.levels.Level.{Level}
use Rattle.init_words.specs.declared.levels.Letter.{Letter}
use Rattle.init_words.specs.declared.limits.TheConstants.{GRACE_LIMIT}
use Rattle.init_words.specs.declared.stages.Stage.{Stage}
use Rattle.init_words.specs.declared.stages.Stage.TheVariants as stage
use Rattle.init_words.specs.declared.orders.OrderKind.{OrderKind}
use Rattle.init_words.specs.declared.orders.OrderKind.TheVariants.{Start, Look, Term, Kill}
use Rattle.init_words.specs.declared.orders.PowerKind.{PowerKind}
use Rattle.init_words.specs.declared.orders.PowerKind.TheVariants as power
use Rattle.init_words.specs.Ids.{id_read, same_id}
use Rattle.init_words.specs.Levels.{level_code, level_read, letter_code, letter_read}
use Rattle.initctl_frame.specs.declared.requests.HeardRequest.{HeardRequest as Request}
use Rattle.initctl_frame.specs.declared.requests.HeardRequest.TheVariants as got
use Rattle.initctl_frame.specs.declared.requests.Cause.{Cause}
use Rattle.initctl_frame.specs.declared.requests.Cause.TheVariants as cause
use Rattle.inittab_text.specs.declared.tables.TheConstants.{ENTRY_LIMIT}
use Rattle.inittab_text.specs.Written.{table_begun}
use Rattle.trace_events.specs.declared.happenings.Happening.TheVariants.{NewTable, NotRead, Enter, Call, Power, Asked}
use Rattle.trace_events.specs.declared.happenings.Happening.TheVariants.{Hold, Settle, Birth, NoBirth, Death, Reaped}
use Rattle.trace_events.specs.declared.happenings.Happening.TheVariants.{Still, NoLook, Hit, Miss, Told, Clock, Nudge}
use Rattle.trace_events.specs.declared.happenings.Happening.TheVariants.{Got, Handed}
use Rattle.trace_events.specs.declared.happenings.Handed.{Handed as HandOver}
use Rattle.trace_events.specs.declared.happenings.Handed.TheVariants as handed
use Rattle.trace_events.specs.Event.{Event}
use Rattle.trace_text.specs.Texts.{Begun}

-- two values combined with `f`; none if either is missing
abbrev pub both : {X Y Z : Type 0} → (X → Y → Z) → Option X → Option Y → Option Z
both f (Some x) (Some y) = Some (f x y)
both f _ _ = None

-- three values combined with `f`; none if any is missing
abbrev pub all_three : {W X Y Z : Type 0} → (W → X → Y → Z) → Option W → Option X → Option Y → Option Z
all_three f (Some w) (Some x) (Some y) = Some (f w x y)
all_three f _ _ _ = None

abbrev pub own_level : ℕ → Option Level → Option Level
own_level code None = None
own_level code (Some level) = if level_code level == code then Some level else None

abbrev pub level_of_word : List ℕ → Option Level
level_of_word (code ∷ []) = own_level code (level_read code)
level_of_word _ = None

abbrev pub own_letter : ℕ → Option Letter → Option Letter
own_letter code None = None
own_letter code (Some letter) = if letter_code letter == code then Some letter else None

abbrev pub letter_of_word : List ℕ → Option Letter
letter_of_word (code ∷ []) = own_letter code (letter_read code)
letter_of_word _ = None

abbrev pub stage_of_word : List ℕ → Option Stage
stage_of_word word =
    if same_id word (codes "sysinit") then Some stage.Sysinit
    else if same_id word (codes "boot") then Some stage.Boot
    else option_map stage.Run (level_of_word word)

abbrev pub order_of_word : List ℕ → Option OrderKind
order_of_word word =
    if same_id word (codes "start") then Some Start
    else if same_id word (codes "look") then Some Look
    else if same_id word (codes "term") then Some Term
    else if same_id word (codes "kill") then Some Kill
    else None

abbrev pub power_of_word : List ℕ → Option PowerKind
power_of_word word =
    if same_id word (codes "fail") then Some power.Fail
    else if same_id word (codes "failnow") then Some power.FailNow
    else if same_id word (codes "ok") then Some power.Ok
    else None

abbrev pub cause_of_word : List ℕ → Option Cause
cause_of_word word =
    if same_id word (codes "1") then Some cause.Magic
    else if same_id word (codes "2") then Some cause.Unknown
    else if same_id word (codes "3") then Some cause.LeftOut
    else if same_id word (codes "4") then Some cause.Character
    else None

abbrev pub seconds_of_word : List ℕ → Option ℕ
seconds_of_word word = number_read (GRACE_LIMIT + 1) word

abbrev pub child_of_word : List ℕ → Option ℕ
child_of_word word = number_read (2 ^ 32) word

abbrev pub code_of_word : List ℕ → Option Status
code_of_word word = option_map Exit (number_read 256 word)

-- the happening on a line of one word
abbrev pub one_read : List ℕ → Option Event
one_read word =
    if same_id word (codes "nudge") then Some Nudge
    else if same_id word (codes "notread") then Some NotRead
    else None

-- the happening on a line that consists of a word and an id
abbrev pub about_read : List ℕ → List ℕ → Option Event
about_read word id =
    if same_id word (codes "told") then Some (Told id)
    else if same_id word (codes "still") then Some (Still id)
    else if same_id word (codes "hold") then Some (Hold id)
    else if same_id word (codes "nobirth") then Some (NoBirth id)
    else if same_id word (codes "nolook") then Some (NoLook id)
    else if same_id word (codes "hit") then Some (Hit id)
    else if same_id word (codes "miss") then Some (Miss id)
    else None

-- the request that a single word describes
abbrev pub request_read : List ℕ → Option Request
request_read word =
    if same_id word (codes "reload") then Some got.Reload
    else if same_id word (codes "reexec") then Some got.Reexec
    else None

-- the request that two words describe
abbrev pub request_pair_read : List ℕ → List ℕ → Option Request
request_pair_read word given =
    if same_id word (codes "call") then option_map got.Call (letter_of_word given)
    else if same_id word (codes "power") then option_map got.Power (power_of_word given)
    else if same_id word (codes "nothing") then option_map got.Nothing (cause_of_word given)
    else None

-- the outcome of a hand-over that a single word describes
abbrev pub handed_read : List ℕ → Option HandOver
handed_read word =
    if same_id word (codes "whole") then Some handed.Whole
    else if same_id word (codes "none") then Some handed.Failed
    else None

-- the outcome of a hand-over that two words describe
abbrev pub handed_pair_read : List ℕ → List ℕ → Option HandOver
handed_pair_read word given =
    if same_id word (codes "cut") then option_map handed.Cut (number_read (2 ^ 64) given)
    else if same_id word (codes "older") then option_map handed.Older (number_read (2 ^ 64) given)
    else None

-- the happening on a line of two words
abbrev pub two_read : List ℕ → List ℕ → Option Event
two_read word given =
    if same_id word (codes "clock") then option_map Clock (number_read (2 ^ 64) given)
    else if same_id word (codes "death") then option_map Death (child_of_word given)
    else if same_id word (codes "settle") then option_map Settle (level_of_word given)
    else if same_id word (codes "call") then option_map Call (letter_of_word given)
    else if same_id word (codes "power") then option_map Power (power_of_word given)
    else if same_id word (codes "got") then option_map Got (request_read given)
    else if same_id word (codes "handed") then option_map Handed (handed_read given)
    else option_and_then (about_read word) (id_read given)

-- the happening on a line of three words
abbrev pub three_read : List ℕ → List ℕ → List ℕ → Option Event
three_read word first second =
    if same_id word (codes "ask") then both Asked (id_read first) (order_of_word second)
    else if same_id word (codes "birth") then both Birth (id_read first) (child_of_word second)
    else if same_id word (codes "enter") then both Enter (stage_of_word first) (seconds_of_word second)
    else if same_id word (codes "got") then option_map Got (request_pair_read first second)
    else if same_id word (codes "handed") then option_map Handed (handed_pair_read first second)
    else None

-- the happening that init receives a request for this level, with this grace period
abbrev pub level_wanted : Level → ℕ → Event
level_wanted level seconds = Got (got.Level level seconds)

-- the happening on a line of four words
abbrev pub four_read : List ℕ → List ℕ → List ℕ → List ℕ → Option Event
four_read word first second third =
    if same_id word (codes "reaped") && same_id third (codes "killed") then
    all_three Reaped (id_read first) (child_of_word second) (Some Killed)
    else if same_id word (codes "got") && same_id first (codes "level") then
    both level_wanted (level_of_word second) (seconds_of_word third)
    else None

-- the happening on a line of five words
abbrev pub five_read : List ℕ → List ℕ → List ℕ → List ℕ → List ℕ → Option Event
five_read word first second third fourth =
    if same_id word (codes "reaped") && same_id third (codes "exit") then
    all_three Reaped (id_read first) (child_of_word second) (code_of_word fourth)
    else None

-- the happening on a line of these words; none for a `use` line
abbrev pub words_read : List (List ℕ) → Option Event
words_read (word ∷ []) = one_read word
words_read (word ∷ given ∷ []) = two_read word given
words_read (word ∷ first ∷ second ∷ []) = three_read word first second
words_read (word ∷ first ∷ second ∷ third ∷ []) = four_read word first second third
words_read (word ∷ first ∷ second ∷ third ∷ fourth ∷ []) = five_read word first second third fourth
words_read _ = None

-- the number of entries that a `use` line announces; none for any other line
abbrev pub entries_brought : List (List ℕ) → Option ℕ
entries_brought (word ∷ count ∷ []) =
    if same_id word (codes "use") then number_read (ENTRY_LIMIT + 1) count else None
entries_brought _ = None

-- the words of a line, separated by single blanks
abbrev pub words_in : List ℕ → List (List ℕ)
words_in line = pieces_of 32 line

-- the happening of a new table whose entries are the next `count` lines, and the text after them
abbrev pub use_begun : ℕ → List ℕ → Option Begun
use_begun count text = option_map (λ parts. (NewTable parts.0, parts.1)) (table_begun count text)

-- the first happening of a text, and the text after it, given the first line, the number of entries that this line
-- announces, if any, and the text after the line
abbrev pub begun_by : Option ℕ → List ℕ → List ℕ → Option Begun
begun_by None line text = option_map (λ happening. (happening, text)) (words_read (words_in line))
begun_by (Some count) line text = use_begun count text

-- the first happening of a text, and the text after it
abbrev pub begun : List ℕ → Option Begun
begun text = option_and_then (λ parts. begun_by (entries_brought (words_in parts.0)) parts.0 parts.1) (cut 10 text)
