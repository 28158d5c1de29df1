-- The text of a trace (init-trace(5)): one line per happening, single blanks between its words, numbers in decimal.
use Rattle.std.specs.Prelude.{ℕ, List, [], ◌∷◌, ◌++◌, length, codes, decimal, flat_map}
use Rattle.init_words.specs.declared.children.Status.{Status}
use Rattle.init_words.specs.declared.children.Status.TheVariants.{Exit, Killed}
use Rattle.init_words.specs.declared.levels.Level.{Level}
use Rattle.init_words.specs.declared.levels.Letter.{Letter}
use Rattle.init_words.specs.declared.stages.Stage.{Stage}
use Rattle.init_words.specs.declared.stages.Stage.TheVariants as stage
use Rattle.init_words.specs.declared.orders.OrderKind.{OrderKind}
use Rattle.init_words.specs.declared.orders.OrderKind.TheVariants.{Start, Look, Term, Kill}
use Rattle.init_words.specs.declared.orders.PowerKind.{PowerKind}
use Rattle.init_words.specs.declared.orders.PowerKind.TheVariants as power
use Rattle.init_words.specs.Levels.{level_code, letter_code}
use Rattle.initctl_frame.specs.declared.requests.HeardRequest.{HeardRequest as Request}
use Rattle.initctl_frame.specs.declared.requests.HeardRequest.TheVariants as got
use Rattle.initctl_frame.specs.declared.requests.Cause.{Cause}
use Rattle.initctl_frame.specs.declared.requests.Cause.TheVariants as cause
use Rattle.inittab_text.specs.Written.{text_of}
use Rattle.trace_events.specs.declared.happenings.Happening.TheVariants.{NewTable, NotRead, Enter, Call, Power, Asked}
use Rattle.trace_events.specs.declared.happenings.Happening.TheVariants.{Hold, Settle, Birth, NoBirth, Death, Reaped}
use Rattle.trace_events.specs.declared.happenings.Happening.TheVariants.{Still, NoLook, Hit, Miss, Told, Clock, Nudge}
use Rattle.trace_events.specs.declared.happenings.Happening.TheVariants.{Got, Handed}
use Rattle.trace_events.specs.declared.happenings.Handed.{Handed as HandOver}
use Rattle.trace_events.specs.declared.happenings.Handed.TheVariants as handed
use Rattle.trace_events.specs.Event.{Event}

abbrev pub level_word : Level → List ℕ
level_word level = level_code level ∷ []

abbrev pub letter_word : Letter → List ℕ
letter_word letter = letter_code letter ∷ []

abbrev pub stage_word : Stage → List ℕ
stage_word stage.Sysinit = codes "sysinit"
stage_word stage.Boot = codes "boot"
stage_word (stage.Run level) = level_word level

abbrev pub order_word : OrderKind → List ℕ
order_word Start = codes "start"
order_word Look = codes "look"
order_word Term = codes "term"
order_word Kill = codes "kill"

abbrev pub power_word : PowerKind → List ℕ
power_word power.Fail = codes "fail"
power_word power.FailNow = codes "failnow"
power_word power.Ok = codes "ok"

-- the number for the reason why init ignored a request
abbrev pub cause_number : Cause → ℕ
cause_number cause.Magic = 1
cause_number cause.Unknown = 2
cause_number cause.LeftOut = 3
cause_number cause.Character = 4

-- the words that describe how a child ended
abbrev pub status_words : Status → List (List ℕ)
status_words (Exit code) = codes "exit" ∷ decimal code ∷ []
status_words Killed = codes "killed" ∷ []

-- the words that describe a request
abbrev pub got_words : Request → List (List ℕ)
got_words (got.Level level grace) = codes "level" ∷ level_word level ∷ decimal grace ∷ []
got_words (got.Call letter) = codes "call" ∷ letter_word letter ∷ []
got_words got.Reload = codes "reload" ∷ []
got_words got.Reexec = codes "reexec" ∷ []
got_words (got.Power kind) = codes "power" ∷ power_word kind ∷ []
got_words (got.Nothing why) = codes "nothing" ∷ decimal (cause_number why) ∷ []

-- the words that describe the outcome of a hand-over
abbrev pub handed_words : HandOver → List (List ℕ)
handed_words handed.Whole = codes "whole" ∷ []
handed_words (handed.Cut bytes) = codes "cut" ∷ decimal bytes ∷ []
handed_words (handed.Older generation) = codes "older" ∷ decimal generation ∷ []
handed_words handed.Failed = codes "none" ∷ []

-- the words on the line for a happening
abbrev pub words_of : Event → List (List ℕ)
words_of (NewTable table) = codes "use" ∷ decimal (length table) ∷ []
words_of NotRead = codes "notread" ∷ []
words_of (Enter stage grace) = codes "enter" ∷ stage_word stage ∷ decimal grace ∷ []
words_of (Call letter) = codes "call" ∷ letter_word letter ∷ []
words_of (Power kind) = codes "power" ∷ power_word kind ∷ []
words_of (Asked id order) = codes "ask" ∷ id ∷ order_word order ∷ []
words_of (Hold id) = codes "hold" ∷ id ∷ []
words_of (Settle level) = codes "settle" ∷ level_word level ∷ []
words_of (Birth id number) = codes "birth" ∷ id ∷ decimal number ∷ []
words_of (NoBirth id) = codes "nobirth" ∷ id ∷ []
words_of (Death number) = codes "death" ∷ decimal number ∷ []
words_of (Reaped id number status) = codes "reaped" ∷ id ∷ decimal number ∷ status_words status
words_of (Still id) = codes "still" ∷ id ∷ []
words_of (NoLook id) = codes "nolook" ∷ id ∷ []
words_of (Hit id) = codes "hit" ∷ id ∷ []
words_of (Miss id) = codes "miss" ∷ id ∷ []
words_of (Told id) = codes "told" ∷ id ∷ []
words_of (Clock reading) = codes "clock" ∷ decimal reading ∷ []
words_of Nudge = codes "nudge" ∷ []
words_of (Got request) = codes "got" ∷ got_words request
words_of (Handed how) = codes "handed" ∷ handed_words how

-- the words, each preceded by a blank
abbrev pub words_behind : List (List ℕ) → List ℕ
words_behind words = flat_map (λ word. 32 ∷ word) words

-- the words as a line: separated by single blanks and followed by a newline
abbrev pub line_of_words : List (List ℕ) → List ℕ
line_of_words [] = 10 ∷ []
line_of_words (word ∷ words) = word ++ words_behind words ++ 10 ∷ []

-- the lines of the table that a `use` line announces; no lines for any other happening
abbrev pub table_lines : Event → List ℕ
table_lines (NewTable table) = text_of table
table_lines _ = []

-- the text of a happening: its line, followed by the lines of the table if it is a new table
abbrev pub event_text : Event → List ℕ
event_text happening = line_of_words (words_of happening) ++ table_lines happening

-- the text of a list of happenings, oldest first
abbrev pub trace_text : List Event → List ℕ
trace_text happenings = flat_map event_text happenings
