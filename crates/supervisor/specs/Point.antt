-- How the calls to a host determine a trace; see init(8). Calls, like happenings, are listed newest first.
use Rattle.std.specs.Prelude.{ℕ, Bool, true, false, not, ◌&&◌, ◌||◌, ◌+◌, ◌==◌, nat_lt, if◌then◌else◌, List, [], ◌∷◌}
use Rattle.std.specs.Prelude.{◌++◌, length, Option, Some, None, is_none, Result, Ok, Err}
use Rattle.std.specs.List.{starts_with}
use Rattle.std.specs.Option.{option_map_or}
use Rattle.std.specs.Cmp.Lexicographic.{pointwise}
use Rattle.init_words.specs.declared.orders.Answer.{Answer}
use Rattle.init_words.specs.declared.orders.Answer.TheVariants as answer
use Rattle.init_words.specs.declared.orders.OrderKind.{OrderKind}
use Rattle.init_words.specs.declared.orders.OrderKind.TheVariants as ask
use Rattle.init_words.specs.declared.orders.SignalKind.{SignalKind}
use Rattle.init_words.specs.declared.orders.SignalKind.TheVariants as signal
use Rattle.init_words.specs.Entries.{command_of}
use Rattle.init_words.specs.Ids.{same_id}
use Rattle.init_words.specs.Orders.{answers}
use Rattle.supervisor.specs.EdgeWords.{texts_of, are_readable, table_of_texts, Goal, Step, Event, open_of, table_of}
use Rattle.supervisor.specs.EdgeWords.{due}
use Rattle.supervisor.specs.EdgeWords.{first, same_step, step_in, Start, Look, Signal, Late, Clock, TakeBytes}
use Rattle.supervisor.specs.EdgeWords.{ReadTables}
use Rattle.supervisor.specs.EdgeWords.{Carry, Announce, Pause, HostFault, Now, Later, HostCall, PartsRead, TextRead}
use Rattle.inittab_text.specs.Tables.{entry_of}
use Rattle.initctl_frame.specs.declared.frames.TheConstants.{BLOCK}
use Rattle.initctl_frame.specs.Frames.{heard_of}
use Rattle.trace_events.specs.declared.happenings.Handed.{Handed as HandOver}
use Rattle.trace_events.specs.declared.happenings.Handed.TheVariants as handed
use Rattle.trace_events.specs.declared.happenings.Happening.TheVariants as happened
use Rattle.trace_events.specs.declared.steps.Step.TheVariants as step
use Rattle.core_text.specs.Reading.{generation_of}
use Rattle.host_calls.specs.declared.calls.Reply.{Reply}
use Rattle.supervisor.specs.declared.TheConstants.{LATE_LIMIT}

-- the state after some calls: the bytes of an incomplete request block, the number of calls for late answers since init
-- read the clock, the generation of init's state, and the trace
pub record Point : Type 0 where
  pub over : List ℕ
  pub lates : ℕ
  pub generation : ℕ
  pub past : List Event

-- the number of the child that was last born for the id; 0 before the first
abbrev pub last_birth : List ℕ → List Event → ℕ
last_birth id [] = 0
last_birth id (happened.Birth i number ∷ past) = if same_id id i then number else last_birth id past
last_birth id (_ ∷ past) = last_birth id past

-- the trace after the act that an answer reports; an end reports the death and the reaping of the last child born
abbrev pub acted : List ℕ → Answer → List Event → List Event
acted id (answer.Born number) past = happened.Birth id number ∷ past
acted id answer.NotBorn past = happened.NoBirth id ∷ past
acted id (answer.Ended status) past =
    happened.Reaped id (last_birth id past) status ∷ happened.Death (last_birth id past) ∷ past
acted id answer.Alive past = happened.Still id ∷ past
acted id answer.NoLook past = happened.NoLook id ∷ past
acted id answer.Hit past = happened.Hit id ∷ past
acted id answer.Miss past = happened.Miss id ∷ past

-- the id has an open order that the answer fits; init accepts no other answer
abbrev pub is_asked_for : List ℕ → Answer → List Event → Bool
is_asked_for id given past = option_map_or (answers given) (open_of id past) false

-- an answer to an open order adds its act and a `told` to the trace; any other answer adds nothing
abbrev pub answered : List ℕ → Answer → List Event → List Event
answered id given past =
    if is_asked_for id given past then happened.Told id ∷ acted id given past else past

-- the trace after a reply to an order: the reply is an answer, or `Later`, which adds nothing until the answer arrives
abbrev pub replied : List ℕ → Reply → List Event → List Event
replied id (Now given) past = answered id given past
replied id Later past = past

-- the trace after an order and its reply
abbrev pub ordered : List ℕ → OrderKind → Reply → List Event → List Event
ordered id ask reply past = replied id reply (happened.Asked id ask ∷ past)

-- the order that this signal carries out
abbrev pub order_for : SignalKind → OrderKind
order_for signal.Term = ask.Term
order_for signal.Kill = ask.Kill

-- the trace after a late answer, which adds the same happenings as any other answer; unchanged if there is none
abbrev pub come : Option (List ℕ × Answer) → List Event → List Event
come (Some late) past = answered late.0 late.1 past
come None past = past

-- this is the turn's last call for late answers: it returned none, or the turn has reached its limit of such calls
abbrev pub is_last : Option (List ℕ × Answer) → ℕ → Bool
is_last late lates = is_none late || lates + 1 == LATE_LIMIT

-- the trace after a call for late answers: if it was the last one in the turn, the round begins
abbrev pub nudged_if : Bool → List Event → List Event
nudged_if true past = happened.Nudge ∷ past
nudged_if false past = past

-- the trace after a reading of the clock; a failed reading adds nothing
abbrev pub clocked : Result ℕ HostFault → List Event → List Event
clocked (Ok reading) past = happened.Clock reading ∷ past
clocked (Err fault) past = past

-- the point with these bytes of a block: if the block is complete, its request is added to the trace
abbrev pub filled : List ℕ → Point → Point
filled over p =
    if length over == BLOCK then record p { over = []; past = happened.Got (heard_of over) ∷ p.past }
    else record p { over = over }

-- the point after one more byte of requests
abbrev pub byte_after : ℕ → Point → Point
byte_after byte p = filled (p.over ++ byte ∷ []) p

-- the point after more bytes, in order
abbrev pub bytes_after : List ℕ → Point → Point
bytes_after [] p = p
bytes_after (byte ∷ bytes) p = bytes_after bytes (byte_after byte p)

-- the point after the bytes that a call returned; a failed call returned none
abbrev pub taken_after : TextRead → Point → Point
taken_after (Ok bytes) p = bytes_after bytes p
taken_after (Err fault) p = p

-- the happening of a reading of inittab: its table, or `notread` if it failed or the files are too many or too long
abbrev pub reading : PartsRead → Event
reading (Ok parts) =
    if are_readable (texts_of parts) then happened.NewTable (table_of_texts (texts_of parts)) else happened.NotRead
reading (Err fault) = happened.NotRead

-- the trace without its newest happening, if that is the reading of a table or `notread`
abbrev pub before_reading : List Event → List Event
before_reading (happened.NewTable table ∷ past) = past
before_reading (happened.NotRead ∷ past) = past
before_reading past = past

-- the texts are equal
abbrev pub same_text : List ℕ → List ℕ → Bool
same_text = pointwise ◌==◌

-- the host returned the saved state unchanged
abbrev pub came_whole : List ℕ → TextRead → Bool
came_whole text (Ok back) = same_text text back
came_whole text (Err fault) = false

-- the host returned the saved state cut short: a proper prefix of it
abbrev pub came_cut : List ℕ → TextRead → Bool
came_cut text (Ok back) = starts_with ◌==◌ text back && nat_lt (length back) (length text)
came_cut text (Err fault) = false

-- the trace after the hand-over: if the saved state came back unchanged, init takes it over, which adds `handed whole`
abbrev pub handed_if : Bool → List Event → List Event
handed_if true past = happened.Handed handed.Whole ∷ past
handed_if false past = past

-- the trace without its newest happening, if that is a hand-over
abbrev pub before_handing : List Event → List Event
before_handing (happened.Handed how ∷ past) = past
before_handing past = past

-- init announces happenings of this kind
abbrev pub is_announcement : Event → Bool
is_announcement (happened.Enter stage grace) = true
is_announcement (happened.Call letter) = true
is_announcement (happened.Power kind) = true
is_announcement (happened.Hold id) = true
is_announcement (happened.Settle level) = true
is_announcement _ = false

-- The trace after an announcement. A step of init is added. `notread` replaces the reading of a table that init did not
-- adopt. The failure of a hand-over replaces the hand-over in the trace.
abbrev pub announced : Event → List Event → List Event
announced happened.NotRead past = happened.NotRead ∷ before_reading past
announced (happened.Handed how) past = happened.Handed how ∷ before_handing past
announced happening past = if is_announcement happening then happening ∷ past else past

-- how a call changes the point; handing over a text begins the next generation
abbrev pub after : HostCall → Point → Point
after (Start id command reply) p = record p { past = ordered id ask.Start reply p.past }
after (Look id reply) p = record p { past = ordered id ask.Look reply p.past }
after (Signal id sent reply) p = record p { past = ordered id (order_for sent) reply p.past }
after (Late late) p =
    record p { lates = p.lates + 1; past = nudged_if (is_last late p.lates) (come late p.past) }
after (Clock time) p = record p { lates = 0; past = clocked time p.past }
after (TakeBytes room taken) p = taken_after taken p
after (ReadTables parts) p = record p { past = reading parts ∷ p.past }
after (Carry text back) p =
    record p { generation = p.generation + 1; past = handed_if (came_whole text back) p.past }
after (Announce happening) p = record p { past = announced happening p.past }
after Pause p = p

-- the point after the calls, newest first
abbrev pub point_after : List HostCall → Point → Point
point_after [] p = p
point_after (call ∷ calls) p = after call (point_after calls p)

-- the text is the command of the id's entry in the table in force
abbrev pub is_command : List ℕ → List ℕ → List Event → Bool
is_command id text past =
    option_map_or (λ e. same_text text (command_of e)) (entry_of id (table_of past)) false

-- the newest call was a reading of inittab
abbrev pub was_reading : List HostCall → Bool
was_reading (ReadTables parts ∷ calls) = true
was_reading _ = false

-- the text is a saved state of this generation
abbrev pub is_of_generation : ℕ → List ℕ → Bool
is_of_generation generation text = option_map_or (λ g. g == generation) (generation_of text) false

-- The outcome `how` is right for a saved state that was not taken over: the text came back cut to `bytes` bytes; or it
-- came back as a text of another generation; or the outcome is `Failed`, and the text did not come back cut.
abbrev pub is_refusal : HandOver → List ℕ → TextRead → Bool
is_refusal (handed.Cut bytes) text (Ok back) = came_cut text (Ok back) && length back == bytes
is_refusal (handed.Older generation) text (Ok back) =
    is_of_generation generation back && not (is_of_generation generation text)
is_refusal handed.Failed text back = not (came_cut text back)
is_refusal _ text back = false

-- the calls that hand over a saved state and announce the outcome; `handed whole` is not announced
abbrev pub carrying : HandOver → List ℕ → TextRead → List HostCall
carrying handed.Whole text back = Carry text back ∷ []
carrying how text back = Announce (happened.Handed how) ∷ Carry text back ∷ []

-- the outcome `how` is right for a saved state: the text came back unchanged and was taken over, or `is_refusal` holds
abbrev pub is_outcome : HandOver → List ℕ → TextRead → Bool
is_outcome handed.Whole text back = came_whole text back
is_outcome how text back = is_refusal how text back

-- the step is the first due step
abbrev pub is_first : Goal → Step → List Event → Bool
is_first goal step past = same_step step (first (due goal past))

-- the happening is the first due step
abbrev pub is_first_step : Goal → Event → List Event → Bool
is_first_step goal happening past = option_map_or (λ step. is_first goal step past) (step_in happening) false

-- Init may announce the happening: it is the first due step, or it reports that the first due step failed. For
-- `notread`, the previous call read inittab. For a hand-over, the previous call handed over the saved state, with this
-- outcome; or a re-execution was due and init could not save its state.
abbrev pub may_announce : Goal → Event → List HostCall → List Event → Bool
may_announce goal happened.NotRead earlier past = was_reading earlier
may_announce goal (happened.Handed how) (Carry text back ∷ earlier) past = is_refusal how text back
may_announce goal (happened.Handed handed.Failed) earlier past = is_first goal step.Reexec past
may_announce goal happening earlier past = is_announcement happening && is_first_step goal happening past

-- Init may make the call at this point: the call carries out the first due step, and a start uses the command of the
-- id's entry in the table in force.
abbrev pub is_in_place : Goal → HostCall → List HostCall → List Event → Bool
is_in_place goal (Start id command reply) earlier past =
    is_first goal (step.Order id ask.Start) past && is_command id command past
is_in_place goal (Look id reply) earlier past = is_first goal (step.Order id ask.Look) past
is_in_place goal (Signal id sent reply) earlier past = is_first goal (step.Order id (order_for sent)) past
is_in_place goal (ReadTables parts) earlier past = is_first goal step.Reread past
is_in_place goal (Carry text back) earlier past = is_first goal step.Reexec past
is_in_place goal (Announce happening) earlier past = may_announce goal happening earlier past
is_in_place goal _ earlier past = true

-- init made each call at a point at which it was allowed
abbrev pub are_in_place : Goal → List HostCall → Point → Bool
are_in_place goal [] p = true
are_in_place goal (call ∷ calls) p =
    is_in_place goal call calls (point_after calls p).past && are_in_place goal calls p

-- the calls show the outcome of each hand-over: the text came back unchanged, or the next call announces the outcome
abbrev pub tells_outcomes : List HostCall → Bool
tells_outcomes [] = true
tells_outcomes (Announce (happened.Handed how) ∷ Carry text back ∷ calls) = tells_outcomes calls
tells_outcomes (Carry text back ∷ calls) = came_whole text back && tells_outcomes calls
tells_outcomes (_ ∷ calls) = tells_outcomes calls

-- the calls determine a trace: init was allowed to make each call at its point, and the calls show the outcome of each
-- hand-over
abbrev pub has_trace : Goal → List HostCall → Point → Bool
has_trace goal calls p = tells_outcomes calls && are_in_place goal calls p
