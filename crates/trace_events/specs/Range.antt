-- The ranges of the values in the happenings of a trace.
use Rattle.std.specs.Prelude.{ℕ, Bool, true, ◌+◌, ◌^◌, ◌&&◌, nat_lt, List}
use Rattle.std.specs.List.{list_all}
use Rattle.init_words.specs.declared.children.Status.{Status}
use Rattle.init_words.specs.declared.children.Status.TheVariants.{Exit, Killed}
use Rattle.init_words.specs.declared.limits.TheConstants.{GRACE_LIMIT}
use Rattle.trace_events.specs.Words.{is_id}
use Rattle.initctl_frame.specs.declared.requests.HeardRequest.{HeardRequest as Request}
use Rattle.initctl_frame.specs.declared.requests.HeardRequest.TheVariants as got
use Rattle.inittab_text.specs.Written.{is_table}
use Rattle.trace_events.specs.declared.happenings.Happening.TheVariants.{NewTable, Enter, Asked, Hold, Birth, NoBirth}
use Rattle.trace_events.specs.declared.happenings.Happening.TheVariants.{Death, Reaped, Still, NoLook, Hit, Miss, Told}
use Rattle.trace_events.specs.declared.happenings.Happening.TheVariants.{Clock, Got, Handed}
use Rattle.trace_events.specs.declared.happenings.Handed.{Handed as HandOver}
use Rattle.trace_events.specs.declared.happenings.Handed.TheVariants as handed
use Rattle.trace_events.specs.Event.{Event}

-- the number of seconds between SIGTERM and SIGKILL is at most an hour
abbrev pub is_seconds : ℕ → Bool
is_seconds seconds = nat_lt seconds (GRACE_LIMIT + 1)

-- the number can be the number of a child: it fits in 32 bits
abbrev pub is_number : ℕ → Bool
is_number number = nat_lt number (2 ^ 32)

-- the number can be a clock reading, a number of bytes or a generation: it fits in 64 bits
abbrev pub is_count : ℕ → Bool
is_count count = nat_lt count (2 ^ 64)

-- if the status is an exit code, it fits in 8 bits
abbrev pub is_status : Status → Bool
is_status (Exit code) = nat_lt code 256
is_status Killed = true

-- if the request is for a level, its number of seconds is at most an hour
abbrev pub is_request : Request → Bool
is_request (got.Level level seconds) = is_seconds seconds
is_request _ = true

-- the number in the result of a hand-over, if any, fits in 64 bits
abbrev pub is_hand_over : HandOver → Bool
is_hand_over (handed.Cut bytes) = is_count bytes
is_hand_over (handed.Older generation) = is_count generation
is_hand_over _ = true

-- all values of the happening are in range: its id is valid, its table is valid, and its numbers are within their
-- limits
abbrev pub is_in_range : Event → Bool
is_in_range (NewTable table) = is_table table
is_in_range (Enter stage seconds) = is_seconds seconds
is_in_range (Asked id order) = is_id id
is_in_range (Hold id) = is_id id
is_in_range (Birth id number) = is_id id && is_number number
is_in_range (NoBirth id) = is_id id
is_in_range (Death number) = is_number number
is_in_range (Reaped id number status) = is_id id && is_number number && is_status status
is_in_range (Still id) = is_id id
is_in_range (NoLook id) = is_id id
is_in_range (Hit id) = is_id id
is_in_range (Miss id) = is_id id
is_in_range (Told id) = is_id id
is_in_range (Clock reading) = is_count reading
is_in_range (Got request) = is_request request
is_in_range (Handed how) = is_hand_over how
is_in_range _ = true

abbrev pub are_in_range : List Event → Bool
are_in_range trace = list_all is_in_range trace

-- the number of seconds between SIGTERM and SIGKILL in the happening, if any, is at most an hour
abbrev pub is_short : Event → Bool
is_short (Enter stage seconds) = is_seconds seconds
is_short (Got request) = is_request request
is_short _ = true

abbrev pub are_short : List Event → Bool
are_short trace = list_all is_short trace
