-- The calls to a host that run one script, newest first, and the resulting progress of the script.
use Rattle.std.specs.Prelude.{◌≡◌, ℕ, Bool, true, false, if◌then◌else◌, List, [], ◌∷◌, length, filter, codes, Option}
use Rattle.std.specs.Prelude.{Some, None}
use Rattle.init_words.specs.Ids.{same_id}
use Rattle.init_words.specs.declared.orders.Answer.{Answer}
use Rattle.init_words.specs.declared.orders.Answer.TheVariants as given
use Rattle.rc_driver.specs.declared.times.Timer.{Timer}
use Rattle.rc_driver.specs.declared.times.Timer.TheVariants as timer
use Rattle.rc_driver.specs.Times.{due_by, timer_by}
use Rattle.host_calls.specs.Calls.{HostCall}
use Rattle.host_calls.specs.declared.calls.Call.TheVariants as call
use Rattle.host_calls.specs.declared.calls.Reply.{Reply}
use Rattle.host_calls.specs.declared.calls.Reply.TheVariants.{Now, Later}
use Rattle.rc_driver.specs.declared.progress.Progress.{Progress}
use Rattle.rc_driver.specs.declared.progress.Progress.TheVariants as progress
use Rattle.rc_driver.specs.declared.runs.RcAnswer.TheVariants as answer

-- the id under which scripts are started
abbrev pub script_id : List ℕ
script_id = codes "rc"

-- the progress of a script after it was found alive: if there is a time limit, its running time is checked next
abbrev pub alive : Option ℕ → Progress
alive None = progress.Living
alive (Some seconds) = progress.Found

-- the progress after the answer to a look
abbrev pub by_look : Option ℕ → Answer → Progress
by_look limit (given.Ended how) = progress.Over (answer.Ended how)
by_look limit _ = alive limit

-- the progress after the answer to the start: a look at a new child comes before any pause
abbrev pub by_start : Option ℕ → Answer → Progress
by_start limit (given.Born number) = progress.Born
by_start limit given.NotBorn = progress.Over answer.NotStarted
by_start limit said = by_look limit said

-- the progress after a reply: if the reply is `Later`, the script waits for the answer
abbrev pub by_reply : (Answer → Progress) → Reply → Progress
by_reply by (Now said) = by said
by_reply by Later = progress.Asked

-- the progress after a pause and a late answer, if any: an answer for the script counts if the script waits for one; if
-- the script is alive, another look at it is due
abbrev pub by_late : Option ℕ → Progress → Option (List ℕ × Answer) → Progress
by_late limit progress.Living late = progress.Born
by_late limit progress.Asked (Some late) = if same_id late.0 script_id then by_start limit late.1 else progress.Asked
by_late limit before late = before

-- the script waits for an answer, or is alive
abbrev pub is_waiting : Progress → Bool
is_waiting progress.Asked = true
is_waiting progress.Living = true
is_waiting _ = false

-- The calls run the script that this command starts, possibly with a time limit in seconds, and bring it to this
-- progress and this timer. They start it once, under the id of scripts. A look follows its birth, and each time that a
-- look is due again. If a look finds it alive and there is a limit, they read the clock, and send a signal if one is
-- due. While it waits for an answer or is alive, they pause, and then ask the host for a late answer.
abbrev pub RunsTo : Option ℕ → List ℕ → Progress → Timer → List HostCall → Type 0
RunsTo limit command now time (call.Start id text reply ∷ calls) = (id ≡ script_id) × (text ≡ command) × (calls ≡ [])
    × (now ≡ by_reply (by_start limit) reply) × (time ≡ timer.Unread)
RunsTo limit command now time (call.Look id reply ∷ calls) =
    (id ≡ script_id) × RunsTo limit command progress.Born time calls × (now ≡ by_reply (by_look limit) reply)
RunsTo limit command now time (call.Clock reading ∷ calls) = (now ≡ progress.Living) × (before : Timer)
    × RunsTo limit command progress.Found before calls × (due_by limit before reading ≡ None)
    × (time ≡ timer_by before reading None)
RunsTo limit command now time (call.Signal id signal reply ∷ call.Clock reading ∷ calls) = (id ≡ script_id)
    × (now ≡ progress.Living) × (before : Timer) × RunsTo limit command progress.Found before calls
    × (due_by limit before reading ≡ Some signal) × (time ≡ timer_by before reading (Some signal))
RunsTo limit command now time (call.Late late ∷ call.Pause ∷ calls) = (before : Progress) × (is_waiting before ≡ true)
    × RunsTo limit command before time calls × (now ≡ by_late limit before late)
RunsTo limit command now time _ = ⊥

abbrev pub is_pause : HostCall → Bool
is_pause call.Pause = true
is_pause _ = false

abbrev pub count_pauses : List HostCall → ℕ
count_pauses calls = length (filter is_pause calls)
