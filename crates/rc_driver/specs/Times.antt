-- The running time of a script with a time limit: when rc sends it a signal, and the message about the signal.
use Rattle.std.specs.Prelude.{ℕ, nat_lt, if◌then◌else◌, List, [], ◌∷◌, ◌++◌, ◌-◌, codes, decimal, Option, Some, None}
use Rattle.std.specs.Prelude.{Result, Ok, Err, unwrap_or}
use Rattle.init_words.specs.declared.limits.TheConstants.{GRACE}
use Rattle.init_words.specs.declared.orders.SignalKind.{SignalKind}
use Rattle.init_words.specs.declared.orders.SignalKind.TheVariants as sig
use Rattle.host_calls.specs.declared.calls.HostFault.{HostFault}
use Rattle.rc_driver.specs.declared.times.Timer.{Timer}
use Rattle.rc_driver.specs.declared.times.Timer.TheVariants as timer
use Rattle.rc_driver.specs.declared.runs.ScriptOptions.{ScriptOptions}

-- the signal that is due at a time: SIGTERM if the script has run for longer than its limit, SIGKILL if it was sent
-- SIGTERM and has since run for longer than init's grace period
abbrev pub due_signal : ℕ → Timer → ℕ → Option SignalKind
due_signal seconds (timer.RunningSince began) now = if nat_lt seconds (now - began) then Some sig.Term else None
due_signal seconds (timer.TermSent sent) now = if nat_lt GRACE (now - sent) then Some sig.Kill else None
due_signal seconds _ now = None

-- the signal that is due at a reading of the clock; none if the clock could not be read or there is no limit
abbrev pub due_by : Option ℕ → Timer → Result ℕ HostFault → Option SignalKind
due_by (Some seconds) before (Ok now) = due_signal seconds before now
due_by _ before reading = None

-- the timer after this time, given the signal that was due then, if any
abbrev pub timer_at : Timer → ℕ → Option SignalKind → Timer
timer_at before now (Some sig.Term) = timer.TermSent now
timer_at before now (Some sig.Kill) = timer.Killed
timer_at timer.Unread now None = timer.RunningSince now
timer_at before now None = before

-- the timer after a reading of the clock; a failed reading does not change it
abbrev pub timer_by : Timer → Result ℕ HostFault → Option SignalKind → Timer
timer_by before (Ok now) due = timer_at before now due
timer_by before (Err fault) due = before

-- the number of seconds that rc waits before it sends the signal
abbrev pub wait_of : Option ℕ → SignalKind → ℕ
wait_of limit sig.Term = unwrap_or limit 0
wait_of limit sig.Kill = GRACE

abbrev pub signal_word : SignalKind → List ℕ
signal_word sig.Term = codes " s: TERM was sent"
signal_word sig.Kill = codes " s more: KILL was sent"

-- the message that a script has not ended after this number of seconds and was sent the signal; it names the script's
-- link and its folder
abbrev pub late_line : List ℕ → List ℕ → ℕ → SignalKind → List ℕ
late_line dir link seconds signal = codes "rc: " ++ (dir ++ (codes "/" ++ (link ++ (codes " has not ended after "
    ++ (decimal seconds ++ (signal_word signal ++ codes "\n"))))))

-- the message about a signal, with the time limit or the grace period
abbrev pub signal_line : Option ℕ → List ℕ → List ℕ → SignalKind → List ℕ
signal_line limit dir link signal = late_line dir link (wait_of limit signal) signal

-- the messages reported so far, given the timer, newest first
abbrev pub time_lines : ScriptOptions → List ℕ → List ℕ → Timer → List (List ℕ)
time_lines way dir link (timer.TermSent sent) = signal_line way.seconds dir link sig.Term ∷ []
time_lines way dir link timer.Killed =
    signal_line way.seconds dir link sig.Kill ∷ signal_line way.seconds dir link sig.Term ∷ []
time_lines way dir link _ = []
