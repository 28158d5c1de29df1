-- The calls that a host makes to the system, with their answers: for processes (fork(2), execve(2), waitpid(2),
-- kill(2)), the clock, and the inittab file.
use Rattle.std.specs.Prelude.{ℕ, Bool, if◌then◌else◌, ◌==◌, ◌%◌, ◌/◌, List, ◌∷◌, Option, Some, None, Result, Ok, Err}
use Rattle.std.specs.Process.{status_bits}
use Rattle.std.specs.declared.process.status.ExitStatus.{ExitStatus}
use Rattle.init_words.specs.declared.children.Status.{Status}
use Rattle.init_words.specs.declared.children.Status.TheVariants.{Exit, Killed}
use Rattle.init_words.specs.declared.orders.Answer.{Answer}
use Rattle.init_words.specs.declared.orders.Answer.TheVariants.{Born, NotBorn, Ended, Alive, NoLook, Hit, Miss}
use Rattle.init_words.specs.declared.orders.SignalKind.{SignalKind}

-- the outcome of waitpid(2) with WNOHANG: how the process ended, or that it is still running; none if the call failed
abbrev pub Waited : Type 0
Waited = Option (Option ExitStatus)

-- the outcome of a wait that returned this result
abbrev pub waited : {E : Type 0} → Result (Option ExitStatus) E → Waited
waited (Ok ended) = Some ended
waited (Err why) = None

-- A call to the system, with its answer:
-- - `spawn`: the host tried to start a program with these arguments, its name first. The program became the process
--   with this number, or could not be started.
-- - `try_wait`: the host waited for the process with this number, without blocking.
-- - `send`: the host sent this signal to the process with this number (kill(2)); the flag says whether it reached it.
-- - `send_group`: the host sent this signal to the process group of this process; the flag says whether it reached it.
-- - `run`: the host ran a program until it ended.
-- - `read_clock`: the host read the clock, which returned the time since the beginning of 1970 in nanoseconds, or
--   failed.
-- - `read_file`: the host read the file at this path, which had this text or could not be read.
pub data SystemCall : Type 0 where
  spawn : List (List ℕ) → Option ℕ → SystemCall
  try_wait : ℕ → Waited → SystemCall
  send : SignalKind → ℕ → Bool → SystemCall
  send_group : SignalKind → ℕ → Bool → SystemCall
  run : List (List ℕ) → SystemCall
  read_clock : Option ℕ → SystemCall
  read_file : List ℕ → Option (List ℕ) → SystemCall

-- the calls, with this number as the answer of the newest one, which started a process
abbrev pub born : ℕ → List SystemCall → List SystemCall
born number (spawn words answer ∷ calls) = spawn words (Some number) ∷ calls
born number calls = calls

-- How a process ended, by its status from waitpid(2): with an exit status if WIFEXITED, otherwise by a signal.
abbrev pub status_of : ExitStatus → Status
status_of ended = if status_bits ended % 128 == 0 then Exit (status_bits ended / 256 % 256) else Killed

-- the call that sends a signal to a child, or to its process group if children have process groups
abbrev pub sent : Bool → SignalKind → ℕ → Bool → SystemCall
sent groups signal number reached =
    if groups then send_group signal number reached else send signal number reached

-- the answer to a start that returned the child's number, or failed
abbrev pub start_answer : {E : Type 0} → Result ℕ E → Answer
start_answer (Ok number) = Born number
start_answer (Err why) = NotBorn

-- the answer to a look with this outcome
abbrev pub look_answer : Waited → Answer
look_answer (Some (Some ended)) = Ended (status_of ended)
look_answer (Some None) = Alive
look_answer None = NoLook

-- the answer to a signal, given whether the signal reached the process
abbrev pub signal_answer : Bool → Answer
signal_answer reached = if reached then Hit else Miss
