-- The calls that a host makes to the system for each call that it receives, and how its answer follows from them. For
-- each call that it receives, it makes at most one.
use Rattle.std.specs.Prelude.{◌≡◌, ◌⊎◌, ℕ, Bool, false, List, [], ◌∷◌, ◌++◌, map, Option, Some, None}
use Rattle.std.specs.Prelude.{◌/◌, Result, Ok, IfOk, IsErr}
use Rattle.std.specs.Map.{lookup}
use Rattle.init_words.specs.Ids.{same_id}
use Rattle.init_words.specs.declared.orders.Answer.{Answer}
use Rattle.init_words.specs.declared.orders.Answer.TheVariants.{Born}
use Rattle.init_words.specs.declared.orders.SignalKind.{SignalKind}
use Rattle.host_calls.specs.declared.calls.Call.TheVariants.{Start, Look, Signal, Clock, ReadTables}
use Rattle.host_calls.specs.declared.calls.HostFault.{HostFault}
use Rattle.host_calls.specs.declared.calls.Reply.{Reply}
use Rattle.host_calls.specs.declared.calls.Reply.TheVariants.{Now, Later}
use Rattle.host_calls.specs.Calls.{HostCall, PartsRead}
use Rattle.host_calls.specs.Held.{HeldChildren, CallChangesHeld}
use Rattle.host_calls.specs.Settings.{HostSettings}
use Rattle.host_files.specs.Folders.{IsOwnFirst}
use Rattle.host_system.specs.Commands.{launched, words_logged, words_run}
use Rattle.host_system.specs.Delays.{start_delay}
use Rattle.host_system.specs.Logs.{log_path}
use Rattle.host_system.specs.Systems.{SystemCall, Waited, look_answer, sent, signal_answer}
use Rattle.host_system.specs.Systems.SystemCall.{read_clock, read_file, run, spawn, try_wait}

-- The arguments start the id's process text after a delay in seconds. If there is a folder for logs, the output goes to
-- the id's log there; if the host cannot open the log, the process is started as if there were no logs. If children
-- have process groups, the process is started in its own session.
abbrev pub AreStarted : Option (List ℕ) → Bool → ℕ → List ℕ → List ℕ → List (List ℕ) → Type 0
AreStarted None groups delay id text words = words ≡ launched groups delay (words_run text)
AreStarted (Some folder) groups delay id text words =
    (words ≡ launched groups delay (words_logged (log_path folder id) text))
    ⊎ (words ≡ launched groups delay (words_run text))

-- If the answer is `Born`, a process was started with these arguments and has that number. After any other answer,
-- either no call was made to the system, or the process could not be started.
abbrev pub SpawnRequests : List (List ℕ) → Answer → List SystemCall → List SystemCall → Type 0
SpawnRequests words (Born number) old new = new ≡ spawn words (Some number) ∷ old
SpawnRequests words _ old new = (new ≡ old) ⊎ (new ≡ spawn words None ∷ old)

-- A start of the id's process text after a delay: at most one process is started, with arguments that start this text,
-- and the answer says whether it was started.
abbrev pub StartRequests : Option (List ℕ) → Bool → ℕ → List ℕ → List ℕ → Answer → List SystemCall → List SystemCall
    → Type 0
StartRequests logs groups delay id text answer old new =
    (words : List (List ℕ)) × AreStarted logs groups delay id text words × SpawnRequests words answer old new

-- the number of the id's child, if it has one
abbrev pub number_of : List ℕ → HeldChildren → Option ℕ
number_of id held = lookup (same_id id) held

-- the host waited once for the process with this number, with this outcome; without a number, no call was made to the
-- system, and the wait counts as failed
abbrev pub WaitRequest : Option ℕ → Waited → List SystemCall → List SystemCall → Type 0
WaitRequest (Some number) outcome old new = new ≡ try_wait number outcome ∷ old
WaitRequest None outcome old new = (new ≡ old) × (outcome ≡ None)

-- A look at the child with this number, if there is one: the answer follows from the outcome of the wait.
abbrev pub LookRequest : Option ℕ → Answer → List SystemCall → List SystemCall → Type 0
LookRequest child answer old new = (outcome : Waited) × WaitRequest child outcome old new
    × (answer ≡ look_answer outcome)

-- the host sent the signal once to the process with this number, or to its process group, and `reached` says whether
-- that succeeded; without a number, no call was made to the system, and `reached` is false
abbrev pub SendRequest : Bool → Option ℕ → SignalKind → Bool → List SystemCall → List SystemCall → Type 0
SendRequest groups (Some number) signal reached old new = new ≡ sent groups signal number reached ∷ old
SendRequest groups None signal reached old new = (new ≡ old) × (reached ≡ false)

-- A signal to the child with this number, if there is one: the answer says whether the signal reached it.
abbrev pub SignalRequest : Bool → Option ℕ → SignalKind → Answer → List SystemCall → List SystemCall → Type 0
SignalRequest groups child signal answer old new =
    (reached : Bool) × SendRequest groups child signal reached old new × (answer ≡ signal_answer reached)

-- the host answered at once, and the property holds for the answer
abbrev pub AnsweredNow : Reply → (Answer → Type 0) → Type 0
AnsweredNow (Now answer) P = P answer
AnsweredNow Later P = ⊥

-- Some helper programs of the host were run until they ended, and no other call was made to the system. A helper is not
-- the child of any id.
abbrev pub RunsHelpers : List SystemCall → List SystemCall → Type 0
RunsHelpers old new = (helpers : List (List (List ℕ))) × (new ≡ map run helpers ++ old)

-- the answer is the time in whole seconds, or a fault if the clock could not be read
abbrev pub AreSecondsOf : Option ℕ → Result ℕ HostFault → Type 0
AreSecondsOf (Some time) seconds = seconds ≡ Ok (time / 1_000_000_000)
AreSecondsOf None seconds = IsErr seconds

-- A reading of the clock: the system's clock was read once, and the answer is its time or a fault.
abbrev pub ClockRequest : Result ℕ HostFault → List SystemCall → List SystemCall → Type 0
ClockRequest seconds old new = (time : Option ℕ) × (new ≡ read_clock time ∷ old) × AreSecondsOf time seconds

-- A reading of the inittab at the path: that file was read once, and, unless the answer is a fault, it was read
-- successfully and is the first part.
abbrev pub TablesRequest : List ℕ → PartsRead → List SystemCall → List SystemCall → Type 0
TablesRequest path parts old new =
    (text : Option (List ℕ)) × (new ≡ read_file path text ∷ old) × IfOk parts (IsOwnFirst path text)

-- exactly the calls that the host makes to the system for a call that it receives, given its settings, the calls that
-- it had received before, newest first, and the children that it held
abbrev pub SystemCallsForCall : HostSettings → HostCall → List HostCall → HeldChildren → List SystemCall
    → List SystemCall → Type 0
SystemCallsForCall settings (Start id text reply) calls held old new = AnsweredNow reply (λ answer. StartRequests
    settings.logs settings.groups (start_delay settings.respawn_delay id calls) id text answer old new)
SystemCallsForCall settings (Look id reply) calls held old new =
    AnsweredNow reply (λ answer. LookRequest (number_of id held) answer old new)
SystemCallsForCall settings (Signal id signal reply) calls held old new =
    AnsweredNow reply (λ answer. SignalRequest settings.groups (number_of id held) signal answer old new)
SystemCallsForCall settings (Clock seconds) calls held old new = ClockRequest seconds old new
SystemCallsForCall settings (ReadTables parts) calls held old new = TablesRequest settings.inittab parts old new
SystemCallsForCall settings _ calls held old new = new ≡ old

-- A host with these settings that held no children at first can receive these calls, newest first, and then hold these
-- children. The system calls are those for each of the calls, in order, preceded by helpers that were run before the
-- first call.
abbrev pub AreSystemCallsFor : HostSettings → List HostCall → HeldChildren → List SystemCall → Type 0
AreSystemCallsFor settings [] held asked = (held ≡ []) × RunsHelpers [] asked
AreSystemCallsFor settings (call ∷ calls) held asked =
    (before : HeldChildren) × (between : List SystemCall) × AreSystemCallsFor settings calls before between
    × CallChangesHeld call before held × SystemCallsForCall settings call calls before between asked
