-- The calls that a run of init makes to its host.
use Rattle.std.specs.Prelude.{◌≡◌, ℕ, Bool, true, false, List, [], ◌∷◌, ◌++◌, reverse, Option, Some, None, is_some, ⊤}
use Rattle.std.specs.Prelude.{IfSome}
use Rattle.initd_command.specs.Words.{Entry, KnownTexts, InitdArguments, initd_read_of, runs, RunArguments, Event}
use Rattle.initd_command.specs.Words.{LogState}
use Rattle.initd_command.specs.Words.{HostCall, NewCallsSatisfy, IfPossibleFrom, CallsWereInPlace, Level, CoreState}
use Rattle.initd_command.specs.Words.{opening_goal}
use Rattle.initd_command.specs.Words.{is_drained}
use Rattle.initd_command.specs.Words.{FitsWithLastStatuses, AreObservedTurns, IsOpening, Served}
use Rattle.host_calls.specs.Settings.{HostSettings}
use Rattle.supervisor.specs.Edges.{HadAll}
use Rattle.supervisor.specs.Fronts.{AtEachCall}
use Rattle.trace_files.specs.Filed.{KnowsEnd}
use Rattle.trace_log_wrappers.specs.Keeping.{EndsBrief}
use Rattle.initd_command.specs.Turned.{End}
use Rattle.initd_command.specs.Endings.{Ending, turned}
use Rattle.initd_command.specs.Services.{HasInittab, IsJudged, AreNotesOfRun, IsServed, LogEnds, Noted, TakesParts}
use Rattle.initd_command.specs.Services.{TurnsFrom}
use Rattle.initd_command.specs.Services.{Writes, end_of, has_no_level, table_in, told_of}

-- if the answers to these calls from the opening on were possible, init is drained after them: some core fits the trace
-- and is drained
abbrev pub EndsDrained : Option Level → List Entry → List HostCall → Type 0
EndsDrained level table calls = TurnsFrom level table calls (λ past.
    (core : CoreState) × FitsWithLastStatuses core (opening_goal level table) past × (is_drained core ≡ true))

-- The calls are those of the turns of a run, from its opening with this table on. `fresh` says that the log had taken
-- nothing before.
-- - `served`, `noted`: how the turns ended, and the notes on them
-- - `turns`: the calls are those of turns from the opening on, in which a level is settled if the system does its part
-- - `fronts`: if the answers so far were possible, everything went well up to each call
-- - `drains`: if the turns ended drained, init is drained after the calls
-- - `notes`: if the log was fresh and took the whole trace, the notes are true of the trace
-- - `most`: there are no more turns than the arguments allow, and fewer only if the run was to end when drained, and
--   is drained
-- - `asked`: there is a verdict exactly if the run is to be judged
-- - `ends`: this is how the run ended
pub record MakesTurns (fresh : Type 0) (service : RunArguments) (table : List Entry) (end : End) (calls : List HostCall)
    : Type 0 where
  pub served : Served
  pub noted : Noted
  pub turns : AreObservedTurns service.strict service.drain service.level table served.turns None None calls
  pub fronts : AtEachCall (IfPossibleFrom (IsOpening service.level table) CallsWereInPlace) calls
  pub drains : served.drained ≡ true → EndsDrained service.level table calls
  pub notes : fresh → served.logged ≡ true → TurnsFrom service.level table calls (AreNotesOfRun service.result noted)
  pub most : IsServed service served
  pub asked : IsJudged service noted
  pub ends : end ≡ end_of service noted served

-- the calls are those of the turns of a run (`MakesTurns`); and if the log was fresh, it has ended as its outcome
-- states, and at each call it had taken everything so far, or had failed
abbrev pub MakesLogged : {L : Type 0} → (L → LogState) → Type 0 → (Bool → List Event → Type 0) → RunArguments
    → List Entry → End → List HostCall → Type 0
MakesLogged state fresh has_ended service table end calls = (made : MakesTurns fresh service table end calls)
    × (fresh → TurnsFrom service.level table calls (λ past. LogEnds has_ended made.served.logged (reverse past)))
    × (fresh → HadAll state (IsOpening service.level table) calls)

-- The bytes are the text of this trace, given oldest first, or, if the first flag is true, of its brief form. If not
-- all of it was written, they are a prefix of that text; if the form is brief, they may be a prefix of the brief form
-- of a longer trace that begins with this one.
abbrev pub IsWritten : Bool → List ℕ → Bool → List Event → Type 0
IsWritten false bytes whole trace = KnowsEnd whole trace (Some bytes)
IsWritten true bytes whole trace = EndsBrief (λ all written. KnowsEnd all written (Some bytes)) whole trace

-- The calls are those of the turns of a run (`MakesTurns`), and these bytes of their trace were written to files. If
-- the run writes a trace, the bytes are the written part of the trace of the calls, which is all of it if the turns
-- ended with their log whole. Otherwise there are no bytes.
abbrev pub MakesTraced : RunArguments → List Entry → End → List ℕ → List HostCall → Type 0
MakesTraced service table end bytes calls = (made : MakesTurns ⊤ service table end calls)
    × (service.trace ≡ None → bytes ≡ [])
    × (is_some service.trace ≡ true → TurnsFrom service.level table calls (λ past.
    LogEnds (IsWritten service.brief bytes) made.served.logged (reverse past)))

-- The records of a run:
-- - `opened`: the arguments with which its hosts were opened
-- - `calls`: the calls that were made to these hosts
-- - `trace`: the bytes that files of traces took
-- - `out`: the bytes that the run wrote to its output
pub record RunRecord : Type 0 where
  pub opened : Option (List RunArguments)
  pub calls : Option (List HostCall)
  pub trace : List ℕ
  pub out : Option (List ℕ)

-- the settings of a host for the arguments of a run
abbrev pub settings_of : RunArguments → HostSettings
settings_of service = record {
  inittab = service.inittab;
  logs = service.logs;
  groups = service.groups;
  respawn_delay = service.respawn_delay;
  fresh = service.fresh;
}

-- if the settings are known, they are those of the arguments
abbrev pub HasSettings : RunArguments → Option HostSettings → Type 0
HasSettings service known = IfSome known (λ settings. settings ≡ settings_of service)

-- no call was made to a host, and no file of a trace took a byte
abbrev pub AsksNothing : RunRecord → RunRecord → Type 0
AsksNothing old new = (new.calls ≡ old.calls) × (new.trace ≡ old.trace)

-- A run that makes turns makes them with the table of the inittab at its paths. It accepts this inittab, writes the
-- inittab's faults, and reports if neither the arguments nor the table name a level. Its host is opened with its
-- arguments; if the settings of the host are known, they are those of the arguments; and `conforms` holds for these
-- settings. The bytes of its trace are added to those of earlier traces. A run that ends in any other way makes no call
-- to a host, and writes no trace.
abbrev pub RanBy : KnownTexts → RunArguments → (Option HostSettings → Type 0) → Ending → RunRecord → RunRecord → Type 0
RanBy text_at service conforms (turned spoken end) old new =
    HasInittab text_at service (λ parts. TakesParts service parts
    × (spoken.unled ≡ has_no_level service.level (table_in parts))
    × (bytes : List ℕ) × (new.trace ≡ old.trace ++ bytes)
    × NewCallsSatisfy old.calls new.calls (MakesTraced service (table_in parts) end bytes)
    × Writes spoken.told (told_of parts) old.out new.out)
    × NewCallsSatisfy old.opened new.opened (λ saids. saids ≡ service ∷ [])
    × (known : Option HostSettings) × HasSettings service known × conforms known
RanBy text_at service conforms _ old new = AsksNothing old new

-- the effect of a command line on hosts and trace files: for `initd run`, the effect of the run; for any other command,
-- none
abbrev pub CommandLineAsks : KnownTexts → Option InitdArguments → (Option HostSettings → Type 0) → Ending → RunRecord
    → RunRecord → Type 0
CommandLineAsks text_at (Some (runs service)) conforms ending old new = RanBy text_at service conforms ending old new
CommandLineAsks text_at _ conforms ending old new = AsksNothing old new

-- the effect on hosts and trace files of the command line that these arguments are
abbrev pub ArgumentsAsk : KnownTexts → List (List ℕ) → (Option HostSettings → Type 0) → Ending → RunRecord → RunRecord
    → Type 0
ArgumentsAsk text_at words conforms ending old new =
    CommandLineAsks text_at (initd_read_of words) conforms ending old new
