-- How a run on the operating system ends: its output, and the exit status that follows from how its turns ended.
use Rattle.std.specs.Prelude.{◌≡◌, ◌≤◌, ◌<◌, ◌⊎◌, ◌&&◌, ◌==◌, not, if◌then◌else◌, ℕ, Bool, true, false, List, [], ◌∷◌}
use Rattle.std.specs.Prelude.{◌++◌, length, string_bytes, Option, Some, None, option_map, is_none, is_some, unwrap_or}
use Rattle.std.specs.Prelude.{IfSome, IsTrue, ⊤, ◌≢◌}
use Rattle.std.specs.List.{AllByRecursion}
use Rattle.std.specs.Bool.{then_some}
use Rattle.std.specs.Io.KnownBytes.{Appends, Keeps}
use Rattle.initd_command.specs.Words.{AppendsPrefix, IsTextAt, KnownTexts, NamedText, texts_of, Entry, Level, Judgement}
use Rattle.initd_command.specs.Words.{Status, Event, CoreState, opening_goal, FitsWithLastStatuses, waiting_text}
use Rattle.initd_command.specs.Words.{HostCall}
use Rattle.initd_command.specs.Words.{are_carried, is_allowed, point_after, Served, start_point, RunArguments}
use Rattle.inittab_text.specs.Parts.{AreTooLong, AreTooMany, are_readable, faults_of_parts, table_of_texts}
use Rattle.inittab_text.specs.Tables.{default_level_of, entry_of}
use Rattle.trace_log_wrappers.specs.Judgements.{IsJudgementOf}
use Rattle.trace_log_wrappers.specs.Ends.{last_end}
use Rattle.trace_log_wrappers.specs.Notes.{IsRunning, Notes, is_wanted}
use Rattle.trace_events.specs.declared.steps.Goal.{Goal}
use Rattle.initd_command.specs.declared.run.Inittab.{Inittab}
use Rattle.initd_command.specs.declared.run.Obstacle.{Obstacle}
use Rattle.initd_command.specs.declared.run.Obstacle.TheVariants as why
use Rattle.initd_command.specs.Endings.{Ending, RunRemarks, refused, turned}
use Rattle.initd_command.specs.Turned.{End, EntryEnd, TurnsEnd, drained, limited, unlogged}
use Rattle.host_files.specs.Folders.{IsWithin}
use Rattle.host_messages.specs.LineFaults.{faults_text}

-- neither the arguments nor the table name the level that init goes to
abbrev pub has_no_level : Option Level → List Entry → Bool
has_no_level (Some level) table = false
has_no_level None table = is_none (default_level_of table)

-- the run rejects an inittab with faulty lines, and there are messages about faults
abbrev pub is_flawed : RunArguments → List ℕ → Bool
is_flawed service told = service.strict && not (length told == 0)

-- the table has an entry with the id of --result, if that is given
abbrev pub has_result : List Entry → Option (List ℕ) → Bool
has_result table None = true
has_result table (Some id) = is_some (entry_of id table)

-- the run accepts an inittab with this table, whose faults these lines report
abbrev pub is_taken : RunArguments → List ℕ → List Entry → Bool
is_taken service told table = not (is_flawed service told) && has_result table service.result

-- The notes on a run:
-- - `last`: how the last child of the entry of --result ended, if one has ended
-- - `running`: the children that are still running, if all of them are known
-- - `waiting`: the lines that say what init waits for
-- - `judgement`: the verdict on the run, if it was to be judged
pub record Noted : Type 0 where
  pub last : Option Status
  pub running : Option (List (List ℕ × ℕ))
  pub waiting : List ℕ
  pub judgement : Option Judgement

-- the notes on a run, given the notes of its log; the children are known if there was memory to note all of them
abbrev pub noted_of : Notes → List ℕ → Option Judgement → Noted
noted_of notes waiting judgement = record {
  last = notes.last;
  running = if notes.complete then Some notes.running else None;
  waiting = waiting;
  judgement = judgement;
}

-- the verdict, if the run is to be judged
abbrev pub judgement_for : RunArguments → Judgement → Option Judgement
judgement_for service judgement = then_some service.judge judgement

-- the entry of --result and how its last child ended; none if the option is not given
abbrev pub entry_end : Option Status → Option (List ℕ) → Option EntryEnd
entry_end last entry = option_map (λ id. record { id = id; last = last }) entry

-- how turns end, given whether the trace was written whole, and whether the run was to end when drained and is drained
abbrev pub turns_at : RunArguments → Noted → Bool → Bool → TurnsEnd
turns_at service noted false ends = unlogged (not ends) noted.waiting
turns_at service noted true true = drained (entry_end noted.last service.result)
turns_at service noted true false = limited noted.running noted.waiting

-- how a run ends, given the notes on it and how its turns ended
abbrev pub end_of : RunArguments → Noted → Served → End
end_of service noted served = record {
  turns = turns_at service noted served.logged (service.drain && served.drained);
  whole = served.logged;
  judgement = noted.judgement;
}

-- the run made no more turns than its arguments allow, and fewer only if it was to end when drained, and is drained
abbrev pub IsServed : RunArguments → Served → Type 0
IsServed service served =
    (served.turns ≤ service.turns)
    × (served.turns < service.turns → (service.drain ≡ true) × (served.drained ≡ true))

-- there is a verdict exactly if the run is to be judged
abbrev pub IsJudged : RunArguments → Noted → Type 0
IsJudged service noted = is_some noted.judgement ≡ service.judge

-- the run made turns and ended like this
abbrev pub EndsServed : RunArguments → End → Type 0
EndsServed service end =
    (served : Served) × (noted : Noted) × (end ≡ end_of service noted served) × IsServed service served
    × IsJudged service noted

-- these notes are right for the trace, given newest first; `wanted` is the id whose last exit status is noted
pub record AreNotesOfRun (wanted : Option (List ℕ)) (noted : Noted) (past : List Event) : Type 0 where
  pub last : (id : List ℕ) → is_wanted id wanted ≡ true → noted.last ≡ last_end id past
  pub running : IfSome noted.running (λ running. IsRunning running past)
  pub waiting : (goal : Goal) × (core : CoreState) × FitsWithLastStatuses core goal past
      × (noted.waiting ≡ waiting_text core)
  pub judgement : IfSome noted.judgement (λ judgement. IsJudgementOf judgement past)

-- How a log ended that was given this trace, oldest first: if the flag is true, the log took the whole trace and passed
-- everything on; otherwise it took a prefix of the trace.
abbrev pub LogEnds : (Bool → List Event → Type 0) → Bool → List Event → Type 0
LogEnds has_ended true trace = has_ended true trace
LogEnds has_ended false trace = (taken : List Event) × (missed : List Event) × (taken ++ missed ≡ trace)
    × (whole : Bool) × has_ended whole taken

-- the property holds for the trace of these calls, from the start of the run on, if the answers to them were possible
-- and the host returned the saved states in a permitted way
abbrev pub TurnsFrom : Option Level → List Entry → List HostCall → (List Event → Type 0) → Type 0
TurnsFrom level table calls So =
    IsTrue (is_allowed (opening_goal level table) (point_after calls (start_point table)).past)
    → IsTrue (are_carried calls (start_point table)) → So (point_after calls (start_point table)).past

-- these are the files of a run's inittab: its main file, with the text at its path if that is known, and further files
-- only if it has a folder
abbrev pub AreFiles : KnownTexts → RunArguments → List NamedText → Type 0
AreFiles text_at service parts =
    (inittab : List ℕ) × (more : List NamedText) × IsTextAt text_at service.inittab inittab
    × (parts ≡ record { name = service.inittab; bytes = inittab } ∷ more) × (service.inittab_dir ≡ None → more ≡ [])

-- the property holds for the files of the run's inittab, which are neither too many nor too long
abbrev pub HasInittab : KnownTexts → RunArguments → (List NamedText → Type 0) → Type 0
HasInittab text_at service So =
    (parts : List NamedText) × AreFiles text_at service parts × (are_readable (texts_of parts) ≡ true) × So parts

-- the table read from the files of an inittab
abbrev pub table_in : List NamedText → List Entry
table_in parts = table_of_texts (texts_of parts)

-- the lines that report the faults of these files
abbrev pub told_of : List NamedText → List ℕ
told_of parts = faults_text parts (faults_of_parts (texts_of parts))

-- the run accepts the inittab that consists of these files
abbrev pub TakesParts : RunArguments → List NamedText → Type 0
TakesParts service parts = is_taken service (told_of parts) (table_in parts) ≡ true

-- the paths of a run's inittab, channel, state and trace; the last one is empty if there is no trace
abbrev pub run_paths : RunArguments → List (List ℕ)
run_paths service = service.inittab ∷ service.initctl ∷ service.state ∷ unwrap_or service.trace [] ∷ []

-- the list has both paths, `one` before `other`
abbrev pub AppearInOrder : List ℕ → List ℕ → List (List ℕ) → Type 0
AppearInOrder one other paths =
    (before between after : List (List ℕ)) × (paths ≡ before ++ one ∷ (between ++ other ∷ after))

-- no two of the paths are equal
abbrev pub AreDistinctPaths : List (List ℕ) → Type 0
AreDistinctPaths [] = ⊤
AreDistinctPaths (path ∷ paths) = AllByRecursion (λ other. path ≢ other) paths × AreDistinctPaths paths

-- The obstacle prevents this run, for the reason that it names. This states nothing if memory ran out, or if children
-- cannot be waited for, because the definitions do not cover signals.
abbrev pub IsRunObstacle : KnownTexts → RunArguments → Obstacle → Type 0
IsRunObstacle text_at service (why.Unread path error) = (string_bytes path ≡ service.inittab)
    ⊎ ((folder : List ℕ) × (service.inittab_dir ≡ Some folder) × IsWithin folder (string_bytes path))
IsRunObstacle text_at service why.Memory = ⊤
IsRunObstacle text_at service why.Unwaited = ⊤
IsRunObstacle text_at service why.TooMany =
    (parts : List NamedText) × AreFiles text_at service parts × AreTooMany (texts_of parts)
IsRunObstacle text_at service why.TooLong =
    (parts : List NamedText) × AreFiles text_at service parts × AreTooLong (texts_of parts)
IsRunObstacle text_at service (why.Flawed told) =
    HasInittab text_at service (λ parts. (is_flawed service told.items ≡ true) × (told.items ≡ told_of parts))
IsRunObstacle text_at service (why.Unlisted id) =
    HasInittab text_at service (λ parts. (service.result ≡ Some id) × (has_result (table_in parts) (Some id) ≡ false))
IsRunObstacle text_at service (why.Busy path holder) =
    (string_bytes path ≡ service.initctl) ⊎ (service.trace ≡ Some (string_bytes path))
IsRunObstacle text_at service (why.Shared one other) =
    AppearInOrder (string_bytes one) (string_bytes other) (run_paths service)
IsRunObstacle text_at service (why.Unlocked path error) = string_bytes path ≡ service.initctl
IsRunObstacle text_at service (why.Uncreated path error) =
    (service.trace ≡ Some (string_bytes path)) × HasInittab text_at service (TakesParts service)

-- the text is written, or, if the flag is false, a prefix of it
abbrev pub Writes : Bool → List ℕ → Option (List ℕ) → Option (List ℕ) → Type 0
Writes true text old new = Appends old new text
Writes false text old new = AppendsPrefix old new text

-- the run made turns and ended like this; before the turns, the faults of the inittab were written, or, if `written` is
-- false, a prefix of them
abbrev pub EndsTold : RunArguments → List ℕ → Bool → End → Option (List ℕ) → Option (List ℕ) → Type 0
EndsTold service told written end old new = EndsServed service end × Writes written told old new

-- How a run ends. Either there is an obstacle, and nothing is written. Or its paths are all different, and it accepts
-- the inittab at its paths, writes the inittab's faults, and makes turns; it reports if neither the arguments nor the
-- table name a level, and if no option specifies when it ends.
abbrev pub EndsRun : KnownTexts → RunArguments → Ending → Option (List ℕ) → Option (List ℕ) → Type 0
EndsRun text_at service ending old new =
    ((obstacle : Obstacle) × (ending ≡ refused obstacle) × IsRunObstacle text_at service obstacle × Keeps old new)
    ⊎ AreDistinctPaths (run_paths service) × HasInittab text_at service (λ parts. TakesParts service parts
    × (spoken : RunRemarks) × (spoken.unled ≡ has_no_level service.level (table_in parts))
    × (spoken.capped ≡ not service.names_end)
    × (end : End) × (ending ≡ turned spoken end)
    × EndsTold service (told_of parts) spoken.told end old new)

-- the files are neither too many nor too long, and `read` is their table, with the messages about their faults
abbrev pub IsReadOf : List NamedText → Inittab → Type 0
IsReadOf parts read =
    (are_readable (texts_of parts) ≡ true) × (read.faults.items ≡ told_of parts) × (read.table ≡ table_in parts)

-- this table, with its faults, was read from the files of the run's inittab, and the run accepts it
abbrev pub IsInittab : KnownTexts → RunArguments → Inittab → Type 0
IsInittab text_at service read = (parts : List NamedText) × AreFiles text_at service parts × IsReadOf parts read
    × (is_taken service read.faults.items read.table ≡ true)
