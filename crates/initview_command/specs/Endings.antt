-- The exit status and the output of initview for its arguments. `KnownOutput` is the output so far.
use Rattle.std.specs.Prelude.{◌≡◌, ◌⊎◌, ℕ, Bool, true, false, if◌then◌else◌, List, [], ◌∷◌, codes, Option, Some, None}
use Rattle.initview_command.specs.Words.{DONE, REFUSED, DEVICE_FAULT, KnownTexts, asks_version, given_by, version_line}
use Rattle.initview_command.specs.Words.{KnownOutput, WritesNothing, with_local_times}
use Rattle.clap.specs.Words.{Row}
use Rattle.initview_lines.specs.declared.lines.Line.TheVariants as line
use Rattle.initview_command.specs.declared.asking.Command.{Command}
use Rattle.initview_command.specs.declared.asking.Command.TheVariants.{Show, Draw, Follow, Explain, Reload, Timing}
use Rattle.initview_command.specs.declared.asking.Command.TheVariants.{Tables}
use Rattle.initview_command.specs.Asking.{PathTexts, command_line, local_said, paths_of, what_of, words_said}
use Rattle.initview_command.specs.Charting.{drawing_by}
use Rattle.initview_command.specs.Explaining.{explained_with}
use Rattle.initview_command.specs.Following.{Follows}
use Rattle.initview_command.specs.Planning.{timing_with}
use Rattle.initview_command.specs.Reloading.{reload_with}
use Rattle.initview_command.specs.Showing.{Shows, Writes, WritesOne, answer_by}
use Rattle.initview_command.specs.Tables.{Answers, AreNone, NoneOf}
use Rattle.initview_command.specs.WithFiles.{ShowsWithFiles}
use Rattle.initview_command.specs.Writers.{KnownWriters}

-- initview carried out the command on the trace or the files, to the extent that it could write the output: it returned
-- this status, and the output changed from `old` to `new`
abbrev pub Does : KnownTexts → KnownTexts → KnownWriters → PathTexts → Command → ℕ → KnownOutput → KnownOutput → Type 0
Does text_at growing_at writers paths (Show question) status old new =
    WritesOne (Shows text_at writers paths.path (answer_by question)) status old new
Does text_at growing_at writers paths (Draw form) status old new =
    WritesOne (Shows text_at writers paths.path (drawing_by form)) status old new
Does text_at growing_at writers paths (Follow last) status old new =
    Follows last (growing_at paths.path) status old new
Does text_at growing_at writers paths (Explain id) status old new =
    WritesOne (ShowsWithFiles text_at writers paths (explained_with paths.path id) AreNone) status old new
Does text_at growing_at writers paths (Reload level) status old new =
    WritesOne (ShowsWithFiles text_at writers paths (λ parts writer. reload_with level parts) NoneOf) status old new
Does text_at growing_at writers paths (Timing level) status old new =
    WritesOne (ShowsWithFiles text_at writers paths (λ parts writer. timing_with level parts) AreNone) status old new
Does text_at growing_at writers paths (Tables question) status old new =
    WritesOne (Answers text_at paths question) status old new

-- initview rejected the arguments or ran out of memory, and wrote nothing
abbrev pub Refuses : ℕ → KnownOutput → KnownOutput → Type 0
Refuses status old new = ((status ≡ REFUSED) ⊎ (status ≡ DEVICE_FAULT)) × WritesNothing old new

-- the output with local times, if they are requested
abbrev pub timed : Bool → KnownOutput → KnownOutput
timed local now = if local then with_local_times now else now

-- initview carried out the command with local times if requested; or it could not read the time zone, and wrote nothing
abbrev pub DoesTimed : Bool → KnownTexts → KnownTexts → KnownWriters → PathTexts → Command → ℕ → KnownOutput
    → KnownOutput → Type 0
DoesTimed local text_at growing_at writers paths what status old new =
    Does text_at growing_at writers paths what status (timed local old) new
    ⊎ ((local ≡ true) × (status ≡ DEVICE_FAULT) × WritesNothing old new)

-- the outcome for parsed arguments: initview carried out the command, or rejected the arguments if they select none
abbrev pub EndsFor : KnownTexts → KnownTexts → KnownWriters → List Row → Option Command → ℕ → KnownOutput → KnownOutput
    → Type 0
EndsFor text_at growing_at writers rows (Some what) status old new =
    DoesTimed (local_said rows) text_at growing_at writers (paths_of what rows (words_said rows)) what status old new
EndsFor text_at growing_at writers rows None status old new = Refuses status old new

-- the outcome for the rows that the arguments give
abbrev pub EndsOf : KnownTexts → KnownTexts → KnownWriters → List Row → ℕ → KnownOutput → KnownOutput
    → Type 0
EndsOf text_at growing_at writers rows status old new =
    EndsFor text_at growing_at writers rows (what_of rows (words_said rows)) status old new

-- the outcome for arguments other than `--version`: initview rejected them if clap found a fault in them
abbrev pub EndsWhere : KnownTexts → KnownTexts → KnownWriters → Option (List Row) → ℕ → KnownOutput
    → KnownOutput → Type 0
EndsWhere text_at growing_at writers (Some rows) status old new = EndsOf text_at growing_at writers rows status old new
EndsWhere text_at growing_at writers None status old new = Refuses status old new

-- the outcome as in `EndsWhere`; or initview ran out of memory, and wrote nothing
abbrev pub EndsOn : KnownTexts → KnownTexts → KnownWriters → List (List ℕ) → ℕ → KnownOutput → KnownOutput
    → Type 0
EndsOn text_at growing_at writers words status old new =
    EndsWhere text_at growing_at writers (given_by command_line words) status old new
    ⊎ ((status ≡ DEVICE_FAULT) × WritesNothing old new)

-- the outcome: if the version is requested, initview wrote it; otherwise, the outcome is as in `EndsOn`
abbrev pub EndsAs : Bool → KnownTexts → KnownTexts → KnownWriters → List (List ℕ) → ℕ → KnownOutput
    → KnownOutput → Type 0
EndsAs true text_at growing_at writers words status old new =
    Writes (line.Text (version_line (codes "initview")) ∷ []) DONE status old new
EndsAs false text_at growing_at writers words status old new =
    EndsOn text_at growing_at writers words status old new

-- the outcome for the arguments of the program
abbrev pub ArgumentsEnd : KnownTexts → KnownTexts → KnownWriters → List (List ℕ) → ℕ → KnownOutput → KnownOutput
    → Type 0
ArgumentsEnd text_at growing_at writers words status old new =
    EndsAs (asks_version words) text_at growing_at writers words status old new
