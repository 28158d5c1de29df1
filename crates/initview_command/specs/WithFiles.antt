-- The answers to queries about a trace and files of inittabs.
use Rattle.std.specs.Prelude.{◌≡◌, ◌⊎◌, List, Err}
use Rattle.initview_command.specs.Words.{REFUSED, DEVICE_FAULT, KnownTexts, NamedText}
use Rattle.initview_command.specs.Asking.{PathTexts}
use Rattle.initview_command.specs.Showing.{Answer, Gives, Shows}
use Rattle.initview_command.specs.Tables.{AreFiles}
use Rattle.initview_command.specs.Writers.{KnownWriters}

-- the answer is the one for these files, or the exit status for files that are not an inittab
abbrev pub ShowsWith : KnownTexts → KnownWriters → PathTexts → List NamedText → (List NamedText → Gives)
    → (List NamedText → Type 0) → Answer → Type 0
ShowsWith text_at writers paths files gives AreRefused answer =
    Shows text_at writers paths.path (gives files) answer ⊎ ((answer ≡ Err REFUSED) × AreRefused files)

-- the answer is the one for the files at the paths, or the exit status if a file could not be read
abbrev pub ShowsWithFiles : KnownTexts → KnownWriters → PathTexts → (List NamedText → Gives)
    → (List NamedText → Type 0) → Answer → Type 0
ShowsWithFiles text_at writers paths gives AreRefused answer =
    ((files : List NamedText) × AreFiles text_at paths files
    × ShowsWith text_at writers paths files gives AreRefused answer)
    ⊎ (answer ≡ Err DEVICE_FAULT)
