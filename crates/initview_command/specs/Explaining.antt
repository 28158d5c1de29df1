-- The output of the `why` command.
use Rattle.std.specs.Prelude.{ℕ, List, [], ◌∷◌, ◌++◌, Option}
use Rattle.initview_command.specs.Words.{NamedText, Event, ViewEnd}
use Rattle.initview_lines.specs.declared.lines.Line.{Line}
use Rattle.initview_lines.specs.declared.reasons.Chain.{Chain}
use Rattle.initview_lines.specs.IdLines.{id_lines}
use Rattle.initview_lines.specs.Reasons.{chain_of, why_in}
use Rattle.initview_command.specs.declared.growing.Writer.{Writer}
use Rattle.initview_command.specs.Showing.{stop_status}
use Rattle.initview_command.specs.Writers.{present}

-- the lines about the id's entries in the inittab, if one is given
abbrev pub files_lines : List ℕ → List NamedText → List Line
files_lines id [] = []
files_lines id (file ∷ files) = id_lines id (file ∷ files)

-- the answer: the current reason, with the lines of the trace that explain it, then the lines about the inittab
abbrev pub explanation : List ℕ → Chain → List Line → List Event → List Line
explanation path chain told now = why_in path chain now ++ told

-- the answer and the exit status, given the writer of the trace and the reason why the view ended, if it did
abbrev pub explained : List ℕ → List ℕ → List Line → Writer → Option ViewEnd → List Event → List Line × ℕ
explained path id told writer stop past =
    (explanation path (chain_of id past) told (present writer stop past), stop_status stop)

-- the answer to the query, including the lines about the id in the files
abbrev pub explained_with : List ℕ → List ℕ → List NamedText → Writer → Option ViewEnd → List Event → List Line × ℕ
explained_with path id files = explained path id (files_lines id files)
