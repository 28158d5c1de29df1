use Rattle.initview_lines.proofs.CommonWords.{◌≡◌, ◌++◌, length, map}
use Rattle.initview_lines.specs.Lint.{IsCursor, warning_line}
use Rattle.initview_lines.proofs.lint.warning_lines.Given as goal

-- the lines so far, followed by those of the remaining warnings, are the lines of all warnings; the position is right
abbrev pub invariant-loop-found : goal.invariant-loop-found
invariant-loop-found l =
    (l.lines.items ++ map (warning_line l.parts) l.rest ≡ map (warning_line l.parts) l.warnings)
    × IsCursor l.parts l.cursor

abbrev pub decreases-loop-found : goal.decreases-loop-found
decreases-loop-found l = length l.rest
