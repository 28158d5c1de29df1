-- The time that each entry on the critical path to a level took in a trace, from its first birth to its end.
use Rattle.std.specs.List.{fold}
use Rattle.std.specs.Prelude.{ℕ, ◌-◌, ◌&&◌, ◌==◌, max, nat_lt, if◌then◌else◌, List, [], ◌∷◌, ◌++◌, map, Option, Some}
use Rattle.std.specs.Prelude.{None}
use Rattle.initview_lines.specs.CommonWords.{Entry, Level, Ending}
use Rattle.initview_lines.specs.declared.lines.Line.{Line}
use Rattle.initview_lines.specs.declared.lines.Line.TheVariants as line
use Rattle.initview_timeline.specs.declared.lives.Life.{Life}
use Rattle.initview_timeline.specs.declared.marks.TimelineMark.{TimelineMark}
use Rattle.initview_lines.specs.declared.plans.Waited.{Waited}
use Rattle.initview_lines.specs.declared.times.Timed.{Timed}
use Rattle.initview_lines.specs.declared.times.TimeTaken.{TimeTaken}
use Rattle.initview_lines.specs.declared.times.TimeTaken.TheVariants as took
use Rattle.initview_lines.specs.Plans.{waited_in}
use Rattle.initview_timeline.specs.Frames.{plus}
use Rattle.initview_timeline.specs.Lives.{lives_of, marks_for}

-- the first life in the list, if there is one
abbrev pub first_of : List Life → Option Life
first_of [] = None
first_of (life ∷ lives) = Some life

-- an entry, and the life of its first child
abbrev pub timed_of : List TimelineMark → Waited → Timed
timed_of marks w = record { entry = w; life = first_of (lives_of (marks_for (Some w.id) marks)) }

-- the seconds from a birth to an end, or 0 if there is no end
abbrev pub seconds_to : ℕ → Option Ending → ℕ
seconds_to from None = 0
seconds_to from (Some ending) = ending.time - from

-- the duration of a life that has ended, in seconds; otherwise 0
abbrev pub seconds_of : Option Life → ℕ
seconds_of None = 0
seconds_of (Some life) = seconds_to life.from life.end

-- the sum of the times that the entries took, in seconds
abbrev pub sum_of : List Timed → ℕ
sum_of timed = fold (λ sum (t : Timed). plus sum (seconds_of t.life)) 0 timed

-- the longest time that an entry took, in seconds
abbrev pub longest_of : List Timed → ℕ
longest_of timed = fold (λ longest (t : Timed). max longest (seconds_of t.life)) 0 timed

-- the seconds that an entry took, and whether no entry took longer
abbrev pub seconds_took : ℕ → ℕ → TimeTaken
seconds_took longest seconds =
    if nat_lt 0 seconds && seconds == longest then took.Longest seconds else took.Seconds seconds

-- the time that a child took, or the fact that it is still running
abbrev pub end_took : ℕ → ℕ → Option Ending → TimeTaken
end_took longest from None = took.RunsStill
end_took longest from (Some ending) = seconds_took longest (ending.time - from)

-- the time that an entry took, or the fact that it was not started
abbrev pub took_of : ℕ → Option Life → TimeTaken
took_of longest None = took.NotStarted
took_of longest (Some life) = end_took longest life.from life.end

abbrev pub time_line : ℕ → Timed → Line
time_line longest t = line.TimeTaken t.entry.id t.entry.act (took_of longest t.life)

-- the heading, the time of each entry, and the sum of these times, which is how long init takes to reach the level,
-- because it waits for the entries one after another
abbrev pub times_by : Level → List Timed → List Line
times_by level timed =
    line.PathTimes ∷ (map (time_line (longest_of timed)) timed ++ line.Whole level (sum_of timed) ∷ [])

-- the times of the entries on the critical path to a level, given the marks of a trace
abbrev pub times_in : Level → List Entry → List TimelineMark → List Line
times_in level table marks = times_by level (map (timed_of marks) (waited_in level table))
