-- The state of a judge of traces, and the traces that it has judged.
use Rattle.std.specs.Prelude.{◌≡◌, List, [], ◌∷◌, Option, Some, None}
use Rattle.trace_check.specs.Words.{Entry, Event, table_of, first_breach}
use Rattle.trace_check.specs.declared.laws.Law.{Law}
use Rattle.trace_check.specs.State.{JudgeState, opening}
use Rattle.trace_check.specs.Reading.{Reads}

-- the table in force, and everything else that the laws depend on
pub record Judging : Type 0 where
  pub table : List Entry
  pub state : JudgeState

-- the judge before the first happening
abbrev pub unjudged : Judging
unjudged = record { table = []; state = opening }

-- the judge has judged these happenings, newest first, and none of them breaks a law
pub record Judged (judge : Judging) (past : List Event) : Type 0 where
  pub lawful : first_breach past ≡ None
  pub in_force : judge.table ≡ table_of past
  pub reads : Reads judge.state past

-- the judge after a happening: if the happening breaks no law, the judge has judged it too; if it breaks this law, the
-- judge is unchanged
abbrev pub JudgeAfterHappening : Option Law → Judging → Judging → Event → Type 0
JudgeAfterHappening None old new happening = (past : List Event) → Judged old past → Judged new (happening ∷ past)
JudgeAfterHappening (Some law) old new happening = new ≡ old
