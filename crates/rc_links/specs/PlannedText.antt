-- A script with its start and stop numbers, as lists.
use Rattle.std.specs.Prelude.{ℕ, List}
use Rattle.init_words.specs.declared.levels.Level.{Level}

-- the script's name, its start and stop numbers, and the runlevels in which it is started and stopped
pub record PlannedText : Type 0 where
  pub name : List ℕ
  pub start : ℕ
  pub stop : ℕ
  pub starts : List Level
  pub stops : List Level
