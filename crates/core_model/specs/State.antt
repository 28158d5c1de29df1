-- The state of init, and its initial value (init(8)).
use Rattle.std.specs.Prelude.{false, List, map, Option, Some, None}
use Rattle.core_model.specs.Words.{Entry, Level, S, default_level_of, Goal, SlotState, new_record}
use Rattle.init_words.specs.declared.limits.TheConstants.{GRACE}
use Rattle.core_model.specs.declared.parts.CoreFields.{CoreFields}
use Rattle.trace_events.specs.CallSets.{no_news}

-- the table, the records in record order, and the fields of init, such as its stage, goal, time and pending requests
pub record CoreState : Type 0 where
  pub table : List Entry
  pub slots : List SlotState
  pub fields : CoreFields

-- the fields of a new core: no stage yet, and no pending request
abbrev pub opening_fields : Goal → CoreFields
opening_fields goal = record {
  generation = 0;
  time = 0;
  stage = None;
  grace = 0;
  goal = goal;
  booted = false;
  announced = false;
  reread = false;
  reexec = false;
  level_wish = None;
  pending = no_news;
}

-- a new core: a record for each entry of the table
abbrev pub opening_state : List Entry → Goal → CoreState
opening_state table goal = record { table = table; slots = map new_record table; fields = opening_fields goal }

-- the initial goal: the level given, otherwise the table's default level, otherwise S
abbrev pub opening_level : Option Level → Option Level → Level
opening_level (Some given) default = given
opening_level None (Some default) = default
opening_level None None = S

-- the initial goal, with the default number of seconds between SIGTERM and SIGKILL
abbrev pub opening_goal : Option Level → List Entry → Goal
opening_goal given table = record { level = opening_level given (default_level_of table); grace = GRACE }
