-- The settings of a host, which no call changes.
use Rattle.std.specs.Prelude.{ℕ, Bool, List, Option}

-- the path of its inittab; the directory of the log files, if the output of children is logged; whether each child runs
-- in its own session, so that signals are sent to its process group (setsid(1), kill(2)); the longest delay of a start
-- in seconds, if starts that follow each other too soon are delayed; and whether the host skips the requests that were
-- in its channel before the first reading
pub record HostSettings : Type 0 where
  pub inittab : List ℕ
  pub logs : Option (List ℕ)
  pub groups : Bool
  pub respawn_delay : Option ℕ
  pub fresh : Bool
