-- The state of the checker between two happenings, and lookups in its lists.
use Rattle.std.specs.Prelude.{ℕ, Bool, List, [], Option, Some, None}
use Rattle.std.specs.Map.{lookup}
use Rattle.std.specs.List.{list_any}
use Rattle.trace_check.specs.Words.{Stage, OrderKind, same_id}
use Rattle.trace_check.specs.declared.children.UnreapedChild.{UnreapedChild}

-- the value that the list has for the id
abbrev pub at : {X : Type 0} → List ℕ → List (List ℕ × X) → Option X
at id entries = lookup (same_id id) entries

-- the id is in the set
abbrev pub among : List ℕ → List (List ℕ) → Bool
among id ids = list_any (same_id id) ids

-- the times if there are any, otherwise the empty list
abbrev pub times_or_none : Option (List ℕ) → List ℕ
times_or_none None = []
times_or_none (Some times) = times

-- the times that the list has for the id
abbrev pub times_at : List ℕ → List (List ℕ × List ℕ) → List ℕ
times_at id starts = times_or_none (at id starts)

-- the stage, the seconds between SIGTERM and SIGKILL, and the time; the open orders; the ids that have a kept child,
-- the ids that were asked, the ids whose entry is called, and the ids that were sent a TERM that init has not learned
-- of; and for each id, its last starts, its last hold, its unreaped child, and the time at which init learned of the
-- first TERM in the child's spell
pub record JudgeState : Type 0 where
  pub stage : Option Stage
  pub grace : ℕ
  pub time : ℕ
  pub orders : List (List ℕ × OrderKind)
  pub kept : List (List ℕ)
  pub asked : List (List ℕ)
  pub called : List (List ℕ)
  pub sent : List (List ℕ)
  pub starts : List (List ℕ × List ℕ)
  pub holds : List (List ℕ × ℕ)
  pub children : List (List ℕ × UnreapedChild)
  pub termed : List (List ℕ × ℕ)

-- the state before the first happening
abbrev pub opening : JudgeState
opening = record {
  stage = None;
  grace = 0;
  time = 0;
  orders = [];
  kept = [];
  asked = [];
  called = [];
  sent = [];
  starts = [];
  holds = [];
  children = [];
  termed = [];
}
