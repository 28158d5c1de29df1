use Rattle.trace_check.proofs.Words.{◌≡◌, ◌≤◌, ◌+◌, ℕ, ◌&&◌, ◌||◌, List, length, take, list_any, has_id, starts_in}
use Rattle.trace_check.proofs.Words.{among, is_named}
use Rattle.indexmap.specs.IndexSet.{spare as set_spare}
use Rattle.trace_check.proofs.parts.add_named.Given as goal

-- the ids so far are those called before and those of the entries passed that are named and start in the stage; and
-- there is room for the remaining entries
abbrev pub invariant-loop-position : goal.invariant-loop-position
invariant-loop-position g l = ((id : List ℕ) → among id l.called.keys ≡ (list_any (λ e. has_id id e
    && (is_named l.happening e && starts_in e l.stage)) (take l.position l.table) || among id l.fn.called.keys))
    × (length l.table ≤ set_spare l.called + l.position)
