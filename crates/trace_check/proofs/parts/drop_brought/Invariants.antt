use Rattle.trace_check.proofs.Words.{◌≡◌, ℕ, not, ◌&&◌, List, take, list_any, has_id, among, is_changed}
use Rattle.trace_check.proofs.parts.drop_brought.Given as goal

-- the ids so far are those asked before, without those that the entries passed bring
abbrev pub invariant-loop-position : goal.invariant-loop-position
invariant-loop-position g l = (id : List ℕ) → among id l.asked.keys ≡ (not (list_any
    (λ e. has_id id e && is_changed e.id l.next l.before) (take l.position l.next)) && among id l.fn.asked.keys)
