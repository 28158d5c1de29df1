use Rattle.level_core.proofs.Words.{◌≡◌, take, is_named, with_called}
use Rattle.level_core.proofs.calling.call_named.Given as goal

-- the entries so far are called
abbrev pub invariant-loop-position : goal.invariant-loop-position
invariant-loop-position g l = l.slots ≡ with_called (is_named l.step l.stage) (take l.position l.table) l.fn.slots
