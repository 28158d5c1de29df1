use Rattle.trace_check.proofs.Words.{◌≡◌, drop, find, entries_before, is_owed_in}
use Rattle.trace_check.proofs.judge.Judge.find_owed.Given as goal

-- the search of the remaining entries has the result of the whole search
abbrev pub invariant-loop-position : goal.invariant-loop-position
invariant-loop-position g l = find (is_owed_in l.self) (entries_before l.id (drop l.position l.table))
    ≡ find (is_owed_in l.self) (entries_before l.id l.table)
