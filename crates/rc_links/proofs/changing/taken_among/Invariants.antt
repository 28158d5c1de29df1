use Rattle.rc_links.proofs.Words.{◌≡◌, ◌++◌, map, drop, filter, is_taken_by}
use Rattle.rc_links.proofs.changing.taken_among.Given as goal

abbrev pub invariant-loop-entry : goal.invariant-loop-entry
invariant-loop-entry g l =
    map (λ e. e.now) l.found.items ++ filter (is_taken_by l.targets l.names) (drop l.entry-index l.entries)
    ≡ filter (is_taken_by l.targets l.names) l.entries
