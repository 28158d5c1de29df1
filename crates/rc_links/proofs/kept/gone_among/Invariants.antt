use Rattle.rc_links.proofs.Words.{◌≡◌, ◌++◌, map, drop, filter, is_gone_by}
use Rattle.rc_links.proofs.kept.gone_among.Given as goal

abbrev pub invariant-loop-entry : goal.invariant-loop-entry
invariant-loop-entry g l =
    map (λ e. e.now) l.found.items ++ filter (is_gone_by l.names) (drop l.entry-index l.entries)
    ≡ filter (is_gone_by l.names) l.entries
