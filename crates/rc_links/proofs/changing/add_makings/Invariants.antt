use Rattle.rc_links.proofs.Words.{◌≡◌, ◌++◌, not, map, drop, filter, is_entry_of, making}
use Rattle.rc_links.proofs.changing.add_makings.Given as goal

abbrev pub invariant-loop-link : goal.invariant-loop-link
invariant-loop-link g l =
    l.changes.items
    ++ map (making l.folder.level) (filter (λ e. not (is_entry_of l.held e)) (drop l.link-index l.link-items))
    ≡ l.fn.changes.items
    ++ map (making l.folder.level) (filter (λ e. not (is_entry_of l.held e)) l.folder.planned)
