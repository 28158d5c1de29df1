use Rattle.rc_links.proofs.Words.{◌≡◌, ◌++◌, map, drop, filter, is_removed_by, removal}
use Rattle.rc_links.proofs.changing.add_removals.Given as goal

abbrev pub invariant-loop-entry : goal.invariant-loop-entry
invariant-loop-entry g l =
    l.changes.items ++ map (removal l.folder.level)
    (filter (is_removed_by l.named l.targets l.planned l.names) (drop l.entry-index l.entry-items))
    ≡ l.fn.changes.items
    ++ map (removal l.folder.level) (filter (is_removed_by l.named l.targets l.planned l.names) l.folder.held)
