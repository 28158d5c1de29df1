use Rattle.rc_links.proofs.Words.{◌≡◌, ◌||◌, drop, list_any, is_entry_of, same_entry, EntryText}
use Rattle.rc_links.proofs.sets.entries_in.Given as goal

abbrev pub invariant-loop-entry : goal.invariant-loop-entry
invariant-loop-entry g l =
    (e : EntryText) → is_entry_of l.found e || list_any (same_entry e) (drop l.entry-index l.entries)
    ≡ list_any (same_entry e) l.entries
