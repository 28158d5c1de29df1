use Rattle.rc_links.proofs.Words.{◌≡◌, ◌||◌, ℕ, List, drop, is_among}
use Rattle.rc_links.specs.Entries.{has_name}
use Rattle.rc_links.proofs.sets.names_in.Given as goal

abbrev pub invariant-loop-entry : goal.invariant-loop-entry
invariant-loop-entry g l =
    (name : List ℕ) → is_among l.names name || has_name name (drop l.entry-index l.entries) ≡ has_name name l.entries
