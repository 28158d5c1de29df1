use Rattle.rc_links.proofs.Words.{◌≡◌, ◌||◌, ℕ, List, drop, list_any, has_link, is_link_of}
use Rattle.rc_links.proofs.kept.links_in.Given as goal

abbrev pub invariant-loop-entry : goal.invariant-loop-entry
invariant-loop-entry g l =
    (letter : ℕ) (name : List ℕ)
    → has_link letter name l.links || list_any (is_link_of letter name) (drop l.entry-index l.entries)
    ≡ list_any (is_link_of letter name) l.entries
