use Rattle.rc_links.proofs.Words.{◌≡◌, ◌||◌, ℕ, List, drop, list_any, bytes_eq, is_among, targets_of}
use Rattle.rc_links.proofs.sets.targets_in.Given as goal

abbrev pub invariant-loop-target : goal.invariant-loop-target
invariant-loop-target g l =
    (name : List ℕ) → is_among l.names name || list_any (bytes_eq name) (targets_of (drop l.target-index l.targets))
    ≡ list_any (bytes_eq name) (targets_of l.targets)
