use Rattle.rc_links.proofs.Words.{◌≡◌, ℕ, List, [], take, drop, double_from, has_script, HasPlaces, is_known}
use Rattle.rc_links.proofs.tables.add_scripts.Given as goal

abbrev pub invariant-loop-position : goal.invariant-loop-position
invariant-loop-position g l = record {
  places : HasPlaces (take l.position l.scripts) l.provided;
  named : (name : List ℕ) → is_known l.names name ≡ has_script (take l.position l.scripts) name;
  single : double_from (take l.position l.scripts) (drop l.position l.scripts) ≡ double_from [] l.scripts;
}
