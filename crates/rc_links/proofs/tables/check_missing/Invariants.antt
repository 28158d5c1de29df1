use Rattle.rc_links.proofs.Words.{◌≡◌, drop, missing_from}
use Rattle.rc_links.proofs.tables.check_missing.Given as goal

abbrev pub invariant-loop-script : goal.invariant-loop-script
invariant-loop-script g l = missing_from l.scripts (drop l.script-index l.scripts) ≡ missing_from l.scripts l.scripts
