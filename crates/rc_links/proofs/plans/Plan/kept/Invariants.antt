use Rattle.rc_links.proofs.Words.{◌≡◌, ◌++◌, drop, kept_plan}
use Rattle.rc_links.proofs.plans.Plan.kept.Given as goal

abbrev pub invariant-loop-script : goal.invariant-loop-script
invariant-loop-script g l =
    l.scripts.items ++ kept_plan l.folders (drop l.script-index l.script-items) ≡ kept_plan l.folders l.self
