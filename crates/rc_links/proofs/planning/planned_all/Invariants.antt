use Rattle.rc_links.proofs.Words.{◌≡◌, ◌++◌, drop, AllByRecursion, IsShort, planned_all}
use Rattle.rc_links.proofs.planning.planned_all.Given as goal

abbrev pub invariant-loop-position : goal.invariant-loop-position
invariant-loop-position g l = record {
  planned : l.plan.items ++ planned_all (drop l.position l.scripts) (drop l.position l.starts) (drop l.position l.stops)
      ≡ planned_all l.scripts l.starts l.stops;
  short : AllByRecursion IsShort l.plan.items;
}
