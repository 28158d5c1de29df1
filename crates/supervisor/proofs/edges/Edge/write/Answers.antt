use Rattle.std.proofs.Common.{rules}
use Rattle.supervisor.proofs.EdgeWords.{◌≡◌, true, false}
use Rattle.supervisor.proofs.Growing.{Grows-handed, Grows-none}
use Rattle.supervisor.proofs.Taking.{Logs-handed, Logs-same}
use Rattle.supervisor.proofs.edges.Edge.write.Goals as goal

pub returns-then-not-failed-clause-logs : goal.returns-then-not-failed-clause-logs
returns-then-not-failed-clause-logs g c past =
    let works : (g.L.Log.state c.self.inside.log).failed ≡ false = search rules in
    rw (← c.self.view_is) (Logs-handed (g.L.Log.state c.self.inside.log)
    (g.L.Log.state c.take.new.self) past c.args.happening.now c.take.result c.take.ensures.noted works
    c.law_of_ranges.ensures c.take.ensures.flag c.take.ensures.ok c.take.ensures.err)

pub returns-else-not-failed-clause-logs : goal.returns-else-not-failed-clause-logs
returns-else-not-failed-clause-logs g c past =
    let failed : (g.L.Log.state c.self.inside.log).failed ≡ true = search rules in
    rw (← c.self.view_is) (Logs-same (g.L.Log.state c.self.inside.log) past c.args.happening.now failed)

pub returns-then-not-failed-clause-grows : goal.returns-then-not-failed-clause-grows
returns-then-not-failed-clause-grows g c short =
    let works : (g.L.Log.state c.self.inside.log).failed ≡ false = search rules in
    rw (← c.self.view_is) (Grows-handed (g.L.Log.state c.self.inside.log) (g.L.Log.state c.take.new.self)
    c.args.happening.now c.take.result works c.law_of_ranges.ensures c.take.ensures.ok c.take.ensures.err short)

pub returns-else-not-failed-clause-grows : goal.returns-else-not-failed-clause-grows
returns-else-not-failed-clause-grows g c short = Grows-none (g.L.Log.state c.args.self.now.log)
