use Rattle.supervisor.proofs.Words.{rules, ◌≡◌, sym, subst, None, Hears, Tracks, come, Hears-none}
use Rattle.supervisor.proofs.Words.{ExtendsLogFromCore-none}
use Rattle.supervisor.proofs.hearing.hear_come.Goals as goal

pub returns-in_default-clause-hears : goal.returns-in_default-clause-hears
returns-in_default-clause-hears g c =
    let is : c.args.late.now ≡ None = search rules in
    let log = g.L.Log.state c.args.edge.now.log in
    subst (λ late. Hears (Tracks c.args.core.now) (Tracks c.args.core.now) log log (come late)) (sym is)
    (Hears-none (Tracks c.args.core.now) log)

pub returns-in_default-clause-grows : goal.returns-in_default-clause-grows
returns-in_default-clause-grows g c = ExtendsLogFromCore-none c.args.core.now (g.L.Log.state c.args.edge.now.log)
