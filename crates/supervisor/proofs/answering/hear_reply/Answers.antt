use Rattle.supervisor.proofs.Words.{rules, ◌≡◌, sym, subst, Hears, Tracks, Hears-none, ExtendsLogFromCore-none}
use Rattle.host_calls.specs.declared.calls.Reply.TheVariants.{Later}
use Rattle.supervisor.specs.Point.{replied}
use Rattle.supervisor.proofs.answering.hear_reply.Goals as goal

pub returns-in-Later-clause-hears : goal.returns-in-Later-clause-hears
returns-in-Later-clause-hears g c =
    let is : c.args.reply.now ≡ Later = search rules in
    let core = c.args.core.now in
    let log = g.L.Log.state c.args.edge.now.log in
    subst (λ reply. Hears (Tracks core) (Tracks core) log log (replied c.args.id reply)) (sym is)
    (Hears-none (Tracks core) log)

pub returns-in-Later-clause-grows : goal.returns-in-Later-clause-grows
returns-in-Later-clause-grows g c = search (rules, ExtendsLogFromCore-none)
