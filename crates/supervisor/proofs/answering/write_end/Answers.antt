use Rattle.supervisor.proofs.Words.{rules, ◌≡◌, subst, ◌∷◌, refl, same_Some, Death, Reaped, Logs, last_birth, Logs-then}
use Rattle.supervisor.proofs.Words.{Grows-none, Grows-then}
use Rattle.supervisor.proofs.answering.write_end.Goals as goal

pub returns-clause-logs : goal.returns-clause-logs
returns-clause-logs g c past is =
    let n = c.in-Some.number in
    let same : n ≡ last_birth c.args.id past = search (rules, is, same_Some) in
    let dead = Death n ∷ past in
    subst (λ m. Logs (g.L.Log.state c.args.edge.now.log) (g.L.Log.state c.note-2.new.self.log) past
    (Reaped c.args.id m c.args.status ∷ Death m ∷ past))
    same
    (Logs-then (g.L.Log.state c.args.edge.now.log) (g.L.Log.state c.note.new.self.log)
    (g.L.Log.state c.note-2.new.self.log) past dead (Reaped c.args.id n c.args.status ∷ dead)
    (c.note.ensures.logs past) (c.note-2.ensures.logs dead))

pub returns-clause-grows : goal.returns-clause-grows
returns-clause-grows g c = Grows-then (g.L.Log.state c.args.edge.now.log) (g.L.Log.state c.note.new.self.log)
    (g.L.Log.state c.note-2.new.self.log) (c.note.ensures.grows refl) (c.note-2.ensures.grows refl)

pub returns-in_default-clause-grows : goal.returns-in_default-clause-grows
returns-in_default-clause-grows g c = Grows-none (g.L.Log.state c.args.edge.now.log)
