use Rattle.supervisor.proofs.Words.{◌∷◌, refl, Told, acted, Logs-then, Grows-then}
use Rattle.supervisor.proofs.answering.write_answer.Goals as goal

pub returns-clause-logs : goal.returns-clause-logs
returns-clause-logs g c past number =
    let act = acted c.args.id c.args.answer past in
    Logs-then (g.L.Log.state c.args.edge.now.log) (g.L.Log.state c.write_act.new.edge.log)
    (g.L.Log.state c.note.new.self.log) past act (Told c.args.id ∷ act)
    (c.write_act.ensures.logs past number) (c.note.ensures.logs act)

pub returns-clause-grows : goal.returns-clause-grows
returns-clause-grows g c = Grows-then (g.L.Log.state c.args.edge.now.log) (g.L.Log.state c.write_act.new.edge.log)
    (g.L.Log.state c.note.new.self.log) c.write_act.ensures.grows (c.note.ensures.grows refl)
