use Rattle.supervisor.proofs.Words.{refl, sym, subst, ◌∷◌, [], Announce, TookFirstDueStep, Grows, CallsLead, Tracks}
use Rattle.supervisor.proofs.Words.{AddsStamped-same}
use Rattle.supervisor.proofs.Words.{IsStep, MakesOver, kept_led}
use Rattle.supervisor.proofs.Carried.{CallsLead-said}
use Rattle.supervisor.proofs.Parts.{MadeCallsLead-one}
use Rattle.supervisor.proofs.stepping.tell.Goals as goal

pub returns-clause-makes : goal.returns-clause-makes
returns-clause-makes g c core made says =
    let happening = c.args.happening in
    let log = c.write.new.self.log in
    let old = g.L.Log.state c.args.edge.now.log in
    let new = g.L.Log.state log in
    let before = c.args.edge.now.told in
    let behind = c.announce.new.self.told in
    let leads : CallsLead (TookFirstDueStep (Tracks core) made) (Tracks core) old new (Announce happening ∷ []) =
    CallsLead-said core old new made happening says c.write.ensures.logs in
    subst (λ l. MakesOver g.L.Log.state before behind old (g.L.Log.state l) IsStep (TookFirstDueStep (Tracks core) made)
    (Tracks core)) (sym c.announce.ensures.log)
    (MadeCallsLead-one g.L.Log.state before behind old new log (Announce happening) IsStep
    (TookFirstDueStep (Tracks core) made)
    (Tracks core)
    (AddsStamped-same before c.write.new.self.told behind behind
    (Announce happening) log c.write.ensures.told refl c.announce.ensures.adds) refl leads
    (kept_led (TookFirstDueStep (Tracks core) made) (Tracks core) old new happening [] leads))

pub returns-clause-grows : goal.returns-clause-grows
returns-clause-grows g c short = subst (λ l. Grows (g.L.Log.state c.args.edge.now.log) (g.L.Log.state l))
    (sym c.announce.ensures.log) (c.write.ensures.grows short)
