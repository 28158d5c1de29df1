use Rattle.supervisor.proofs.Words.{rules, ◌≡◌, ◌∙◌, refl, sym, ap, subst, length, take, ◌∷◌, [], Ok, Err, arith}
use Rattle.supervisor.proofs.Words.{TakeBytes, front_read, CallsLead, bytes_in, CallsLead-still, AddsStamped-same}
use Rattle.supervisor.proofs.Words.{IsBytesCall}
use Rattle.supervisor.proofs.Words.{MakesOver, kept_still, ExtendsLogFromReader, ExtendsLogFromReader-none}
use Rattle.std.proofs.lemmas.Grind.{common_steps}
use Rattle.supervisor.specs.CallsLead.{TracksPoint}
use Rattle.supervisor.proofs.Parts.{MadeCallsLead-one}
use Rattle.supervisor.proofs.hearing.take_into.Goals as goal

pub returns-in_default-clause-takes : goal.returns-in_default-clause-takes
returns-in_default-clause-takes g c =
    let room = length c.args.buffer.now in
    let log = c.args.edge.now.log in
    let old = g.L.Log.state log in
    let told = c.args.edge.now.told in
    let now_told = c.take_bytes.new.self.told in
    let taken = front_read c.take_bytes.result c.take_bytes.new.buffer in
    let is : c.take_bytes.result ≡ Err c.in_default.field-0 = search rules in
    let none : taken ≡ Err c.in_default.field-0 = ap (λ r. front_read r c.take_bytes.new.buffer) is in
    let at = TracksPoint c.args.core.now c.args.blocks.now in
    subst (λ l. MakesOver g.L.Log.state told now_told old (g.L.Log.state l) (IsBytesCall c.args.taken 0) at at)
    (sym c.take_bytes.ensures.log)
    (MadeCallsLead-one g.L.Log.state told now_told old old log (TakeBytes room taken) (IsBytesCall c.args.taken 0) at
    at c.take_bytes.ensures.adds (room, taken, refl, c.requires, ap bytes_in none)
    (subst (λ t. CallsLead at at old old (TakeBytes room t ∷ [])) (sym none)
    (CallsLead-still
    at old (TakeBytes room (Err c.in_default.field-0)) (λ p. refl) (λ goal so_far. refl) (λ goal p. tt)))
    (kept_still at old (TakeBytes room taken) (λ so_far. refl)))

pub returns-clause-takes : goal.returns-clause-takes
returns-clause-takes g c =
    let room = length c.args.buffer.now in
    let log = c.args.edge.now.log in
    let old = g.L.Log.state log in
    let new = g.L.Log.state c.hear_bytes.new.edge.log in
    let told = c.args.edge.now.told in
    let now_told = c.hear_bytes.new.edge.told in
    let buffer = c.take_bytes.new.buffer in
    let taken = front_read c.take_bytes.result buffer in
    let is : c.take_bytes.result ≡ Ok c.in-Ok.count = search rules in
    let some : taken ≡ Ok (take c.in-Ok.count buffer) = ap (λ r. front_read r buffer) is in
    let whole : length (take c.in-Ok.count buffer) ≡ c.in-Ok.count = grind (arith, common_steps) in
    let before = TracksPoint c.args.core.now c.args.blocks.now in
    let behind = TracksPoint c.hear_bytes.new.core c.hear_bytes.new.blocks in
    MadeCallsLead-one g.L.Log.state told now_told old new log (TakeBytes room taken)
    (IsBytesCall c.args.taken c.in-Ok.count) before behind
    (AddsStamped-same told told c.take_bytes.new.self.told now_told (TakeBytes room taken) log refl
    c.hear_bytes.ensures.told c.take_bytes.ensures.adds) (room, taken, refl, c.requires, ap bytes_in some ∙ whole)
    (subst (λ t. CallsLead before behind old new (TakeBytes room t ∷ [])) (sym some)
    (subst (λ l. CallsLead before behind (g.L.Log.state l) new (TakeBytes room (Ok (take c.in-Ok.count buffer)) ∷ []))
    c.take_bytes.ensures.log (c.hear_bytes.ensures.leads room)))
    (kept_still before old (TakeBytes room taken) (λ so_far. refl))

pub returns-in_default-clause-grows : goal.returns-in_default-clause-grows
returns-in_default-clause-grows g c =
    let old = g.L.Log.state c.args.edge.now.log in
    subst (λ l. ExtendsLogFromReader c.args.core.now c.args.core.now c.args.blocks.now c.args.blocks.now old
    (g.L.Log.state l))
    (sym c.take_bytes.ensures.log) (ExtendsLogFromReader-none c.args.core.now c.args.blocks.now old)

pub returns-clause-grows : goal.returns-clause-grows
returns-clause-grows g c =
    subst (λ l. ExtendsLogFromReader c.args.core.now c.hear_bytes.new.core c.args.blocks.now c.hear_bytes.new.blocks
    (g.L.Log.state l) (g.L.Log.state c.hear_bytes.new.edge.log)) c.take_bytes.ensures.log c.hear_bytes.ensures.grows
