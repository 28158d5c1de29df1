use Rattle.supervisor.proofs.Words.{rules, ◌≡◌, ◌++◌, ◌∙◌, refl, sym, ap, subst, [], ◌∷◌, take, drop, append-nil}
use Rattle.supervisor.proofs.Words.{append_assoc, Ok, TakeBytes, CallsLead, CallsLead-no_bytes, CallsLead-pieces}
use Rattle.supervisor.proofs.Words.{ExtendsLogFromReader-none}
use Rattle.supervisor.proofs.Words.{ExtendsLogFromReader-then}
use Rattle.std.proofs.lemmas.List.{nil_from_length, take-append-drop, take_rest}
use Rattle.supervisor.specs.CallsLead.{TracksPoint}
use Rattle.supervisor.proofs.hearing.hear_bytes.Goals as goal

pub loop-rest-init : goal.loop-rest-init
loop-rest-init g c = (
  [],
  refl,
  refl,
  (λ room. CallsLead-no_bytes (TracksPoint c.args.core.now c.args.blocks.now) (g.L.Log.state c.args.edge.now.log) room),
  ExtendsLogFromReader-none c.args.core.now c.args.blocks.now (g.L.Log.state c.args.edge.now.log),
  refl,
)

pub loop-rest-preserved : goal.loop-rest-preserved
loop-rest-preserved g c =
    let (part, whole, told, leads, grows, same) = c.loop-rest.invariant in
    let front = take c.hear_front-count.result c.loop-rest.rest.now in
    let rest = drop c.hear_front-count.result c.loop-rest.rest.now in
    let joined : (part ++ front) ++ rest ≡ c.args.bytes.now = append_assoc part front rest
    ∙ ap (λ l. part ++ l) (take-append-drop c.hear_front-count.result c.loop-rest.rest.now) ∙ whole in
    rw take_rest (
      part ++ front,
      joined,
      c.hear_front-count.ensures.told ∙ told,
      (λ room. CallsLead-pieces (TracksPoint c.args.core.now c.args.blocks.now)
          (TracksPoint c.loop-rest.core c.loop-rest.blocks)
          (TracksPoint c.hear_front-count.new.core c.hear_front-count.new.blocks)
          (g.L.Log.state c.args.edge.now.log) (g.L.Log.state c.loop-rest.edge.log) (g.L.Log.state
          c.hear_front-count.new.edge.log) room part front (leads room) (c.hear_front-count.ensures.leads room)),
      ExtendsLogFromReader-then c.args.core.now c.loop-rest.core c.hear_front-count.new.core c.args.blocks.now
          c.loop-rest.blocks c.hear_front-count.new.blocks
          (g.L.Log.state c.args.edge.now.log) (g.L.Log.state c.loop-rest.edge.log)
          (g.L.Log.state c.hear_front-count.new.edge.log) grows c.hear_front-count.ensures.grows,
      c.hear_front-count.ensures.settings ∙ same,
    )

pub returns-clause-told : goal.returns-clause-told
returns-clause-told g c = c.loop-rest.invariant.2

pub returns-clause-leads : goal.returns-clause-leads
returns-clause-leads g c =
    let (part, whole, told, leads, grows, same) = c.loop-rest.invariant in
    let none : c.loop-rest.rest.now ≡ [] = search (rules, nil_from_length) in
    let all : part ≡ c.args.bytes.now = sym (append-nil part) ∙ ap (λ l. part ++ l) (sym none) ∙ whole in
    λ room. subst
    (λ l. CallsLead (TracksPoint c.args.core.now c.args.blocks.now) (TracksPoint c.loop-rest.core c.loop-rest.blocks)
    (g.L.Log.state c.args.edge.now.log) (g.L.Log.state c.loop-rest.edge.log) (TakeBytes room (Ok l) ∷ [])) all
    (leads room)

pub returns-clause-grows : goal.returns-clause-grows
returns-clause-grows g c = c.loop-rest.invariant.4

pub returns-clause-settings : goal.returns-clause-settings
returns-clause-settings g c = c.loop-rest.invariant.5
