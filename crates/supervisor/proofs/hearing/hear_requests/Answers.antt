use Rattle.supervisor.proofs.Words.{rules, ◌≡◌, ◌∙◌, ◌+◌, ◌<◌, refl, subst, true, arith, are_byte_readings, BYTE_LIMIT}
use Rattle.supervisor.proofs.Words.{IsBytesCall}
use Rattle.supervisor.proofs.Words.{MakesOver, ExtendsLogFromReader-none, ExtendsLogFromReader-then}
use Rattle.supervisor.specs.CallsLead.{TracksPoint}
use Rattle.supervisor.proofs.Parts.{MadeCallsLead-map, MadeCallsLead-none, MadeCallsLead-then}
use Rattle.supervisor.proofs.Taken.{HaveTaken, taken_more, takes_all, takes_end}
use Rattle.supervisor.proofs.hearing.hear_requests.Goals as goal

pub loop-taken-init : goal.loop-taken-init
loop-taken-init g c = (
  omega arith,
  MadeCallsLead-none g.L.Log.state _ (g.L.Log.state c.args.edge.now.log) (HaveTaken 0)
      (TracksPoint c.args.core.now c.args.blocks.now)
      (record { full = refl; taken = refl }),
  ExtendsLogFromReader-none c.args.core.now c.args.blocks.now (g.L.Log.state c.args.edge.now.log),
  refl,
)

pub returns-then-count-eq0-clause-makes : goal.returns-then-count-eq0-clause-makes
returns-then-count-eq0-clause-makes g c =
    let taken = c.loop-taken.taken in
    let none : c.take_piece-count.result ≡ 0 = search rules in
    let f₁ = TracksPoint c.loop-taken.core c.loop-taken.blocks in
    let f₂ = TracksPoint c.take_piece-count.new.core c.take_piece-count.new.blocks in
    MadeCallsLead-then g.L.Log.state c.args.edge.now.told c.loop-taken.edge.told c.take_piece-count.new.edge.told
    (g.L.Log.state c.args.edge.now.log) (g.L.Log.state c.loop-taken.edge.log)
    (g.L.Log.state c.take_piece-count.new.edge.log) (HaveTaken taken) (IsBytesCall taken 0)
    (λ calls. are_byte_readings calls ≡ true)
    (TracksPoint c.args.core.now c.args.blocks.now) f₁ f₂
    (λ goal p fits.
    let one = c.loop-taken.invariant.2 (p.over, fits.1) in
    ((c.take_piece-count.ensures.grows one.0).1 (one.1 fits.0.short).0).1) c.loop-taken.invariant.1
    (subst (λ n. MakesOver g.L.Log.state c.loop-taken.edge.told c.take_piece-count.new.edge.told
    (g.L.Log.state c.loop-taken.edge.log) (g.L.Log.state c.take_piece-count.new.edge.log)
    (IsBytesCall taken n) f₁ f₂) none
    c.take_piece-count.ensures.takes) (λ xs ys have take. takes_end taken xs ys have take)

pub loop-taken-preserved : goal.loop-taken-preserved
loop-taken-preserved g c =
    let taken = c.loop-taken.taken in
    let count = c.take_piece-count.result in
    let some : 0 < count = search rules in (
      c.take_piece-count.ensures.within,
      MadeCallsLead-then g.L.Log.state c.args.edge.now.told c.loop-taken.edge.told c.take_piece-count.new.edge.told
          (g.L.Log.state c.args.edge.now.log) (g.L.Log.state c.loop-taken.edge.log)
          (g.L.Log.state c.take_piece-count.new.edge.log) (HaveTaken taken) (IsBytesCall taken count)
          (HaveTaken (taken + count))
          (TracksPoint c.args.core.now c.args.blocks.now) (TracksPoint c.loop-taken.core c.loop-taken.blocks)
          (TracksPoint c.take_piece-count.new.core c.take_piece-count.new.blocks)
          (λ goal p fits.
          let one = c.loop-taken.invariant.2 (p.over, fits.1) in
          ((c.take_piece-count.ensures.grows one.0).1 (one.1 fits.0.short).0).1) c.loop-taken.invariant.1
          c.take_piece-count.ensures.takes (λ xs ys have take. taken_more taken count xs ys some have take),
      ExtendsLogFromReader-then c.args.core.now c.loop-taken.core c.take_piece-count.new.core c.args.blocks.now
          c.loop-taken.blocks c.take_piece-count.new.blocks
          (g.L.Log.state c.args.edge.now.log) (g.L.Log.state c.loop-taken.edge.log)
          (g.L.Log.state c.take_piece-count.new.edge.log) c.loop-taken.invariant.2 c.take_piece-count.ensures.grows,
      c.take_piece-count.ensures.settings ∙ c.loop-taken.invariant.3,
    )

pub returns-clause-makes : goal.returns-clause-makes
returns-clause-makes g c =
    let (within, makes, grows, same) = c.loop-taken.invariant in
    let all : c.loop-taken.taken ≡ BYTE_LIMIT = search rules in
    let f₀ = TracksPoint c.args.core.now c.args.blocks.now in
    let f₁ = TracksPoint c.loop-taken.core c.loop-taken.blocks in
    MadeCallsLead-map g.L.Log.state _ _ _ _ (HaveTaken c.loop-taken.taken)
    (λ calls. are_byte_readings calls ≡ true) f₀ f₁ f₀ f₁
    (λ goal p sound fits. fits) makes
    (λ calls have leads. (takes_all calls (subst (λ n. HaveTaken n calls) all have), leads))

pub returns-then-count-eq0-clause-grows : goal.returns-then-count-eq0-clause-grows
returns-then-count-eq0-clause-grows g c =
    ExtendsLogFromReader-then c.args.core.now c.loop-taken.core c.take_piece-count.new.core c.args.blocks.now
    c.loop-taken.blocks c.take_piece-count.new.blocks
    (g.L.Log.state c.args.edge.now.log) (g.L.Log.state c.loop-taken.edge.log)
    (g.L.Log.state c.take_piece-count.new.edge.log) c.loop-taken.invariant.2 c.take_piece-count.ensures.grows

pub returns-clause-grows : goal.returns-clause-grows
returns-clause-grows g c = c.loop-taken.invariant.2
