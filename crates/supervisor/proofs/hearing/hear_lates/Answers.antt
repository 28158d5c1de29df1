use Rattle.supervisor.proofs.Words.{rules, ◌≡◌, ◌∙◌, ◌+◌, refl, subst, List, true, false, arith, Goal, HostCall}
use Rattle.supervisor.proofs.Words.{Counted, Tracks, Point, are_late_answers, CallsLead-weaken, IsLateCall, MakesOver}
use Rattle.supervisor.proofs.Words.{ExtendsLogFromCore-none}
use Rattle.supervisor.proofs.Words.{ExtendsLogFromCore-then}
use Rattle.supervisor.proofs.Parts.{MadeCallsLead-map, MadeCallsLead-none, MadeCallsLead-then}
use Rattle.supervisor.proofs.Taken.{HaveCome, come_end, come_more}
use Rattle.supervisor.proofs.hearing.hear_lates.Goals as goal

pub loop-asked-init : goal.loop-asked-init
loop-asked-init g c = (
  omega arith,
  MadeCallsLead-none g.L.Log.state _ (g.L.Log.state c.args.edge.now.log) (HaveCome 0)
      (λ goal p. Tracks c.args.core.now goal p × Counted 0 goal p) (record { all = refl; counted = refl }),
  ExtendsLogFromCore-none c.args.core.now (g.L.Log.state c.args.edge.now.log),
  refl,
)

pub loop-asked-preserved : goal.loop-asked-preserved
loop-asked-preserved g c =
    let (within, makes, grows, same) = c.loop-asked.invariant in
    let asked = c.loop-asked.asked in
    let more : c.hear_late.result ≡ false = search rules in
    let f₀ : Goal → Point → Type 0 = λ goal p. Tracks c.args.core.now goal p × Counted 0 goal p in
    let f₁ : Goal → Point → Type 0 = λ goal p. Tracks c.loop-asked.core goal p × Counted asked goal p in
    let f₂ : Goal → Point → Type 0 = λ goal p. Tracks c.hear_late.new.core goal p × Counted (asked + 1) goal p in (
      c.hear_late.ensures.more more,
      MadeCallsLead-then g.L.Log.state c.args.edge.now.told c.loop-asked.edge.told c.hear_late.new.edge.told
          (g.L.Log.state c.args.edge.now.log) (g.L.Log.state c.loop-asked.edge.log)
          (g.L.Log.state c.hear_late.new.edge.log)
          (HaveCome asked) (IsLateCall asked false) (HaveCome (asked + 1)) f₀ f₁ f₂
          (λ goal p fits. (c.hear_late.ensures.grows (grows fits.0.short).0).1) makes
          (subst (λ last. MakesOver g.L.Log.state c.loop-asked.edge.told c.hear_late.new.edge.told
          (g.L.Log.state c.loop-asked.edge.log) (g.L.Log.state c.hear_late.new.edge.log)
          (IsLateCall asked last) f₁ f₂) more
          c.hear_late.ensures.lates) (λ xs ys have late. come_more asked xs ys have late),
      ExtendsLogFromCore-then c.args.core.now c.loop-asked.core c.hear_late.new.core (g.L.Log.state c.args.edge.now.log)
          (g.L.Log.state c.loop-asked.edge.log)
          (g.L.Log.state c.hear_late.new.edge.log) grows c.hear_late.ensures.grows,
      c.hear_late.ensures.settings ∙ same,
    )

pub returns-clause-makes : goal.returns-clause-makes
returns-clause-makes g c =
    let (within, makes, grows, same) = c.loop-asked.invariant in
    let asked = c.loop-asked.asked in
    let last : c.hear_late.result ≡ true = search rules in
    let f₀ : Goal → Point → Type 0 = λ goal p. Tracks c.args.core.now goal p × Counted 0 goal p in
    let f₁ : Goal → Point → Type 0 = λ goal p. Tracks c.loop-asked.core goal p × Counted asked goal p in
    let f₂ : Goal → Point → Type 0 = λ goal p. Tracks c.hear_late.new.core goal p × Counted (asked + 1) goal p in
    let Lates : List HostCall → Type 0 = λ calls. are_late_answers calls ≡ true in
    MadeCallsLead-map g.L.Log.state c.args.edge.now.told c.hear_late.new.edge.told (g.L.Log.state c.args.edge.now.log)
    (g.L.Log.state c.hear_late.new.edge.log) Lates Lates f₀ f₂ f₀ (Tracks c.hear_late.new.core)
    (λ goal p sound fits. fits)
    (MadeCallsLead-then g.L.Log.state c.args.edge.now.told c.loop-asked.edge.told c.hear_late.new.edge.told
    (g.L.Log.state c.args.edge.now.log) (g.L.Log.state c.loop-asked.edge.log) (g.L.Log.state c.hear_late.new.edge.log)
    (HaveCome asked) (IsLateCall asked true) Lates f₀ f₁ f₂
    (λ goal p fits. (c.hear_late.ensures.grows (grows fits.0.short).0).1) makes
    (subst (λ b. MakesOver g.L.Log.state c.loop-asked.edge.told c.hear_late.new.edge.told
    (g.L.Log.state c.loop-asked.edge.log) (g.L.Log.state c.hear_late.new.edge.log) (IsLateCall asked b) f₁ f₂) last
    c.hear_late.ensures.lates) (λ xs ys have late. come_end asked xs ys within have late))
    (λ calls lates leads. (
      lates,
      CallsLead-weaken f₀ f₀ f₂ (Tracks c.hear_late.new.core) (g.L.Log.state c.args.edge.now.log)
          (g.L.Log.state c.hear_late.new.edge.log) calls (λ goal p fits. fits) (λ goal p fits. fits.0) leads,
    ))

pub returns-clause-grows : goal.returns-clause-grows
returns-clause-grows g c =
    ExtendsLogFromCore-then c.args.core.now c.loop-asked.core c.hear_late.new.core (g.L.Log.state c.args.edge.now.log)
    (g.L.Log.state c.loop-asked.edge.log)
    (g.L.Log.state c.hear_late.new.edge.log) c.loop-asked.invariant.2 c.hear_late.ensures.grows
