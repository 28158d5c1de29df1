use Rattle.supervisor.proofs.Words.{rules, ◌≡◌, ◌∙◌, refl, sym, subst, ◌&&◌, ◌+◌, suc, Bool, true, false, ℕ, arith, []}
use Rattle.supervisor.proofs.Words.{false≢true}
use Rattle.supervisor.proofs.Words.{is_drained, MadeTurns, TracksAtBlockStart, MakesOver, ExtendsLogFromCore}
use Rattle.supervisor.proofs.Words.{ExtendsLogFromCore-none, ExtendsLogFromCore-then}
use Rattle.supervisor.specs.CallsLead.{TracksPoint}
use Rattle.supervisor.proofs.Turning.{Going, Gone, turns_bring, turns_end, turns_left, turns_limit, turns_more}
use Rattle.supervisor.proofs.Turning.{turns_none, turns_on}
use Rattle.supervisor.proofs.serving.serve.Goals as goal

next : (n : ℕ) → suc n ≡ n + 1
next n = omega arith

open_still : (drain drained : Bool) → (drain && drained) ≡ false → drain ≡ true → drained ≡ false
open_still true drained h drains = h
open_still false drained h drains = absurd (false≢true drains)

pub loop-made-init : goal.loop-made-init
loop-made-init g c = (
  turns_none g.L.Log.state c.args.strict c.args.drain c.args.edge.now.told (g.L.Log.state c.args.edge.now.log)
      (g.W.TurnObserver.seen c.args.watch.now) c.args.core.now c.new-blocks.result c.new-blocks.ensures,
  ([], record { count = c.new-blocks.ensures.count; front = c.new-blocks.ensures.front }),
  ExtendsLogFromCore-none c.args.core.now (g.L.Log.state c.args.edge.now.log),
  refl,
)

pub returns-then-is_over-clause-trace : goal.returns-then-is_over-clause-trace
returns-then-is_over-clause-trace g c =
    let (turns, read, grows, same) = c.loop-made.invariant in
    let told = c.args.edge.now.told in
    let now_told = c.pause.new.self.told in
    let log = g.L.Log.state c.args.edge.now.log in
    let now_log = g.L.Log.state c.pause.new.self.log in
    let saw = g.W.TurnObserver.seen c.args.watch.now in
    let now_saw = g.W.TurnObserver.seen c.look.new.self in
    let core = c.args.core.now in
    let now = c.turn.new.core in
    let gone : MakesOver g.L.Log.state told now_told log now_log (Gone c.args.strict c.args.drain
    (TracksAtBlockStart core) c.loop-made.made now saw now_saw) (TracksAtBlockStart core)
    (TracksPoint now c.turn.new.blocks) =
    turns_more g.L.Log.state c.args.strict c.args.drain c.turn.result c.loop-made.made told c.loop-made.edge.told
    c.turn.new.edge.told now_told log (g.L.Log.state c.loop-made.edge.log) c.turn.new.edge.log c.pause.new.self.log
    saw (g.W.TurnObserver.seen c.loop-made.watch) now_saw core c.loop-made.core now c.loop-made.blocks c.turn.new.blocks
    turns c.turn.ensures.makes (λ short. ((c.turn.ensures.grows read).1 (grows short).0).1) c.look.ensures.seen
    c.pause.ensures.adds c.pause.ensures.log in
    turns_left g.L.Log.state told now_told log now_log (MadeTurns c.args.strict c.args.drain
    (TracksAtBlockStart core) c.served_so_far.result.turns saw now_saw) core now c.turn.new.blocks
    (turns_end g.L.Log.state c.args.strict c.args.drain c.loop-made.made c.served_so_far.result.turns told now_told log
    now_log saw now_saw (TracksAtBlockStart core) (TracksPoint now c.turn.new.blocks) now
    (omega (arith, c.served_so_far.ensures.turns)) gone)

pub returns-then-is_over-clause-requests : goal.returns-then-is_over-clause-requests
returns-then-is_over-clause-requests g c =
    let (turns, read, grows, same) = c.loop-made.invariant in
    let told = c.args.edge.now.told in
    let log = g.L.Log.state c.args.edge.now.log in
    let saw = g.W.TurnObserver.seen c.args.watch.now in
    let core = c.args.core.now in
    turns_bring g.L.Log.state told c.pause.new.self.told log (g.L.Log.state c.pause.new.self.log)
    (Gone c.args.strict c.args.drain (TracksAtBlockStart core) c.loop-made.made c.turn.new.core saw
    (g.W.TurnObserver.seen c.look.new.self)) (TracksAtBlockStart core) (TracksPoint c.turn.new.core c.turn.new.blocks)
    (turns_more g.L.Log.state c.args.strict c.args.drain c.turn.result c.loop-made.made told c.loop-made.edge.told
    c.turn.new.edge.told c.pause.new.self.told log
    (g.L.Log.state c.loop-made.edge.log) c.turn.new.edge.log c.pause.new.self.log
    saw (g.W.TurnObserver.seen c.loop-made.watch) (g.W.TurnObserver.seen c.look.new.self) core c.loop-made.core
    c.turn.new.core c.loop-made.blocks c.turn.new.blocks turns c.turn.ensures.makes (λ short.
    ((c.turn.ensures.grows read).1 (grows short).0).1) c.look.ensures.seen c.pause.ensures.adds c.pause.ensures.log)

pub loop-made-preserved : goal.loop-made-preserved
loop-made-preserved g c =
    let (turns, read, grows, same) = c.loop-made.invariant in
    let told = c.args.edge.now.told in
    let now_told = c.pause.new.self.told in
    let log = g.L.Log.state c.args.edge.now.log in
    let now_log = g.L.Log.state c.pause.new.self.log in
    let saw = g.W.TurnObserver.seen c.args.watch.now in
    let now_saw = g.W.TurnObserver.seen c.look.new.self in
    let core = c.args.core.now in
    let now = c.turn.new.core in
    let going : (c.args.drain && is_drained now) ≡ false = search rules in (
      turns_on g.L.Log.state c.args.strict c.args.drain c.loop-made.made
          (c.loop-made.made + 1) told now_told log now_log saw now_saw (TracksAtBlockStart core)
          (TracksPoint now c.turn.new.blocks) now
          (next c.loop-made.made) (λ drains. open_still c.args.drain (is_drained now) going drains)
          (turns_more g.L.Log.state c.args.strict c.args.drain c.turn.result c.loop-made.made told c.loop-made.edge.told
          c.turn.new.edge.told now_told log
          (g.L.Log.state c.loop-made.edge.log) c.turn.new.edge.log c.pause.new.self.log
          saw (g.W.TurnObserver.seen c.loop-made.watch) now_saw core c.loop-made.core now c.loop-made.blocks
          c.turn.new.blocks turns c.turn.ensures.makes (λ short. ((c.turn.ensures.grows read).1 (grows short).0).1)
          c.look.ensures.seen c.pause.ensures.adds c.pause.ensures.log),
      (c.turn.ensures.grows read).0,
      subst
          (λ l. ExtendsLogFromCore c.args.core.now c.turn.new.core (g.L.Log.state c.args.edge.now.log)
          (g.L.Log.state l))
          (sym c.pause.ensures.log)
          (ExtendsLogFromCore-then c.args.core.now c.loop-made.core c.turn.new.core (g.L.Log.state c.args.edge.now.log)
          (g.L.Log.state c.loop-made.edge.log) (g.L.Log.state c.turn.new.edge.log) grows (c.turn.ensures.grows read).1),
      c.pause.ensures.settings ∙ (c.turn.ensures.settings ∙ same),
    )

pub returns-clause-trace : goal.returns-clause-trace
returns-clause-trace g c =
    let (turns, read, grows, same) = c.loop-made.invariant in
    let told = c.args.edge.now.told in
    let now_told = c.loop-made.edge.told in
    let log = g.L.Log.state c.args.edge.now.log in
    let now_log = g.L.Log.state c.loop-made.edge.log in
    let saw = g.W.TurnObserver.seen c.args.watch.now in
    let now_saw = g.W.TurnObserver.seen c.loop-made.watch in
    let core = c.args.core.now in
    let count : c.loop-made.made ≡ c.served_so_far-2.result.turns = search rules in
    turns_left g.L.Log.state told now_told log now_log (MadeTurns c.args.strict c.args.drain
    (TracksAtBlockStart core) c.served_so_far-2.result.turns saw now_saw) core c.loop-made.core c.loop-made.blocks
    (turns_limit g.L.Log.state c.args.strict c.args.drain c.loop-made.made c.served_so_far-2.result.turns told now_told
    log now_log saw now_saw (TracksAtBlockStart core) (TracksPoint c.loop-made.core c.loop-made.blocks) count turns)

pub returns-clause-requests : goal.returns-clause-requests
returns-clause-requests g c =
    let (turns, read, grows, same) = c.loop-made.invariant in
    turns_bring g.L.Log.state c.args.edge.now.told c.loop-made.edge.told (g.L.Log.state c.args.edge.now.log)
    (g.L.Log.state c.loop-made.edge.log)
    (Going c.args.strict c.args.drain (TracksAtBlockStart c.args.core.now) c.loop-made.made
    (g.W.TurnObserver.seen c.args.watch.now) (g.W.TurnObserver.seen c.loop-made.watch))
    (TracksAtBlockStart c.args.core.now)
    (TracksPoint c.loop-made.core c.loop-made.blocks) turns

pub returns-then-is_over-clause-grows : goal.returns-then-is_over-clause-grows
returns-then-is_over-clause-grows g c =
    let (turns, read, grows, same) = c.loop-made.invariant in
    subst
    (λ l. ExtendsLogFromCore c.args.core.now c.turn.new.core (g.L.Log.state c.args.edge.now.log) (g.L.Log.state l))
    (sym c.pause.ensures.log)
    (ExtendsLogFromCore-then c.args.core.now c.loop-made.core c.turn.new.core (g.L.Log.state c.args.edge.now.log)
    (g.L.Log.state c.loop-made.edge.log) (g.L.Log.state c.turn.new.edge.log) grows (c.turn.ensures.grows read).1)

pub returns-clause-grows : goal.returns-clause-grows
returns-clause-grows g c = c.loop-made.invariant.2
