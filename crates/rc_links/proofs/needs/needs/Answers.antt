use Rattle.rc_links.proofs.Words.{◌∙◌, sym, subst, length, arith, append-nil, drop_all, InRange, position_in}
use Rattle.rc_links.proofs.NeedLemmas.{needs-next, needs-range}
use Rattle.rc_links.proofs.needs.needs.Goals as goal

pub loop-position-preserved : goal.loop-position-preserved
loop-position-preserved g c =
    rw c.in_ok-add_script.ensures
    (needs-next c.args.phase c.args.scripts.now c.loop-position.position c.index-scripts-position.result
    (position_in c.args.table.now) c.loop-position.edges.items _ c.loop-position-test.true c.index-scripts-position.is
    c.requires c.loop-position.invariant)

pub returns-clause-range : goal.returns-clause-range
returns-clause-range g c =
    let all = c.args.scripts.now in
    let past = drop_all c.loop-position.position all (omega (arith, c.loop-position-test.false)) in
    let is = sym (append-nil c.loop-position.edges.items) ∙ (rw past at c.loop-position.invariant) in
    subst (λ edges. InRange (length all) edges) (sym is) (needs-range c.args.phase all)
