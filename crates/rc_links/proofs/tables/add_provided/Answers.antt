use Rattle.rc_links.proofs.Words.{arith, drop_all, position_in}
use Rattle.rc_links.proofs.NameLemmas.{put_all-is}
use Rattle.rc_links.proofs.tables.add_provided.Goals as goal

pub returns : goal.returns
returns g c = λ bs.
    let past =
    drop_all c.loop-name.name-index c.provides-name-items.result.now (omega (arith, c.loop-name-test.false)) in
    rw (← put_all-is c.args.position c.args.script.now.header.provides bs (position_in c.args.table.now bs))
    (rw past at c.loop-name.invariant.known bs)
