use Rattle.rc_links.proofs.Words.{◌∙◌, ◌+◌, drop, bytes_eq, is_among, list_any, targets_of}
use Rattle.rc_links.proofs.NameLemmas.{cut_at}
use Rattle.rc_links.proofs.SetLemmas.{name-gained}
use Rattle.rc_links.proofs.sets.targets_in.Goals as goal

pub loop-target-preserved : goal.loop-target-preserved
loop-target-preserved g c = λ name.
    let all = c.args.targets.now in
    let n = c.loop-target.target-index in
    let given = c.target-item.result in
    let cut = cut_at all n given c.loop-target-test.true c.target-item.is in
    rw (c.in_ok-add_name.ensures name, c.as_slice.ensures.value) (name-gained given.items name
    (is_among c.loop-target.names name) (list_any (bytes_eq name) (targets_of (drop (n + 1) all)))
    ∙ rw cut.0 at c.loop-target.invariant name)
