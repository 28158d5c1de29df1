use Rattle.rc_links.proofs.Words.{◌∙◌, ◌+◌, drop, append-nil, drop_all}
use Rattle.rc_links.proofs.NameLemmas.{cut_at}
use Rattle.rc_links.proofs.SetLemmas.{levels-pushed}
use Rattle.rc_links.proofs.kept.all_links.Goals as goal

pub loop-folder-preserved : goal.loop-folder-preserved
loop-folder-preserved g c = λ letter name.
    let all = c.args.folders.now in
    let n = c.loop-folder.folder-index in
    let folder = c.folder-item.result in
    let cut = cut_at all n folder c.loop-folder-test.true c.folder-item.is in
    let has = rw c.held.ensures at c.in_ok-links_in.ensures in
    rw c.in_ok-push.ensures.items
    (levels-pushed letter name c.loop-folder.found.items _ _ folder (drop (n + 1) all) c.level.ensures has
    ∙ rw cut.0 at c.loop-folder.invariant letter name)

pub returns : goal.returns
returns g c = λ letter name.
    let past = drop_all c.loop-folder.folder-index c.args.folders.now c.loop-folder-test.false in
    rw append-nil at (rw past at c.loop-folder.invariant letter name)
