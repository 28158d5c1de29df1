use Rattle.rc_links.proofs.Words.{◌∙◌, ◌+◌, drop, has_link, is_link_of, list_any}
use Rattle.rc_links.proofs.NameLemmas.{cut_at}
use Rattle.rc_links.proofs.SetLemmas.{link-next}
use Rattle.rc_links.proofs.kept.links_in.Goals as goal

pub loop-entry-preserved : goal.loop-entry-preserved
loop-entry-preserved g c = λ letter name.
    let all = c.args.entries.now in
    let n = c.loop-entry.entry-index in
    let given = c.entry-item.result in
    let cut = cut_at all n given c.loop-entry-test.true c.entry-item.is in
    rw (c.in_ok-add_link.ensures letter name) (link-next (is_link_of letter name given)
    (has_link letter name c.loop-entry.links) (list_any (is_link_of letter name) (drop (n + 1) all))
    ∙ rw cut.0 at c.loop-entry.invariant letter name)
