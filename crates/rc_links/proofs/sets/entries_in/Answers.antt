use Rattle.rc_links.proofs.Words.{◌∙◌, ◌+◌, drop, list_any, is_entry_of, same_entry}
use Rattle.rc_links.proofs.NameLemmas.{cut_at}
use Rattle.rc_links.proofs.SetLemmas.{entry-gained}
use Rattle.rc_links.proofs.sets.entries_in.Goals as goal

pub loop-entry-preserved : goal.loop-entry-preserved
loop-entry-preserved g c = λ e.
    let all = c.args.entries.now in
    let n = c.loop-entry.entry-index in
    let given = c.entry-item.result in
    let cut = cut_at all n given c.loop-entry-test.true c.entry-item.is in
    rw (c.in_ok-add_entry.ensures e) (entry-gained given e (is_entry_of c.loop-entry.found e)
    (list_any (same_entry e) (drop (n + 1) all)) ∙ rw cut.0 at c.loop-entry.invariant e)
