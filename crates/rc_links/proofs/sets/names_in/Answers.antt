use Rattle.rc_links.proofs.Words.{◌∙◌, ◌+◌, drop, is_among}
use Rattle.rc_links.proofs.NameLemmas.{cut_at}
use Rattle.rc_links.proofs.SetLemmas.{name-gained}
use Rattle.rc_links.specs.Entries.{has_name}
use Rattle.rc_links.proofs.sets.names_in.Goals as goal

pub loop-entry-preserved : goal.loop-entry-preserved
loop-entry-preserved g c = λ name.
    let all = c.args.entries.now in
    let n = c.loop-entry.entry-index in
    let given = c.entry-item.result in
    let cut = cut_at all n given c.loop-entry-test.true c.entry-item.is in
    rw (c.in_ok-add_name.ensures name, c.name.ensures) (name-gained given.name name (is_among c.loop-entry.names name)
    (has_name name (drop (n + 1) all)) ∙ rw cut.0 at c.loop-entry.invariant name)
