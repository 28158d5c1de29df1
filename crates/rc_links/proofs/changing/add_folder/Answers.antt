use Rattle.rc_links.proofs.SetLemmas.{folder-changed}
use Rattle.rc_links.proofs.changing.add_folder.Goals as goal

pub returns : goal.returns
returns g c = λ places those.
    folder-changed c.args.targets.now c.in_ok-planned.planned c.in_ok-names.names c.in_ok-held.held places
    c.args.folder.now those (rw c.planned.ensures at c.in_ok-planned.ensures)
    (rw c.planned-2.ensures at c.in_ok-names.ensures) (rw c.held.ensures at c.in_ok-held.ensures) _ _ _ _
    c.in_ok-add_removals.ensures c.in_ok-add_makings.ensures c.in_ok-add_removals-2.ensures
