use Rattle.rc_links.proofs.Words.{◌∙◌, targets_of}
use Rattle.rc_links.proofs.SetLemmas.{taken_by}
use Rattle.rc_links.proofs.changing.taken.Goals as goal

pub returns : goal.returns
returns g c =
    rw c.held.ensures at c.in_ok-found.ensures
    ∙ taken_by c.in_ok-targets.targets c.in_ok-names.names (targets_of c.args.targets.now) c.args.folder.now.planned
    c.in_ok-targets.ensures (rw c.planned.ensures at c.in_ok-names.ensures) c.args.folder.now.held
