use Rattle.rc_links.proofs.Words.{◌∙◌}
use Rattle.rc_links.proofs.SetLemmas.{gone_by}
use Rattle.rc_links.proofs.kept.gone.Goals as goal

pub returns : goal.returns
returns g c =
    rw c.held.ensures at c.in_ok-found.ensures
    ∙ gone_by c.in_ok-names.names c.args.scripts.now c.in_ok-names.ensures c.args.folder.now.held
