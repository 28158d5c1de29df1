use Rattle.host_system.proofs.Asking.{not_started, unstarted}
use Rattle.host_system.proofs.children.Children.start.Goals as goal

pub returns-then-holds-clause-asked : goal.returns-then-holds-clause-asked
returns-then-holds-clause-asked g c = not_started _ _ c.args.delay c.args.id c.args.text.now _

pub returns-in_err-command-clause-asked : goal.returns-in_err-command-clause-asked
returns-in_err-command-clause-asked g c =
    unstarted _ _ c.args.delay c.args.id c.args.text.now c.from_residual.result _ c.from_residual.ensures.0
