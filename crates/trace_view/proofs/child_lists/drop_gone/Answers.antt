use Rattle.trace_view.proofs.Words.{rules, filter_same}
use Rattle.trace_view.specs.ChildLists.{stays}
use Rattle.trace_view.proofs.child_lists.drop_gone.Goals as goal

pub returns : goal.returns
returns g c = filter_same _ (stays c.args.gone.now.entries) _ (λ x b f h. search rules) _ _ c.retain.ensures.filtered
