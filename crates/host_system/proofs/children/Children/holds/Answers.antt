use Rattle.std.proofs.Common.{◌∙◌, ap}
use Rattle.host_calls.specs.Held.{holds_child}
use Rattle.host_system.proofs.Holding.{found_held}
use Rattle.host_system.proofs.children.Children.holds.Goals as goal

pub returns : goal.returns
returns g c = c.contains_key.ensures ∙ found_held c.args.id.now c.self.inside.handles.entries
    ∙ ap (holds_child c.args.id.now) c.self.view_is
