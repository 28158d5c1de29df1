use Rattle.std.proofs.Common.{sym, ◌∙◌, ap}
use Rattle.std.specs.Map.{lookup}
use Rattle.init_words.specs.Ids.{same_id}
use Rattle.host_calls.specs.Held.{without_child}
use Rattle.host_system.proofs.Holding.{released}
use Rattle.host_system.proofs.children.Children.release.Goals as goal

pub returns : goal.returns
returns g c =
    let left = c.shift_remove.ensures in
    left.entries ∙ released c.args.id.now c.self.inside.handles.entries (ap (lookup (same_id c.args.id.now))
    (sym left.entries) ∙ left.updates.1) ∙ ap (without_child c.args.id.now) c.self.view_is
