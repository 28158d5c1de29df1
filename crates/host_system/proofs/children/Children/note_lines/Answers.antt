use Rattle.std.proofs.Common.{rules, ℕ, ◌∙◌}
use Rattle.std.proofs.lemmas.Map.Made.{map_same_pairs}
use Rattle.host_system.proofs.Holding.{all_same}
use Rattle.host_system.proofs.children.Children.note_lines.Goals as goal

pub returns : goal.returns
returns g c = map_same_pairs _ (λ (number : ℕ). number) _ (λ k v b w f t. search rules) _ _ c.retain.ensures.filtered
    ∙ all_same c.self.inside.handles.entries ∙ c.self.view_is
