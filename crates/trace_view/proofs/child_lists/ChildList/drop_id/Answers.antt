use Rattle.trace_view.proofs.Words.{◌∙◌, ap, not, reverse, Child, is_child_of}
use Rattle.std.specs.Prelude.{filter}
use Rattle.trace_view.proofs.ChildLists.{gone_staying, listed_gone}
use Rattle.trace_view.proofs.child_lists.ChildList.drop_id.Goals as goal

pub invariant_of-self-2 : goal.invariant_of-self-2
invariant_of-self-2 g c = listed_gone c.args.id c.self.inside.next c.self.inside.gone.entries c.mark.new.gone.entries
    (reverse c.self.inside.arrivals.items) c.self.inside.youngest.entries c.forget.new.youngest.entries
    c.in_ok-mark.ensures.ok c.forget.ensures c.self.invariant

pub returns : goal.returns
returns g c =
    gone_staying c.args.id c.self.inside.next c.self.inside.gone.entries c.mark.new.gone.entries
    (reverse c.self.inside.arrivals.items) c.in_ok-mark.ensures.ok c.self.invariant.below
    ∙ ap (filter (λ (child : Child). not (is_child_of c.args.id child))) c.self.view_is
