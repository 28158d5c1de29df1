use Rattle.trace_view.proofs.Words.{◌∙◌, ap, is_some, find, is_child_of, is_order, Start, number_of, found_any}
use Rattle.std.proofs.Common.{option_map}
use Rattle.trace_view.proofs.Awaited.{owed_is}
use Rattle.trace_view.proofs.views.TraceView.owes.Goals as goal

pub returns : goal.returns
returns g c = rw (← c.self.view_is) (λ past seen found.
    let judged = seen.judged in
    c.owed_by.ensures ∙ owed_is c.args.entry.now past _ _ _ _ c.is_waited-waited.ensures
    (c.is_some-kept.ensures ∙ ap is_some (c.number_of.ensures
    ∙ ap (option_map number_of) (c.youngest_of.ensures ∙ ap (find (is_child_of c.args.entry.now.id)) seen.kept))
    ∙ found_any number_of (is_child_of c.args.entry.now.id) _)
    (c.is_start-starting.ensures ∙ ap (is_order Start) (c.order.ensures past judged))
    (c.is_wanted-wanted.ensures past judged found))
