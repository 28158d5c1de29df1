use Rattle.trace_view.proofs.ChildLists.{below_room, same_room}
use Rattle.trace_view.proofs.child_lists.make_room.Goals as goal

pub returns-clause-same : goal.returns-clause-same
returns-clause-same g c = same_room c.args.gone.now.entries c.args.arrivals.now.items c.drop_gone.new.arrivals.items
    c.drop_gone.ensures

pub returns-clause-below : goal.returns-clause-below
returns-clause-below g c = below_room c.args.gone.now.entries c.args.arrivals.now.items c.drop_gone.new.arrivals.items
    c.drop_gone.ensures
