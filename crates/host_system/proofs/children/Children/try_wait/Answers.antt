use Rattle.host_system.proofs.Holding.{held_there, on_ok, written_same}
use Rattle.host_system.proofs.children.Children.try_wait.Goals as goal

pub returns-clause-held : goal.returns-clause-held
returns-clause-held g c = on_ok c.try_wait.result (held_there c.args.id.now c.in-Some.held.now
    c.self.inside.handles.entries c.args.self.now c.self.view_is c.in-Some.ensures.value)

pub returns-clause-same : goal.returns-clause-same
returns-clause-same g c = written_same c.args.id.now c.in-Some.held.now c.try_wait.new.self c.self.inside.handles
    (c.get_mut.follows.lender c.try_wait.new.self) c.args.self.now c.self.view_is c.in-Some.ensures.value
    c.try_wait.ensures.same (c.get_mut.follows.holds c.try_wait.new.self)
