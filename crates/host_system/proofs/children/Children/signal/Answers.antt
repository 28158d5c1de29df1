use Rattle.std.proofs.Common.{◌∙◌}
use Rattle.host_system.proofs.Holding.{held_there, written_same}
use Rattle.host_system.proofs.children.Children.signal.Goals as goal

pub returns-then-not-send-clause-held : goal.returns-then-not-send-clause-held
returns-then-not-send-clause-held g c = written_same c.args.id.now c.in-Some.held.now c.send.new.self
    c.self.inside.handles (c.get_mut.follows.lender c.send.new.self) c.args.self.now c.self.view_is
    c.in-Some.ensures.value c.send.ensures.same (c.get_mut.follows.holds c.send.new.self)

pub returns-clause-held : goal.returns-clause-held
returns-clause-held g c = (
  held_there c.args.id.now c.in-Some.held.now c.self.inside.handles.entries c.args.self.now c.self.view_is
      c.in-Some.ensures.value,
  written_same c.args.id.now c.in-Some.held.now c.tell_cost.new.self c.self.inside.handles
      (c.get_mut.follows.lender c.tell_cost.new.self) c.args.self.now c.self.view_is c.in-Some.ensures.value
      (c.tell_cost.ensures ∙ c.send.ensures.same) (c.get_mut.follows.holds c.tell_cost.new.self),
)
