use Rattle.trace_view.proofs.Words.{◌≡◌, ◌∙◌, ◌∷◌, ◌+◌, ap, rules}
use Rattle.trace_view.proofs.ChildLists.{listed_push, push_is}
use Rattle.trace_view.proofs.child_lists.ChildList.push.Goals as goal

pub invariant_of-self-2 : goal.invariant_of-self-2
invariant_of-self-2 g c =
    let more : c.in-Some.next ≡ c.self.inside.next + 1 = search rules in
    listed_push c.self.inside.gone.entries c.self.inside.arrivals.items c.make_room-self-inside.new.arrivals.items
    c.push.new.self.items c.self.inside.youngest.entries c.room_for_one.new.map.entries c.put.new.map.entries
    c.args.child c.self.inside.next c.in-Some.next c.make_room-self-inside.ensures.same
    (c.make_room-self-inside.ensures.below c.self.inside.next) c.room_for_one.ensures.same c.in_ok-push.ensures.items
    more c.put.ensures c.self.invariant

pub returns : goal.returns
returns g c = push_is c.self.inside.gone.entries c.self.inside.arrivals.items
    c.make_room-self-inside.new.arrivals.items c.push.new.self.items c.args.child c.self.inside.next
    c.make_room-self-inside.ensures.same c.self.invariant.marks c.in_ok-push.ensures.items
    ∙ ap (λ cs. c.args.child ∷ cs) c.self.view_is
