use Rattle.supervisor.proofs.Words.{rules, ◌≡◌, ◌<◌, ◌-◌, ℕ, min, sym, subst, length, take, true, Some, None, arith}
use Rattle.supervisor.proofs.Words.{list_all, option_to_list, and_parts, is_request, Hears, Tracks, requested}
use Rattle.supervisor.proofs.Words.{CallsLead-fed, Hears-none, ExtendsLogFromCore-none}
use Rattle.supervisor.proofs.Grown.{piece_reads}
use Rattle.supervisor.proofs.hearing.hear_front.Goals as goal

some_left : (count bytes taken : ℕ) → taken ≡ min bytes (384 - count) → 0 < taken → count < 384
some_left count bytes taken is some = omega (arith, is, some)

pub returns-in-Some-clause-leads : goal.returns-in-Some-clause-leads
returns-in-Some-clause-leads g c room =
    let request = c.feed-count.result.1 in
    let is : request ≡ Some c.in-Some.request = search rules in
    CallsLead-fed c.args.core.now c.hear_request.new.core c.args.blocks.now c.feed-count.new.self
    (g.L.Log.state c.args.edge.now.log) (g.L.Log.state c.hear_request.new.edge.log) room
    (take c.feed-count.result.0 c.args.bytes.now) request
    (some_left c.args.blocks.now.count (length c.args.bytes.now) c.feed-count.result.0 c.feed-count.ensures.taken
    (c.feed-count.ensures.progress c.requires))
    c.feed-count.ensures.stands c.feed-count.ensures.got
    (subst (λ given. list_all is_request (option_to_list given) ≡ true
    → Hears (Tracks c.args.core.now) (Tracks c.hear_request.new.core) (g.L.Log.state c.args.edge.now.log)
    (g.L.Log.state c.hear_request.new.edge.log) (requested (option_to_list given))) (sym is)
    (λ short. c.hear_request.ensures.hears (and_parts (is_request c.in-Some.request) true short).0))

pub returns-in_default-clause-leads : goal.returns-in_default-clause-leads
returns-in_default-clause-leads g c room =
    let request = c.feed-count.result.1 in
    let is : request ≡ None = search rules in
    let log = g.L.Log.state c.args.edge.now.log in
    CallsLead-fed c.args.core.now c.args.core.now c.args.blocks.now c.feed-count.new.self log log room
    (take c.feed-count.result.0 c.args.bytes.now) request
    (some_left c.args.blocks.now.count (length c.args.bytes.now) c.feed-count.result.0 c.feed-count.ensures.taken
    (c.feed-count.ensures.progress c.requires))
    c.feed-count.ensures.stands c.feed-count.ensures.got
    (λ short. subst (λ given. Hears (Tracks c.args.core.now) (Tracks c.args.core.now) log log
    (requested (option_to_list given))) (sym is) (Hears-none (Tracks c.args.core.now) log))

pub returns-in-Some-clause-grows : goal.returns-in-Some-clause-grows
returns-in-Some-clause-grows g c read =
    let part = take c.feed-count.result.0 c.args.bytes.now in
    let request = c.feed-count.result.1 in
    let is : request ≡ Some c.in-Some.request = search rules in
    let some = some_left c.args.blocks.now.count (length c.args.bytes.now) c.feed-count.result.0
    c.feed-count.ensures.taken (c.feed-count.ensures.progress c.requires) in
    let reads = piece_reads c.args.blocks.now c.feed-count.new.self part request some c.feed-count.ensures.stands
    c.feed-count.ensures.got read in
    let short = and_parts (is_request c.in-Some.request) true
    (subst (λ given. list_all is_request (option_to_list given) ≡ true) is reads.1) in
    (reads.0, c.hear_request.ensures.grows short.0)

pub returns-in_default-clause-grows : goal.returns-in_default-clause-grows
returns-in_default-clause-grows g c read =
    let part = take c.feed-count.result.0 c.args.bytes.now in
    let some = some_left c.args.blocks.now.count (length c.args.bytes.now) c.feed-count.result.0
    c.feed-count.ensures.taken (c.feed-count.ensures.progress c.requires) in
    let reads = piece_reads c.args.blocks.now c.feed-count.new.self part c.feed-count.result.1 some
    c.feed-count.ensures.stands c.feed-count.ensures.got read in
    (reads.0, ExtendsLogFromCore-none c.args.core.now (g.L.Log.state c.args.edge.now.log))
