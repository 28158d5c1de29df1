use Rattle.supervisor.proofs.Words.{rules, ◌≡◌, ◌∙◌, ◌+◌, refl, sym, subst, true, false, Late, Counted, Hears, Tracks}
use Rattle.supervisor.proofs.Words.{come, Hears-last, Hears-more, CallsLead-late, AddsStamped-same, IsLateCall}
use Rattle.supervisor.proofs.Words.{kept_still}
use Rattle.supervisor.proofs.Words.{Grows-none, ExtendsLogFromCore-call, ExtendsLogFromCore-then}
use Rattle.supervisor.proofs.Parts.{MadeCallsLead-one}
use Rattle.supervisor.proofs.Taken.{room_left}
use Rattle.supervisor.proofs.hearing.hear_late.Goals as goal

pub returns-then-last-clause-lates : goal.returns-then-last-clause-lates
returns-then-last-clause-lates g c =
    let late = c.late-late.result in
    let core = c.args.core.now in
    let log = c.args.edge.now.log in
    let old = g.L.Log.state log in
    let mid = g.L.Log.state c.hear_come.new.edge.log in
    let new = g.L.Log.state c.nudge.new.edge.log in
    let told = c.args.edge.now.told in
    let now_told = c.nudge.new.edge.told in
    let now : c.is_last-last.result ≡ true = search rules in
    MadeCallsLead-one g.L.Log.state told now_told old new log (Late late)
    (IsLateCall c.args.asked c.is_last-last.result)
    (λ goal p. Tracks core goal p × Counted c.args.asked goal p)
    (λ goal p. Tracks c.nudge.new.core goal p × Counted (c.args.asked + 1) goal p)
    (AddsStamped-same told told c.late-late.new.self.told now_told (Late late) log refl (c.nudge.ensures.told
    ∙ c.hear_come.ensures.told) c.late-late.ensures.adds) (late, refl, c.is_last-last.ensures)
    (CallsLead-late core c.nudge.new.core old new late c.args.asked
    (Hears-last (Tracks core) (Tracks c.hear_come.new.core)
    (Tracks c.nudge.new.core) old mid new late c.args.asked (sym c.is_last-last.ensures ∙ now)
    (subst (λ l. Hears (Tracks core) (Tracks c.hear_come.new.core) (g.L.Log.state l) mid (come late))
    c.late-late.ensures.log c.hear_come.ensures.hears) c.nudge.ensures.hears))
    (kept_still (λ goal p. Tracks core goal p × Counted c.args.asked goal p) old (Late late) (λ so_far. refl))

pub returns-else-last-clause-more : goal.returns-else-last-clause-more
returns-else-last-clause-more g c no_more =
    room_left c.late-late.result c.args.asked c.requires (sym no_more ∙ c.is_last-last.ensures)

pub returns-else-last-clause-lates : goal.returns-else-last-clause-lates
returns-else-last-clause-lates g c =
    let late = c.late-late.result in
    let core = c.args.core.now in
    let log = c.args.edge.now.log in
    let old = g.L.Log.state log in
    let new = g.L.Log.state c.hear_come.new.edge.log in
    let told = c.args.edge.now.told in
    let now_told = c.hear_come.new.edge.told in
    let more : c.is_last-last.result ≡ false = search rules in
    MadeCallsLead-one g.L.Log.state told now_told old new log (Late late)
    (IsLateCall c.args.asked c.is_last-last.result)
    (λ goal p. Tracks core goal p × Counted c.args.asked goal p)
    (λ goal p. Tracks c.hear_come.new.core goal p × Counted (c.args.asked + 1) goal p)
    (AddsStamped-same told told c.late-late.new.self.told now_told
    (Late late) log refl c.hear_come.ensures.told c.late-late.ensures.adds) (late, refl, c.is_last-last.ensures)
    (CallsLead-late core c.hear_come.new.core old new late c.args.asked
    (Hears-more (Tracks core) (Tracks c.hear_come.new.core) old new late c.args.asked
    (sym c.is_last-last.ensures ∙ more)
    (subst (λ l. Hears (Tracks core) (Tracks c.hear_come.new.core) (g.L.Log.state l) new (come late))
    c.late-late.ensures.log c.hear_come.ensures.hears)))
    (kept_still (λ goal p. Tracks core goal p × Counted c.args.asked goal p) old (Late late) (λ so_far. refl))

pub returns-then-last-clause-grows : goal.returns-then-last-clause-grows
returns-then-last-clause-grows g c =
    let old = g.L.Log.state c.args.edge.now.log in
    let come = g.L.Log.state c.hear_come.new.edge.log in
    ExtendsLogFromCore-then c.args.core.now c.hear_come.new.core c.nudge.new.core old come
    (g.L.Log.state c.nudge.new.edge.log)
    (ExtendsLogFromCore-call g.L.Log.state c.args.core.now c.hear_come.new.core old come c.args.edge.now.log
    c.late-late.new.self.log c.late-late.ensures.log (Grows-none old) c.hear_come.ensures.grows)
    c.nudge.ensures.grows

pub returns-else-last-clause-grows : goal.returns-else-last-clause-grows
returns-else-last-clause-grows g c =
    let old = g.L.Log.state c.args.edge.now.log in
    ExtendsLogFromCore-call g.L.Log.state c.args.core.now c.hear_come.new.core old
    (g.L.Log.state c.hear_come.new.edge.log)
    c.args.edge.now.log c.late-late.new.self.log c.late-late.ensures.log (Grows-none old) c.hear_come.ensures.grows
