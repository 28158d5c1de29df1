use Rattle.supervisor.proofs.Words.{rules, ◌≡◌, ◌∙◌, ap, true, false, is_ok, after_answer_to, has_short_seconds}
use Rattle.supervisor.proofs.Words.{ExtendsLogFromCore-one}
use Rattle.supervisor.proofs.Words.{Grows-none}
use Rattle.supervisor.proofs.Carried.{Hears-taken, Hears-refused, end_known}
use Rattle.supervisor.proofs.answering.hear_answer.Goals as goal

pub returns-then-is_ok-clause-hears : goal.returns-then-is_ok-clause-hears
returns-then-is_ok-clause-hears g c =
    let ok : is_ok c.answer.result ≡ true = search rules in
    Hears-taken c.args.core.now c.answer.new.self (g.L.Log.state c.args.edge.now.log)
    (g.L.Log.state c.write_answer.new.edge.log) c.args.id c.args.answer c.answer.result ok c.answer.ensures.refused
    c.answer.ensures.told
    (λ goal so_far sound fits allowed. c.write_answer.ensures.logs so_far (λ ends. c.number_for-number.ensures ends
    ∙ end_known goal so_far c.args.core.now c.args.id c.args.answer sound fits.0 allowed ends))

pub returns-else-is_ok-clause-hears : goal.returns-else-is_ok-clause-hears
returns-else-is_ok-clause-hears g c =
    let refused : is_ok c.answer.result ≡ false = search rules in
    Hears-refused c.args.core.now c.answer.new.self (g.L.Log.state c.args.edge.now.log) c.args.id c.args.answer
    c.answer.result refused c.answer.ensures.refused c.answer.ensures.unchanged

pub returns-then-is_ok-clause-grows : goal.returns-then-is_ok-clause-grows
returns-then-is_ok-clause-grows g c =
    let told : c.answer.new.self ≡ after_answer_to c.args.id c.args.answer c.args.core.now = search rules in
    ExtendsLogFromCore-one c.args.core.now c.answer.new.self (g.L.Log.state c.args.edge.now.log) (g.L.Log.state
    c.write_answer.new.edge.log) (λ short. ap has_short_seconds told ∙ short) c.write_answer.ensures.grows

pub returns-else-is_ok-clause-grows : goal.returns-else-is_ok-clause-grows
returns-else-is_ok-clause-grows g c =
    let same : c.answer.new.self ≡ c.args.core.now = search rules in
    ExtendsLogFromCore-one c.args.core.now c.answer.new.self (g.L.Log.state c.args.edge.now.log) (g.L.Log.state
    c.args.edge.now.log) (λ short. ap has_short_seconds same ∙ short) (Grows-none (g.L.Log.state c.args.edge.now.log))
