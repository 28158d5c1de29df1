use Rattle.level_core.proofs.Words.{◌∙◌, rules, ap, order_in, refusal_of, CoreState, answer_taken, fits_told}
use Rattle.level_core.proofs.Kept.{told_kept}
use Rattle.level_core.proofs.cores.Core.answer.Goals as goal

pub invariant_of-self : goal.invariant_of-self
invariant_of-self g c = told_kept c.self.inside.bare c.answer_by_state.new.self c.self.invariant c.args.id c.args.answer
    c.answer_by_state.result c.answer_by_state.ensures.refused c.answer_by_state.ensures.told
    c.answer_by_state.ensures.unchanged

pub returns-clause-taken : goal.returns-clause-taken
returns-clause-taken g c goal past sound fits told = rw
    (c.answer_by_state.ensures.refused ∙ ap (λ (s : CoreState). refusal_of (order_in c.args.id s.slots) c.args.answer)
    c.self.view_is ∙ answer_taken goal past c.args.self.now sound fits c.args.id c.args.answer told) (search rules)

pub returns-clause-fits : goal.returns-clause-fits
returns-clause-fits g c goal past sound fits told =
    let state = rw (c.answer_by_state.ensures.refused
    ∙ ap (λ (s : CoreState). refusal_of (order_in c.args.id s.slots) c.args.answer) c.self.view_is ∙ answer_taken goal
    past c.args.self.now sound fits c.args.id c.args.answer told) at c.answer_by_state.ensures.told in
    rw (state, c.self.view_is) (fits_told goal past c.args.self.now sound fits c.args.id c.args.answer told)
