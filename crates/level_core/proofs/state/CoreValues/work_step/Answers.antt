use Rattle.level_core.proofs.Words.{◌≡◌, sym, ap, ◌∙◌, false, CoreState}
use Rattle.core_model.specs.Decide as core
use Rattle.level_core.proofs.Excluded.{calm_work}
use Rattle.level_core.proofs.state.CoreValues.work_step.Goals as goal

pub returns-then-not-has_excluded : goal.returns-then-not-has_excluded
returns-then-not-has_excluded g c =
    let none : core.has_excluded c.args.self.now.slots ≡ false = ap (λ (x : CoreState). core.has_excluded x.slots)
    (sym c.self.view_is) ∙ sym c.has_excluded.ensures ∙ c.if-not-has_excluded.true in
    c.calm_step.ensures ∙ calm_work c.args.stage c.args.self.now (sym c.stands.ensures ∙ c.if-stands.false) none
