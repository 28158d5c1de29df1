use Rattle.reexec_state.proofs.Words.{◌≡◌, Err, sym, ◌∙◌, ap, subst, rules, state_of, IsTextOf}
use Rattle.std.specs.Result.{MatchResult}
use Rattle.core_model.specs.Rebuilding.{core_of}
use Rattle.core_model.proofs.Rebuilt.{core_is}
use Rattle.core_text.specs.declared.state_fault.StateFault.TheVariants as fault
use Rattle.reexec_state.proofs.taking.take_over.Goals as goal

pub returns-in_err-parts-clause-only : goal.returns-in_err-parts-clause-only
returns-in_err-parts-clause-only g c core kept says own =
    let is : c.from_residual.result ≡ Err c.in_err-parts.field-0.0 = search (rules, c.from_residual.ensures) in
    subst (λ r. MatchResult r (λ taken. taken ≡ core) (λ why. why ≡ fault.Memory)) (sym is)
    (c.in_err-parts.ensures.only (state_of core) says own)

pub returns-in-Ok-clause-taken : goal.returns-in-Ok-clause-taken
returns-in-Ok-clause-taken g c =
    subst (IsTextOf c.args.text.now) (sym c.in-Ok.ensures.made.0) c.in_ok-parts.ensures.read

pub returns-in-Ok-clause-only : goal.returns-in-Ok-clause-only
returns-in-Ok-clause-only g c core kept says own =
    sym (core_is c.in-Ok.core c.in-Ok.ensures.made.1)
    ∙ ap core_of (c.in-Ok.ensures.made.0 ∙ c.in_ok-parts.ensures.only (state_of core) says own) ∙ core_is core kept

pub returns-in-Err-Unfit-clause-only : goal.returns-in-Err-Unfit-clause-only
returns-in-Err-Unfit-clause-only g c core kept says own = absurd (c.in-Err-Unfit.ensures.unfit
    (ap Err c.in-Err-Unfit.field-0-is) core kept (sym (c.in_ok-parts.ensures.only (state_of core) says own)))
