use Rattle.supervisor.proofs.Words.{refl, sym, subst, ◌∙◌, state_of, NotTaken}
use Rattle.supervisor.proofs.HandOvers.{taken_back}
use Rattle.supervisor.proofs.Grown.{text_short}
use Rattle.supervisor.proofs.reexecuting.take_back.Goals as goal

pub returns-in-Ok-clause-comes : goal.returns-in-Ok-clause-comes
returns-in-Ok-clause-comes g c fit says comes =
    taken_back c.args.core.now c.in-Ok.next c.args.text.now c.args.back.now says fit comes
    c.in-Ok.ensures.taken (c.in-Ok.ensures.generation ∙ c.generation.ensures)
    (λ core fits said own. c.in-Ok.ensures.only core fits said (own ∙ sym c.generation.ensures))

pub returns-in-Err-clause-comes : goal.returns-in-Err-clause-comes
returns-in-Err-clause-comes g c fit says comes = (
  refl,
  c.refused.ensures (state_of c.args.core.now) says
      (subst
      (λ generation. NotTaken c.args.back.now generation c.in-Err.why) c.generation.ensures c.in-Err.ensures.refused)
      (λ cut. let is = c.in-Err.ensures.cut cut in cc),
)

pub returns-in-Ok-clause-short : goal.returns-in-Ok-clause-short
returns-in-Ok-clause-short g c short = text_short c.in-Ok.next c.args.back.now c.in-Ok.ensures.taken
