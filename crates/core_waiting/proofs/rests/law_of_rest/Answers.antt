use Rattle.core_waiting.proofs.Words.{sym, ◌∙◌, ap, first, decide_due}
use Rattle.core_waiting.proofs.Idle.{idle_none_due}
use Rattle.core_waiting.proofs.Rest.{rest_accounted, rest_heard}
use Rattle.core_waiting.proofs.Settled.{announced_power, announced_spared}
use Rattle.core_waiting.proofs.Stops.{rest_stopping, rest_looked}
use Rattle.core_waiting.proofs.Once.{starts_once}
use Rattle.core_waiting.proofs.Progress.{rests_progress}
use Rattle.core_waiting.proofs.rests.law_of_rest.Goals as goal

pub returns-clause-rest : goal.returns-clause-rest
returns-clause-rest c = rest_accounted

pub returns-clause-heard : goal.returns-clause-heard
returns-clause-heard c goal later past sound h idle = rest_heard goal past h idle

pub returns-clause-spared : goal.returns-clause-spared
returns-clause-spared c = announced_spared

pub returns-clause-settled : goal.returns-clause-settled
returns-clause-settled c = announced_power

pub returns-clause-stopping : goal.returns-clause-stopping
returns-clause-stopping c = rest_stopping

pub returns-clause-looked : goal.returns-clause-looked
returns-clause-looked c = rest_looked

pub returns-clause-idle : goal.returns-clause-idle
returns-clause-idle c core goal past sound fits = (
  λ h. idle_none_due goal past (sym (decide_due goal past sound core fits) ∙ h),
  λ h. decide_due goal past sound core fits ∙ ap first h,
)

pub returns-clause-once : goal.returns-clause-once
returns-clause-once c = starts_once

pub returns-clause-progress : goal.returns-clause-progress
returns-clause-progress c = rests_progress
