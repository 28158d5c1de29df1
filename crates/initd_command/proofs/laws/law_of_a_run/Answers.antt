use Rattle.initd_command.proofs.OnSystem.{kills_kept, targets_kept}
use Rattle.initd_command.proofs.laws.law_of_a_run.Goals as goal

pub returns-clause-targets : goal.returns-clause-targets
returns-clause-targets c hosts were numbers = targets_kept hosts.calls hosts.asked were numbers

pub returns-clause-kills : goal.returns-clause-kills
returns-clause-kills c text_at words hosts ending old new none told known asks grace opening numbers requests given =
    kills_kept text_at words hosts ending old new none told known asks grace opening numbers requests given
