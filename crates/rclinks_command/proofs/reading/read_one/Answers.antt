use Rattle.rclinks_command.proofs.Words.{codes, inl, refl}
use Rattle.rclinks_command.proofs.ReportLemmas.{tells-then}
use Rattle.rclinks_command.proofs.reading.read_one.Goals as goal

pub returns-in_ok-push-in-Ok-2-clause-told : goal.returns-in_ok-push-in-Ok-2-clause-told
returns-in_ok-push-in-Ok-2-clause-told g c =
    inl (refl, tells-then (codes "warning: ") _ _ _ c.in-Ok.ensures.warned c.in_ok-add_warnings-in-Ok.ensures)
