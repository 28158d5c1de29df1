use Rattle.initd_command.proofs.Words.{refl, inl, Keeps-refl, refused}
use Rattle.initd_command.specs.declared.run.Obstacle.TheVariants.{Unread}
use Rattle.initd_command.proofs.check.check_file.Goals as goal

pub returns-in-Err : goal.returns-in-Err
returns-in-Err g c = (
  refused (Unread c.args.options.now.trace c.from.result),
  c.report_cannot.ensures.status,
  inl (refl, Keeps-refl (g.W.Write.contents c.args.out.now)),
  rw c.as_str-path.ensures.value at c.report_cannot.ensures.reported,
)
