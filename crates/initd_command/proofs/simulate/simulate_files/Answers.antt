use Rattle.initd_command.proofs.Words.{refl, inl, inr, Keeps-refl, refused}
use Rattle.initd_command.specs.declared.run.Obstacle.TheVariants.{Unread}
use Rattle.initd_command.proofs.simulate.simulate_files.Goals as goal

-- the inittab was not read
pub returns-in-Err : goal.returns-in-Err
returns-in-Err g c = (
  refused (Unread c.args.options.now.table c.in-Err.error),
  c.report_cannot.ensures.status,
  inl (inl (refl, Keeps-refl (g.W.Write.contents c.args.out.now))),
  rw c.as_str-table.ensures.value at c.report_cannot.ensures.reported,
)

-- the script was not read
pub returns : goal.returns
returns g c = (
  refused (Unread c.args.options.now.script c.in-Err-read.error),
  c.report_cannot-in-Err-read.ensures.status,
  inl (inr (refl, Keeps-refl (g.W.Write.contents c.args.out.now))),
  rw c.as_str-path.ensures.value at c.report_cannot-in-Err-read.ensures.reported,
)
