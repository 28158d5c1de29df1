use Rattle.initd_command.proofs.Words.{rules, ◌≡◌, refl, subst, Appends, AppendsPrefix, Keeps-refl, refused, unlawful}
use Rattle.initd_command.proofs.Words.{unwritten, breach_message, unlawful_text}
use Rattle.initd_command.specs.declared.run.Obstacle.TheVariants.{Memory}
use Rattle.initd_command.proofs.check.tell_breach.Goals as goal

pub returns-in_default : goal.returns-in_default
returns-in_default g c = (
  refused Memory,
  c.report_memory.ensures.status,
  Keeps-refl (g.W.Write.contents c.args.out.now),
  c.report_memory.ensures.reported,
)

pub returns-in_default-breach_message : goal.returns-in_default-breach_message
returns-in_default-breach_message g c = (
  refused Memory,
  c.report_memory-in_default-breach_message.ensures.status,
  Keeps-refl (g.W.Write.contents c.args.out.now),
  c.report_memory-in_default-breach_message.ensures.reported,
)

pub returns-then-not-tell : goal.returns-then-not-tell
returns-then-not-tell g c =
    let verdict : c.as_bytes.result.now ≡ unlawful_text c.args.breach.now = search rules in (
      unwritten,
      refl,
      subst (λ text. AppendsPrefix (g.W.Write.contents c.args.out.now) (g.W.Write.contents c.tell.new.out) text) verdict
          c.tell.ensures.part,
      c.report.ensures,
    )

pub returns : goal.returns
returns g c =
    let verdict : c.as_bytes.result.now ≡ unlawful_text c.args.breach.now = search rules in
    let message : c.deref.result.now ≡ breach_message c.args.breach.now = search rules in
    let options : Appends (g.W.Write.contents c.args.out.now) (g.W.Write.contents c.tell.new.out)
    (unlawful_text c.args.breach.now) = subst (λ text. Appends (g.W.Write.contents c.args.out.now)
    (g.W.Write.contents c.tell.new.out) text) verdict (c.tell.ensures.whole (search rules)) in (
      unlawful c.deref.result.now _,
      refl,
      (message, refl, options),
      (g.E.Reporter.reports c.report_bytes.new.err, c.report_bytes.ensures, c.report_judged.ensures),
    )
