use Rattle.trace_verdict.proofs.Judging.{taken_at}
use Rattle.trace_verdict.proofs.text_judges.TextJudge.take.Goals as goal

pub returns-clause-ok : goal.returns-clause-ok
returns-clause-ok g c = λ text small taken.
    c.in_ok-judge.ensures.ok _ small
    (c.in_ok-feed.ensures.ok text (taken_at c.args.self.now.finding c.args.self.now text taken))
