use Rattle.std.proofs.Common.{◌≡◌, false, ap, ◌∙◌}
use Rattle.trace_log.proofs.StreamLemmas.{taken_ok, taken_err}
use Rattle.trace_log.proofs.stream_logs.StreamLogLog.take.Goals as goal

pub returns-clause-ok : goal.returns-clause-ok
returns-clause-ok g c =
    let before : c.self.inside.failed ≡ false = ap (λ log. log.failed) c.self.view_is ∙ c.requires in
    rw (← c.self.view_is)
    (taken_ok g.W.Write.contents (record { writer = c.self.inside.writer; failed = c.self.inside.failed })
    (record { writer = c.write_happening-taken.new.out; failed = c.is_err-self-inside.result })
    c.write_happening-taken.result _ before c.is_err-self-inside.ensures.value c.write_happening-taken.ensures.ok)

pub returns-clause-err : goal.returns-clause-err
returns-clause-err g c =
    let before : c.self.inside.failed ≡ false = ap (λ log. log.failed) c.self.view_is ∙ c.requires in
    rw (← c.self.view_is)
    (taken_err g.W.Write.contents (record { writer = c.self.inside.writer; failed = c.self.inside.failed })
    (record { writer = c.write_happening-taken.new.out; failed = c.is_err-self-inside.result })
    c.write_happening-taken.result _ before c.is_err-self-inside.ensures.value c.write_happening-taken.ensures.err)
