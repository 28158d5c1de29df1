use Rattle.trace_log_wrappers.proofs.Words.{rules, ◌≡◌, ◌&&◌}
use Rattle.trace_log_wrappers.proofs.KeepLemmas.{ends}
use Rattle.trace_log_wrappers.proofs.brief_logs.BriefLogEndedLog.end.Goals as goal

pub returns-clause-ended : goal.returns-clause-ended
returns-clause-ended g c =
    let is : c.if-handed.result ≡ (c.hand_on-handed.result && c.end-left.result.1) = search rules in
    rw (← c.self.view_is) (λ trace took.
    ends (g.L.EndedLog.has_ended c.end-left.result.0)
    (g.L.Log.state c.hand_on-handed.new.log).taken c.hand_on-handed.result c.end-left.result.1 trace
    (c.hand_on-handed.ensures.handed trace took) c.end-left.ensures.ended c.if-handed.result is)
