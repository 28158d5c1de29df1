use Rattle.trace_log_wrappers.proofs.Words.{rules}
use Rattle.trace_log_wrappers.proofs.KeepLemmas.{hands_failed, hands_held}
use Rattle.trace_log_wrappers.proofs.brief_logs.hand_on.Goals as goal

pub returns-then-failed-clause-handed : goal.returns-then-failed-clause-handed
returns-then-failed-clause-handed g c = hands_failed (g.L.Log.state c.args.log.now) c.args.held.now (search rules)

pub returns-clause-handed : goal.returns-clause-handed
returns-clause-handed g c =
    hands_held c.write_held.result (g.L.Log.state c.args.log.now) (g.L.Log.state c.write_held.new.log) c.args.held.now
    (search rules) c.write_held.ensures.ok c.write_held.ensures.err c.is_ok.result c.is_ok.ensures.value
