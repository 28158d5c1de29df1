-- What is written and held after a happening follows from the contract of `step`.
use Rattle.trace_log_wrappers.proofs.Words.{◌≡◌, true, is_in_range, newly_first}
use Rattle.trace_log_wrappers.proofs.AddLemmas.{grows}
use Rattle.trace_log_wrappers.proofs.KeepLemmas.{took_ok, took_err}
use Rattle.trace_log_wrappers.proofs.brief_logs.BriefLogLog.take.Goals as goal

pub returns-clause-ok : goal.returns-clause-ok
returns-clause-ok g c =
    took_ok c.step.result (is_in_range c.args.happening.now ≡ true) c.args.happening.now
    (g.L.Log.state c.args.self.now.log) (g.L.Log.state c.step.new.self.log) c.args.self.now.held c.step.new.self.held
    c.requires c.step.ensures.flag c.step.ensures.held c.step.ensures.ok

pub returns-clause-err : goal.returns-clause-err
returns-clause-err g c =
    took_err c.step.result (is_in_range c.args.happening.now ≡ true) c.args.happening.now
    (g.L.Log.state c.args.self.now.log) (g.L.Log.state c.step.new.self.log) c.args.self.now.held c.step.new.self.held
    c.requires c.step.ensures.flag c.step.ensures.err

pub returns-clause-kept : goal.returns-clause-kept
returns-clause-kept g c =
    grows c.step.result (is_in_range c.args.happening.now ≡ true) (g.L.Log.state c.args.self.now.log) (g.L.Log.state
    c.step.new.self.log) (newly_first c.args.happening.now c.args.self.now.held) c.step.ensures.ok c.step.ensures.err
