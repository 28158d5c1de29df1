-- The held happenings are written first, and then the new one.
use Rattle.trace_log_wrappers.proofs.Words.{◌≡◌, true, is_in_range, written_of, held_first}
use Rattle.trace_log_wrappers.proofs.AddLemmas.{ranged_ok, ranged_err, early_err}
use Rattle.trace_log_wrappers.proofs.brief_logs.write_all.Goals as goal

pub returns-in_err-write_held-clause-err : goal.returns-in_err-write_held-clause-err
returns-in_err-write_held-clause-err g c = early_err c.from_residual.result (is_in_range c.args.happening.now ≡ true)
    (g.L.Log.state c.args.log.now) (g.L.Log.state c.write_held.new.log) (held_first c.args.held.now)
    (written_of c.args.happening.now) c.in_err-write_held.ensures.err

pub returns-clause-ok : goal.returns-clause-ok
returns-clause-ok g c = ranged_ok c.write_new.result (is_in_range c.args.happening.now ≡ true)
    (g.L.Log.state c.args.log.now) (g.L.Log.state c.write_held.new.log) (g.L.Log.state c.write_new.new.log)
    (held_first c.args.held.now) (written_of c.args.happening.now) c.in_ok-write_held.ensures.ok c.write_new.ensures.ok

pub returns-clause-err : goal.returns-clause-err
returns-clause-err g c = ranged_err c.write_new.result (is_in_range c.args.happening.now ≡ true)
    (g.L.Log.state c.args.log.now) (g.L.Log.state c.write_held.new.log) (g.L.Log.state c.write_new.new.log)
    (held_first c.args.held.now) (written_of c.args.happening.now) c.in_ok-write_held.ensures.ok c.write_new.ensures.err
