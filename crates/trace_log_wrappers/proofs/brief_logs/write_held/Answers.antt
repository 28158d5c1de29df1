-- The held happenings are written in three parts; if the last part fails, the first two have been written.
use Rattle.trace_log_wrappers.proofs.Words.{◌++◌, reverse, look_events, round_events, reading_events}
use Rattle.trace_log_wrappers.proofs.AddLemmas.{adds_two, front_err}
use Rattle.trace_log_wrappers.proofs.brief_logs.write_held.Goals as goal

pub returns-clause-err : goal.returns-clause-err
returns-clause-err g c =
    let old = (g.L.Log.state c.args.log.now) in
    let one = (g.L.Log.state c.write_reading.new.log) in
    let two = (g.L.Log.state c.write_round.new.log) in
    front_err c.write_look.result old two (g.L.Log.state c.write_look.new.log) (reading_events c.args.held.now.reading
    ++ round_events c.args.held.now.round) (reverse (look_events c.args.held.now.look))
    (adds_two old one two (reading_events c.args.held.now.reading)
    (round_events c.args.held.now.round) c.in_ok-write_reading.ensures.ok c.in_ok-write_round.ensures.ok)
    c.write_look.ensures.err
