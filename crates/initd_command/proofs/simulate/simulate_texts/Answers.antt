use Rattle.initd_command.proofs.Words.{refl, Keeps-refl, Done, Ends, scenario, done, stopped, unflushed}
use Rattle.initd_command.proofs.Ended.{done_kept, either_end, either_kept, ends_kept}
use Rattle.initd_command.proofs.simulate.simulate_texts.Goals as goal

-- the writer could not be flushed
pub returns-then-is_err : goal.returns-then-is_err
returns-then-is_err g c =
    let s = scenario c.args.level c.args.inittab.now c.args.script.now in
    let before = g.W.Write.contents c.args.out.now in
    let after = g.W.Write.contents c.simulate-ended.new.out in (
      unflushed,
      c.report_fault.ensures.status,
      either_kept s before after (g.W.Write.contents c.flush.new.self)
          (either_end c.simulate-ended.result (Done s before after) (λ f. Ends s f before after)
          c.simulate-ended.ensures.done c.simulate-ended.ensures.ended) c.flush.ensures.bytes,
      c.report_fault.ensures.reported,
    )

-- the run ended before the end of its script
pub returns-in-Err : goal.returns-in-Err
returns-in-Err g c =
    let s = scenario c.args.level c.args.inittab.now c.args.script.now in (
      stopped c.args.script.now c.in-Err.fault,
      c.report_fault-in-Err.ensures.status,
      (
        refl,
        ends_kept s c.in-Err.fault (g.W.Write.contents c.args.out.now) (g.W.Write.contents c.simulate-ended.new.out)
            (g.W.Write.contents c.flush.new.self)
            c.in-Err.ensures.ended c.flush.ensures.bytes,
      ),
      c.report_fault-in-Err.ensures.reported,
    )

-- the run is done
pub returns-in-Ok : goal.returns-in-Ok
returns-in-Ok g c =
    let s = scenario c.args.level c.args.inittab.now c.args.script.now in (
      done,
      refl,
      done_kept s (g.W.Write.contents c.args.out.now) (g.W.Write.contents c.simulate-ended.new.out)
          (g.W.Write.contents c.flush.new.self) c.in-Ok.ensures.done c.flush.ensures.bytes,
      refl,
    )
