use Rattle.simulator.proofs.Words.{rules, ◌≡◌, ◌++◌, ◌∷◌, ap, ◌∙◌, Appends-trans, event_text, run_sound, with_step}
use Rattle.simulator.proofs.Words.{all_on, err_is, CoreState, step_same}
use Rattle.std.proofs.Common.{Err}
use Rattle.simulator.specs.declared.running.SimFault.TheVariants as fault
use Rattle.simulator.proofs.Keeping.{lasts_step}
use Rattle.simulator.proofs.Moves.{at_rest, moment_step, went_step, goes_step, leaves_behind, memory_after, more_run}
use Rattle.simulator.proofs.running.run_until_rest.Goals as goal

-- init is at rest
pub returns-in_default-clause-ok : goal.returns-in_default-clause-ok
returns-in_default-clause-ok g c goal past before =
    let (next, more, moment, goes, written) = c.steps.invariant.all goal past before in
    let sound = run_sound goal next moment.runs in (
      next,
      more,
      at_rest goal next c.next-step.result c.is_reread-rereads.result c.steps.core c.next-step.new.self c.steps.side
          moment
          (c.next-step.ensures.due goal next sound moment.fits.0) c.in_default.ensures.none c.is_reread-rereads.ensures
          (all_on c.steps.core c.next-step.new.self goal next (with_step c.next-step.result next)
          (c.next-step.ensures.fits goal next sound moment.fits.0) moment.fits)
          (lasts_step c.steps.core c.next-step.new.self c.next-step.result c.next-step.ensures.step
          c.next-step.ensures.state goal next moment.fits moment.lasts),
      goes,
      written,
    )

-- a step was not written, or not in full
pub returns-in_err-write_happening-clause-err : goal.returns-in_err-write_happening-clause-err
returns-in_err-write_happening-clause-err g c =
    let f = c.in_err-write_happening.field-0.0 in
    let is : c.from_residual.result ≡ Err f = search rules in
    err_is c.from_residual.result f _ is (λ goal past before.
    let (next, more, moment, goes, written) = c.steps.invariant.all goal past before in
    let due_now = c.next-step.ensures.due goal next (run_sound goal next moment.runs) moment.fits.0 in (
      c.in-Some.happening ∷ next,
      more ++ event_text c.in-Some.happening,
      more_run goal next c.in-Some.happening c.next-step.result due_now (c.in-Some.ensures.some.1 next) moment.runs,
      goes_step goal c.next-step.result c.in-Some.happening past next more moment.runs
          (c.in-Some.ensures.some.1 next) goes,
      leaves_behind f (g.W.Write.contents c.args.out.now) (g.W.Write.contents c.steps.out)
          (g.W.Write.contents c.write_happening.new.out)
          more (event_text c.in-Some.happening) written c.in_err-write_happening.ensures.err,
    ))

-- a step was written, but not taken by the simulated system
pub returns-in_err-taken-clause-err : goal.returns-in_err-taken-clause-err
returns-in_err-taken-clause-err g c =
    let is : c.from_residual-in_err-taken.result ≡ Err fault.Memory = search rules in
    err_is c.from_residual-in_err-taken.result fault.Memory _ is (λ goal past before.
    let (next, more, moment, goes, written) = c.steps.invariant.all goal past before in
    let due_now = c.next-step.ensures.due goal next (run_sound goal next moment.runs) moment.fits.0 in (
      c.in-Some.happening ∷ next,
      more ++ event_text c.in-Some.happening,
      more_run goal next c.in-Some.happening c.next-step.result due_now (c.in-Some.ensures.some.1 next) moment.runs,
      goes_step goal c.next-step.result c.in-Some.happening past next more moment.runs
          (c.in-Some.ensures.some.1 next) goes,
      memory_after (g.W.Write.contents c.args.out.now) (g.W.Write.contents c.write_happening.new.out)
          (more ++ event_text c.in-Some.happening)
          (Appends-trans (g.W.Write.contents c.args.out.now) (g.W.Write.contents c.steps.out)
          (g.W.Write.contents c.write_happening.new.out)
          more (event_text c.in-Some.happening) written c.in_ok-write_happening.ensures.ok),
    ))

-- each step leaves less to do
pub steps-smaller : goal.steps-smaller
steps-smaller g c = c.next-step.ensures.falls c.in-Some.ensures.some.0

pub steps-preserved : goal.steps-preserved
steps-preserved g c =
    let moved = moment_step c.steps.core c.next-step.new.self c.steps.side c.take-taken.new.self c.next-step.result
    c.in-Some.happening c.next-step.ensures.due c.next-step.ensures.fits c.in-Some.ensures.some.1
    c.in_ok-taken.ensures.ok
    (lasts_step c.steps.core c.next-step.new.self c.next-step.result c.next-step.ensures.step
    c.next-step.ensures.state) in
    record {
      generation = ap (λ (core : CoreState). core.fields.generation) c.next-step.ensures.state
          ∙ step_same c.next-step.result c.steps.core ∙ c.steps.invariant.generation;
      some = let (goal, past, moment) = c.steps.invariant.some in
          (goal, c.in-Some.happening ∷ past, moved goal past moment);
      all = λ goal past before. went_step c.steps.core c.next-step.new.self c.steps.side c.take-taken.new.self
          c.next-step.result c.in-Some.happening c.next-step.ensures.due c.next-step.ensures.fits
          c.in-Some.ensures.some.1
          c.in_ok-taken.ensures.ok
          (lasts_step c.steps.core c.next-step.new.self c.next-step.result c.next-step.ensures.step
          c.next-step.ensures.state)
          (g.W.Write.contents c.args.out.now) (g.W.Write.contents c.steps.out)
          (g.W.Write.contents c.write_happening.new.out) c.in_ok-write_happening.ensures.ok goal past
          (c.steps.invariant.all goal past before);
    }
