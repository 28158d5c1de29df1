use Rattle.rc_numbers.proofs.Words.{arith, common_steps}
use Rattle.rc_numbers.proofs.PassLemmas.{settled-drop}
use Rattle.rc_numbers.proofs.passes.settled.Goals as goal

pub loop-position-preserved : goal.loop-position-preserved
loop-position-preserved g c =
    let step = settled-drop c.args.numbers.now c.args.heights.now c.loop-position.position (omega arith) c.requires in
    grind (arith, common_steps, step)
