use Rattle.rc_numbers.proofs.Words.{arith, common_steps, take_rest}
use Rattle.rc_numbers.proofs.cycles.suffix.Goals as goal

pub returns : goal.returns
returns g c = grind (arith, common_steps, take_rest)
