use Rattle.level_core.proofs.Words.{opening_goal, fits_opening, opening_keeps}
use Rattle.level_core.proofs.cores.Core.new.Goals as goal

pub invariant_of-result : goal.invariant_of-result
invariant_of-result g c = rw c.in_ok-bare.ensures.state
    (opening_keeps c.args.table (opening_goal c.args.level c.args.table) c.new_by_state.ensures.distinct)

pub returns-clause-fits : goal.returns-clause-fits
returns-clause-fits g c = rw c.in_ok-bare.ensures.state
    (fits_opening c.args.table (opening_goal c.args.level c.args.table) c.new_by_state.ensures.distinct)
