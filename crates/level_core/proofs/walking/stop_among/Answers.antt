use Rattle.level_core.proofs.Stops.{stop_from}
use Rattle.level_core.proofs.walking.stop_among.Goals as goal

pub loop-position-init : goal.loop-position-init
loop-position-init c = stop_from c.args.grace c.args.now c.args.slots.now c.args.from c.requires
