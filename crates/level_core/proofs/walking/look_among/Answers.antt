use Rattle.level_core.proofs.Places.{look_from}
use Rattle.level_core.proofs.walking.look_among.Goals as goal

pub loop-position-init : goal.loop-position-init
loop-position-init c = look_from c.args.slots.now c.args.from c.requires
