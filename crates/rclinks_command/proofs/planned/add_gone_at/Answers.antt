use Rattle.rclinks_command.proofs.Words.{refl}
use Rattle.rclinks_command.proofs.planned.add_gone_at.Goals as goal

pub loop-entry-init : goal.loop-entry-init
loop-entry-init c = rw (c.deref-entry-items.ensures.value, c.in_ok-gone.ensures) refl
