use Rattle.core_waiting.proofs.Awaiting.{awaits_known, awaits_all}
use Rattle.core_waiting.proofs.awaited.AwaitedChildren.of.Goals as goal

pub returns-clause-known : goal.returns-clause-known
returns-clause-known g c goal past sound fits =
    rw (c.stage.ensures, c.table.ensures, c.as_slice.ensures.value, c.slots.ensures)
    (awaits_known c.args.core.now goal past sound fits)

pub returns-clause-all : goal.returns-clause-all
returns-clause-all g c goal past sound fits quiet =
    rw (c.stage.ensures, c.table.ensures, c.as_slice.ensures.value, c.slots.ensures)
    (awaits_all c.args.core.now goal past sound fits quiet)
