use Rattle.rclinks_command.proofs.Words.{link_entry}
use Rattle.rclinks_command.proofs.WritingLemmas.{mapped-next}
use Rattle.rclinks_command.proofs.planned.planned_at.Goals as goal

pub loop-link-preserved : goal.loop-link-preserved
loop-link-preserved c =
    mapped-next link_entry (λ link. link.items) c.deref-link-items.result.now c.loop-link.link-index c.link-item.result
    c.in_ok-link_entry.field-0 c.loop-link.planned.items c.push.new.self.items _
    c.loop-link-test.true c.link-item.is
    (rw c.as_slice.ensures.value at c.in_ok-link_entry.ensures) c.in_ok-push.ensures.items c.loop-link.invariant
