use Rattle.level_core.proofs.Words.{◌≡◌, ◌∙◌, ap, None, Some, slice_get, record_read}
use Rattle.level_core.proofs.Remade.{too_few, not_whole, one_made}
use Rattle.level_core.proofs.rebuilding.records_along.Goals as goal

pub returns-then-records-len-clause-unfit : goal.returns-then-records-len-clause-unfit
returns-then-records-len-clause-unfit g c unfit =
    too_few c.args.table.now c.args.records.now (rw c.len.ensures.value at c.if-records-len.true)

pub returns-in_default-clause-unfit : goal.returns-in_default-clause-unfit
returns-in_default-clause-unfit g c unfit =
    let none : None
    ≡ record_read (slice_get c.args.table.now c.loop-position.position) c.index-records-position.result =
    c.in_default.ensures ∙ ap (λ f. record_read f c.index-records-position.result) c.at.ensures in
    not_whole c.args.table.now c.args.records.now c.loop-position.slots.items c.loop-position.position
    c.loop-position.invariant c.index-records-position.result c.loop-position-test.true c.index-records-position.is none

pub loop-position-preserved : goal.loop-position-preserved
loop-position-preserved g c =
    let read : Some c.in-Some.slot
    ≡ record_read (slice_get c.args.table.now c.loop-position.position) c.index-records-position.result =
    c.in-Some.ensures ∙ ap (λ f. record_read f c.index-records-position.result) c.at.ensures in
    rw c.in_ok-push.ensures.items (one_made c.args.table.now c.args.records.now c.loop-position.slots.items
    c.loop-position.position c.loop-position.invariant c.index-records-position.result c.in-Some.slot
    c.loop-position-test.true c.index-records-position.is read)
