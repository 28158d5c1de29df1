use Rattle.core_text.proofs.CommonWords.{◌≡◌, ◌≢◌, ◌<◌, [], length, Some, None, sym, ap, ◌∙◌, arith, common_steps}
use Rattle.core_text.proofs.CommonWords.{nil_from_length, line_read, slot_line_read, NoRecords}
use Rattle.core_text.proofs.Bodies.{err_kept, on_line}
use Rattle.core_text.proofs.Whole.{no_records, none_left, one_record, records_are, start}
use Rattle.core_text.proofs.reading.take_records.Goals as goal

pub loop-rest-init : goal.loop-rest-init
loop-rest-init g c = rw c.new-records.ensures.items (start c.args.version c.args.text.now)

pub returns-in_err-slot-clause-err : goal.returns-in_err-slot-clause-err
returns-in_err-slot-clause-err g c =
    let filled : 0 < length c.loop-rest.rest.now = grind (arith, common_steps) in
    let some : c.loop-rest.rest.now ≢ [] = λ is. omega (arith, ap length is, filled) in
    let never : line_read (slot_line_read c.args.version) c.loop-rest.rest.now ≡ None
    → NoRecords c.args.version c.args.text.now = λ none records are same.
    no_records c.args.version c.loop-rest.records.items records c.loop-rest.rest.now c.loop-rest.invariant.are are some
    none (records_are c.args.version records ∙ same ∙ sym c.loop-rest.invariant.whole) in
    err_kept c.from_residual.result c.in_err-slot.field-0.0 _ c.from_residual.ensures.1
    (on_line never c.in_err-slot.field-0.0 c.in_err-slot.ensures.err)

pub loop-rest-smaller : goal.loop-rest-smaller
loop-rest-smaller g c =
    let read : line_read (slot_line_read c.args.version) c.loop-rest.rest.now
    ≡ Some (c.in_ok-slot.slot, c.in_ok-slot.more.now) = c.in_ok-slot.ensures.ok in
    (one_record c.args.version c.args.text.now c.loop-rest.rest.now c.in_ok-slot.more.now c.loop-rest.records.items
    c.in_ok-slot.slot c.loop-rest.invariant.are c.loop-rest.invariant.whole read).2

pub loop-rest-preserved : goal.loop-rest-preserved
loop-rest-preserved g c =
    let read : line_read (slot_line_read c.args.version) c.loop-rest.rest.now
    ≡ Some (c.in_ok-slot.slot, c.in_ok-slot.more.now) = c.in_ok-slot.ensures.ok in
    let one = one_record c.args.version c.args.text.now c.loop-rest.rest.now c.in_ok-slot.more.now
    c.loop-rest.records.items c.in_ok-slot.slot c.loop-rest.invariant.are c.loop-rest.invariant.whole read in
    rw c.in_ok-keep.ensures (record { are = one.0; whole = one.1 })

pub returns-clause-ok : goal.returns-clause-ok
returns-clause-ok g c =
    let empty : c.loop-rest.rest.now ≡ [] = nil_from_length c.loop-rest.rest.now (grind (arith, common_steps)) in (
      c.loop-rest.invariant.are,
      none_left c.args.version c.args.text.now c.loop-rest.rest.now c.loop-rest.records.items
          c.loop-rest.invariant.whole empty,
    )
