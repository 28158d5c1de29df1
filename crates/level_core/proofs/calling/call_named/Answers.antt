use Rattle.level_core.proofs.Words.{◌<◌, length, sym, ◌∙◌, ap, take, arith, is_named, with_called}
use Rattle.level_core.proofs.Called.{entry_record, still_record, one_more, none_called, take_one, none_past}
use Rattle.level_core.proofs.calling.call_named.Goals as goal

pub loop-position-init : goal.loop-position-init
loop-position-init g c = none_called (is_named c.args.step.now c.args.stage) c.args.slots.now

pub call_one-requires : goal.call_one-requires
call_one-requires g c = rw c.loop-position.invariant (still_record (is_named c.args.step.now c.args.stage)
    (take c.loop-position.position c.args.table.now) c.in-Some.entry.now.id c.args.slots.now ∙ entry_record
    c.args.table.now c.args.slots.now c.loop-position.position c.in-Some.entry.now c.requires (sym c.in-Some.ensures))

pub loop-position-preserved : goal.loop-position-preserved
loop-position-preserved g c = rw (c.call_one.ensures, c.loop-position.invariant) (one_more
    (is_named c.args.step.now c.args.stage) c.in-Some.entry.now (take c.loop-position.position c.args.table.now)
    c.args.slots.now ∙ ap (λ es. with_called (is_named c.args.step.now c.args.stage) es c.args.slots.now)
    (sym (take_one c.args.table.now c.loop-position.position c.in-Some.entry.now (sym c.in-Some.ensures))))

pub returns-in_default : goal.returns-in_default
returns-in_default g c =
    let within : c.loop-position.position < length c.args.table.now = omega arith in
    none_past c.args.table.now c.loop-position.position within (sym c.in_default.ensures)
