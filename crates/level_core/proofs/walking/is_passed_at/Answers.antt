use Rattle.level_core.proofs.Words.{sym, refl, arith}
use Rattle.level_core.proofs.Pairs.{no_pair_got, no_pair_got_past, pair_got}
use Rattle.level_core.proofs.walking.is_passed_at.Goals as goal

pub returns-in_default : goal.returns-in_default
returns-in_default g c =
    rw (no_pair_got c.args.table.now c.args.slots.now c.args.position (sym c.in_default.ensures)) refl

pub returns-then-position-slots : goal.returns-then-position-slots
returns-then-position-slots g c =
    rw (no_pair_got_past c.args.table.now c.args.slots.now c.args.position c.if-position-slots.true) refl

pub returns : goal.returns
returns g c =
    rw (pair_got c.args.table.now c.args.slots.now c.args.position c.in-Some.entry.now c.index-slots-position.result
    (sym c.in-Some.ensures) (omega (arith, c.if-position-slots.false)) c.index-slots-position.is) c.is_passed.ensures
