use Rattle.level_core.proofs.Words.{sym, ◌∙◌, arith, zip, Entry, SlotState}
use Rattle.core_model.specs.Decide.{is_served_record}
use Rattle.level_core.proofs.Pairs.{pair_got, not_all}
use Rattle.level_core.proofs.Places.{not_so}
use Rattle.level_core.proofs.walking.is_unserved_at.Goals as goal

pub returns : goal.returns
returns g c unserved = not_all (λ (p : Entry × SlotState). is_served_record c.args.level c.args.now p.0 p.1)
    (zip c.args.table.now c.args.slots.now) c.args.position (c.in-Some.entry.now, c.index-slots-position.result)
    (pair_got c.args.table.now c.args.slots.now c.args.position c.in-Some.entry.now c.index-slots-position.result
    (sym c.in-Some.ensures) (omega (arith, c.if-position-slots.false)) c.index-slots-position.is)
    (sym c.is_served.ensures ∙ not_so c.is_served.result unserved)
