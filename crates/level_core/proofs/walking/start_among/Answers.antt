use Rattle.level_core.proofs.Words.{sym, ◌∙◌, arith, refl}
use Rattle.level_core.proofs.Places.{first_on, next_on, all_on}
use Rattle.level_core.proofs.walking.start_among.Goals as goal

pub returns-then-places : goal.returns-then-places
returns-then-places g c = c.start_from.ensures ∙ sym
    (all_on c.args.stage c.args.now c.args.table.now c.args.slots.now c.args.places c.requires.passed c.if-places.true)

pub returns-in-Some : goal.returns-in-Some
returns-in-Some g c = c.in-Some.ensures.ends
    ∙ sym (first_on c.args.stage c.args.now c.args.table.now c.args.slots.now c.args.places c.requires.passed)

pub returns-in-None : goal.returns-in-None
returns-in-None g c = c.start_from-in-None.ensures ∙ sym (first_on c.args.stage c.args.now c.args.table.now
    c.args.slots.now c.args.places c.requires.passed ∙ c.in-None.ensures.goes_on refl ∙ next_on c.args.stage c.args.now
    c.args.table.now c.args.slots.now c.args.places c.requires.passed (omega (arith, c.if-places.false)))
