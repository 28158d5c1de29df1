use Rattle.child_table.proofs.Words.{sym, subst, ◌∙◌, Keyed, IsFound}
use Rattle.child_table.specs.declared.index.Found.TheVariants as found
use Rattle.child_table.proofs.Sorted.{at_within, found_none, found_one}
use Rattle.child_table.proofs.index.with_key.Goals as goal

pub returns-then-not-has_key : goal.returns-then-not-has_key
returns-then-not-has_key c =
    found_none c.args.key c.args.items.now c.first_from-first.result c.first_from-first.ensures.within c.requires
    c.first_from-first.ensures.point (sym c.has_key.ensures ∙ c.if-not-has_key.true)

pub bounds-items-first : goal.bounds-items-first
bounds-items-first c =
    at_within c.args.key c.args.items.now c.first_from-first.result (sym c.has_key.ensures ∙ c.if-not-has_key.false)

pub bounds-items-first-else-has_key : goal.bounds-items-first-else-has_key
bounds-items-first-else-has_key c =
    at_within c.args.key c.args.items.now c.first_from-first.result (sym c.has_key.ensures ∙ c.if-not-has_key.false)

pub returns : goal.returns
returns c = subst (λ (d : Keyed). IsFound c.args.key c.args.items.now (found.One d.id)) c.index-items-first.is
    (found_one c.args.key c.args.items.now c.first_from-first.result c.first_from-first.ensures.within c.requires
    c.first_from-first.ensures.point (sym c.has_key.ensures ∙ c.if-not-has_key.false)
    (sym c.has_key-2.ensures ∙ c.if-has_key.false) c.index-items-first.result c.index-items-first.is)
