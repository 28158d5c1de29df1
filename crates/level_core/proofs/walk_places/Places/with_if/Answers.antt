use Rattle.level_core.proofs.walk_places.Places.with_if.Goals as goal

pub returns-then-counts : goal.returns-then-counts
returns-then-counts c passed counted other = c.with.ensures passed (counted c.if-counts.true)
