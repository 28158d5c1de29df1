use Rattle.initview_timeline.proofs.Words.{◌≡◌, ◌++◌, length, bars_of, signs_of}
use Rattle.initview_timeline.proofs.pieces.Pieces.add_lives.Given as goal

-- the pieces so far, followed by those of the remaining lives, are the earlier ones and those of all lives
abbrev pub invariant-loop-life : goal.invariant-loop-life
invariant-loop-life l =
    (l.self.bars ++ bars_of l.last l.waited l.rest ≡ l.fn.self.bars ++ bars_of l.last l.waited l.lives)
    × (l.self.signs ++ signs_of l.last l.rest ≡ l.fn.self.signs ++ signs_of l.last l.lives)

abbrev pub decreases-loop-life : goal.decreases-loop-life
decreases-loop-life l = length l.rest
