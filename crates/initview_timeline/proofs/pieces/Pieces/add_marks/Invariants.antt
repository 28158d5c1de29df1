use Rattle.initview_timeline.proofs.Words.{◌≡◌, ◌++◌, length, marks_bars, marks_signs, next_begin}
use Rattle.initview_timeline.proofs.pieces.Pieces.add_marks.Given as goal

-- the pieces so far, followed by those of the remaining marks, are the earlier ones and those of all marks; the time at
-- which a piece of the next mark ends is known
abbrev pub invariant-loop-mark : goal.invariant-loop-mark
invariant-loop-mark l =
    (l.self.bars ++ marks_bars l.last l.id l.rest ≡ l.fn.self.bars ++ marks_bars l.last l.id l.marks)
    × (l.self.signs ++ marks_signs l.last l.id l.rest ≡ l.fn.self.signs ++ marks_signs l.last l.id l.marks)
    × (l.next ≡ next_begin l.last l.id l.rest)

abbrev pub decreases-loop-mark : goal.decreases-loop-mark
decreases-loop-mark l = length l.rest
