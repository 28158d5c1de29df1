-- The positions of times in the drawing of a timeline, which is scaled to its width.
use Rattle.std.specs.Prelude.{ℕ, ◌+◌, ◌-◌, ◌*◌, ◌/◌, ◌^◌, ◌==◌, max, min, if◌then◌else◌}
use Rattle.initview_timeline.specs.declared.frames.Frame.{Frame}
use Rattle.initview_timeline.specs.declared.frames.TheConstants.{BAR_LEAST}

-- the sum, or 2^64 - 1 if it is greater
abbrev pub plus : ℕ → ℕ → ℕ
plus a b = min (a + b) (2 ^ 64 - 1)

-- the product, or 2^64 - 1 if it is greater
abbrev pub times : ℕ → ℕ → ℕ
times a b = min (a * b) (2 ^ 64 - 1)

-- a part of a whole, scaled to `many` positions, rounded down
abbrev pub scaled : ℕ → ℕ → ℕ → ℕ
scaled part whole many = if whole == 0 then 0 else times part many / whole

-- the duration of the drawing, in seconds
abbrev pub span_of : Frame → ℕ
span_of f = f.end - f.start

-- the position of a time: 0 for the first time, and at most the last position, which is that of the last time
abbrev pub place_of : Frame → ℕ → ℕ
place_of f time = min (scaled (time - f.start) (span_of f) f.last) f.last

-- the width of a bar between two times: the distance between their positions, but enough to be visible
abbrev pub width_of : Frame → ℕ → ℕ → ℕ
width_of f from to = max (place_of f to - place_of f from) BAR_LEAST

-- the position at which a bar begins, so that it ends within the drawing
abbrev pub left_of : Frame → ℕ → ℕ → ℕ
left_of f from to = min (place_of f from) (f.last - width_of f from to)
