-- The definitions that the laws of a timeline need.
use Rattle.std.specs.Prelude.{ℕ, Bool, true, false, List, [], ◌∷◌, ◌++◌, Some}
use Rattle.init_words.specs.declared.orders.SignalKind.TheVariants as sig
use Rattle.initview_timeline.specs.declared.marks.Shown.{Shown}
use Rattle.initview_timeline.specs.declared.marks.Shown.TheVariants.{Born, NotBorn, Sent}
use Rattle.initview_timeline.specs.declared.marks.TimelineMark.{TimelineMark}
use Rattle.initview_timeline.specs.declared.pieces.Drawn.{Drawn}
use Rattle.initview_timeline.specs.declared.pieces.Drawn.TheVariants.{Waited, Lives}
use Rattle.initview_timeline.specs.declared.pieces.Piece.{Piece}
use Rattle.initview_timeline.specs.Lives.{marks_for}
use Rattle.initview_timeline.specs.Rows.{Scene}

-- the marks about an id
abbrev pub id_marks : Scene → List ℕ → List TimelineMark
id_marks s id = marks_for (Some id) s.marks

-- the number of the child and the time, if the event is a birth
abbrev pub birth_at : ℕ → Shown → List (ℕ × ℕ)
birth_at time (Born id number) = (number, time) ∷ []
birth_at time _ = []

-- the births among the marks
abbrev pub births : List TimelineMark → List (ℕ × ℕ)
births [] = []
births (mark ∷ marks) = birth_at mark.time mark.what ++ births marks

-- the number of the child and the time at which the bar begins, if the bar shows a life
abbrev pub life_from : ℕ → Drawn → List (ℕ × ℕ)
life_from from (Waited l) = (l.number, from) ∷ []
life_from from (Lives l) = (l.number, from) ∷ []
life_from from _ = []

-- the lives among the bars
abbrev pub lives_drawn : List Piece → List (ℕ × ℕ)
lives_drawn [] = []
lives_drawn (p ∷ ps) = life_from p.from p.what ++ lives_drawn ps

-- the event is that SIGKILL was sent or that a start failed
abbrev pub says_fault : Shown → Bool
says_fault (Sent id sig.Kill) = true
says_fault (NotBorn id) = true
says_fault _ = false

abbrev pub is_fault : TimelineMark → Bool
is_fault mark = says_fault mark.what
