-- The pieces of a row in a timeline: bars, and signs on top of them. Each life has exactly one bar of the kind Lives or
-- Waited, in order.
use Rattle.std.specs.Prelude.{ℕ, min, Bool, true, false, ◌&&◌, ◌==◌, not, if◌then◌else◌, List, [], ◌∷◌, ◌++◌, Option}
use Rattle.std.specs.Prelude.{Some, None}
use Rattle.std.specs.List.{flat_map}
use Rattle.std.specs.Option.{is_none, is_some}
use Rattle.respawn_limit.specs.declared.TheConstants.{HOLD}
use Rattle.init_words.specs.declared.children.Status.{Status}
use Rattle.init_words.specs.declared.orders.SignalKind.TheVariants as sig
use Rattle.init_words.specs.declared.children.Status.TheVariants.{Exit}
use Rattle.init_words.specs.declared.stages.Stage.TheVariants.{Run}
use Rattle.trace_view.specs.declared.rows.Ending.{Ending}
use Rattle.initview_timeline.specs.declared.marks.Shown.{Shown}
use Rattle.initview_timeline.specs.declared.marks.Shown.TheVariants.{Read, Entered, Settled, Born, NotBorn, Sent, Held}
use Rattle.initview_timeline.specs.declared.marks.TimelineMark.{TimelineMark}
use Rattle.initview_timeline.specs.declared.lives.Life.{Life}
use Rattle.initview_timeline.specs.declared.pieces.Drawn.{Drawn}
use Rattle.initview_timeline.specs.declared.pieces.Drawn.TheVariants as drawn
use Rattle.initview_timeline.specs.declared.pieces.Piece.{Piece}
use Rattle.initview_timeline.specs.Frames.{plus}
use Rattle.initview_timeline.specs.Lives.{is_for}

-- the bars and the signs of a row
pub record Drawing : Type 0 where
  pub bars : List Piece
  pub signs : List Piece

-- a piece from one time to another
abbrev pub piece : Drawn → ℕ → ℕ → List Piece
piece what from to = record { what = what; from = from; to = to } ∷ []

-- the end of a life, or the last time if it has not ended
abbrev pub or_last : ℕ → Option Ending → ℕ
or_last last None = last
or_last last (Some ending) = ending.time

-- the exit status is 0
abbrev pub is_done : Option Status → Bool
is_done (Some (Exit code)) = code == 0
is_done _ = false

-- a child ended without being sent SIGTERM, and not with exit status 0
abbrev pub ended_ill : Option ℕ → Option Ending → Bool
ended_ill term None = false
ended_ill term (Some ending) = is_none term && not (is_done ending.status)

-- a life failed: the child ended without being sent SIGTERM, and not with exit status 0
abbrev pub has_failed : Life → Bool
has_failed l = ended_ill l.term l.end

-- the kind of bar for a life, which depends on whether init waits for the child to end
abbrev pub lived : Bool → Life → Drawn
lived waited l = if waited then drawn.Waited l else drawn.Lives l

-- the bar from SIGTERM to the end of a life, or the last time
abbrev pub stop_bar : ℕ → Life → Option ℕ → List Piece
stop_bar last l None = []
stop_bar last l (Some term) = piece (drawn.Stops l) term (or_last last l.end)

-- the bars of a life, the one from SIGTERM on top of the other
abbrev pub life_bars : ℕ → Bool → Life → List Piece
life_bars last waited l = piece (lived waited l) l.from (or_last last l.end) ++ stop_bar last l l.term

-- the bars of several lives
abbrev pub bars_of : ℕ → Bool → List Life → List Piece
bars_of last waited lives = flat_map (life_bars last waited) lives

-- the sign for a failed life, at its end
abbrev pub life_signs : ℕ → Life → List Piece
life_signs last l = if has_failed l then piece (drawn.Failed l) (or_last last l.end) (or_last last l.end) else []

-- the signs of several lives
abbrev pub signs_of : ℕ → List Life → List Piece
signs_of last lives = flat_map (life_signs last) lives

-- a start of an id, successful or failed
abbrev pub is_start : Option (List ℕ) → Shown → Bool
is_start id (Born i number) = is_for id (Born i number)
is_start id (NotBorn i) = is_for id (NotBorn i)
is_start id _ = false

-- the event begins something new in the row: a stage; or, in the row for an id, also a table or a start of the id,
-- which end a hold of the id
abbrev pub begins : Option (List ℕ) → Shown → Bool
begins id (Entered stage) = true
begins id Read = is_some id
begins id what = is_start id what

-- the time of the first mark for which `begins` holds, or the last time
abbrev pub next_begin : ℕ → Option (List ℕ) → List TimelineMark → ℕ
next_begin last id [] = last
next_begin last id (mark ∷ later) = if begins id mark.what then mark.time else next_begin last id later

-- the bar for a mark: a stage and a settled stage last until the next stage begins; a hold lasts for five minutes, or
-- until a stage, a table or a start ends it
abbrev pub mark_bars : ℕ → ℕ → Shown → List Piece
mark_bars next time (Entered stage) = piece (drawn.Stage stage) time next
mark_bars next time (Settled level) = piece (drawn.Settled (Run level)) time next
mark_bars next time (Held id) = piece drawn.Held time (min (plus time HOLD) next)
mark_bars next time _ = []

-- the bars for the marks of a row
abbrev pub marks_bars : ℕ → Option (List ℕ) → List TimelineMark → List Piece
marks_bars last id [] = []
marks_bars last id (mark ∷ later) =
    (if is_for id mark.what then mark_bars (next_begin last id later) mark.time mark.what else [])
    ++ marks_bars last id later

-- the signs for the name of a stage, for a SIGKILL that was sent, and for a start that failed
abbrev pub mark_signs : ℕ → ℕ → Shown → List Piece
mark_signs next time (Entered stage) = piece (drawn.Name stage next) time time
mark_signs next time (Sent id sig.Kill) = piece drawn.Killed time time
mark_signs next time (NotBorn id) = piece drawn.Unborn time time
mark_signs next time _ = []

-- the signs for the marks of a row
abbrev pub marks_signs : ℕ → Option (List ℕ) → List TimelineMark → List Piece
marks_signs last id [] = []
marks_signs last id (mark ∷ later) =
    (if is_for id mark.what then mark_signs (next_begin last id later) mark.time mark.what else [])
    ++ marks_signs last id later
