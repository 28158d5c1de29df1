-- The rows of a timeline: the ids that have one, the state of each id at the end, and the pieces in its row.
use Rattle.std.specs.Prelude.{ℕ, ◌-◌, ◌^◌, Bool, true, false, ◌&&◌, ◌||◌, nat_lt, min, not, if◌then◌else◌, unwrap_or}
use Rattle.std.specs.Prelude.{◌≡◌, List, [], ◌∷◌, ◌++◌, filter, map, length, Option, Some, None}
use Rattle.std.specs.List.{fold, list_any}
use Rattle.std.specs.Option.{option_map_or}
use Rattle.init_words.specs.Actions.{wanted_by}
use Rattle.init_words.specs.Entries.{starts_of, waited_of}
use Rattle.init_words.specs.Ids.{same_id}
use Rattle.init_words.specs.declared.children.Status.{Status}
use Rattle.init_words.specs.declared.entries.Entry.{Entry}
use Rattle.init_words.specs.declared.orders.SignalKind.TheVariants as sig
use Rattle.init_words.specs.declared.stages.Stage.{Stage}
use Rattle.respawn_limit.specs.declared.TheConstants.{HOLD}
use Rattle.trace_events.specs.Event.{Event}
use Rattle.trace_events.specs.Past.{stage_of, table_of, time_of}
use Rattle.trace_events.specs.Due.{is_announced}
use Rattle.trace_view.specs.Rows.{is_complete_now}
use Rattle.initview_timeline.specs.declared.lives.Life.{Life}
use Rattle.initview_timeline.specs.declared.marks.Shown.{Shown}
use Rattle.initview_timeline.specs.declared.marks.Shown.TheVariants.{Read, Entered, Born, NotBorn, Ended, Sent}
use Rattle.initview_timeline.specs.declared.marks.Shown.TheVariants.{Held}
use Rattle.initview_timeline.specs.declared.marks.TimelineMark.{TimelineMark}
use Rattle.initview_timeline.specs.declared.pieces.Drawn.TheVariants as drawn
use Rattle.initview_timeline.specs.declared.pieces.Piece.{Piece}
use Rattle.initview_timeline.specs.declared.rows.Common.{Common}
use Rattle.initview_timeline.specs.declared.rows.Row.{Row}
use Rattle.initview_timeline.specs.declared.rows.Seen.{Seen}
use Rattle.initview_timeline.specs.declared.rows.State.{State}
use Rattle.initview_timeline.specs.declared.rows.State.TheVariants as state
use Rattle.initview_timeline.specs.Frames.{plus}
use Rattle.initview_timeline.specs.Lives.{id_of, ids_from, is_for, lives_of, marks_for, with_id}
use Rattle.initview_timeline.specs.Marks.{marks_of, start_of}
use Rattle.initview_timeline.specs.Pieces.{Drawing, bars_of, begins, is_done, is_start, marks_bars, marks_signs}
use Rattle.initview_timeline.specs.Pieces.{next_begin}
use Rattle.initview_timeline.specs.Pieces.{piece, signs_of}

-- the input of a timeline: the table in force; the marks, oldest first; the stage in force, whether it is settled, and
-- whether no entry is owed in it; and the first and last reading of the clock
pub record Scene : Type 0 where
  pub entries : List Entry
  pub marks : List TimelineMark
  pub stage : Option Stage
  pub settled : Bool
  pub complete : Bool
  pub start : Option ℕ
  pub end : ℕ

-- the scene for the input that the program passes to the timeline
abbrev pub scene_of : Seen → Scene
scene_of s = record {
  entries = s.entries.now;
  marks = s.marks.now;
  stage = s.stage;
  settled = s.settled;
  complete = s.complete;
  start = s.start;
  end = s.end;
}

-- the scene for a past
abbrev pub drawn_of : List Event → Scene
drawn_of past = record {
  entries = table_of past;
  marks = marks_of past;
  stage = stage_of past;
  settled = is_announced past;
  complete = is_complete_now past;
  start = start_of past;
  end = time_of past;
}

-- init starts the entry in the stage without any request
abbrev pub starts_now : Entry → Option Stage → Bool
starts_now e None = false
starts_now e (Some stage) = starts_of e stage && wanted_by e.act true true false

-- one of the marks is about the id
abbrev pub had_marks : List ℕ → List TimelineMark → Bool
had_marks id marks = list_any (λ (mark : TimelineMark). is_for (Some id) mark.what) marks

-- the ids, followed by those of the table that init starts in the stage in force, or that have a mark, in order
abbrev pub table_ids : List (List ℕ) → Scene → List Entry → List (List ℕ)
table_ids found s [] = found
table_ids found s (e ∷ es) =
    table_ids (if starts_now e s.stage || had_marks e.id s.marks then with_id found (Some e.id) else found) s es

-- the ids that have a row: those of the table (`table_ids`), and then all other ids that have a mark
abbrev pub ids_of : Scene → List (List ℕ)
ids_of s = ids_from (table_ids [] s s.entries) s.marks

-- the state after the end of a child: a child that was being stopped has stopped, whatever its status
abbrev pub ended_from : State → Status → State
ended_from state.Stopping status = state.Stopped
ended_from _ status = state.Ended (Some status)

-- the state after SIGTERM: a running child is now stopping
abbrev pub asked_from : State → State
asked_from state.Runs = state.Stopping
asked_from s = s

-- the state of an id after a mark about it
abbrev pub state_after : State → Shown → State
state_after s (Born id number) = state.Runs
state_after s (NotBorn id) = state.Ended None
state_after s (Sent id sig.Term) = asked_from s
state_after s (Ended id number status) = ended_from s status
state_after s _ = s

-- the state of an id after all marks about it
abbrev pub state_from : List TimelineMark → State
state_from marks = fold (λ s (mark : TimelineMark). state_after s mark.what) state.Due marks

-- the state needs the attention of an operator
abbrev pub is_loud : State → Bool
is_loud state.Held = true
is_loud (state.Ended status) = not (is_done status)
is_loud _ = false

-- the mark is a hold of the id
abbrev pub is_hold : Option (List ℕ) → Shown → Bool
is_hold id (Held i) = is_for id (Held i)
is_hold id _ = false

-- the id is held at this time: a hold began less than five minutes before, and no stage, table or start has ended it
abbrev pub is_held : ℕ → Option (List ℕ) → List TimelineMark → Bool
is_held end id [] = false
is_held end id (mark ∷ later) =
    is_hold id mark.what && nat_lt end (min (plus mark.time HOLD) (next_begin (2 ^ 64 - 1) id later))
    || is_held end id later

-- the marks from this one on if it enters a stage; otherwise those found so far
abbrev pub from_stage : List TimelineMark → Shown → List TimelineMark → List TimelineMark
from_stage found (Entered stage) marks = marks
from_stage found _ marks = found

-- the marks from the last entered stage on
abbrev pub of_stage : List TimelineMark → List TimelineMark → List TimelineMark
of_stage found [] = found
of_stage found (mark ∷ marks) = of_stage (from_stage found mark.what (mark ∷ marks)) marks

-- init starts an entry with this id in the stage without any request
abbrev pub starts_there : List ℕ → Option Stage → List Entry → Bool
starts_there id stage entries = list_any (λ (e : Entry). same_id id e.id && starts_now e stage) entries

-- one of the marks is a start of the id, successful or failed
abbrev pub is_begun : List ℕ → List TimelineMark → Bool
is_begun id marks = list_any (λ (mark : TimelineMark). is_start (Some id) mark.what) marks

-- the id is due: some entry is owed in the stage in force, and the id starts in this stage but was not started in it
abbrev pub waits : Scene → List ℕ → Bool
waits s id = not s.complete && starts_there id s.stage s.entries && not (is_begun id (of_stage s.marks s.marks))

-- the id has a living child
abbrev pub is_up : State → Bool
is_up state.Runs = true
is_up state.Stopping = true
is_up _ = false

-- the state at the end: held if a hold is in force; due if the id is due (`waits`) and has no child; otherwise the
-- state after all marks about the id
abbrev pub state_by : Bool → Bool → State → State
state_by held due s = if held then state.Held else if due && not (is_up s) then state.Due else s

-- the state of an id at the end
abbrev pub state_of : Scene → List ℕ → List TimelineMark → State
state_of s id id_marks = state_by (is_held s.end (Some id) s.marks) (waits s id) (state_from id_marks)

-- the bar for an id that is due, from the time at which init entered the stage in force
abbrev pub due_from : ℕ → List TimelineMark → List Piece
due_from end [] = []
due_from end (mark ∷ marks) = piece drawn.Due mark.time end

-- the bar for an id, if its state at the end is due
abbrev pub due_bars : State → Scene → List Piece
due_bars state.Due s = due_from s.end (of_stage s.marks s.marks)
due_bars _ s = []

-- init waits for the children of the id to end
abbrev pub is_waited : List ℕ → List Entry → Bool
is_waited id entries = list_any (λ (e : Entry). same_id id e.id && waited_of e) entries

-- the row for an id: the bar that shows that the id is due at the bottom, then its lives and holds, and its faults on
-- top
abbrev pub row_by : Scene → List ℕ → State → List Life → Row
row_by s id end lives = record {
  id = id;
  state = end;
  pieces = record {
    bars = due_bars end s ++ (bars_of s.end (is_waited id s.entries) lives ++ marks_bars s.end (Some id) s.marks);
    signs = signs_of s.end lives ++ marks_signs s.end (Some id) s.marks;
  };
}

-- the row for an id in a scene
abbrev pub row_of : Scene → List ℕ → Row
row_of s id = row_by s id (state_of s id (marks_for (Some id) s.marks)) (lives_of (marks_for (Some id) s.marks))

-- the marks that affect an id: those about the id, and all others that end a hold of it
abbrev pub shown_to : List ℕ → List TimelineMark → List TimelineMark
shown_to id marks =
    filter (λ (mark : TimelineMark). is_for (Some id) mark.what || begins (Some id) mark.what) marks

abbrev pub among : List ℕ → List (List ℕ) → Bool
among id ids = list_any (same_id id) ids

-- the event affects all ids or one of the ids in the list
abbrev pub is_near : List (List ℕ) → Shown → Bool
is_near ids (Entered stage) = true
is_near ids Read = true
is_near ids what = option_map_or (λ id. among id ids) (id_of what) false

-- the marks that affect one of the ids in the list
abbrev pub near_marks : List (List ℕ) → List TimelineMark → List TimelineMark
near_marks ids marks = filter (λ (mark : TimelineMark). is_near ids mark.what) marks

-- for each id in the list, the marks include all marks of the scene that affect it
abbrev pub AreShown : List (List ℕ) → List TimelineMark → Scene → Type 0
AreShown ids marks s = (id : List ℕ) → among id ids ≡ true → shown_to id marks ≡ shown_to id s.marks

-- the data shared by all rows is right for the scene
pub record IsCommon (common : Common) (s : Scene) : Type 0 where
  pub waited : (id : List ℕ) → among id common.waited.keys ≡ is_waited id s.entries
  pub starting : (id : List ℕ) → among id common.starting.keys ≡ starts_there id s.stage s.entries
  pub begun : (id : List ℕ) → among id common.begun.keys ≡ is_begun id (of_stage s.marks s.marks)
  pub stage_marks : common.stage_marks.now ≡ of_stage s.marks s.marks

-- the rows for all ids
abbrev pub rows_of : Scene → List Row
rows_of s = map (row_of s) (ids_of s)

-- the pieces in the row for the stages
abbrev pub stage_pieces : Scene → Drawing
stage_pieces s = record { bars = marks_bars s.end None s.marks; signs = marks_signs s.end None s.marks }

-- the row has a fault mark, or its state at the end needs attention
abbrev pub is_ill : Row → Bool
is_ill r = nat_lt 0 (length r.pieces.signs) || is_loud r.state

-- a timeline from the first reading of the clock to the last: the stages as bars and signs, one row per id, and the
-- stage in force at the end
pub record TimelineParts : Type 0 where
  pub start : ℕ
  pub end : ℕ
  pub stage : Option Stage
  pub settled : Bool
  pub stages : Drawing
  pub rows : List Row

-- the timeline of a scene; without any reading of the clock, it begins at its end
abbrev pub timeline_of : Scene → TimelineParts
timeline_of s = record {
  start = unwrap_or s.start s.end;
  end = s.end;
  stage = s.stage;
  settled = s.settled;
  stages = stage_pieces s;
  rows = rows_of s;
}
