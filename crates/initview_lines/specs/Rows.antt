-- The states of init and its entries. Times and durations are in seconds.
use Rattle.std.specs.Prelude.{ℕ, ◌-◌, List, ◌∷◌, ◌++◌, map, Option, Some, None}
use Rattle.std.specs.Option.{option_map}
use Rattle.respawn_limit.specs.declared.TheConstants.{HOLD}
use Rattle.initview_lines.specs.CommonWords.{Entry, Event, table_of, stage_of, grace_of, time_of, unreaped_children}
use Rattle.initview_lines.specs.CommonWords.{Ending, Row, Why, row_of, gone_ids, is_complete_now, asked_level}
use Rattle.initview_lines.specs.CommonWords.{first_wish, is_announced}
use Rattle.trace_view.specs.declared.rows.Births.{Births}
use Rattle.trace_view.specs.declared.whys.Why.TheVariants as why
use Rattle.initview_lines.specs.declared.lines.Head.{Head}
use Rattle.initview_lines.specs.declared.lines.IdRow.{IdRow}
use Rattle.initview_lines.specs.declared.lines.Line.{Line}
use Rattle.initview_lines.specs.declared.lines.Line.TheVariants as line
use Rattle.initview_lines.specs.declared.lines.RowFormat.{RowFormat}
use Rattle.initview_lines.specs.declared.lines.Stopping.{Stopping}

-- the state of init
abbrev pub head_of : List Event → Head
head_of past = record {
  stage = stage_of past;
  settled = is_announced past;
  complete = is_complete_now past;
  time = time_of past;
  grace = grace_of past;
  goal = asked_level past;
  wish = first_wish past;
}

-- the time since the latest birth
abbrev pub runs_at : ℕ → Option Births → Option ℕ
runs_at now births = option_map (λ (b : Births). now - b.latest) births

-- the time since init learned that SIGTERM was sent, and the time until SIGKILL is due
abbrev pub stopping_at : ℕ → ℕ → Option ℕ → Option Stopping
stopping_at now grace told = option_map (λ t. record { term = now - t; kill = grace - (now - t) }) told

-- the time until a hold ends
abbrev pub held_at : ℕ → Why → Option ℕ
held_at now (why.Held since) = Some (HOLD - (now - since))
held_at now _ = None

-- the time since the last end
abbrev pub ended_at : ℕ → Option Ending → Option ℕ
ended_at now last = option_map (λ (e : Ending). now - e.time) last

-- the state of an id, computed from the state of a view
abbrev pub row_by : ℕ → ℕ → List ℕ → Row → IdRow
row_by now grace id row = record {
  id = id;
  row = row;
  runs = runs_at now row.births;
  stopping = stopping_at now grace row.term;
  held = held_at now row.why;
  ended = ended_at now row.last;
}

-- the state of an id after a past
abbrev pub id_row : List Event → List ℕ → IdRow
id_row past id = row_by (time_of past) (grace_of past) id (row_of id past)

abbrev pub row_at : RowFormat → List Event → List ℕ → Line
row_at shape past id = line.Row shape (id_row past id)

abbrev pub entry_row : RowFormat → List Event → Entry → Line
entry_row shape past entry = row_at shape past entry.id

-- the states of init, of the entries in table order, and of the ids that have a child but no entry any more, youngest
-- child first
abbrev pub status_in : RowFormat → List Event → List Line
status_in shape past =
    line.Head shape (head_of past)
    ∷ (map (entry_row shape past) (table_of past)
    ++ map (row_at shape past) (gone_ids (table_of past) (unreaped_children past)))
