-- What happens to each id if init reads another inittab in the state after a past (inittab(5), init(8), telinit(8)).
use Rattle.std.specs.Prelude.{ℕ, Bool, true, false, not, ◌&&◌, ◌||◌, if◌then◌else◌, List, ◌∷◌, ◌++◌, filter, map}
use Rattle.std.specs.Prelude.{Option, Some, None, is_none}
use Rattle.std.specs.Option.{option_map, option_map_or}
use Rattle.initview_lines.specs.CommonWords.{Act, Entry, Level, Stage, entry_of, act_of, NewTable, Enter, Got, Event}
use Rattle.initview_lines.specs.CommonWords.{table_of, stage_of, grace_of, Child, unreaped_children, starts_now}
use Rattle.initview_lines.specs.CommonWords.{is_asked, is_excluded, child_of, gone_ids, number_of, next_stage}
use Rattle.initctl_frame.specs.declared.requests.HeardRequest.TheVariants as got
use Rattle.init_words.specs.Actions.{is_limited, wanted_by}
use Rattle.initview_lines.specs.declared.changes.Change.{Change}
use Rattle.initview_lines.specs.declared.changes.Change.TheVariants.{Keep, NextStart, Stop, StopStart, Start, NotAgain}
use Rattle.initview_lines.specs.declared.changes.Change.TheVariants.{NotHere}
use Rattle.initview_lines.specs.declared.lines.Line.{Line}
use Rattle.initview_lines.specs.declared.lines.Line.TheVariants as line
use Rattle.initview_lines.specs.Changes.{is_gone, same_process}

-- the past after init receives a request for a level, if one is given
abbrev pub with_request : Option Level → List Event → List Event
with_request None past = past
with_request (Some level) past = Got (got.Level level (grace_of past)) ∷ past

-- the past after init enters this stage, if one is given
abbrev pub entered : Option (Stage × ℕ) → List Event → List Event
entered None past = past
entered (Some next) past = Enter next.0 next.1 ∷ past

-- the past after init enters the next stage, if there is one
abbrev pub gone_on : List Event → List Event
gone_on past = entered (next_stage past) past

-- the past after init reads an inittab, as for telinit q; if a level is given, init receives a request for it first
abbrev pub read_again : List Entry → Option Level → List Event → List Event
read_again table level past = NewTable table ∷ with_request level past

-- the past after init read an inittab, and entered the next stage on the way to a requested level
abbrev pub reloaded : List Entry → Option Level → List Event → List Event
reloaded table level past = gone_on (read_again table level past)

-- The definitions below are for a past in which init has just read the inittab, so no entry is called (`is_called`).

-- the entry starts in the stage in force, and its action asks for a start if the entry was not started yet
abbrev pub starts_itself : Entry → List Event → Bool
starts_itself e past = starts_now e past && wanted_by e.act true true false

-- the action asks for a start if the entry has no child
abbrev pub asks_anew : Entry → List Event → Bool
asks_anew e past = wanted_by e.act true (not (is_asked e.id past)) false

-- the change to an entry without a child
abbrev pub idle_entry : List Event → Entry → Change
idle_entry past e = if starts_itself e past then (if asks_anew e past then Start else NotAgain) else NotHere

-- the change to an id without a child
abbrev pub idle_change : List Event → List ℕ → Change
idle_change past id = option_map_or (idle_entry past) (entry_of id (table_of past)) NotHere

-- the change for a child that is stopped, given the change that its id would have without a child
abbrev pub stopped_change : Change → Change
stopped_change Start = StopStart
stopped_change _ = Stop

-- the change for a child that keeps running, given whether the process field is the same
abbrev pub kept_change : Bool → Change
kept_change same = if same then Keep else NextStart

-- the change for a child: if it is excluded (`is_excluded`) by the table and the stage in force, it is stopped;
-- otherwise it keeps running, and the change depends on whether the two inittabs have the same process field
abbrev pub child_change : List Entry → List Event → List ℕ → Child → Change
child_change old past id child =
    if is_excluded past child then stopped_change (idle_change past id)
    else kept_change (same_process (entry_of id old) (entry_of id (table_of past)))

-- the change to an id, which is the change for its unreaped child if it has one
abbrev pub change_now : List Entry → List Event → List ℕ → Change
change_now old past id = option_map_or (child_change old past id) (child_of id past) (idle_change past id)

-- the change to an entry without a child, computed from the state of a view: whether the entry starts in the stage, and
-- whether it is wanted
abbrev pub idle_by : Act → Bool → Bool → Change
idle_by action starts wanted =
    if starts && wanted_by action true true false then (if is_limited action || wanted then Start else NotAgain)
    else NotHere

-- the change to an id, computed from the state of a view: the number of its child, whether the child is excluded, the
-- change that the id would have without a child, and whether the process field is the same
abbrev pub change_by : Option ℕ → Bool → Change → Bool → Change
change_by None excluded idle same = idle
change_by (Some number) excluded idle same =
    if excluded then stopped_change idle else kept_change same

-- the line for an id: its action in the new inittab, its change, and the number of its child
abbrev pub line_now : List Entry → List Event → List ℕ → Line
line_now old past id =
    line.Change id (act_of id (table_of past)) (change_now old past id) (option_map number_of (child_of id past))

abbrev pub entry_now : List Entry → List Event → Entry → Line
entry_now old past e = line_now old past e.id

-- an inittab has no entry with the id
abbrev pub is_new : List Entry → List ℕ → Bool
is_new table id = is_none (entry_of id table)

-- the lines for the stage, for the entries of the new inittab in order, for the old entries that it lacks, and for the
-- children that have an entry in neither inittab
abbrev pub reload_in : List Entry → List Event → List Line
reload_in old past =
    line.Stage (stage_of past)
    ∷ (map (entry_now old past) (table_of past)
    ++ (map (entry_now old past) (filter (is_gone (table_of past)) old)
    ++ map (line_now old past) (filter (is_new old) (gone_ids (table_of past) (unreaped_children past)))))
