-- The report about an id: its action, the reason why it is not started next, its child, and how and when it last ended.
use Rattle.std.specs.Prelude.{ℕ, Bool, if◌then◌else◌, false, List, [], ◌∷◌, map, filter, Option, Some, None, is_none}
use Rattle.std.specs.Option.{option_map, option_map_or}
use Rattle.trace_view.specs.Words.{Entry, Stage, Run, same_id, entry_of, act_of, NoBirth, Reaped, Event, table_of}
use Rattle.trace_view.specs.Words.{stage_of, time_of, Child, open_of, unreaped_children, is_excluded, is_settled}
use Rattle.trace_view.specs.Words.{child_of, term_of}
use Rattle.init_words.specs.declared.children.Status.{Status}
use Rattle.trace_view.specs.Births.{births_of}
use Rattle.trace_view.specs.declared.rows.Ending.{Ending}
use Rattle.trace_view.specs.declared.rows.Row.{Row}
use Rattle.trace_view.specs.Why.{number_of, why}

-- an end at this time, with this status, or with no status if it was a failed start
abbrev pub ended_at : ℕ → Option Status → Option Ending
ended_at time status = Some (record { status = status; time = time })

-- the status and time of the last end of the id; none if no child of it has ended and no start failed
abbrev pub ended_of : List ℕ → List Event → Option Ending
ended_of id [] = None
ended_of id (NoBirth i ∷ past) = if same_id id i then ended_at (time_of past) None else ended_of id past
ended_of id (Reaped i number status ∷ past) =
    if same_id id i then ended_at (time_of past) (Some status) else ended_of id past
ended_of id (_ ∷ past) = ended_of id past

-- the stage is a level that could be announced as settled now, judged by the unreaped children
abbrev pub complete_in : Option Stage → List Event → Bool
complete_in (Some (Run level)) past = is_settled level (unreaped_children past) past
complete_in _ past = false

-- the stage in force is a level that could be announced as settled now
abbrev pub is_complete_now : List Event → Bool
is_complete_now past = complete_in (stage_of past) past

-- the report about the id
abbrev pub row_of : List ℕ → List Event → Row
row_of id past = record {
  act = act_of id (table_of past);
  why = why id past;
  child = option_map number_of (child_of id past);
  excluded = option_map_or (is_excluded past) (child_of id past) false;
  births = births_of id past;
  order = open_of id past;
  term = term_of past (child_of id past);
  last = ended_of id past;
}

-- the table has no entry for the child's id
abbrev pub is_gone : List Entry → Child → Bool
is_gone table child = is_none (entry_of child.id table)

abbrev pub id_of : Child → List ℕ
id_of child = child.id

-- the ids of those children for whose ids the table has no entry
abbrev pub gone_ids : List Entry → List Child → List (List ℕ)
gone_ids table children = map id_of (filter (is_gone table) children)
