-- The reason why an id is not started next, and advice about it.
use Rattle.std.specs.Prelude.{ℕ, if◌then◌else◌, List, [], ◌∷◌, ◌++◌, Option, None}
use Rattle.init_words.specs.Ids.{same_id}
use Rattle.initview_lines.specs.CommonWords.{Event, stage_of, Why, line_at_fault, row_of}
use Rattle.trace_view.specs.declared.whys.Why.TheVariants as why
use Rattle.trace_view.specs.Why.{why as why_of}
use Rattle.initview_lines.specs.declared.lines.Line.{Line}
use Rattle.initview_lines.specs.declared.lines.Line.TheVariants as line
use Rattle.initview_lines.specs.declared.reasons.Chain.{Chain}
use Rattle.initview_lines.specs.declared.reasons.Link.{Link}
use Rattle.initview_lines.specs.Rows.{id_row}

-- the root cause: the id of the entry that init waits for, if there is one; otherwise the id itself
abbrev pub root_of : List ℕ → Why → List ℕ
root_of id (why.StageOwed awaited) = awaited
root_of id (why.EarlierOwed earlier) = earlier
root_of id _ = id

-- the id whose child must end before init can start this one, if that is the reason; otherwise the id itself
abbrev pub stopped_of : List ℕ → Why → List ℕ
stopped_of id (why.ExcludedKept child) = child.id
stopped_of id _ = id

-- an id, with the trace line that explains why it is not started next
abbrev pub link_of : List ℕ → List Event → Link
link_of id past = record { id = id; line = line_at_fault id (why_of id past) past }

-- an id and its root cause
abbrev pub chain_of : List ℕ → List Event → Chain
chain_of id past = record { asked = link_of id past; root = link_of (root_of id (why_of id past)) past }

-- the line that explains the reason; none if there is no longer a reason, which can happen as time passes
abbrev pub fault_line : Why → Option ℕ → Option ℕ
fault_line why.Nothing line = None
fault_line _ line = line

-- the reason why an id is not started next, the state of the child that must end first, and the line that explains the
-- reason, in the trace with this name
abbrev pub reason_line : List ℕ → Link → List Event → Line
reason_line name link past = line.Why (record {
  at = id_row past link.id;
  stage = stage_of past;
  stopped = id_row past (stopped_of link.id (why_of link.id past));
  trace = name;
  line = fault_line (why_of link.id past) link.line;
})

-- the advice, which depends on the stage, the action and the reason
abbrev pub advice_line : List ℕ → List Event → Line
advice_line id past = line.Advice (stage_of past) (row_of id past).act (why_of id past)

-- the reason why the id is not started next, if its root cause is another id
abbrev pub asked_lines : List ℕ → Chain → List Event → List Line
asked_lines name chain past =
    if same_id chain.asked.id chain.root.id then [] else reason_line name chain.asked past ∷ []

-- the reason why the id is not started next, if its root cause is another id; the reason why its root cause is not
-- started next; and advice about the root cause
abbrev pub why_in : List ℕ → Chain → List Event → List Line
why_in name chain past =
    asked_lines name chain past ++ (reason_line name chain.root past ∷ advice_line chain.root.id past ∷ [])
