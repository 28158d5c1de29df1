-- Pending answers: what the system did about the order for an id, until init learns of it.
use Rattle.std.specs.Prelude.{ℕ, if◌then◌else◌, List, [], ◌∷◌, Option, Some, None}
use Rattle.trace_events.specs.Words.{Answer, same_id}
use Rattle.init_words.specs.declared.orders.Answer.TheVariants as answer
use Rattle.trace_events.specs.declared.happenings.Happening.TheVariants.{Told}
use Rattle.trace_events.specs.Event.{Event, SystemAct, act_in}
use Rattle.trace_events.specs.Past.{Child, newborn}

-- the pending answer for an id after an act of the system: the answer of the act if it is about the id, otherwise the
-- answer that was pending before
abbrev pub answered_by : List ℕ → Option SystemAct → Option Answer → Option Answer
answered_by id None before = before
answered_by id (Some act) before = if same_id id act.id then Some act.answer else before

-- the pending answer for an id: the last act of the system about the id, if init has not learned of it yet
abbrev pub answered_of : List ℕ → List Event → Option Answer
answered_of id [] = None
answered_of id (Told i ∷ past) = if same_id id i then None else answered_of id past
answered_of id (happening ∷ past) = answered_by id (act_in happening) (answered_of id past)

-- the child of the id that init knows of after this answer: a birth adds it, an end removes it, and any other answer
-- leaves it unchanged
abbrev pub child_after : List ℕ → List Event → Answer → Option Child → Option Child
child_after id past (answer.Born n) before = Some (newborn id n past)
child_after id past (answer.Ended status) before = None
child_after id past _ before = before
