-- What a trace says about the state of a system: the table and the stage in force, the children, the open orders
-- (init(8)).
-- A trace is a list of happenings, NEWEST FIRST, so the first happening of a kind in the list is the most recent one.
use Rattle.std.specs.Prelude.{ℕ, Bool, true, false, not, ◌&&◌, ◌||◌, ◌==◌, if◌then◌else◌, max, min, List, [], ◌∷◌, ◌++◌}
use Rattle.std.specs.Prelude.{filter, Option, Some, None}
use Rattle.std.specs.List.{list_any}
use Rattle.trace_events.specs.Words.{CLOCK_LIMIT, Entry, Act, Stage, OrderKind, Look, same_id, same_ask, act_of}
use Rattle.trace_events.specs.declared.happenings.Happening.TheVariants.{NewTable, Enter, Asked, Birth, Death, Reaped}
use Rattle.trace_events.specs.declared.happenings.Happening.TheVariants.{Told, Clock}
use Rattle.trace_events.specs.Event.{Event, SystemAct, act_in}

-- the table in force: the table of the last NewTable, or empty before the first
abbrev pub table_of : List Event → List Entry
table_of [] = []
table_of (NewTable table ∷ past) = table
table_of (_ ∷ past) = table_of past

-- the stage in force: the stage of the last Enter, or none before the first
abbrev pub stage_of : List Event → Option Stage
stage_of [] = None
stage_of (Enter stage grace ∷ past) = Some stage
stage_of (_ ∷ past) = stage_of past

-- the grace period between SIGTERM and SIGKILL, in seconds: the one given by the last Enter, or 0 before the first
abbrev pub grace_of : List Event → ℕ
grace_of [] = 0
grace_of (Enter stage grace ∷ past) = grace
grace_of (_ ∷ past) = grace_of past

-- the time: the greatest clock reading so far, capped at the limit, so setting the clock back changes nothing; 0 before
-- the first reading
abbrev pub time_of : List Event → ℕ
time_of [] = 0
time_of (Clock reading ∷ past) = max (min reading CLOCK_LIMIT) (time_of past)
time_of (_ ∷ past) = time_of past

-- a child: the id for which it was born, its number, and the action that the table had for the id at its birth
pub record Child : Type 0 where
  pub id : List ℕ
  pub number : ℕ
  pub act : Option Act

-- the child was born for this id
abbrev pub is_child_of : List ℕ → Child → Bool
is_child_of id child = same_id id child.id

-- the child was born for this id and has this number
abbrev pub is_child : List ℕ → ℕ → Child → Bool
is_child id number child = same_id id child.id && number == child.number

-- the child has this number
abbrev pub has_number : ℕ → Child → Bool
has_number number child = number == child.number

-- one of the children was born for this id
abbrev pub has_child : List ℕ → List Child → Bool
has_child id children = list_any (is_child_of id) children

-- the child that a birth after this trace adds
abbrev pub newborn : List ℕ → ℕ → List Event → Child
newborn id number past = record { id = id; number = number; act = act_of id (table_of past) }

-- the unreaped children, youngest first: those that were born and have not been reaped
abbrev pub unreaped_children : List Event → List Child
unreaped_children [] = []
unreaped_children (Birth id number ∷ past) = newborn id number past ∷ unreaped_children past
unreaped_children (Reaped id number status ∷ past) =
    filter (λ child. not (is_child id number child)) (unreaped_children past)
unreaped_children (_ ∷ past) = unreaped_children past

-- the kept children: those that were born, until init learns that they were reaped. A birth adds its child at the
-- front. A Told replaces the children of its id with the unreaped children of this id, also at the front.
abbrev pub kept_children : List Event → List Child
kept_children [] = []
kept_children (Birth id number ∷ past) = newborn id number past ∷ kept_children past
kept_children (Told id ∷ past) =
    filter (is_child_of id) (unreaped_children past)
    ++ filter (λ child. not (is_child_of id child)) (kept_children past)
kept_children (_ ∷ past) = kept_children past

-- the known children: those whose birth init has learned of, until it learns that they were reaped. A Told replaces the
-- children of its id with the unreaped children of this id, at the front.
abbrev pub known_children : List Event → List Child
known_children [] = []
known_children (Told id ∷ past) =
    filter (is_child_of id) (unreaped_children past)
    ++ filter (λ child. not (is_child_of id child)) (known_children past)
known_children (_ ∷ past) = known_children past

-- a child with this number has died since the last birth of this id and number
abbrev pub is_dead : List ℕ → ℕ → List Event → Bool
is_dead id number [] = false
is_dead id number (Death n ∷ past) = number == n || is_dead id number past
is_dead id number (Birth i n ∷ past) = not (same_id id i && number == n) && is_dead id number past
is_dead id number (_ ∷ past) = is_dead id number past

-- an unreaped child with this number has not died
abbrev pub is_living : ℕ → List Event → Bool
is_living number past =
    list_any (λ child. has_number number child && not (is_dead child.id number past)) (unreaped_children past)

-- the open order of an id: the last order given for it, until init learns what the system did for the id
abbrev pub open_of : List ℕ → List Event → Option OrderKind
open_of id [] = None
open_of id (Asked i ask ∷ past) = if same_id id i then Some ask else open_of id past
open_of id (Told i ∷ past) = if same_id id i then None else open_of id past
open_of id (_ ∷ past) = open_of id past

-- the undone order of an id after an act of the system: none if the act is about the id, otherwise the order before it
abbrev pub undone_by : List ℕ → Option SystemAct → Option OrderKind → Option OrderKind
undone_by id None before = before
undone_by id (Some act) before = if same_id id act.id then None else before

-- the undone order of an id: its open order, unless the system has already acted on it
abbrev pub undone_of : List ℕ → List Event → Option OrderKind
undone_of id [] = None
undone_of id (Asked i ask ∷ past) = if same_id id i then Some ask else undone_of id past
undone_of id (Told i ∷ past) = if same_id id i then None else undone_of id past
undone_of id (happening ∷ past) = undone_by id (act_in happening) (undone_of id past)

-- after this act, init has yet to learn of an act about the id
abbrev pub untold_by : List ℕ → Option SystemAct → Bool → Bool
untold_by id None before = before
untold_by id (Some act) before = same_id id act.id || before

-- the system has acted on an order for the id, and init has not learned of it yet
abbrev pub is_untold : List ℕ → List Event → Bool
is_untold id [] = false
is_untold id (Told i ∷ past) = not (same_id id i) && is_untold id past
is_untold id (happening ∷ past) = untold_by id (act_in happening) (is_untold id past)

-- an open order, and the id that it is for
pub record Open : Type 0 where
  pub id : List ℕ
  pub ask : OrderKind

-- all open orders, newest first; each id has at most one
abbrev pub open_orders : List Event → List Open
open_orders [] = []
open_orders (Asked id ask ∷ past) =
    record { id = id; ask = ask } ∷ filter (λ order. not (same_id id order.id)) (open_orders past)
open_orders (Told id ∷ past) = filter (λ order. not (same_id id order.id)) (open_orders past)
open_orders (_ ∷ past) = open_orders past

-- a quiet point: no Start, Term or Kill is open; Looks may be open
abbrev pub is_quiet : List Event → Bool
is_quiet past = not (list_any (λ order. not (same_ask Look order.ask)) (open_orders past))

-- an idle point: no order is open
abbrev pub is_idle : List Event → Bool
is_idle past = not (list_any (λ order. true) (open_orders past))
