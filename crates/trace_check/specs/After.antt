-- How a happening changes each part of the checker's state. Each definition gives the value after the happening,
-- given the value before it.
use Rattle.std.specs.Prelude.{◌≡◌, is_some, ℕ, Bool, false, not, ◌&&◌, ◌||◌, ◌-◌, ◌==◌, if◌then◌else◌, max, min, List}
use Rattle.std.specs.Prelude.{[], ◌∷◌, take, Option, Some, None}
use Rattle.std.specs.Option.{option_map_or}
use Rattle.std.specs.List.{list_any}
use Rattle.trace_check.specs.Words.{CLOCK_LIMIT, STARTS, Entry, OnCall, Stage, OrderKind, Start, Term, same_id, names}
use Rattle.trace_check.specs.Words.{is_called_by, is_ondemand, stays_called, has_id, entry_of, act_of, NewTable, Enter}
use Rattle.trace_check.specs.Words.{Call, Power, Asked, Hold, Birth, Reaped, Hit, Told, Clock, Event, starts_in}
use Rattle.trace_check.specs.Words.{is_order, same_acts, may_live}
use Rattle.trace_check.specs.declared.children.UnreapedChild.{UnreapedChild}
use Rattle.trace_check.specs.State.{JudgeState, at, among, times_at}

-- the table in force after the happening
abbrev pub table_after : Event → List Entry → List Entry
table_after (NewTable next) table = next
table_after _ table = table

-- the stage in force after the happening
abbrev pub stage_after : Event → Option Stage → Option Stage
stage_after (Enter next grace) stage = Some next
stage_after _ stage = stage

-- the number of seconds between SIGTERM and SIGKILL after the happening
abbrev pub grace_after : Event → ℕ → ℕ
grace_after (Enter stage next) grace = next
grace_after _ grace = grace

-- the time after the happening
abbrev pub time_after : Event → ℕ → ℕ
time_after (Clock reading) time = max (min reading CLOCK_LIMIT) time
time_after _ time = time

-- the open order of an id after the happening
abbrev pub order_after : Event → List ℕ → Option OrderKind → Option OrderKind
order_after (Asked i ask) id before = if same_id id i then Some ask else before
order_after (Told i) id before = if same_id id i then None else before
order_after _ id before = before

-- the id has a kept child after the happening; `is_alive` says which ids had an unreaped child before it
abbrev pub kept_after : (List ℕ → Bool) → Event → List ℕ → Bool → Bool
kept_after is_alive (Birth i n) id before = same_id id i || before
kept_after is_alive (Told i) id before = if same_id id i then is_alive i else before
kept_after is_alive _ id before = before

-- an id has different actions in the two tables, or is missing from at least one of them
abbrev pub is_changed : List ℕ → List Entry → List Entry → Bool
is_changed id table before = not (same_acts (act_of id table) (act_of id before))

-- after the happening, a Start of the id was ordered since the last Enter and since the last table that added or
-- changed the id
abbrev pub asked_after : List Entry → Event → List ℕ → Bool → Bool
asked_after table (Enter stage grace) id before = false
asked_after table (NewTable next) id before =
    not (list_any (λ e. has_id id e && is_changed e.id next table) next) && before
asked_after table (Asked i Start) id before = same_id id i || before
asked_after table _ id before = before

-- the happening is a power event or a letter that names the entry
abbrev pub is_named : Event → Entry → Bool
is_named (Power kind) e = is_called_by kind e.act
is_named (Call letter) e = is_ondemand e.act && names (OnCall letter) e.levels.items
is_named _ e = false

-- the happening names an entry of the id that starts in the stage
abbrev pub is_named_at : List Entry → Option Stage → Event → List ℕ → Bool
is_named_at table stage happening id = list_any (λ e. has_id id e && (is_named happening e && starts_in e stage)) table

-- the id's entry stays called when it is started
abbrev pub stays_called_in : List Entry → List ℕ → Bool
stays_called_in table id = option_map_or stays_called (act_of id table) false

-- the id's entry is called after the happening
abbrev pub called_after : List Entry → Option Stage → Event → List ℕ → Bool → Bool
called_after table stage (Enter next grace) id before = false
called_after table stage (NewTable next) id before = false
called_after table stage (Power kind) id before = is_named_at table stage (Power kind) id || before
called_after table stage (Call letter) id before = is_named_at table stage (Call letter) id || before
called_after table stage (Asked i Start) id before = (stays_called_in table id || not (same_id id i)) && before
called_after table stage _ id before = before

-- after the happening, a TERM was sent for the id, and init has not learned of it; `open_order` is the open order of
-- each id before the happening
abbrev pub sent_after : (List ℕ → Option OrderKind) → Event → List ℕ → Bool → Bool
sent_after open_order (Birth i n) id before = not (same_id id i) && before
sent_after open_order (Told i) id before = not (same_id id i) && before
sent_after open_order (Hit i) id before = same_id id i && is_order Term (open_order i) || before
sent_after open_order _ id before = before

-- the times of the last ten Starts of an id after the happening, newest first
abbrev pub starts_after : ℕ → Event → List ℕ → List ℕ → List ℕ
starts_after time (NewTable next) id before = []
starts_after time (Enter next grace) id before = []
starts_after time (Asked i Start) id before = if same_id id i then time ∷ take (STARTS - 1) before else before
starts_after time _ id before = before

-- the time of the last Hold of an id after the happening
abbrev pub hold_after : ℕ → Event → List ℕ → Option ℕ → Option ℕ
hold_after time (NewTable next) id before = None
hold_after time (Enter next grace) id before = None
hold_after time (Hold i) id before = if same_id id i then Some time else before
hold_after time _ id before = before

-- the child exists and has this number
abbrev pub is_numbered : ℕ → Option UnreapedChild → Bool
is_numbered number child = option_map_or (λ living. number == living.number) child false

-- the unreaped child of an id after the happening; `child` is the unreaped child of each id before it
abbrev pub child_after : List Entry → (List ℕ → Option UnreapedChild) → Event → List ℕ → Option UnreapedChild
child_after table child (Birth i n) id =
    if same_id id i then Some (record { number = n; act = act_of i table }) else child id
child_after table child (Reaped i n status) id =
    if same_id id i && is_numbered n (child i) then None else child id
child_after table child _ id = child id

-- the unreaped child of the id may live in the stage with this table
abbrev pub child_may_live : List Entry → Option Stage → (List ℕ → Option UnreapedChild) → List ℕ → Bool
child_may_live table stage child id =
    option_map_or (λ living. may_live (entry_of id table) living.act stage) (child id) false

-- the unreaped child of the id is excluded
abbrev pub is_child_excluded : List Entry → Option Stage → (List ℕ → Option UnreapedChild) → List ℕ → Bool
is_child_excluded table stage child id =
    option_map_or (λ living. not (may_live (entry_of id table) living.act stage)) (child id) false

-- the earlier of two times, of which the second may be missing
abbrev pub earliest : ℕ → Option ℕ → ℕ
earliest time None = time
earliest time (Some other) = min time other

-- after the happening, the time at which init learned of the first TERM in the spell of the id's child; `child`,
-- `is_sent` and `term` are the values before the happening
abbrev pub term_after : List Entry → Option Stage → ℕ → (List ℕ → Option UnreapedChild) → (List ℕ → Bool)
    → (List ℕ → Option ℕ) → Event → List ℕ → Option ℕ
term_after table stage time child is_sent term (Birth i n) id = if same_id id i then None else term id
term_after table stage time child is_sent term (Reaped i n status) id =
    if same_id id i && is_numbered n (child i) then None else term id
term_after table stage time child is_sent term (Told i) id =
    if same_id id i && (is_sent i && is_child_excluded table stage child i) then Some (earliest time (term i))
    else term id
term_after table stage time child is_sent term (NewTable next) id =
    if child_may_live next stage child id then None else term id
term_after table stage time child is_sent term (Enter next grace) id =
    if child_may_live table (Some next) child id then None else term id
term_after table stage time child is_sent term _ id = term id

-- each part of the new state follows from the old state, the happening, and the table in force before it
pub record StateAfterHappening (table : List Entry) (old new : JudgeState) (happening : Event) : Type 0 where
  pub stage : new.stage ≡ stage_after happening old.stage
  pub grace : new.grace ≡ grace_after happening old.grace
  pub time : new.time ≡ time_after happening old.time
  pub orders : (id : List ℕ) → at id new.orders ≡ order_after happening id (at id old.orders)
  pub kept : (id : List ℕ)
      → among id new.kept ≡ kept_after (λ i. is_some (at i old.children)) happening id (among id old.kept)
  pub asked : (id : List ℕ) → among id new.asked ≡ asked_after table happening id (among id old.asked)
  pub called : (id : List ℕ) → among id new.called ≡ called_after table old.stage happening id (among id old.called)
  pub sent : (id : List ℕ) → among id new.sent ≡ sent_after (λ i. at i old.orders) happening id (among id old.sent)
  pub starts : (id : List ℕ) → times_at id new.starts ≡ starts_after old.time happening id (times_at id old.starts)
  pub holds : (id : List ℕ) → at id new.holds ≡ hold_after old.time happening id (at id old.holds)
  pub children : (id : List ℕ) → at id new.children ≡ child_after table (λ i. at i old.children) happening id
  pub termed : (id : List ℕ)
      → at id new.termed ≡ term_after table old.stage old.time (λ i. at i old.children) (λ i. among i old.sent)
      (λ i. at i old.termed) happening id
