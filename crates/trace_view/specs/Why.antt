-- The first reason why the start of an entry is not due; see init(8).
use Rattle.std.specs.Prelude.{ℕ, Bool, true, false, not, ◌&&◌, ◌||◌, if◌then◌else◌, List, find, Option, Some, None}
use Rattle.std.specs.Option.{option_map, option_map_or}
use Rattle.init_words.specs.declared.actions.Act.{Act}
use Rattle.init_words.specs.declared.actions.Act.TheVariants as act
use Rattle.trace_view.specs.Words.{Entry, Stage, Sysinit, Boot, Run, wanted_by, ignores_levels, is_limited, entry_of}
use Rattle.trace_view.specs.Words.{Event, table_of, stage_of, Child, is_child_of, kept_children, open_of, starts_now}
use Rattle.trace_view.specs.Words.{is_wanted, is_owed, entries_before, is_excluded, was_booted, newest}
use Rattle.init_words.specs.declared.orders.OrderKind.{OrderKind}
use Rattle.trace_events.specs.Timing.{hold_times, is_held, is_full}
use Rattle.trace_view.specs.declared.standings.Excluded.{Excluded}
use Rattle.trace_view.specs.declared.standings.Standing.{Standing}
use Rattle.trace_view.specs.declared.wishes.Wish.{Wish}
use Rattle.trace_view.specs.declared.whys.Why.{Why}
use Rattle.trace_view.specs.declared.whys.Why.TheVariants.{NoEntry, NeverStarts, NoStage, RanBefore, StageOver}
use Rattle.trace_view.specs.declared.whys.Why.TheVariants.{StageOwed, OtherStage, ChildKept, OrderOpen, NotCalled}
use Rattle.trace_view.specs.declared.whys.Why.TheVariants.{WasStarted, EarlierOwed, ExcludedKept, WishStands, Held}
use Rattle.trace_view.specs.declared.whys.Why.TheVariants.{WindowFull, Nothing}
use Rattle.trace_view.specs.Births.{ran_early}
use Rattle.trace_view.specs.Calls.{was_named}
use Rattle.trace_view.specs.Wishes.{first_wish}

-- the first owed entry before the id's entry
abbrev pub first_owed : List ℕ → List Event → Option Entry
first_owed id past = find (λ e. is_owed e past) (entries_before id (table_of past))

-- the first owed entry in the table
abbrev pub first_awaited : List Event → Option Entry
first_awaited past = find (λ e. is_owed e past) (table_of past)

abbrev pub entry_id : Entry → List ℕ
entry_id e = e.id

-- the id's kept child is excluded
abbrev pub stops_now : List ℕ → List Event → Bool
stops_now id past = option_map_or (is_excluded past) (find (is_child_of id) (kept_children past)) false

abbrev pub number_of : Child → ℕ
number_of child = child.number

abbrev pub excluded_as : Child → Excluded
excluded_as child = record { id = child.id; number = child.number }

-- everything about an entry that can prevent its start
abbrev pub standing_of : Entry → List Event → Standing
standing_of e past = record {
  starts = starts_now e past;
  child = option_map number_of (find (is_child_of e.id) (kept_children past));
  stops = stops_now e.id past;
  booted = was_booted past;
  ran = ran_early e past;
  awaited = option_map entry_id (first_awaited past);
  order = open_of e.id past;
  wanted = is_wanted e past;
  named = was_named e past;
  owed = option_map entry_id (first_owed e.id past);
  excluded = option_map excluded_as (find (is_excluded past) (kept_children past));
  wish = first_wish past;
  hold = if is_limited e.act && is_held e.id past then newest (hold_times e.id past) else None;
  full = is_limited e.act && is_full e.id past;
}

-- the child is the reason if there is one; otherwise the reason is `later`
abbrev pub by_child : Option ℕ → Why → Why
by_child (Some number) later = ChildKept number
by_child None later = later

-- the action belongs to a stage that is over: Sysinit, or in a level, Boot if init has entered it
abbrev pub is_past : Act → Bool → Stage → Bool
is_past action booted Sysinit = false
is_past act.Sysinit booted _ = true
is_past action booted Boot = false
is_past action booted (Run level) = booted && ignores_levels action

-- the reason why an entry whose stage is still to come is not started: before the first level, init may be waiting for
-- another entry
abbrev pub by_awaited : Stage → Option (List ℕ) → Why
by_awaited (Run level) awaited = OtherStage
by_awaited _ (Some id) = StageOwed id
by_awaited _ None = OtherStage

-- the reason why an entry that belongs to another stage is not started: that stage is over, and the entry did or did
-- not run in it; or that stage is still to come
abbrev pub elsewhere : Act → Stage → Standing → Why
elsewhere action stage s =
    if is_past action s.booted stage then (if s.ran then RanBefore else StageOver) else by_awaited stage s.awaited

-- the reason why an entry that does not start in the stage in force is not started: no stage has begun, its action is
-- never started, it has a child that may live, or it belongs to another stage
abbrev pub not_here : Act → Option Stage → Standing → Why
not_here action None s = NoStage
not_here action (Some stage) s =
    if not (wanted_by action true true true) then NeverStarts
    else if s.stops then elsewhere action stage s
    else by_child s.child (elsewhere action stage s)

-- the reason why an entry is not started that starts in the stage, is not wanted, and has neither a child nor an open
-- order: it was started already, or it needs a call and no call has named it
abbrev pub not_wanted : Act → Bool → Why
not_wanted action named = if wanted_by action true true false || named then WasStarted else NotCalled

-- an open order is the reason if there is one; otherwise the reason is `later`
abbrev pub by_order : Option OrderKind → Why → Why
by_order (Some ask) later = OrderOpen ask
by_order None later = later

abbrev pub by_owed : Option (List ℕ) → Why → Why
by_owed (Some id) later = EarlierOwed id
by_owed None later = later

abbrev pub by_excluded : Option Excluded → Why → Why
by_excluded (Some child) later = ExcludedKept child
by_excluded None later = later

abbrev pub by_wish : Option Wish → Why → Why
by_wish (Some wish) later = WishStands wish
by_wish None later = later

abbrev pub by_hold : Option ℕ → Why → Why
by_hold (Some since) later = Held since
by_hold None later = later

-- the first reason that applies to an entry with this action, in this stage and in this state
abbrev pub why_by : Act → Option Stage → Standing → Why
why_by action stage s =
    if not s.starts then not_here action stage s
    else by_child s.child
    (by_order s.order
    (if not s.wanted then not_wanted action s.named
    else by_owed s.owed
    (by_excluded s.excluded
    (by_wish s.wish
    (by_hold s.hold (if s.full then WindowFull else Nothing))))))

-- the reason why an entry of the table is not started
abbrev pub why_entry : Entry → List Event → Why
why_entry e past = why_by e.act (stage_of past) (standing_of e past)

-- the reason why no start of the id is due; `Nothing` if one is due
abbrev pub why : List ℕ → List Event → Why
why id past = option_map_or (λ e. why_entry e past) (entry_of id (table_of past)) NoEntry

abbrev pub is_nothing : Why → Bool
is_nothing Nothing = true
is_nothing _ = false
