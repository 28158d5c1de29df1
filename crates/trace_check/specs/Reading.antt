-- Agreement of the checker's state with the past: one equation for each part of the state.
use Rattle.std.specs.Prelude.{◌≡◌, ℕ, Bool, false, List, [], ◌∷◌, take, if◌then◌else◌, find, Option, Some, None}
use Rattle.std.specs.List.{list_any}
use Rattle.std.specs.Option.{option_map, option_map_or}
use Rattle.trace_check.specs.Words.{STARTS, Term, entry_of, Event, table_of, stage_of, grace_of, time_of, Child}
use Rattle.trace_check.specs.Words.{is_child_of}
use Rattle.trace_check.specs.Words.{has_child, open_of, unreaped_children, kept_children, is_order, is_asked, is_called}
use Rattle.trace_check.specs.Words.{start_times, hold_times}
use Rattle.trace_events.specs.Spells.{Signal, untold_hits, spell_hits}
use Rattle.trace_check.specs.declared.children.UnreapedChild.{UnreapedChild}
use Rattle.trace_check.specs.State.{JudgeState, at, among, times_at}
use Rattle.trace_check.specs.After.{earliest}

-- the id has an entry, and the entry is called
abbrev pub calls_of : List ℕ → List Event → Bool
calls_of id past = option_map_or (λ e. is_called e past) (entry_of id (table_of past)) false

-- a TERM was sent for the id, and init has not learned of it
abbrev pub has_sent : List ℕ → List Event → Bool
has_sent id past = list_any (is_order Term) (untold_hits id past)

-- the youngest unreaped child of an id
abbrev pub child_of : List ℕ → List Event → Option Child
child_of id past = find (is_child_of id) (unreaped_children past)

-- the first element of a list
abbrev pub newest : List ℕ → Option ℕ
newest [] = None
newest (time ∷ times) = Some time

-- the child in the form that the checker's state uses
abbrev pub living_of : Child → UnreapedChild
living_of child = record { number = child.number; act = child.act }

-- the earliest time of a TERM among the signals
abbrev pub least_term : List Signal → Option ℕ
least_term [] = None
least_term (signal ∷ signals) =
    if is_order Term signal.order then Some (earliest signal.time (least_term signals)) else least_term signals

-- the earliest time at which init learned of a TERM in the spell of the child, if there is a child
abbrev pub term_of : List Event → Option Child → Option ℕ
term_of past None = None
term_of past (Some child) = least_term (spell_hits child past)

-- each part of the state has the value that the past determines
pub record Reads (s : JudgeState) (past : List Event) : Type 0 where
  pub stage : s.stage ≡ stage_of past
  pub grace : s.grace ≡ grace_of past
  pub time : s.time ≡ time_of past
  pub orders : (id : List ℕ) → at id s.orders ≡ open_of id past
  pub kept : (id : List ℕ) → among id s.kept ≡ has_child id (kept_children past)
  pub asked : (id : List ℕ) → among id s.asked ≡ is_asked id past
  pub called : (id : List ℕ) → among id s.called ≡ calls_of id past
  pub sent : (id : List ℕ) → among id s.sent ≡ has_sent id past
  pub starts : (id : List ℕ) → times_at id s.starts ≡ take STARTS (start_times id past)
  pub holds : (id : List ℕ) → at id s.holds ≡ newest (hold_times id past)
  pub children : (id : List ℕ) → at id s.children ≡ option_map living_of (child_of id past)
  pub termed : (id : List ℕ) → at id s.termed ≡ term_of past (child_of id past)
