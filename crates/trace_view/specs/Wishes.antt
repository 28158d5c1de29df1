-- The pending requests, as a view keeps them, and the one that init carries out first; see telinit(8) and initreq.h.
use Rattle.std.specs.Prelude.{ℕ, Bool, not, ◌&&◌, ◌||◌, if◌then◌else◌, List, ◌∷◌, Option, Some, None}
use Rattle.trace_view.specs.Words.{Stage, Boot, Run, same_level, Event, stage_of, enter_level, is_level, in_run}
use Rattle.trace_view.specs.Words.{other_than, wants_reexec, wants_reread, last_requested_level, level_wish, was_booted}
use Rattle.trace_view.specs.Words.{is_announced, are_calls_pending}
use Rattle.init_words.specs.declared.levels.Level.{Level}
use Rattle.init_words.specs.declared.levels.Level.TheVariants.{S}
use Rattle.trace_events.specs.CallSets.{has_news, pending_calls}
use Rattle.trace_events.specs.declared.steps.Goal.{Goal}
use Rattle.trace_events.specs.declared.steps.Step.{Step}
use Rattle.trace_events.specs.declared.steps.Step.TheVariants as step
use Rattle.trace_view.specs.declared.wishes.Wish.{Wish}
use Rattle.trace_view.specs.declared.wishes.Wish.TheVariants as wish
use Rattle.trace_view.specs.declared.wishes.Wishes.{Wishes}

-- the pending request for a level if there is one, otherwise the request to call entries if one is pending
abbrev pub or_news : Bool → Option Goal → Option Wish
or_news news (Some heard) = Some (wish.Level heard.level)
or_news news None = if news then Some wish.News else None

-- the first of the pending requests, in this order: re-execute, reread inittab, enter a level, call entries
abbrev pub first_of : Bool → Bool → Option Goal → Bool → Option Wish
first_of reexec reread level news =
    if reexec then Some wish.Reexec else if reread then Some wish.Reread else or_news news level

-- the pending request that init carries out first; it calls entries only in a runlevel
abbrev pub first_wish : List Event → Option Wish
first_wish past =
    first_of (wants_reexec past) (wants_reread past) (level_wish past)
    (in_run (stage_of past) && are_calls_pending past)

-- the requested level, unless it is in force
abbrev pub unless_here : Option Stage → Option Goal → Option Level
unless_here stage None = None
unless_here stage (Some heard) = if is_level heard.level stage then None else Some heard.level

-- the level that was requested but has not been entered yet
abbrev pub asked_level : List Event → Option Level
asked_level past = unless_here (stage_of past) (last_requested_level past)

-- the stage that the first of the steps enters, if it enters one, and the seconds between SIGTERM and SIGKILL
abbrev pub entered_by : List Step → Option (Stage × ℕ)
entered_by (step.Enter stage grace ∷ steps) = Some (stage, grace)
entered_by _ = None

-- the stage that init enters next because another level was requested
abbrev pub next_stage : List Event → Option (Stage × ℕ)
next_stage past = entered_by (enter_level (level_wish past) past)

-- the pending requests; whether init has entered Boot, which decides the stages on the way to a level; and whether the
-- level was announced settled
abbrev pub wishes_of : List Event → Wishes
wishes_of past = record {
  reexec = wants_reexec past;
  reread = wants_reread past;
  heard = last_requested_level past;
  news = pending_calls past;
  booted = was_booted past;
  announced = is_announced past;
}

-- the request that init carries out first, computed from the state of the view
abbrev pub first_wish_in : Option Stage → Wishes → Option Wish
first_wish_in stage w = first_of w.reexec w.reread (other_than stage w.heard) (in_run stage && has_news w.news)

-- the stage that init enters for a requested level, with the seconds between SIGTERM and SIGKILL: Boot if it was not
-- entered yet and the level is not S; otherwise the level
abbrev pub stage_for : Bool → Option Goal → Option (Stage × ℕ)
stage_for booted None = None
stage_for booted (Some wish) =
    Some (if not (same_level wish.level S) && not booted then Boot else Run wish.level, wish.grace)

-- the stage that init enters next because another level was requested, computed from the state of the view
abbrev pub next_stage_in : Option Stage → Wishes → Option (Stage × ℕ)
next_stage_in stage w = stage_for w.booted (other_than stage w.heard)
