-- Pending requests, which init has received but not yet carried out, and the goal (telinit(8), initreq.h).
use Rattle.std.specs.Prelude.{Bool, true, false, not, ◌&&◌, ◌||◌, if◌then◌else◌, List, [], ◌∷◌, Option, Some, None}
use Rattle.std.specs.Prelude.{is_some}
use Rattle.std.specs.List.{list_any}
use Rattle.trace_events.specs.Words.{Level, Letter, Stage, Boot, Run, PowerKind, same_level, same_letter, same_power}
use Rattle.init_words.specs.declared.levels.Letter.TheVariants as letter
use Rattle.init_words.specs.declared.orders.PowerKind.TheVariants as power
use Rattle.initctl_frame.specs.declared.requests.HeardRequest.TheVariants as got
use Rattle.trace_events.specs.declared.happenings.Happening.TheVariants.{NewTable, NotRead, Enter, Call, Power, Got}
use Rattle.trace_events.specs.declared.happenings.Happening.TheVariants.{Handed}
use Rattle.trace_events.specs.declared.steps.Goal.{Goal}
use Rattle.trace_events.specs.Event.{Event}
use Rattle.trace_events.specs.Past.{stage_of}

-- the stage is this runlevel
abbrev pub is_level : Level → Option Stage → Bool
is_level level (Some (Run l)) = same_level level l
is_level level _ = false

-- the stage is a runlevel
abbrev pub in_run : Option Stage → Bool
in_run (Some (Run l)) = true
in_run _ = false

-- the goal: the level and the grace period of the last request for a level, or the initial goal if there was none
abbrev pub goal_of : Goal → List Event → Goal
goal_of opening [] = opening
goal_of opening (Got (got.Level l s) ∷ past) = record { level = l; grace = s }
goal_of opening (_ ∷ past) = goal_of opening past

-- a request to re-execute init is pending: it came since the last hand-over
abbrev pub wants_reexec : List Event → Bool
wants_reexec [] = false
wants_reexec (Handed how ∷ past) = false
wants_reexec (Got got.Reexec ∷ past) = true
wants_reexec (_ ∷ past) = wants_reexec past

-- init must reread inittab: since it last read inittab or failed to, it received a request to reread it, or a request
-- for a level that was not in force
abbrev pub wants_reread : List Event → Bool
wants_reread [] = false
wants_reread (NewTable table ∷ past) = false
wants_reread (NotRead ∷ past) = false
wants_reread (Got got.Reload ∷ past) = true
wants_reread (Got (got.Level l s) ∷ past) = not (is_level l (stage_of past)) || wants_reread past
wants_reread (_ ∷ past) = wants_reread past

-- the level and the grace period of the last request for a level since the last Enter
abbrev pub last_requested_level : List Event → Option Goal
last_requested_level [] = None
last_requested_level (Enter stage grace ∷ past) = None
last_requested_level (Got (got.Level l s) ∷ past) = Some (record { level = l; grace = s })
last_requested_level (_ ∷ past) = last_requested_level past

-- the requested level, if init is in a runlevel and the request is for another one
abbrev pub other_than : Option Stage → Option Goal → Option Goal
other_than (Some (Run l)) (Some heard) = if same_level heard.level l then None else Some heard
other_than _ _ = None

-- the pending request for another runlevel
abbrev pub level_wish : List Event → Option Goal
level_wish past = other_than (stage_of past) (last_requested_level past)

-- a power event of this kind is pending: it came since its entries were last called
abbrev pub is_power_pending : PowerKind → List Event → Bool
is_power_pending kind [] = false
is_power_pending kind (Power k ∷ past) = not (same_power kind k) && is_power_pending kind past
is_power_pending kind (Got (got.Power k) ∷ past) = same_power kind k || is_power_pending kind past
is_power_pending kind (_ ∷ past) = is_power_pending kind past

-- the letter is pending: it was requested since its entries were last called
abbrev pub is_letter_pending : Letter → List Event → Bool
is_letter_pending letter [] = false
is_letter_pending letter (Call l ∷ past) = not (same_letter letter l) && is_letter_pending letter past
is_letter_pending letter (Got (got.Call l) ∷ past) = same_letter letter l || is_letter_pending letter past
is_letter_pending letter (_ ∷ past) = is_letter_pending letter past

-- the power events, in the order in which they are carried out
abbrev pub powers : List PowerKind
powers = power.Fail ∷ power.FailNow ∷ power.Ok ∷ []

-- the letters, in the order in which they are carried out
abbrev pub letters : List Letter
letters = letter.A ∷ letter.B ∷ letter.C ∷ []

-- a power event or a letter is pending
abbrev pub are_calls_pending : List Event → Bool
are_calls_pending past =
    list_any (λ kind. is_power_pending kind past) powers || list_any (λ letter. is_letter_pending letter past) letters

-- a request is pending; power events and letters count only in a runlevel
abbrev pub is_request_pending : List Event → Bool
is_request_pending past =
    wants_reexec past || wants_reread past || is_some (level_wish past) || in_run (stage_of past)
    && are_calls_pending past

-- init has entered the stage Boot
abbrev pub was_booted : List Event → Bool
was_booted [] = false
was_booted (Enter Boot grace ∷ past) = true
was_booted (_ ∷ past) = was_booted past
