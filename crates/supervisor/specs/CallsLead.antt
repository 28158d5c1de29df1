-- How a part of init's work changes its core and its log, if the host's answers were possible; see init(8).
use Rattle.std.specs.Prelude.{◌≡◌, ◌⊎◌, ℕ, Bool, true, false, ◌&&◌, ◌||◌, ◌+◌, IsTrue, ◌==◌, not, List, [], ◌∷◌, ◌++◌}
use Rattle.std.specs.Prelude.{length, take, reverse, None, is_some, Ok, Err}
use Rattle.std.specs.List.{starts_with}
use Rattle.supervisor.specs.EdgeWords.{PartialBlock, Handed, NewTable, Goal, Step, Event, due, first, are_short}
use Rattle.supervisor.specs.EdgeWords.{is_seconds}
use Rattle.supervisor.specs.EdgeWords.{step_in, is_sound, may_come, CoreState, LogState, Carry, HostCall, TextRead}
use Rattle.trace_events.specs.declared.happenings.Handed.{Handed as HandOver}
use Rattle.trace_events.specs.Lawful.{first_breach}
use Rattle.core_model.specs.Fit.{FitsWithLastStatuses, with_step}
use Rattle.core_model.specs.Parts.{state_of}
use Rattle.core_model.specs.Rules.{IsFit}
use Rattle.core_text.specs.Range as range
use Rattle.core_text.specs.declared.versions.Version.TheVariants.{V2}
use Rattle.core_text.specs.Refused.{IsTextIn}
use Rattle.supervisor.specs.Point.{Point, point_after, has_trace, is_of_generation}

-- the happening is a step of init, or is that init reads a table
abbrev pub is_own : Event → Bool
is_own (NewTable table) = true
is_own happening = is_some (step_in happening)

-- the happening is init's own, or can follow this trace
abbrev pub may_happen : Goal → Event → List Event → Bool
may_happen goal happening past = is_own happening || may_come goal happening past

-- The answers were possible: each happening that did not come from init itself can follow the trace before it.
abbrev pub is_allowed : Goal → List Event → Bool
is_allowed goal [] = true
is_allowed goal (happening ∷ past) = may_happen goal happening past && is_allowed goal past

-- The host returns a saved state of this generation in a permitted way: unchanged, cut short, replaced by a text of
-- another generation, or not at all.
abbrev pub comes_back : ℕ → List ℕ → TextRead → Bool
comes_back generation text (Ok back) = starts_with ◌==◌ text back || not (is_of_generation generation back)
comes_back generation text (Err fault) = true

-- the host returned each saved state in a permitted way
abbrev pub are_carried : List HostCall → Point → Bool
are_carried [] p = true
are_carried (Carry text back ∷ calls) p =
    comes_back ((point_after calls p).generation + 1) text back && are_carried calls p
are_carried (_ ∷ calls) p = are_carried calls p

-- The text is a version 2 text of this generation that represents a state of init. The state is that of a core that
-- obeys the rules and fits the trace, whatever the outcome of the hand-over.
pub record IsStateText (goal : Goal) (past : List Event) (generation : ℕ) (text : List ℕ) : Type 0 where
  pub core : CoreState
  pub fits : (how : HandOver) → FitsWithLastStatuses core goal (Handed how ∷ past)
  pub fit : IsFit core
  pub own : core.fields.generation ≡ generation
  pub says : IsTextIn V2 text (state_of core)

-- each text handed to the host represents init's state at that moment, with the next generation, if the host returned
-- the earlier texts in a permitted way
abbrev pub AreTexts : Goal → List HostCall → Point → Type 0
AreTexts goal [] p = Unit {0}
AreTexts goal (Carry text back ∷ calls) p =
    (IsTrue (are_carried calls p)
    → IsStateText goal (point_after calls p).past ((point_after calls p).generation + 1) text)
    × AreTexts goal calls p
AreTexts goal (_ ∷ calls) p = AreTexts goal calls p

-- What the log accepted, newest first: all happenings that came if the log has not failed, otherwise those before its
-- failure. If it missed none of them, it accepted `more` after them. A log that had already failed accepts nothing.
pub record Takes (old new : LogState) (before came more : List Event) : Type 0 where
  pub took : List Event
  pub missed : List Event
  pub parts : came ≡ missed ++ took
  pub told : new.taken (before ++ reverse (more ++ took))
  pub whole : new.failed ≡ false → missed ≡ []
  pub ended : (missed ≡ []) ⊎ (more ≡ [])
  pub nothing : old.failed ≡ true → more ++ took ≡ []
  pub stays : old.failed ≡ true → new.failed ≡ true

-- the trace has grown, and the log has accepted the new happenings as `Takes` states; it still notes the exit statuses
-- of the same id
pub record Took (old new : LogState) (past now : List Event) : Type 0 where
  pub same : new.noted ≡ old.noted
  pub came : List Event
  pub grown : now ≡ came ++ past
  pub log : (before : List Event) → old.taken before → Takes old new before came []

-- `Took` holds if the grace periods in the trace are at most 3,600 seconds, because a log does not accept longer ones
abbrev pub Logs : LogState → LogState → List Event → List Event → Type 0
Logs old new past now = IsTrue (are_short now) → Took old new past now

-- the grace periods in the trace and in its opening goal are at most 3,600 seconds
abbrev pub are_seconds_short : Goal → List Event → Bool
are_seconds_short goal past = is_seconds goal.grace && are_short past

-- the point after its trace has grown
abbrev pub gone_on : (List Event → List Event) → Point → Point
gone_on more p = record p { past = more p.past }

-- init took this step: it was the first due step, and the condition holds for the trace after the step
abbrev pub TookFirstDueStep : (Goal → Point → Type 0) → Step → Goal → Point → Type 0
TookFirstDueStep fit step goal p = (first (due goal p.past) ≡ step) × fit goal (gone_on (with_step step) p)

-- the reader of requests has read these bytes of an incomplete block; it keeps their number and the first 16 of them
pub record HasReadBytes (blocks : PartialBlock) (over : List ℕ) : Type 0 where
  pub count : blocks.count ≡ length over
  pub front : blocks.front ≡ take 16 over

-- init's core tracks the point: it fits the trace, its grace periods are at most 3,600 seconds, and its generation is
-- the generation of the point
pub record Tracks (core : CoreState) (goal : Goal) (p : Point) : Type 0 where
  pub fits : FitsWithLastStatuses core goal p.past
  pub short : range.has_short_seconds core ≡ true
  pub own : core.fields.generation ≡ p.generation

-- the new core has the generation of the old one, and its grace periods are at most 3,600 seconds if those of the old
-- one were
pub record KeepsSecondsAndGeneration (c new : CoreState) : Type 0 where
  pub short : range.has_short_seconds c ≡ true → range.has_short_seconds new ≡ true
  pub same : new.fields.generation ≡ c.fields.generation

-- the core tracks the point, and the reader of requests has read the point's bytes of an incomplete block
abbrev pub TracksPoint : CoreState → PartialBlock → Goal → Point → Type 0
TracksPoint core blocks goal p = Tracks core goal p × HasReadBytes blocks p.over

-- since init read the clock, it has made this number of calls for late answers
abbrev pub Counted : ℕ → Goal → Point → Type 0
Counted lates goal p = p.lates ≡ lates

-- The following holds from any point that meets the condition and has a sound trace, if the answers to these calls were
-- possible: each text handed to the host represents init's state; and if the host returned these texts in a permitted
-- way, the property holds.
abbrev pub IfPossibleFrom : (Goal → Point → Type 0) → (Goal → Point → List HostCall → Type 0) → List HostCall → Type 0
IfPossibleFrom fitted P calls = (goal : Goal) (p : Point) → IsTrue (is_sound goal p.past) → fitted goal p
    → IsTrue (is_allowed goal (point_after calls p).past)
    → AreTexts goal calls p × (IsTrue (are_carried calls p) → P goal p calls)

-- init was allowed to make each call at its point, and the trace with the calls is sound and breaks no law
pub record CallsWereInPlace (goal : Goal) (p : Point) (calls : List HostCall) : Type 0 where
  pub in_place : IsTrue (has_trace goal calls p)
  pub sound : IsTrue (is_sound goal (point_after calls p).past)
  pub unbroken : first_breach (point_after calls p).past ≡ None

-- `CallsWereInPlace` holds for the calls, and the condition holds after them. If the grace periods so far were at most
-- 3,600 seconds, a log that had received the part `from` of the trace has accepted everything since (`Logs`).
pub record Went (from : Point → List Event) (fit : Goal → Point → Type 0) (old new : LogState) (goal : Goal) (p : Point)
    (calls : List HostCall) : Type 0 where
  pub well : CallsWereInPlace goal p calls
  pub fits : fit goal (point_after calls p)
  pub log : IsTrue (are_seconds_short goal p.past) → Took old new (from p) (point_after calls p).past

-- the whole trace of the point
abbrev pub past_of : Point → List Event
past_of p = p.past

-- the calls lead from the first condition to the second, with a log that had received the whole trace of the point
abbrev pub CallsLead : (Goal → Point → Type 0) → (Goal → Point → Type 0) → LogState → LogState → List HostCall → Type 0
CallsLead fitted fit old new = IfPossibleFrom fitted (Went past_of fit old new)

-- the effect on the trace and the log of an event that needs no call: an answer, a round or a request
pub record Heard (fit : Goal → Point → Type 0) (old new : LogState) (goal : Goal) (p now : Point) : Type 0 where
  pub sound : IsTrue (is_sound goal now.past)
  pub fits : fit goal now
  pub log : Logs old new p.past now.past

-- if it was possible, the event leads from the first condition to the second without a call
abbrev pub Hears : (Goal → Point → Type 0) → (Goal → Point → Type 0) → LogState → LogState
    → (List Event → List Event) → Type 0
Hears fitted fit old new more = (goal : Goal) (p : Point) → IsTrue (is_sound goal p.past) → fitted goal p
    → IsTrue (is_allowed goal (more p.past)) → Heard fit old new goal p (gone_on more p)
