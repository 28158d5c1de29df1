-- Which happenings a brief log has passed on and which it holds back, given the trace that it took; and its state after
-- `end`.
use Rattle.std.specs.Prelude.{◌≡◌, ◌≤◌, Bool, true, false, List, ◌++◌, length, reverse, None}
use Rattle.trace_events.specs.Event.{Event}
use Rattle.trace_log.specs.Logs.{LogState}
use Rattle.trace_log_wrappers.specs.declared.held.HeldBack.{HeldBack}
use Rattle.trace_log_wrappers.specs.Brief.{brief_of}
use Rattle.trace_log_wrappers.specs.Holding.{Holds}

-- a brief log: the log that it passes happenings on to, and the happenings that it holds back
pub record Brief (L : Type 0) : Type 0 where
  pub log : L
  pub held : HeldBack

-- the brief form of a trace, both oldest first
abbrev pub brief_first : List Event → List Event
brief_first trace = reverse (brief_of (reverse trace))

-- the happenings passed on, oldest first, and those held back are together the brief form of the trace
pub record Writes (log : LogState) (held : HeldBack) (trace : List Event) : Type 0 where
  pub written : List Event
  pub is : log.taken written
  pub holds : Holds held (reverse written) (reverse trace)

-- The happenings written are a prefix of the brief form of the trace, or of the trace followed by the one happening
-- that the log failed to take.
pub record IsPart (trace written : List Event) : Type 0 where
  pub more : List Event
  pub most : length more ≤ 1
  pub rest : List Event
  pub front : written ++ rest ≡ brief_first (trace ++ more)

-- the log took a part of the brief form (`IsPart`)
abbrev pub HasPart : (List Event → Type 0) → List Event → Type 0
HasPart taken trace = (written : List Event) × IsPart trace written × taken written

-- the brief log took the trace; the flag says whether it has failed
abbrev pub BriefLogAccepted : Bool → LogState → HeldBack → List Event → Type 0
BriefLogAccepted false log held trace = Writes log held trace
BriefLogAccepted true log held trace = HasPart log.taken trace

-- the state of a brief log as contracts see it
abbrev pub brief_state : {L : Type 0} → (L → LogState) → Brief L → LogState
brief_state state log = record {
  taken = BriefLogAccepted (state log.log).failed (state log.log) log.held;
  failed = (state log.log).failed;
  noted = None;
}

-- the log took the brief form of the trace if the flag is true, and otherwise a part of it
abbrev pub HandsOn : Bool → (List Event → Type 0) → List Event → Type 0
HandsOn true taken trace = taken (brief_first trace)
HandsOn false taken trace = HasPart taken trace

-- the state after `end`; the second flag says whether the brief log passed on everything that it took
abbrev pub EndsBrief : (Bool → List Event → Type 0) → Bool → List Event → Type 0
EndsBrief has_ended true trace = has_ended true (brief_first trace)
EndsBrief has_ended false trace = HasPart (λ written. (whole : Bool) × has_ended whole written) trace

-- the log has taken the same happenings as before, possibly followed by others
abbrev pub Grows : LogState → LogState → Type 0
Grows old new = (before : List Event) → old.taken before → (more : List Event) × new.taken (before ++ more)
