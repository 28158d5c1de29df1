-- A run from its opening.
use Rattle.supervisor.proofs.Words.{◌≡◌, ◌<◌, ◌+◌, refl, sym, subst, ℕ, Bool, true, List, [], ◌∷◌, Option, Entry}
use Rattle.supervisor.proofs.Words.{is_distinct, NewTable, Goal, CoreState, opening_goal, opening_state, LogState}
use Rattle.supervisor.proofs.Words.{HostCall, Event, Fronts, Logs, Took, IfPossibleFrom, Went, EdgeState, Kept, Made}
use Rattle.supervisor.proofs.Words.{calls_of}
use Rattle.supervisor.proofs.Words.{are_carried, are_seconds_short, is_allowed, Point, point_after, AreTurns, MadeTurns}
use Rattle.supervisor.proofs.Words.{NewCallsSatisfy-map, fronts_from, kept_from, leads_from, TracksAtBlockStart}
use Rattle.supervisor.proofs.Words.{HoldsAfterTurns, MadeCallsLead, SettlesUpToEachTurn}
use Rattle.supervisor.proofs.Words.{turns_in, AreObservedTurns, IsOpening, IsStartOver, StartState, MadeTurnsFromStart}
use Rattle.supervisor.proofs.Words.{start_point}
use Rattle.init_words.specs.declared.levels.Level.{Level}
use Rattle.core_model.proofs.Hearing.{fits_opening}
use Rattle.supervisor.proofs.Arriving.{arrives_up}
use Rattle.host_calls.specs.Record.{NewCallsSatisfy}
use Rattle.supervisor.proofs.Parts.{AreMade}

-- turns from all points that meet a condition are turns from the points that meet a stronger one
turns_narrower : (strict : Bool) (f g : Goal → Point → Type 0) → ((goal : Goal) (p : Point) → g goal p → f goal p)
    → (cores : List CoreState) (calls : List HostCall) → AreTurns strict f cores calls → AreTurns strict g cores calls
turns_narrower strict f g narrower [] calls turns = turns
turns_narrower strict f g narrower (core ∷ cores) calls (done, last, before, is, turn, tracks, earlier) = (
  done,
  last,
  before,
  is,
  turn,
  (λ goal p sound fits. tracks goal p sound (narrower goal p fits)),
  turns_narrower strict f g narrower cores before earlier,
)

made_narrower : (strict drain : Bool) (f g : Goal → Point → Type 0) → ((goal : Goal) (p : Point) → g goal p → f goal p)
    → (n : ℕ) (saw now_saw : Option (List CoreState)) (calls : List HostCall)
    → MadeTurns strict drain f n saw now_saw calls → MadeTurns strict drain g n saw now_saw calls
made_narrower strict drain f g narrower n saw now_saw calls (cores, seen, (count, turns, busy)) =
    (cores, seen, (count, turns_narrower strict f g narrower cores calls turns, busy))

-- the core of an opening is fresh at the opening point
pub opening_fresh : (level : Option Level) (table : List Entry) → is_distinct table ≡ true
    → TracksAtBlockStart (opening_state table (opening_goal level table)) (opening_goal level table) (start_point table)
opening_fresh level table distinct =
    (record { fits = fits_opening table (opening_goal level table) distinct; short = refl; own = refl }, refl)

pub opened : {H L : Type 0} (state : L → LogState) (old mid new : EdgeState H L) (level : Option Level)
    (table : List Entry) (strict drain : Bool) (n : ℕ) (saw now_saw : Option (List CoreState)) (core left : CoreState)
    → TracksAtBlockStart core (opening_goal level table) (start_point table) → is_distinct table ≡ true
    → mid.told ≡ old.told → Logs (state old.log) (state mid.log) [] (NewTable table ∷ [])
    → MadeCallsLead state mid new (MadeTurns strict drain (TracksAtBlockStart core) n saw now_saw)
    (TracksAtBlockStart core) (HoldsAfterTurns left)
    → MadeTurnsFromStart state old new level table (AreObservedTurns strict drain level table n saw now_saw) left
opened {L = L} state old mid new level table strict drain n saw now_saw core left fresh distinct same took makes =
    subst (λ t. NewCallsSatisfy t new.told Opened) same
    (NewCallsSatisfy-map mid.told new.told
    (AreMade state l₁ l₂ (MadeTurns strict drain (TracksAtBlockStart core) n saw now_saw) (TracksAtBlockStart core)
    (HoldsAfterTurns left)) Opened makes
    (λ made_calls made. (
      (
        made_narrower strict drain (TracksAtBlockStart core) (IsOpening level table)
            (λ goal p opens. (before goal p opens).0) n saw now_saw (calls_of made_calls) made.0,
        there (calls_of made_calls) made.0,
      ),
      leads_from none (TracksAtBlockStart core) (IsOpening level table) l₀ l₁
          (λ goal p sound opens. before goal p opens)
          (HoldsAfterTurns left) l₂ (calls_of made_calls) made.1,
      fronts_from none (TracksAtBlockStart core) (IsOpening level table) l₀ l₁
          (λ goal p sound opens. before goal p opens) l₂
          (calls_of made_calls) made.2,
      kept_from none (TracksAtBlockStart core) (IsOpening level table) l₀ l₁
          (λ goal p sound opens. before goal p opens) state made_calls made.3,
    )))
  where
    l₀ : LogState
    l₀ = state old.log

    l₁ : LogState
    l₁ = state mid.log

    l₂ : LogState
    l₂ = state new.log

    none : Point → List Event
    none p = []

    Opened : List (Made L) → Type 0
    Opened made_calls = AreObservedTurns strict drain level table n saw now_saw (calls_of made_calls)
        × IfPossibleFrom (IsOpening level table) (Went none (HoldsAfterTurns left) l₀ l₂) (calls_of made_calls)
        × Fronts none (IsOpening level table) l₀ l₂ (calls_of made_calls)
        × Kept state none (IsOpening level table) l₀ made_calls

    -- the opening point is fresh, and the log received the table
    before : (goal : Goal) (p : Point) → IsOpening level table goal p
        → TracksAtBlockStart core goal p × (are_seconds_short goal p.past ≡ true → Took l₀ l₁ [] p.past)
    before goal p (of_goal, of_point) = (
      subst (λ q. TracksAtBlockStart core goal q) (sym of_point)
          (subst (λ o. TracksAtBlockStart core o (start_point table)) (sym of_goal) fresh),
      λ short. subst (λ (q : Point). Took l₀ l₁ [] q.past) (sym of_point) (took refl),
    )

    there : (calls : List HostCall) → MadeTurns strict drain (TracksAtBlockStart core) n saw now_saw calls
        → SettlesUpToEachTurn level table n calls
    there calls (cores, seen, (count, turns, busy)) later rounds room =
        arrives_up strict (TracksAtBlockStart core) (opening_goal level table)
        (start_point table) distinct fresh refl later rounds
        cores calls turns (subst (λ m. later + turns_in rounds < m) (sym count) room)

-- an opening, its log and its turns
pub opened_by : {H L : Type 0} (state : L → LogState) (old mid new : EdgeState H L) (strict drain : Bool) (n : ℕ)
    (saw now_saw : Option (List CoreState)) (o : StartState) (left : CoreState)
    → mid.told ≡ old.told → Logs (state old.log) (state mid.log) [] (o.told ∷ [])
    → MadeCallsLead state mid new (MadeTurns strict drain (TracksAtBlockStart o.core) n saw now_saw)
    (TracksAtBlockStart o.core) (HoldsAfterTurns left)
    → (level : Option Level) (table : List Entry) → IsStartOver level table o
    → MadeTurnsFromStart state old new level table (AreObservedTurns strict drain level table n saw now_saw) left
opened_by state old mid new strict drain n saw now_saw o left same took makes level table is =
    opened state old mid new level table strict drain n saw now_saw o.core left
    (subst (λ c. TracksAtBlockStart c (opening_goal level table) (start_point table)) (sym is.core)
    (opening_fresh level table is.distinct)) is.distinct same
    (subst (λ t. Logs (state old.log) (state mid.log) [] (t ∷ [])) is.told took) makes

-- ---- what holds from the opening on

-- what holds up to these calls holds of the opening point, if no id is repeated in the table
pub from_opening : (level : Option Level) (table : List Entry) (P : Goal → Point → List HostCall → Type 0)
    (calls : List HostCall) → is_distinct table ≡ true → IfPossibleFrom (IsOpening level table) P calls
    → is_allowed (opening_goal level table) (point_after calls (start_point table)).past ≡ true
    → are_carried calls (start_point table) ≡ true → P (opening_goal level table) (start_point table) calls
from_opening level table P calls distinct up allowed carried =
    (up (opening_goal level table) (start_point table) distinct (refl, refl) allowed).1 carried

-- the seconds of an opening are at most 3,600
pub opening_short : (level : Option Level) (table : List Entry)
    → are_seconds_short (opening_goal level table) (start_point table).past ≡ true
opening_short level table = refl
