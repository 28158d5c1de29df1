-- The moments of a simulated run, and how init's steps lead from one moment to the next.
use Rattle.std.specs.Prelude.{◌≡◌, ◌⊎◌, ℕ, Bool, true, false, ◌+◌, List, [], ◌∷◌, ◌++◌, Option}
use Rattle.std.specs.Io.KnownBytes.{Appends, Keeps}
use Rattle.simulator.specs.Words.{Goal, Event, table_of_text, NewTable, event_text, are_in_range, newlines, due, first}
use Rattle.simulator.specs.Words.{is_run, is_rest, is_reread, is_quiet, CoreState, FitsWithLastStatuses}
use Rattle.simulator.specs.Words.{has_short_seconds}
use Rattle.trace_events.specs.declared.happenings.Happening.TheVariants.{Handed}
use Rattle.simulator.specs.State.{SystemState}
use Rattle.simulator.specs.Follows.{Follows}
use Rattle.simulator.specs.declared.running.SimFault.{SimFault}
use Rattle.simulator.specs.declared.running.SimFault.TheVariants as fault
use Rattle.simulator.specs.Faults.{Leaves}
use Rattle.simulator.specs.Handing.{are_handed, made_in, kept_goal}
use Rattle.simulator.specs.Texts.{CanHand}
use Rattle.simulator.specs.Said.{may_be_scripted, IsObjected, first_table, heard}
use Rattle.simulator.specs.Simulation.{IsTooLong, RunOver, Scenario, goal_in, heard_text, past_text, table_in}

-- the core can be handed over: its grace periods are at most 3,600 seconds, and its generation and its goal agree with
-- the run so far
pub record CanHandOver (core : CoreState) (opening : Goal) (past : List Event) : Type 0 where
  pub short : has_short_seconds core ≡ true
  pub made : core.fields.generation ≡ made_in past
  pub goal : core.fields.goal ≡ kept_goal opening past

-- the core fits the run so far and can be handed over, and the simulated system follows the run
pub record Moment (goal : Goal) (past : List Event) (core : CoreState) (side : SystemState) : Type 0 where
  pub runs : is_run goal past ≡ true
  pub fits : FitsWithLastStatuses core goal past
  pub lasts : CanHandOver core goal past
  pub follows : Follows side past

-- some run ends with this core and system
abbrev pub SomeMoment : CoreState → SystemState → Type 0
SomeMoment core side = (goal : Goal) × (past : List Event) × Moment goal past core side

-- the property holds for every run that ends with this core and system
abbrev pub FromMoment : CoreState → SystemState → (Goal → List Event → Type 0) → Type 0
FromMoment core side P = (goal : Goal) (past : List Event) → Moment goal past core side → P goal past

-- the trace grew from `past` to `next` without reading a line of the script: it begins with the same table, there was
-- no hand-over, and its text has grown by `more`
pub record SimulationGoesOn (past next : List Event) (more : List ℕ) : Type 0 where
  pub opens : first_table next ≡ first_table past
  pub handed : (goal : Goal) → are_handed goal next ≡ are_handed goal past
  pub hears : heard next ≡ heard past
  pub text : past_text next ≡ past_text past ++ more

-- a moment at which init is at rest; `rereads` is true if the next step is to read inittab
pub record AtRest (goal : Goal) (past : List Event) (rereads : Bool) (core : CoreState) (side : SystemState) : Type 0
  where
    pub moment : Moment goal past core side
    pub rests : is_rest (first (due goal past)) ≡ true
    pub read : rereads ≡ is_reread (first (due goal past))

-- some run is at rest with this core and system
abbrev pub SomeRest : Bool → CoreState → SystemState → Type 0
SomeRest rereads core side = (goal : Goal) × (past : List Event) × AtRest goal past rereads core side

-- the property holds for every run that is at rest with this core and system
abbrev pub FromRest : Bool → CoreState → SystemState → (Goal → List Event → Type 0) → Type 0
FromRest rereads core side P =
    (goal : Goal) (past : List Event) → AtRest goal past rereads core side → P goal past

-- init continued until it was at rest, and its steps were written
abbrev pub ComesToRest : Goal → List Event → Bool → CoreState → SystemState → Option (List ℕ) → Option (List ℕ) → Type 0
ComesToRest goal past rereads core side old new =
    (next : List Event) × (more : List ℕ) × AtRest goal next rereads core side × SimulationGoesOn past next more
    × Appends old new more

-- init continued, and the fault occurred while its steps were being written
abbrev pub Breaks : Goal → List Event → SimFault → Option (List ℕ) → Option (List ℕ) → Type 0
Breaks goal past f old new =
    (next : List Event) × (more : List ℕ) × (is_run goal next ≡ true) × SimulationGoesOn past next more
    × Leaves f old new more

-- init is ready for the happening: no start and no signal is open if a table is adopted, and its state can be saved if
-- it is handed over
abbrev pub IsReadyFor : Event → CoreState → Type 0
IsReadyFor (NewTable table) core = is_quiet core.slots ≡ true
IsReadyFor (Handed how) core = CanHand how core
IsReadyFor _ core = Unit {0}

-- the trace grew from `past` to `next` over the text `said` of the script: it begins with the same table, any hand-over
-- was possible, and its text has grown by `more`
pub record HearsLine (goal : Goal) (past next : List Event) (said more : List ℕ) : Type 0 where
  pub opens : first_table next ≡ first_table past
  pub handed : are_handed goal past ≡ true → are_handed goal next ≡ true
  pub are : are_in_range (heard past) ≡ true → are_in_range (heard next) ≡ true
  pub hears : heard_text next ≡ heard_text past ++ said
  pub text : past_text next ≡ past_text past ++ more

-- a happening of the script was processed, init continued until it was at rest, and all of this was written
abbrev pub HeardOne : Goal → List Event → Event → Bool → CoreState → SystemState → Option (List ℕ) → Option (List ℕ)
    → Type 0
HeardOne goal past happening rereads core side old new = (next : List Event) × (more : List ℕ)
    × AtRest goal next rereads core side × HearsLine goal past next (event_text happening) more × Appends old new more

-- a happening of the script was processed, and the fault occurred while the results were being written
abbrev pub HeardBreaks : Goal → List Event → Event → SimFault → Option (List ℕ) → Option (List ℕ) → Type 0
HeardBreaks goal past happening f old new = (next : List Event) × (more : List ℕ)
    × (is_run goal next ≡ true) × HearsLine goal past next (event_text happening) more × Leaves f old new more

-- the fault may end the run at a happening of the script, on the line with this number; if memory runs out, it may do
-- so even before anything changes
abbrev pub HeardEnds : Goal → List Event → Event → ℕ → SimFault → Option (List ℕ) → Option (List ℕ) → Type 0
HeardEnds goal past happening number fault.Table old new = ⊥
HeardEnds goal past happening number (fault.Script n) old new = ⊥
HeardEnds goal past happening number (fault.Forbidden n why) old new =
    (n ≡ number) × (may_be_scripted goal happening past ≡ false) × IsObjected goal happening past why × Keeps old new
HeardEnds goal past happening number fault.Write old new = HeardBreaks goal past happening fault.Write old new
HeardEnds goal past happening number fault.Memory old new =
    Keeps old new ⊎ HeardBreaks goal past happening fault.Memory old new

-- the fault is one of reading this inittab
abbrev pub TableEnds : List ℕ → SimFault → Type 0
TableEnds inittab fault.Table = IsTooLong inittab
TableEnds inittab fault.Memory = Unit {0}
TableEnds inittab _ = ⊥

-- the text of an inittab's table, as a happening
abbrev pub opening_text : List ℕ → List ℕ
opening_text inittab = event_text (NewTable (table_of_text inittab))

-- the property holds for every run over this script that has written its table and has this core and system at its
-- first moment
abbrev pub FromOpening : List ℕ → CoreState → SystemState → Option (List ℕ)
    → (Scenario → Option (List ℕ) → Type 0) → Type 0
FromOpening script core side now P =
    (s : Scenario) (before : Option (List ℕ)) → s.script ≡ script
    → Moment (goal_in s) (NewTable (table_in s) ∷ []) core side → Appends before now (opening_text s.inittab)
    → P s before

-- the run over the script up to the remaining text `rest`, whose first line has this number; init is at rest
pub record SoFar (s : Scenario) (rest : List ℕ) (number : ℕ) (rereads : Bool) (core : CoreState) (side : SystemState)
    (old new : Option (List ℕ)) : Type 0 where
  pub past : List Event
  pub counted : number ≡ newlines (heard_text past) + 1
  pub at : AtRest (goal_in s) past rereads core side
  pub run : RunOver s rest past
  pub written : Appends old new (past_text past)

-- the property holds for every run at the beginning of its script with this core and system, and for the text written
-- before it
abbrev pub FromScript : List ℕ → Bool → CoreState → SystemState → Option (List ℕ)
    → (Scenario → Option (List ℕ) → Type 0) → Type 0
FromScript text rereads core side now P =
    (s : Scenario) (before : Option (List ℕ)) → SoFar s text 1 rereads core side before now → P s before
