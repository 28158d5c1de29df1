-- The laws of births and of announced levels, stated only in terms of the happenings of a trace.
-- A trace is a list of happenings, newest first: `since ++ happening ∷ before` is a trace that contains the happening.
use Rattle.std.specs.Prelude.{◌≡◌, ◌<◌, ◌+◌, ◌⊎◌, ⊤, ℕ, Bool, true, false, not, ◌&&◌, IsTrue, List, [], ◌∷◌, ◌++◌, Some}
use Rattle.std.specs.List.{list_any}
use Rattle.core_model.specs.Words.{HOLD, Entry, Act, Level, Start, Stage, Run, same_id, starts_of, lives_of, waited_of}
use Rattle.core_model.specs.Words.{has_id, entry_of, act_of, NewTable, Asked, Birth, Told, Event, table_of, stage_of}
use Rattle.core_model.specs.Words.{time_of, same_acts, adds_or_changes, is_steady, is_reaping_of}
use Rattle.init_words.specs.declared.actions.Act.TheVariants as act
use Rattle.trace_events.specs.declared.happenings.Happening.TheVariants.{Enter, Hold}

-- a child of the id, born after `before`, may live: the table in force has an entry for the id, with the action that
-- the table had at the birth, and a child of the entry may live in the stage in force
pub record MayLive (id : List ℕ) (before past : List Event) : Type 0 where
  pub entry : Entry
  pub stage : Stage
  pub listed : entry_of id (table_of past) ≡ Some entry
  pub same : IsTrue (same_acts (Some entry.act) (act_of id (table_of before)))
  pub entered : stage_of past ≡ Some stage
  pub lives : IsTrue (lives_of entry stage)

-- each child that was born and not reaped since may live
abbrev pub AllMayLive : List Event → Type 0
AllMayLive past =
    (id : List ℕ) (number : ℕ) (since before : List Event)
    → past ≡ since ++ Birth id number ∷ before → list_any (is_reaping_of id number) since ≡ false
    → MayLive id before past

-- in this stretch of the trace, no stage is entered and no table adds or changes the id's entry
abbrev pub leaves_entry_unchanged : List ℕ → List Event → List Event → Bool
leaves_entry_unchanged id [] before = true
leaves_entry_unchanged id (Enter stage grace ∷ stretch) before = false
leaves_entry_unchanged id (NewTable table ∷ stretch) before =
    not (adds_or_changes id table (table_of (stretch ++ before))) && leaves_entry_unchanged id stretch before
leaves_entry_unchanged id (_ ∷ stretch) before = leaves_entry_unchanged id stretch before

-- the happening is a Told for the id
abbrev pub is_told_of : List ℕ → Event → Bool
is_told_of id (Told i) = same_id id i
is_told_of id _ = false

-- a Start of the id was ordered since the stage was entered and the entry was read, and init learned of the outcome
pub record WasStarted (id : List ℕ) (past : List Event) : Type 0 where
  pub since : List Event
  pub before : List Event
  pub ordered : past ≡ since ++ Asked id Start ∷ before
  pub kept : IsTrue (leaves_entry_unchanged id since (Asked id Start ∷ before))
  pub told : IsTrue (list_any (is_told_of id) since)

-- the child was reaped, and a Told for its id followed
pub record WasEnded (id : List ℕ) (number : ℕ) (since : List Event) : Type 0 where
  pub later : List Event
  pub between : List Event
  pub told : since ≡ later ++ Told id ∷ between
  pub reaped : IsTrue (list_any (is_reaping_of id number) between)

-- init waits for entries with this action, and they start when a stage is entered, without being called
abbrev pub starts_at_entry : Act → Bool
starts_at_entry act.Sysinit = true
starts_at_entry act.Bootwait = true
starts_at_entry act.Wait = true
starts_at_entry _ = false

-- the entry is done: each of its children has ended; and if its action starts on entering a stage and the entry starts
-- in the stage in force, it was started
pub record IsEntryDone (e : Entry) (past : List Event) : Type 0 where
  pub ended : (number : ℕ) (since before : List Event)
      → past ≡ since ++ Birth e.id number ∷ before → WasEnded e.id number since
  pub started : (stage : Stage) → stage_of past ≡ Some stage → IsTrue (starts_of e stage)
      → IsTrue (starts_at_entry e.act) → WasStarted e.id past

-- each entry that init waits for and that precedes the id's first entry in the table in force is done
abbrev pub AllEarlierDone : List ℕ → List Event → Type 0
AllEarlierDone id past =
    (front rest : List Entry) (e : Entry)
    → table_of past ≡ front ++ e ∷ rest → list_any (has_id id) front ≡ false → same_id id e.id ≡ false
    → IsTrue (waited_of e) → IsEntryDone e past

-- a child of the id was born and has not been reaped
pub record HasChild (id : List ℕ) (past : List Event) : Type 0 where
  pub number : ℕ
  pub since : List Event
  pub before : List Event
  pub born : past ≡ since ++ Birth id number ∷ before
  pub unreaped : list_any (is_reaping_of id number) since ≡ false

-- a hold of the id began less than five minutes ago, and no stage was entered and no table was read since then
pub record WasHeld (id : List ℕ) (past : List Event) : Type 0 where
  pub since : List Event
  pub before : List Event
  pub held : past ≡ since ++ Hold id ∷ before
  pub steady : IsTrue (is_steady since)
  pub lately : time_of past < time_of before + HOLD

-- the condition on an entry of a reached level: a wait or once entry was started, a respawn entry has a child or was
-- held; there is no condition for other actions
abbrev pub IsServed : Act → List ℕ → List Event → Type 0
IsServed act.Wait id past = WasStarted id past
IsServed act.Once id past = WasStarted id past
IsServed act.Respawn id past = HasChild id past ⊎ WasHeld id past
IsServed _ id past = ⊤

-- the level is reached: it is the stage in force, each child may live in it, each entry that init waits for is done,
-- and each entry that starts in the level meets the condition for its action
pub record IsReached (level : Level) (past : List Event) : Type 0 where
  pub entered : stage_of past ≡ Some (Run level)
  pub living : AllMayLive past
  pub through : (front rest : List Entry) (e : Entry)
      → table_of past ≡ front ++ e ∷ rest → IsTrue (waited_of e) → IsEntryDone e past
  pub served : (front rest : List Entry) (e : Entry)
      → table_of past ≡ front ++ e ∷ rest → IsTrue (starts_of e (Run level)) → IsServed e.act e.id past
