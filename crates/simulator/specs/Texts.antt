-- The saved states of a run, and what a core must satisfy so that its state can be saved.
use Rattle.std.specs.Prelude.{◌≡◌, ◌≢◌, ℕ, true, ◌+◌, ◌<◌, List, [], get_or, length, Option, Some, None}
use Rattle.trace_events.specs.declared.happenings.Handed.{Handed as HandOver}
use Rattle.simulator.specs.Words.{SavedState, state_of, IsFit, CoreState, has_short_seconds, IsTextOf}
use Rattle.simulator.specs.Handing.{handed_over_text, objection_handed}

-- the text represents a state of this generation
abbrev pub IsOfGeneration : List ℕ → ℕ → Type 0
IsOfGeneration text generation = (state : SavedState) × IsTextOf text state × (state.fields.generation ≡ generation)

-- the first text represents a state of generation 1, and each later text represents a state of the next generation
abbrev pub AreMade : List (List ℕ) → Type 0
AreMade texts = (position : ℕ) → position < length texts → IsOfGeneration (get_or texts position []) (position + 1)

-- these are the states that the run saved before its core reached this generation
pub record HasTexts (texts : List (List ℕ)) (generation : ℕ) : Type 0 where
  pub are : AreMade texts
  pub count : length texts ≡ generation

-- the text represents no state of this generation
abbrev pub IsForeign : List ℕ → ℕ → Type 0
IsForeign text generation = (state : SavedState) → IsTextOf text state → state.fields.generation ≢ generation

-- there is no objection to the hand-over, and the core's grace periods are at most 3,600 seconds
pub record CanHand (how : HandOver) (core : CoreState) : Type 0 where
  pub short : has_short_seconds core ≡ true
  pub may : objection_handed core.fields.generation (length (handed_over_text core)) how ≡ None

-- the core that an init of this generation takes over from a text; none if the text represents no core of this
-- generation that obeys the rules
abbrev pub IsTakenOver : List ℕ → ℕ → Option CoreState → Type 0
IsTakenOver back generation (Some core) =
    IsTextOf back (state_of core) × IsFit core × (core.fields.generation ≡ generation)
IsTakenOver back generation None = (core : CoreState) → IsFit core → IsTextOf back (state_of core)
    → core.fields.generation ≡ generation → ⊥
