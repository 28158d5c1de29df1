-- Why init does not take over the text of a saved state.
use Rattle.std.specs.Prelude.{◌≡◌, ◌≢◌, ℕ, List}
use Rattle.core_model.specs.Parts.{SavedState, state_of}
use Rattle.core_model.specs.Rules.{IsFit}
use Rattle.core_model.specs.State.{CoreState}
use Rattle.core_text.specs.declared.state_fault.StateFault.{StateFault}
use Rattle.core_text.specs.declared.state_fault.StateFault.TheVariants.{Unfit}
use Rattle.core_text.specs.Refused.{IsTextOf, Refused}

-- the text represents a state of this generation, but no core that obeys the rules has that state
pub record IsUnfit (text : List ℕ) (generation : ℕ) : Type 0 where
  pub state : SavedState
  pub says : IsTextOf text state
  pub own : state.fields.generation ≡ generation
  pub unfit : (core : CoreState) → IsFit core → state_of core ≢ state

-- the reason is the first check that fails: the text is checked first, then whether its state obeys the rules
abbrev pub NotTaken : List ℕ → ℕ → StateFault → Type 0
NotTaken text generation Unfit = IsUnfit text generation
NotTaken text generation why = Refused text generation why
