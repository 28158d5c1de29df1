-- A view of a text that arrives in pieces, together with another observer of its happenings, and the text that both
-- have taken.
use Rattle.std.specs.Prelude.{ℕ, Bool, true, false, List, reverse, Option}
use Rattle.trace_view.specs.Words.{Event}
use Rattle.trace_view.specs.Viewing.{ViewState, Viewed}
use Rattle.trace_view.specs.declared.text_views.ViewEnd.{ViewEnd}
use Rattle.trace_view.specs.Shown.{IsShown}
use Rattle.trace_view.specs.Views.{TextState, HasShown, IsAt}

-- the view of the text, and the other observer
pub record SeenState (S : Type 0) : Type 0 where
  pub viewing : TextState
  pub seen : S

-- the view is reading the text, and the view and the observer have seen the same trace of it
abbrev pub IsSeeing : {S : Type 0} → (S → List Event → Type 0) → SeenState S → List ℕ → Type 0
IsSeeing has state text = (trace : List Event) × IsAt state.viewing trace text × has state.seen (reverse trace)

-- the view has taken the text, and the view and the observer have seen the same trace of it
abbrev pub HasSeenText : {S : Type 0} → (S → List Event → Type 0) → SeenState S → List ℕ → Type 0
HasSeenText has state text = (trace : List Event) × HasShown state.viewing trace text × has state.seen (reverse trace)

-- the view and the observer are still reading the text if the flag is true, and otherwise have taken it
abbrev pub SeesOn : {S : Type 0} → (S → List Event → Type 0) → Bool → SeenState S → SeenState S → List ℕ → Type 0
SeesOn has true old new text = IsSeeing has old text → IsSeeing has new text
SeesOn has false old new text = IsSeeing has old text → HasSeenText has new text

-- the view shows a single trace of the text, which the view and the observer have seen
abbrev pub IsSeen : {S : Type 0} → (S → List Event → Type 0) → List ℕ → Option ViewEnd → Option ℕ → ViewState → S
    → Type 0
IsSeen has text stop open_line viewing seen =
    (trace : List Event) × IsShown text stop open_line trace × Viewed viewing (reverse trace) × has seen (reverse trace)
