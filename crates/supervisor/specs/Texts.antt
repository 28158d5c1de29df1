-- How a host returns the saved states that init hands over; see telinit(8), `u`.
use Rattle.std.specs.Prelude.{ℕ, Bool, true, ◌&&◌, ◌||◌, ◌==◌, List, [], ◌∷◌, Ok, Err}
use Rattle.std.specs.List.{list_any, starts_with}
use Rattle.supervisor.specs.EdgeWords.{Carry, HostCall, TextRead}
use Rattle.supervisor.specs.Point.{same_text}

-- the saved states that the calls hand over, newest first
abbrev pub texts_in : List HostCall → List (List ℕ)
texts_in [] = []
texts_in (Carry text back ∷ calls) = text ∷ texts_in calls
texts_in (_ ∷ calls) = texts_in calls

-- the host returns the saved state unchanged, cut short, replaced by an earlier one, or not at all
abbrev pub is_given_back : List (List ℕ) → List ℕ → TextRead → Bool
is_given_back before text (Ok back) = starts_with ◌==◌ text back || list_any (same_text back) before
is_given_back before text (Err fault) = true

-- the host returns each saved state unchanged, cut short, replaced by an earlier one, or not at all
abbrev pub are_given_back : List HostCall → Bool
are_given_back [] = true
are_given_back (Carry text back ∷ calls) = is_given_back (texts_in calls) text back && are_given_back calls
are_given_back (_ ∷ calls) = are_given_back calls
