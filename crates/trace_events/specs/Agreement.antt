-- Agreement: the unreaped children are the known children, minus those whose end init has not learned of yet, plus
-- those whose birth init has not learned of yet.
use Rattle.std.specs.Prelude.{ℕ, Bool, false, not, ◌&&◌, ◌||◌, ◌==◌, ◌≡◌, List, [], ◌∷◌}
use Rattle.std.specs.List.{list_any}
use Rattle.trace_events.specs.Words.{same_id}
use Rattle.trace_events.specs.declared.happenings.Happening.TheVariants.{Birth, Reaped, Told}
use Rattle.trace_events.specs.Event.{Event}
use Rattle.trace_events.specs.Past.{is_child, unreaped_children, known_children}

-- a child with this id and number was born, and init has not learned of its birth yet
abbrev pub has_untold_birth : List ℕ → ℕ → List Event → Bool
has_untold_birth id n [] = false
has_untold_birth id n (Birth i m ∷ past) = same_id id i && n == m || has_untold_birth id n past
has_untold_birth id n (Told i ∷ past) = not (same_id id i) && has_untold_birth id n past
has_untold_birth id n (_ ∷ past) = has_untold_birth id n past

-- a child with this id and number was reaped, and init has not learned of it yet
abbrev pub has_untold_end : List ℕ → ℕ → List Event → Bool
has_untold_end id n [] = false
has_untold_end id n (Reaped i m status ∷ past) = same_id id i && n == m || has_untold_end id n past
has_untold_end id n (Told i ∷ past) = not (same_id id i) && has_untold_end id n past
has_untold_end id n (_ ∷ past) = has_untold_end id n past

-- an unreaped child has this id and this number
abbrev pub is_unreaped : List ℕ → ℕ → List Event → Bool
is_unreaped id n past = list_any (is_child id n) (unreaped_children past)

-- a known child has this id and number
abbrev pub is_known : List ℕ → ℕ → List Event → Bool
is_known id n past = list_any (is_child id n) (known_children past)

-- the known children, corrected by the births and ends that init has not learned of, include one with this id and
-- number
abbrev pub is_accounted : List ℕ → ℕ → List Event → Bool
is_accounted id n past = is_known id n past && not (has_untold_end id n past) || has_untold_birth id n past

-- an unreaped child has this id and number exactly if the corrected known children (`is_accounted`) include one
abbrev pub Agrees : List ℕ → ℕ → List Event → Type 0
Agrees id n past = is_unreaped id n past ≡ is_accounted id n past
