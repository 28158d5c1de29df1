use Rattle.initd_command.proofs.Words.{◌≡◌, refl, ℕ, List, [], ◌∷◌, ◌++◌}
use Rattle.std.specs.Prelude.{slice_get}
use Rattle.std.specs.Option.{option_or}

first_more : (text piece : List ℕ) → option_or (slice_get text 0) (slice_get piece 0) ≡ slice_get (text ++ piece) 0
first_more [] piece = refl
first_more (byte ∷ text) piece = refl
