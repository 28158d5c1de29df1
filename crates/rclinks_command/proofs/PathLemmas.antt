-- Lemmas on the last part of a path.
use Rattle.rclinks_command.proofs.Words.{◌≡◌, ◌≢◌, inl, inr, ℕ, suc, ◌<◌, true, false, sym, ap, ◌∙◌, List, [], ◌∷◌}
use Rattle.rclinks_command.proofs.Words.{◌++◌, length, drop, take, get_or, refl, arith, Some, None, list_any, or_right}
use Rattle.rclinks_command.proofs.Words.{take-append-drop, is_slash, last_part}
use Rattle.std.specs.Str.Pattern.{RFindsChar}
use Rattle.std.proofs.lemmas.Bool.Decides.{eqb_tells}
use Rattle.std.proofs.lemmas.Str.Pattern.{NoCharPasses-char, drop_at_char}

no_slash : (path : List ℕ) → ((i : ℕ) → i < length path → get_or path i 0 ≢ 47) → list_any is_slash path ≡ false
no_slash [] none = refl
no_slash (b ∷ path) none =
    let here : is_slash b ≡ false =
    elim (eqb_tells b 47) [ inl is ↦ absurd (none 0 (omega arith) is.1) | inr is ↦ is.0 ] in
    rw here (no_slash path (λ i within. none (suc i) (omega arith)))

-- a path without a slash is its own last part
last_part-whole : (path : List ℕ) → list_any is_slash path ≡ false → last_part path ≡ path
last_part-whole [] none = refl
last_part-whole (b ∷ path) none = rw none refl

-- the last part is the text after a slash that is followed by no other
last_part-after : (front path : List ℕ) → list_any is_slash path ≡ false → last_part (front ++ 47 ∷ path) ≡ path
last_part-after [] path none = last_part-whole path none
last_part-after (b ∷ front) path none = rw (or_right (is_slash b) _ (slash front)) (last_part-after front path none)
  where
    slash : (front : List ℕ) → list_any is_slash (front ++ 47 ∷ path) ≡ true
    slash [] = refl
    slash (b ∷ front) = or_right (is_slash b) _ (slash front)

pub last_part-none : (path : List ℕ) → RFindsChar 47 path None → path ≡ last_part path
last_part-none path none =
    sym (last_part-whole path (no_slash path (λ i. NoCharPasses-char 47 path i none (omega arith))))

pub last_part-some : (path : List ℕ) (i j : ℕ) → RFindsChar 47 path (Some (i, j)) → drop j path ≡ last_part path
last_part-some path i j (none, at) =
    sym (ap last_part
    (sym (take-append-drop i path) ∙ ap (λ rest. take i path ++ rest) (drop_at_char 47 path i j at (omega arith)))
    ∙ last_part-after (take i path) (drop j path)
    (no_slash (drop j path) (λ k. NoCharPasses-char 47 (drop j path) k none (omega arith))))
