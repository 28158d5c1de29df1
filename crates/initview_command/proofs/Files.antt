-- Lemmas on reading the files at a list of paths.
use Rattle.initview_command.proofs.Words.{◌≡◌, refl, ℕ, ◌+◌, ◌<◌, ◌≤◌, List, [], ◌∷◌, ◌++◌, Bor, drop, get_or, length}
use Rattle.initview_command.proofs.Words.{map, append_assoc, arith, drop_more, IsTextAt, KnownTexts, NamedText}
use Rattle.initview_command.proofs.Words.{AreFilesAt, old_of}
use Rattle.std.specs.Prelude.{swap}

abbrev pub file_of : List ℕ → List ℕ → NamedText
file_of path text = record { name = path; bytes = text }

-- the file at a path, followed by those at the other paths
pub one_before : (text_at : KnownTexts) (path text : List ℕ) (paths : List (List ℕ)) (others : List NamedText)
    → IsTextAt text_at path text → AreFilesAt text_at paths others
    → AreFilesAt text_at (path ∷ paths) (file_of path text ∷ others)
one_before text_at path text paths others at files = (text, others, refl, at, files)

-- one more file is read
pub one_more : (text_at : KnownTexts) (path text : List ℕ) (paths all : List (List ℕ)) (old new : List NamedText)
    → IsTextAt text_at path text → new ≡ old ++ file_of path text ∷ []
    → ((more : List NamedText) → AreFilesAt text_at (path ∷ paths) more → AreFilesAt text_at all (old ++ more))
    → (more : List NamedText) → AreFilesAt text_at paths more → AreFilesAt text_at all (new ++ more)
one_more text_at path text paths all old new at is so more files =
    rw (is, append_assoc old (file_of path text ∷ []) more)
    (so (file_of path text ∷ more) (one_before text_at path text paths more at files))

-- the same for the path with an index
pub next_file : (text_at : KnownTexts) (paths : List (Bor (List ℕ))) (i : ℕ) (d : Bor (List ℕ)) (text : List ℕ)
    (all : List (List ℕ)) (old new : List NamedText) → i < length paths → IsTextAt text_at (get_or paths i d).now text
    → new ≡ old ++ file_of (get_or paths i d).now text ∷ []
    → ((more : List NamedText) → AreFilesAt text_at (map (λ path. path.now) (drop i paths)) more
    → AreFilesAt text_at all (old ++ more))
    → (more : List NamedText) → AreFilesAt text_at (map (λ path. path.now) (drop (i + 1) paths)) more
    → AreFilesAt text_at all (new ++ more)
next_file text_at paths i d text all old new inside at is so =
    one_more text_at (get_or paths i d).now text (map (λ path. path.now) (drop (i + 1) paths)) all old new at is
    (λ those read. so those (rw (drop_more paths i d inside) read))

-- the old inittab of a diff, with fewer than two files
pub old_short : (parts : List NamedText) → length parts < 2 → parts ≡ old_of parts
old_short [] few = refl
old_short (part ∷ []) few = refl
old_short (part ∷ other ∷ parts) few = absurd (omega (arith, few))

pub old_swapped : (parts : List NamedText) → 2 ≤ length parts → drop 1 (swap parts 0 1) ≡ old_of parts
old_swapped [] many = absurd (omega (arith, many))
old_swapped (part ∷ []) many = absurd (omega (arith, many))
old_swapped (part ∷ other ∷ parts) many = refl
