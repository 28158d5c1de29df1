-- The links of a plan, and the text that lists them (LSB Core 5.0).
use Rattle.std.specs.Prelude.{◌≡◌, ℕ, Vec, ◌+◌, ◌/◌, ◌%◌, Bool, if◌then◌else◌, List, [], ◌∷◌, ◌++◌, map, drop, flat_map}
use Rattle.std.specs.Prelude.{codes}
use Rattle.std.specs.List.{filter, list_any}
use Rattle.std.specs.Str.{byte}
use Rattle.std.specs.Ordering.{nat_cmp, is_lt}
use Rattle.std.specs.Cmp.Lexicographic.{slice_cmp}
use Rattle.init_words.specs.declared.levels.Level.{Level}
use Rattle.init_words.specs.declared.levels.Level.TheVariants.{L0, L1, L2, L3, L4, L5, L6, L7, L8, L9, S}
use Rattle.init_words.specs.Levels.{level_code, same_level}
use Rattle.rc_links.specs.PlannedText.{PlannedText}

-- the level is in the list
abbrev pub has_level : Level → List Level → Bool
has_level level levels = list_any (λ other. same_level other level) levels

-- the name of a link: its letter, its number in two digits and the script's name
abbrev pub link_of : ℕ → ℕ → List ℕ → List ℕ
link_of letter number name = letter ∷ (byte "0" + number / 10 % 10) ∷ (byte "0" + number % 10) ∷ name

-- the name of the script in the name of a link
abbrev pub linked_name : List ℕ → List ℕ
linked_name link = drop 3 link

-- the first text is before the second in byte order
abbrev pub is_before : List ℕ → List ℕ → Bool
is_before a b = is_lt (slice_cmp nat_cmp a b)

-- the sorted texts with one more text, inserted at its place
abbrev pub placed : List ℕ → List (List ℕ) → List (List ℕ)
placed text [] = text ∷ []
placed text (first ∷ texts) = if is_before first text then first ∷ placed text texts else text ∷ first ∷ texts

-- the texts in byte order
abbrev pub in_byte_order : List (List ℕ) → List (List ℕ)
in_byte_order [] = []
in_byte_order (text ∷ texts) = placed text (in_byte_order texts)

-- the links of the scripts that are stopped in the level
abbrev pub stop_links : Level → List PlannedText → List (List ℕ)
stop_links level plan = map (λ s. link_of (byte "K") s.stop s.name) (filter (λ s. has_level level s.stops) plan)

-- the links of the scripts that are started in the level
abbrev pub start_links : Level → List PlannedText → List (List ℕ)
start_links level plan = map (λ s. link_of (byte "S") s.start s.name) (filter (λ s. has_level level s.starts) plan)

-- the links in a level's folder: those that stop services, then those that start services, each group in byte order
abbrev pub links_at : List PlannedText → Level → List (List ℕ)
links_at plan level = in_byte_order (stop_links level plan) ++ in_byte_order (start_links level plan)

-- the line for a link: its path, and its target, ../init.d/NAME
abbrev pub link_line : Level → List ℕ → List ℕ
link_line level link =
    codes "rc" ++ level_code level ∷ codes ".d/" ++ link ++ codes " ../init.d/" ++ linked_name link ++ codes "\n"

-- the lines for a level's folder
abbrev pub level_text : List PlannedText → Level → List ℕ
level_text plan level = flat_map (link_line level) (links_at plan level)

-- the lines for all levels, 0 to 9 and then S
abbrev pub plan_text : List PlannedText → List ℕ
plan_text plan = flat_map (level_text plan) (L0 ∷ L1 ∷ L2 ∷ L3 ∷ L4 ∷ L5 ∷ L6 ∷ L7 ∷ L8 ∷ L9 ∷ S ∷ [])

-- these links, and no others, were appended
abbrev pub AddsLinks : {A : Type 0} → List (Vec ℕ A) → List (Vec ℕ A) → List (List ℕ) → Type 0
AddsLinks old new links = map (λ link. link.items) new ≡ map (λ link. link.items) old ++ links
