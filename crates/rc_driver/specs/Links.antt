-- The links in a runlevel's folder, and the links that rc runs (LSB Core 5.0, System Initialization).
use Rattle.std.specs.Prelude.{ℕ, Bool, false, not, ◌==◌, ◌&&◌, List, ◌∷◌}
use Rattle.std.specs.Char.{is_ascii_digit}
use Rattle.std.specs.List.{dedup, filter, list_any}
use Rattle.std.specs.Str.{byte, bytes_eq}
use Rattle.rc_links.specs.Links.{in_byte_order, linked_name}
use Rattle.rc_links.specs.Names.{is_name}

-- the text is a link that begins with the letter, which two digits and a name follow
abbrev pub is_link : ℕ → List ℕ → Bool
is_link letter (first ∷ tens ∷ ones ∷ name) =
    first == letter && is_ascii_digit tens && is_ascii_digit ones && is_name name
is_link letter _ = false

-- `other` is a link that begins with the letter, and has the same name after its digits as `link`
abbrev pub is_link_like : ℕ → List ℕ → List ℕ → Bool
is_link_like letter link other = is_link letter other && bytes_eq (linked_name other) (linked_name link)

-- one of the names is a link that begins with the letter and has the same name after its digits as `link`
abbrev pub has_link : ℕ → List ℕ → List (List ℕ) → Bool
has_link letter link names = list_any (is_link_like letter link) names

-- the link is skipped: the previous level has an S link to the same script, and the new level has no K link to it
abbrev pub is_skipped : List (List ℕ) → List (List ℕ) → List ℕ → Bool
is_skipped previous new link = has_link (byte "S") link previous && not (has_link (byte "K") link new)

-- an S link that is not skipped
abbrev pub is_started : List (List ℕ) → List (List ℕ) → List ℕ → Bool
is_started previous new link = is_link (byte "S") link && not (is_skipped previous new link)

-- links in byte order, without duplicates
abbrev pub ordered : List (List ℕ) → List (List ℕ)
ordered links = dedup bytes_eq (in_byte_order links)

-- the links that rc runs with `stop`: the K links
abbrev pub stop_links : List (List ℕ) → List (List ℕ)
stop_links new = ordered (filter (is_link (byte "K")) new)

-- the links that rc runs with `start`: the S links that are not skipped
abbrev pub start_links : List (List ℕ) → List (List ℕ) → List (List ℕ)
start_links previous new = ordered (filter (is_started previous new) new)
