-- Tables of names and positions.
use Rattle.std.specs.Prelude.{◌≡◌, ℕ, Bool, List, Option, Some, None, find, is_some, not, ◌&&◌, if◌then◌else◌, map}
use Rattle.std.specs.Borrow.{Bor}
use Rattle.std.specs.List.{filter_map}
use Rattle.std.specs.Option.{option_or}
use Rattle.std.specs.Str.{bytes_eq}
use Rattle.indexmap.specs.IndexMap.{IndexMap, get_by}
use Rattle.rc_links.specs.declared.needs.Phase.{Phase}
use Rattle.rc_links.specs.ScriptText.{ScriptText}
use Rattle.rc_links.specs.Scripts.{has_name, is_system, need, place_of}

-- a table of positions by name
abbrev pub PlaceTable : Type 0 → Type 0
PlaceTable S = IndexMap (Bor (List ℕ)) ℕ S

-- the position for a name in a table
abbrev pub position_in : {S : Type 0} → PlaceTable S → List ℕ → Option ℕ
position_in table name = get_by (λ key. bytes_eq name key.now) table

-- the table has a position for the name
abbrev pub is_known : {S : Type 0} → PlaceTable S → List ℕ → Bool
is_known table name = is_some (position_in table name)

-- the table has the positions of the names that the scripts provide, and no others
abbrev pub HasPlaces : {S : Type 0} → List ScriptText → PlaceTable S → Type 0
HasPlaces scripts table = (name : List ℕ) → position_in table name ≡ place_of scripts name

-- the table is empty
abbrev pub HasNone : {S : Type 0} → PlaceTable S → Type 0
HasNone table = (name : List ℕ) → position_in table name ≡ None

-- this position was set for the name
abbrev pub AddsPlace : {S : Type 0} → PlaceTable S → PlaceTable S → List ℕ → ℕ → Type 0
AddsPlace old new given position =
    (name : List ℕ) → position_in new name ≡ (if bytes_eq given name then Some position else position_in old name)

-- this position was set for each of the names
abbrev pub AddsPlaces : {S : Type 0} → PlaceTable S → PlaceTable S → List (List ℕ) → ℕ → Type 0
AddsPlaces old new given position =
    (name : List ℕ) → position_in new name ≡ (if has_name name given then Some position else position_in old name)

-- the first name that the script provides and that is known; otherwise the script's name, if another script has it
abbrev pub known_again : {S T : Type 0} → PlaceTable S → PlaceTable T → ScriptText → Option (List ℕ)
known_again provided names script =
    option_or (find (λ name. is_known provided name) script.header.provides)
    (if is_known names script.name then Some script.name else None)

-- the name is not one of the system, and no script provides it
abbrev pub is_unknown : {S : Type 0} → PlaceTable S → List ℕ → Bool
is_unknown table name = not (is_system name) && not (is_known table name)

-- the first name that the script requires and that is unknown; the names required for its start come first
abbrev pub unknown_of : {S : Type 0} → PlaceTable S → ScriptText → Option (List ℕ)
unknown_of table script =
    option_or (find (λ name. is_unknown table name) script.header.required_start)
    (find (λ name. is_unknown table name) script.header.required_stop)

-- the edges between the script at this position and the scripts that provide these names
abbrev pub needs_by : {S : Type 0} → Phase → ℕ → PlaceTable S → List (List ℕ) → List (ℕ × ℕ)
needs_by turn position table names = map (need turn position) (filter_map (position_in table) names)
