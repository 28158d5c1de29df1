-- The names that scripts provide and need (LSB Core 5.0). A script is represented by its position in the list, counted
-- from 0.
use Rattle.std.specs.Prelude.{ℕ, ◌+◌, Bool, false, not, ◌==◌, ◌&&◌, if◌then◌else◌, List, [], ◌∷◌, ◌++◌, map, find}
use Rattle.std.specs.Prelude.{Option, Some, None, is_some}
use Rattle.std.specs.List.{list_any, filter_map}
use Rattle.std.specs.Option.{option_or}
use Rattle.std.specs.Str.{bytes_eq}
use Rattle.lsb_header.specs.HeaderText.{HeaderText}
use Rattle.rc_links.specs.declared.needs.Phase.{Phase}
use Rattle.rc_links.specs.declared.needs.Phase.TheVariants as phase
use Rattle.rc_links.specs.ScriptText.{ScriptText}

-- the name is in the list
abbrev pub has_name : List ℕ → List (List ℕ) → Bool
has_name name names = list_any (λ other. bytes_eq name other) names

-- the position of the first script that provides the name; the first script of the list has the given position
abbrev pub position_from : ℕ → List ScriptText → List ℕ → Option ℕ
position_from position [] name = None
position_from position (s ∷ scripts) name =
    if has_name name s.header.provides then Some position else position_from (position + 1) scripts name

-- the position of the first script that provides the name
abbrev pub place_of : List ScriptText → List ℕ → Option ℕ
place_of scripts name = position_from 0 scripts name

-- a script has the name
abbrev pub has_script : List ScriptText → List ℕ → Bool
has_script scripts name = list_any (λ (s : ScriptText). bytes_eq s.name name) scripts

-- the first name that this script and an earlier one both provide; otherwise the script's name, if an earlier script
-- has the same name
abbrev pub doubled : List ScriptText → ScriptText → Option (List ℕ)
doubled before s =
    option_or (find (λ name. is_some (place_of before name)) s.header.provides)
    (if has_script before s.name then Some s.name else None)

-- the first name that two scripts provide, or that two scripts have as their name
abbrev pub double_from : List ScriptText → List ScriptText → Option (List ℕ)
double_from before [] = None
double_from before (s ∷ scripts) = option_or (doubled before s) (double_from (before ++ s ∷ []) scripts)

-- a system name, which begins with '$'
abbrev pub is_system : List ℕ → Bool
is_system [] = false
is_system (b ∷ name) = b == 36

-- the first of the names that is not a system name and that no script provides
abbrev pub missing_in : List ScriptText → List (List ℕ) → Option (List ℕ)
missing_in scripts names = find (λ name. not (is_system name) && not (is_some (place_of scripts name))) names

-- the first name that the script requires and that is missing; the names required for its start come first
abbrev pub missing_of : List ScriptText → ScriptText → Option (List ℕ)
missing_of scripts s =
    option_or (missing_in scripts s.header.required_start) (missing_in scripts s.header.required_stop)

-- the first missing name, script by script
abbrev pub missing_from : List ScriptText → List ScriptText → Option (List ℕ)
missing_from all [] = None
missing_from all (s ∷ scripts) = option_or (missing_of all s) (missing_from all scripts)

-- the positions of the scripts that provide these names
abbrev pub places_of : List ScriptText → List (List ℕ) → List ℕ
places_of scripts names = filter_map (place_of scripts) names

-- the names that a header lists for the start, or for the stop
abbrev pub named : Phase → HeaderText → List (List ℕ)
named phase.Start header = header.required_start ++ header.should_start
named phase.Stop header = header.required_stop ++ header.should_stop

-- the edge (a, b), by which a needs b, when a script names another: for the start, the script needs the other; for the
-- stop, the other needs the script
abbrev pub need : Phase → ℕ → ℕ → ℕ × ℕ
need phase.Start position other = (position, other)
need phase.Stop position other = (other, position)

-- the edges for the names in each script's header; the first script of the list has the given position
abbrev pub needs_from : Phase → List ScriptText → ℕ → List ScriptText → List (ℕ × ℕ)
needs_from turn all position [] = []
needs_from turn all position (s ∷ scripts) =
    map (need turn position) (places_of all (named turn s.header)) ++ needs_from turn all (position + 1) scripts

-- the edges by which the scripts need each other, for the start or for the stop
abbrev pub needs_of : Phase → List ScriptText → List (ℕ × ℕ)
needs_of turn scripts = needs_from turn scripts 0 scripts
