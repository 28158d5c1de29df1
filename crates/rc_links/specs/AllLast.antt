-- `$all` as a facility: scripts that name it start after all other scripts, and stop before them.
use Rattle.std.specs.Prelude.{ℕ, Bool, ◌||◌, if◌then◌else◌, List, [], ◌∷◌, codes}
use Rattle.std.specs.List.{flat_map, list_any}
use Rattle.lsb_header.specs.HeaderText.{facility_header}
use Rattle.rc_links.specs.declared.needs.Phase.{Phase}
use Rattle.rc_links.specs.declared.needs.Phase.TheVariants as phase
use Rattle.rc_links.specs.ScriptText.{ScriptText}
use Rattle.rc_links.specs.Scripts.{has_name}

abbrev pub has_all : List (List ℕ) → Bool
has_all names = has_name (codes "$all") names

-- the script names `$all` for its start, or for its stop
abbrev pub names_all : Phase → ScriptText → Bool
names_all phase.Start s = has_all s.header.required_start || has_all s.header.should_start
names_all phase.Stop s = has_all s.header.required_stop || has_all s.header.should_stop

-- the names that a script provides, if it does not name `$all`
abbrev pub other_names : Phase → ScriptText → List (List ℕ)
other_names turn s = if names_all turn s then [] else s.header.provides

-- the names provided by the scripts that do not name `$all`; none if no script names `$all`
abbrev pub others : Phase → List ScriptText → List (List ℕ)
others turn scripts = if list_any (names_all turn) scripts then flat_map (other_names turn) scripts else []

-- the facility that provides `$all`
abbrev pub all_facility : List ScriptText → ScriptText
all_facility scripts = record {
  name = codes "$all";
  header = facility_header (codes "$all" ∷ []) (others phase.Start scripts) (others phase.Stop scripts);
}

-- the scripts to plan: with `last`, the facility that provides `$all` comes first, so that scripts that name `$all` run
-- last
abbrev pub with_all : Bool → List ScriptText → List ScriptText
with_all last scripts = if last then all_facility scripts ∷ scripts else scripts
