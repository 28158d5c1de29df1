-- The changes to the entries in a level when another inittab replaces the one in force (inittab(5), init(8)).
use Rattle.std.specs.Prelude.{ℕ, Bool, false, ◌&&◌, if◌then◌else◌, List, ◌∷◌, ◌++◌, filter, map, Option, Some, None}
use Rattle.std.specs.Prelude.{is_none}
use Rattle.std.specs.List.{list_any}
use Rattle.std.specs.Option.{option_map}
use Rattle.std.specs.Str.{bytes_eq}
use Rattle.initview_lines.specs.CommonWords.{Act, Entry, Level, entry_of, may_live, is_started, stages_to}
use Rattle.init_words.specs.declared.stages.Stage.TheVariants.{Run}
use Rattle.init_words.specs.Entries.{lives_of}
use Rattle.initview_lines.specs.declared.changes.Change.{Change}
use Rattle.initview_lines.specs.declared.changes.Change.TheVariants.{Keep, NextStart, Stop, StopStart, Start}
use Rattle.initview_lines.specs.declared.changes.Change.TheVariants.{NotHere}
use Rattle.initview_lines.specs.declared.lines.Line.{Line}
use Rattle.initview_lines.specs.declared.lines.Line.TheVariants as line

-- the entry exists, and init starts it in the level without any request
abbrev pub starts_there : Level → Option Entry → Bool
starts_there level None = false
starts_there level (Some e) = is_started (Run level) e

-- the entry has a child: a stage on the way to the level starts it without any request, and its child may live there
abbrev pub is_there : Level → Option Entry → Bool
is_there level None = false
is_there level (Some e) = list_any (λ stage. is_started stage e) (stages_to level) && lives_of e (Run level)

-- the action of an entry, if there is one
abbrev pub act_there : Option Entry → Option Act
act_there entry = option_map (λ (e : Entry). e.act) entry

-- both entries have the same process
abbrev pub same_process : Option Entry → Option Entry → Bool
same_process (Some old) (Some new) = bytes_eq old.process.items new.process.items
same_process _ _ = false

-- Init keeps a child that may live under the new inittab; if its process field has changed, the next start uses the new
-- one. Init stops a child that may not live, and starts the entry again if it starts in the level. Init starts an entry
-- without a child if it starts in the level.
abbrev pub change_in : Level → Option Entry → Option Entry → Change
change_in level old new =
    if is_there level old then
    if may_live new (act_there old) (Some (Run level)) then (if same_process old new then Keep else NextStart)
    else (if starts_there level new then StopStart else Stop)
    else (if starts_there level new then Start else NotHere)

-- the line for an id: its action in the new inittab, and its change
abbrev pub change_line : Level → List Entry → List Entry → List ℕ → Line
change_line level old new id =
    line.Change id (act_there (entry_of id new)) (change_in level (entry_of id old) (entry_of id new)) None

abbrev pub entry_change : Level → List Entry → List Entry → Entry → Line
entry_change level old new e = change_line level old new e.id

-- a table has no entry with the id
abbrev pub is_gone : List Entry → Entry → Bool
is_gone table e = is_none (entry_of e.id table)

-- the lines for the level, for the entries of the new inittab in order, and for the old entries that it lacks
abbrev pub changes_in : Level → List Entry → List Entry → List Line
changes_in level old new =
    line.Stage (Some (Run level)) ∷ map (entry_change level old new) (new ++ filter (is_gone new) old)
