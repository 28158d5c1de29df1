-- The scripts that sysv-rc runs when init enters a level.
use Rattle.std.specs.Prelude.{ℕ, Bool, true, false, not, ◌&&◌, List, [], ◌++◌, Option, Some, None}
use Rattle.std.specs.List.{filter}
use Rattle.std.specs.Str.{byte}
use Rattle.init_words.specs.declared.levels.Level.{Level}
use Rattle.init_words.specs.declared.levels.Level.TheVariants.{L0, L6}
use Rattle.rc_driver.specs.declared.runs.Arg.TheVariants as arg
use Rattle.rc_driver.specs.declared.runs.LevelChange.{LevelChange}
use Rattle.rc_driver.specs.Links.{has_link, is_link, ordered, start_links}
use Rattle.rc_driver.specs.Runs.{LinkRun, rc_run, with_arg}

-- the previous level had stopped the link's service: it has a K link to the same script, and no S link
abbrev pub was_stopped : List (List ℕ) → List ℕ → Bool
was_stopped previous link = has_link (byte "K") link previous && not (has_link (byte "S") link previous)

-- a link that begins with the letter, and whose service the previous level had not stopped
abbrev pub is_stopping : ℕ → List (List ℕ) → List ℕ → Bool
is_stopping letter previous link = is_link letter link && not (was_stopped previous link)

-- the links that begin with the letter and are run with `stop`
abbrev pub stopping_links : ℕ → List (List ℕ) → List (List ℕ) → List (List ℕ)
stopping_links letter previous new = ordered (filter (is_stopping letter previous) new)

-- the level is one in which the machine is halted or rebooted
abbrev pub is_halt : Level → Bool
is_halt L0 = true
is_halt L6 = true
is_halt _ = false

-- sysv-rc runs the K links with `stop`, if there was a previous level
abbrev pub sysv_stops : Option Level → List (List ℕ) → List (List ℕ) → List LinkRun
sysv_stops None previous new = []
sysv_stops (Some before) previous new = with_arg arg.Stop (stopping_links (byte "K") previous new)

-- sysv-rc runs the S links with `start`, or in levels 0 and 6 with `stop`
abbrev pub sysv_starts : Bool → List (List ℕ) → List (List ℕ) → List LinkRun
sysv_starts true previous new = with_arg arg.Stop (stopping_links (byte "S") previous new)
sysv_starts false previous new = with_arg arg.Start (start_links previous new)

-- the scripts that sysv-rc runs
abbrev pub sysv_run : LevelChange → List (List ℕ) → List (List ℕ) → List LinkRun
sysv_run change previous new = sysv_stops change.before previous new ++ sysv_starts (is_halt change.new) previous new

-- the scripts to run, given the names in the previous folder and the new one; if a change of level is given, they are
-- those that sysv-rc runs
abbrev pub scripts_by : Option LevelChange → List (List ℕ) → List (List ℕ) → List LinkRun
scripts_by None previous new = rc_run previous new
scripts_by (Some change) previous new = sysv_run change previous new
