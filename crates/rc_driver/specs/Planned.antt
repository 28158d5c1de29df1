-- A folder with the links of a plan, as rclinks creates and prints them.
use Rattle.std.specs.Prelude.{◌≡◌, ℕ, true, not, List, ◌++◌}
use Rattle.std.specs.List.{AllByRecursion, filter}
use Rattle.std.specs.List.Sorted.{IsPermutation}
use Rattle.init_words.specs.declared.levels.Level.{Level}
use Rattle.rc_links.specs.Links.{links_at, start_links, stop_links}
use Rattle.rc_links.specs.Names.{is_name}
use Rattle.rc_links.specs.PlannedText.{PlannedText}
use Rattle.rc_driver.specs.declared.runs.Arg.TheVariants as arg
use Rattle.rc_driver.specs.Links.{is_skipped, ordered}
use Rattle.rc_driver.specs.Runs.{LinkRun, with_arg}

-- each script of the plan has a name that a link can have
abbrev pub AreNamed : List PlannedText → Type 0
AreNamed plan = AllByRecursion (λ (s : PlannedText). is_name s.name ≡ true) plan

-- the links of a plan that stop services at the level, then the links that start services at the level and are not
-- skipped
abbrev pub plan_run : List PlannedText → Level → List (List ℕ) → List (List ℕ) → List LinkRun
plan_run plan level previous new =
    with_arg arg.Stop (ordered (stop_links level plan))
    ++ with_arg arg.Start (ordered (filter (λ link. not (is_skipped previous new link)) (start_links level plan)))

-- if a folder holds exactly the links of a plan, in any order, rc runs the scripts of `plan_run`
abbrev pub RunsPlans : List (List ℕ) → List (List ℕ) → List LinkRun → Type 0
RunsPlans previous new runs = (plan : List PlannedText) (level : Level) → AreNamed plan
    → IsPermutation (links_at plan level) new → runs ≡ plan_run plan level previous new
