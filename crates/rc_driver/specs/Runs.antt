-- The scripts that rc runs when init enters a level, and the state of a run (LSB Core 5.0, System Initialization).
use Rattle.std.specs.Prelude.{ℕ, Bool, true, not, ◌==◌, List, ◌++◌, map}
use Rattle.std.specs.Borrow.{Bor}
use Rattle.rc_driver.specs.declared.runs.Arg.{Arg}
use Rattle.rc_driver.specs.declared.runs.Arg.TheVariants as arg
use Rattle.rc_driver.specs.declared.runs.RcAnswer.{RcAnswer}
use Rattle.rc_driver.specs.declared.runs.RcAnswer.TheVariants as answer
use Rattle.init_words.specs.declared.children.Status.TheVariants as status
use Rattle.rc_driver.specs.Links.{start_links, stop_links}

-- a script to run: the link to it, and its argument
abbrev pub LinkRun : Type 0
LinkRun = List ℕ × Arg

abbrev pub with_arg : Arg → List (List ℕ) → List LinkRun
with_arg given links = map (λ link. (link, given)) links

-- the scripts to run, given the names in the previous folder and the new one: K links with `stop`, then S links with
-- `start`
abbrev pub rc_run : List (List ℕ) → List (List ℕ) → List LinkRun
rc_run previous new = with_arg arg.Stop (stop_links new) ++ with_arg arg.Start (start_links previous new)

-- the texts that names borrow
abbrev pub texts_of : List (Bor (List ℕ)) → List (List ℕ)
texts_of names = map (λ name. name.now) names

-- the scripts of borrowed links
abbrev pub scripts_of : List (Bor (List ℕ) × Arg) → List LinkRun
scripts_of held = map (λ s. (s.0.now, s.1)) held

-- a script failed: it was not started, or did not exit with status 0
abbrev pub is_failure : RcAnswer → Bool
is_failure (answer.Ended (status.Exit code)) = not (code == 0)
is_failure _ = true

-- the scripts that the run has not begun, and whether the last one begun has no answer yet
pub record RcState : Type 0 where
  pub remaining : List LinkRun
  pub waits : Bool
