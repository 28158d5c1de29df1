use Rattle.rc_driver.proofs.LinkWords.{◌≡◌, ◌++◌, drop, scripts_of, texts_of, with_arg}
use Rattle.rc_driver.proofs.runs.add_scripts.Given as goal

abbrev pub invariant-loop-link : goal.invariant-loop-link
invariant-loop-link g l =
    scripts_of l.scripts.items ++ with_arg l.arg (texts_of (drop l.link-index l.links))
    ≡ scripts_of l.fn.scripts.items ++ with_arg l.arg (texts_of l.links)
