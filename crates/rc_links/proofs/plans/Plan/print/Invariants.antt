use Rattle.rc_links.proofs.Words.{◌≡◌, ◌++◌, drop, level_text, plan_text}
use Rattle.std.proofs.Common.{flat_map}
use Rattle.rc_links.proofs.plans.Plan.print.Given as goal

-- the text so far, followed by the lines of the remaining levels, is the whole text
abbrev pub invariant-loop-level : goal.invariant-loop-level
invariant-loop-level g l =
    l.text.items ++ flat_map (level_text l.self) (drop l.level-index l.level-items) ≡ plan_text l.self
