use Rattle.rc_links.proofs.Words.{◌≡◌, ◌++◌, ℕ, ◌+◌, ◌<◌, length, List, get_or, drop, arith, Level, L0, level_text}
use Rattle.std.proofs.Common.{flat_map}
use Rattle.std.proofs.lemmas.Grind.{common_steps}
use Rattle.rc_links.proofs.plans.Plan.print.Goals as goal

more : (f : Level → List ℕ) (levels : List Level) (position : ℕ) (d : Level) (text new whole : List ℕ)
    → position < length levels → text ++ flat_map f (drop position levels) ≡ whole
    → new ≡ text ++ f (get_or levels position d) → new ++ flat_map f (drop (position + 1) levels) ≡ whole
more f levels position d text new whole below so_far added = grind (arith, common_steps)

pub loop-level-preserved : goal.loop-level-preserved
loop-level-preserved g c =
    more (level_text c.args.self.now) _ c.loop-level.level-index L0 c.loop-level.text.items c.add_lines.new.text.items _
    c.loop-level-test.true c.loop-level.invariant
    (rw (c.as_slice.ensures.value, c.in_ok-links_at.ensures) at c.in_ok-add_lines.ensures)
