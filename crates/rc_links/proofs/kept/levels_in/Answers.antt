use Rattle.rc_links.proofs.Words.{◌∙◌, ◌+◌, drop, sym}
use Rattle.rc_links.proofs.NameLemmas.{cut_at}
use Rattle.rc_links.proofs.SetLemmas.{level_kept, level_passed}
use Rattle.rc_links.proofs.kept.levels_in.Goals.{then-has_link+in_ok-push, else-has_link}
use Rattle.rc_links.proofs.kept.levels_in.Goals as goal

pub loop-level-preserved : goal.loop-level-preserved
loop-level-preserved g c =
    let all = c.args.links.now in
    let n = c.loop-level.level-index in
    let pair = c.loop-level-item.result in
    let cut = cut_at all n pair c.loop-level-test.true c.loop-level-item.is in
    let before = rw cut.0 at c.loop-level.invariant in
    elim c.if-has_link.branch [
      | then-has_link+in_ok-push w ↦ rw (w.levels-is, w.in_ok-push.ensures.items)
          (level_kept c.args.letter c.args.name.now c.loop-level.levels.items pair (drop (n + 1) all)
          (sym c.has_link.ensures ∙ w.if-has_link.true) ∙ before)
      | else-has_link w ↦ rw w.levels-is
          (level_passed c.args.letter c.args.name.now c.loop-level.levels.items pair (drop (n + 1) all)
          (sym c.has_link.ensures ∙ w.if-has_link.false) ∙ before)
    ]
