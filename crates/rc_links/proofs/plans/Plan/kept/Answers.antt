use Rattle.rc_links.proofs.Words.{◌∙◌, ◌+◌, drop, append_assoc, kept_plan}
use Rattle.rc_links.proofs.NameLemmas.{cut_at}
use Rattle.rc_links.proofs.plans.Plan.kept.Goals as goal

pub loop-script-preserved : goal.loop-script-preserved
loop-script-preserved g c =
    let all = c.deref-script-items.result.now in
    let n = c.loop-script.script-index in
    let script = c.script-item.result in
    let folders = c.args.folders.now in
    let cut = cut_at all n script c.loop-script-test.true c.script-item.is in
    rw (
      c.in_ok-push.ensures.items,
      c.in_ok-kept_script.ensures folders
          (rw c.as_slice.ensures.value c.in_ok-links.ensures),
    )
    (append_assoc c.loop-script.scripts.items _ (kept_plan folders (drop (n + 1) all))
    ∙ rw cut.0 at c.loop-script.invariant)
