use Rattle.rc_links.proofs.Words.{◌≡◌, take, sym, subst, map, AllByRecursion, append-nil, drop_all, changes_of}
use Rattle.rc_links.proofs.Words.{targets_of, kept_script, IsMended, behind}
use Rattle.std.proofs.Common.{flat_map}
use Rattle.rc_links.proofs.MendingLemmas.{all_mended, all_own, kept_stays}
use Rattle.rc_links.proofs.Words.{◌∙◌, ◌+◌, drop, append_assoc}
use Rattle.rc_links.proofs.NameLemmas.{cut_at}
use Rattle.rc_links.proofs.changing.changes.Goals as goal

pub loop-folder-preserved : goal.loop-folder-preserved
loop-folder-preserved g c =
    let all = c.args.folders.now in
    let n = c.loop-folder.folder-index in
    let folder = c.folder-item.result in
    let places = targets_of c.args.targets.now in
    let cut = cut_at all n folder c.loop-folder-test.true c.folder-item.is in
    rw (c.in_ok-add_folder.ensures places c.in_ok-targets.ensures)
    (append_assoc c.loop-folder.found.items (changes_of places folder) (flat_map (changes_of places) (drop (n + 1) all))
    ∙ rw cut.0 at c.loop-folder.invariant)

pub returns : goal.returns
returns g c =
    let past = drop_all c.loop-folder.folder-index c.args.folders.now c.loop-folder-test.false in
    let targets = targets_of c.args.targets.now in
    let folders = c.args.folders.now in
    let all = flat_map (changes_of targets) folders in
    let whole : c.loop-folder.found.items ≡ all = rw append-nil at (rw past at c.loop-folder.invariant) in
    record {
      changes = whole;
      mended = λ apart count.
          subst (λ cs. AllByRecursion (IsMended targets (take count cs)) folders) (sym whole)
          (all_mended targets all count folders (all_own targets folders apart));
      kept = λ apart count s stays.
          subst (λ cs. kept_script (map (behind (take count cs)) folders) s ≡ kept_script folders s) (sym whole)
          (kept_stays targets all count folders s (all_own targets folders apart) stays);
    }
