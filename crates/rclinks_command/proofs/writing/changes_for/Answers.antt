use Rattle.rclinks_command.proofs.Words.{◌≡◌, ◌∙◌, sym, subst, targets_of, IsTaken, NeededChanges}
use Rattle.rclinks_command.proofs.WritingLemmas.{in_folders}
use Rattle.rclinks_command.proofs.writing.changes_for.Goals as goal

pub returns-then-branch-clause-taken : goal.returns-then-branch-clause-taken
returns-then-branch-clause-taken g c = λ _.
    let aimed = rw c.as_slice.ensures.value at c.in_ok-targets.ensures in
    let some =
    sym (rw (c.as_slice-2.ensures.value, c.as_slice-3.ensures.value) at c.in_ok-tell_taken.ensures)
    ∙ c.if-branch.true in
    in_folders c.args.line.now.keeps _ _ _ (λ plan. c.in_ok-plan.plan ≡ plan) _
    (λ plan is. subst (IsTaken (g.F.LinkFolders.held c.args.folders.now)
    (g.F.LinkFolders.scripts_in c.args.folders.now) c.args.line.now.prunes c.args.dir.now) is
    (c.in_ok-read.read.items, targets_of c.in_ok-targets.targets.items, c.in_ok-read.ensures, aimed, some))
    c.in_ok-plan.ensures

pub returns-clause-wanted : goal.returns-clause-wanted
returns-clause-wanted g c =
    in_folders c.args.line.now.keeps _ _ _ (λ plan. c.in_ok-plan.plan ≡ plan) _
    (λ plan is. subst (λ plan. NeededChanges (g.F.LinkFolders.held c.args.folders.now) (g.F.LinkFolders.scripts_in
    c.args.folders.now) c.args.line.now.prunes c.args.dir.now plan c.in_ok-changes.field-0.items) is (record {
      folders = c.in_ok-read.read.items;
      targets = targets_of c.in_ok-targets.targets.items;
      are = c.in_ok-read.ensures;
      aimed = rw c.as_slice.ensures.value at c.in_ok-targets.ensures;
      free =
          sym (rw (c.as_slice-2.ensures.value, c.as_slice-3.ensures.value) at c.in_ok-tell_taken.ensures)
          ∙ c.if-branch.false;
      whole = rw (c.as_slice-4.ensures.value, c.as_slice-5.ensures.value) at c.in_ok-changes.ensures.changes;
    })) c.in_ok-plan.ensures
