use Rattle.rclinks_command.proofs.WritingLemmas.{changed-next}
use Rattle.rclinks_command.proofs.writing.make_changes.Goals as goal

pub loop-position-preserved : goal.loop-position-preserved
loop-position-preserved g c =
    changed-next (g.F.LinkFolders.held c.args.folders.now) (g.F.LinkFolders.held c.loop-position.folders)
    (g.F.LinkFolders.held c.change.new.self) c.args.dir.now c.args.changes.now c.loop-position.position
    c.index-changes-position.result
    c.loop-position-test.true c.index-changes-position.is c.loop-position.invariant c.in_default.ensures.done
