use Rattle.rclinks_command.proofs.Words.{take, Becomes, changed_by}
use Rattle.rclinks_command.proofs.writing.make_changes.Given as goal

abbrev pub invariant-loop-position : goal.invariant-loop-position
invariant-loop-position g l =
    Becomes (g.F.LinkFolders.held l.fn.folders) (g.F.LinkFolders.held l.folders)
    (changed_by l.dir (take l.position l.changes))
