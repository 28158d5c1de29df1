use Rattle.initview_command.proofs.Words.{◌++◌, List, drop, map, NamedText, AreFilesAt}
use Rattle.initview_command.proofs.tables.read_named.Given as goal

-- the files read so far, followed by those of the remaining paths, are the files of all paths
abbrev pub invariant-loop-path : goal.invariant-loop-path
invariant-loop-path g l =
    let text_at = g.T.Texts.text_at l.texts in
    (more : List NamedText) → AreFilesAt text_at (map (λ path. path.now) (drop l.path-index l.paths)) more
    → AreFilesAt text_at (map (λ path. path.now) l.paths) (l.parts.items ++ more)
