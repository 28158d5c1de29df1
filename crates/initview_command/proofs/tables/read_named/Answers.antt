use Rattle.initview_command.proofs.Words.{[], map, refl, subst, drop_all, AreFilesAt}
use Rattle.std.proofs.lemmas.List.{append-nil}
use Rattle.initview_command.proofs.Files.{next_file}
use Rattle.initview_command.proofs.tables.read_named.Goals as goal

pub loop-path-preserved : goal.loop-path-preserved
loop-path-preserved g c =
    let read = c.in_default.ensures in
    let paths = map (λ path. path.now) c.args.paths.now in
    next_file (g.T.Texts.text_at c.args.texts.now) c.args.paths.now c.loop-path.path-index _ read.0 paths
    c.loop-path.parts.items c.add_file.new.parts.items c.loop-path-test.true read.1 read.2 c.loop-path.invariant

pub returns-clause-files : goal.returns-clause-files
returns-clause-files g c =
    let text_at = g.T.Texts.text_at c.args.texts.now in
    let paths = map (λ path. path.now) c.args.paths.now in
    subst (λ parts. AreFilesAt text_at paths parts) (append-nil c.loop-path.parts.items)
    (c.loop-path.invariant [] (rw (drop_all c.loop-path.path-index c.args.paths.now c.loop-path-test.false) refl))
