use Rattle.trace_files.proofs.FiledLemmas.{taken_ok}
use Rattle.trace_files.proofs.file_logs.FileLogLog.take.Goals as goal

pub returns-clause-ok : goal.returns-clause-ok
returns-clause-ok g c =
    taken_ok g.S.Write.contents c.write-taken.result c.args.self.now c.write-taken.new.self _ c.args.happening.now
    c.is_err-self-inside.result c.self.view_is c.write-taken.ensures.ok
