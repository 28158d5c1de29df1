use Rattle.std.proofs.Common.{inr}
use Rattle.trace_files.specs.Filed.{MayFlush}
use Rattle.trace_files.proofs.FiledLemmas.{still_refl, written_so}
use Rattle.trace_files.proofs.file_logs.FileLog.write.Goals.{then-matches, else-matches}
use Rattle.trace_files.proofs.file_logs.FileLog.write.Goals as goal

pub returns-then-matches-2-clause-ok : goal.returns-then-matches-2-clause-ok
returns-then-matches-2-clause-ok g c =
    let contents = g.S.Write.contents in
    let moves : MayFlush contents c.args.self.now c.if-matches.self = elim c.if-matches.branch [
      | then-matches w ↦ rw w.self-is w.put_away.ensures
      | else-matches w ↦ rw w.self-is (inr (still_refl contents _))
    ] in
    written_so contents _ c.if-matches.self _ _ _ _ moves c.in_default-add.ensures.ok c.tell_waiting.ensures
    c.begin_anew.ensures

pub returns-else-matches-2-clause-ok : goal.returns-else-matches-2-clause-ok
returns-else-matches-2-clause-ok g c =
    let contents = g.S.Write.contents in
    let moves : MayFlush contents c.args.self.now c.if-matches.self = elim c.if-matches.branch [
      | then-matches w ↦ rw w.self-is w.put_away.ensures
      | else-matches w ↦ rw w.self-is (inr (still_refl contents _))
    ] in
    written_so contents _ c.if-matches.self _ _ _ _ moves c.in_default-add.ensures.ok c.tell_waiting.ensures
    (still_refl contents _)
