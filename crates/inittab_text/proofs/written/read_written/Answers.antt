use Rattle.std.proofs.lemmas.Result.{IfOk-weaker}
use Rattle.inittab_text.proofs.WriteLemmas.{only_written, found_written, none_written}
use Rattle.inittab_text.proofs.written.read_written.Goals as goal

pub returns-clause-found : goal.returns-clause-found
returns-clause-found g c =
    IfOk-weaker c.table_written.result _ _ (found_written c.args.text.now) c.table_written.ensures

pub returns-clause-only : goal.returns-clause-only
returns-clause-only g c = IfOk-weaker c.table_written.result _ _ (only_written c.args.text.now) c.table_written.ensures

pub returns-clause-none : goal.returns-clause-none
returns-clause-none g c = IfOk-weaker c.table_written.result _ _ (none_written c.args.text.now) c.table_written.ensures
