use Rattle.std.proofs.Common.{[]}
use Rattle.trace_pieces.proofs.ListLemmas.{run_pieces}
use Rattle.trace_pieces.proofs.lists.law_of_a_list.Goals as goal

pub returns : goal.returns
returns c = λ list first lengths. run_pieces [] first lengths
