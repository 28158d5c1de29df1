use Rattle.std.proofs.Common.{[], false, refl, arith}
use Rattle.trace_pieces.proofs.ListLemmas.{run_kept}
use Rattle.trace_pieces.proofs.lists.law_of_a_list_that_keeps.Goals as goal

pub returns : goal.returns
returns c = λ list first most lengths. run_kept most [] [] false first lengths (grind arith, refl)
