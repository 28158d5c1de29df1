use Rattle.trace_files.proofs.LeftLemmas.{files_left}
use Rattle.trace_files.proofs.laws.law_of_the_files.Goals as goal

pub returns : goal.returns
returns c = λ call goal world trace bytes unwritten. files_left call goal world bytes trace unwritten
