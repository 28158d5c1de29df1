use Rattle.core_text.proofs.Ends.{no_prefix, whole_ends}
use Rattle.core_text.proofs.laws.law_of_prefixes.Goals as goal

pub returns-clause-whole : goal.returns-clause-whole
returns-clause-whole c = whole_ends

pub returns-clause-said : goal.returns-clause-said
returns-clause-said c = λ text more one two. no_prefix one two text more
