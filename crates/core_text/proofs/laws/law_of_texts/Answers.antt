use Rattle.core_text.proofs.Prefixes.{one_state}
use Rattle.core_text.proofs.laws.law_of_texts.Goals as goal

pub returns : goal.returns
returns c = one_state
