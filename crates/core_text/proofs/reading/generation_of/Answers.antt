use Rattle.core_text.proofs.CommonWords.{◌∙◌}
use Rattle.core_text.proofs.Prefixes.{generation_said}
use Rattle.core_text.proofs.reading.generation_of.Goals as goal

pub returns-clause-said : goal.returns-clause-said
returns-clause-said c = λ state says. c.second_line.ensures ∙ generation_said c.args.text.now state says
