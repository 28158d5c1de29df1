use Rattle.core_model.proofs.Fitted.{others_fit}
use Rattle.core_model.proofs.laws.law_of_lasts.Goals as goal

pub returns : goal.returns
returns c lasts goal past core fits = others_fit lasts past core goal fits
