use Rattle.core_model.proofs.Words.{NewTable, ◌≡◌, true, false, refl, false≢true, Event, is_table, sound_step}
use Rattle.core_model.specs.Fit.{is_act}
use Rattle.core_model.proofs.Hearing.{fits_act}
use Rattle.core_model.proofs.laws.law_of_acts.Goals as goal

no_table : (happening : Event) → is_act happening ≡ true → is_table happening ≡ false
no_table (NewTable table) act = absurd (false≢true act)
no_table _ act = refl

pub returns : goal.returns
returns c goal happening past core act sound fits =
    fits_act goal past core (sound_step goal happening past (no_table happening act) sound).1 fits happening act sound
