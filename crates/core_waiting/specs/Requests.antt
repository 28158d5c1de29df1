-- Definitions for the law that init carries out each request for a level.
use Rattle.std.specs.Prelude.{Bool, true, false, not, List, [], ◌∷◌, Option, Some}
use Rattle.core_waiting.specs.Words.{Level, Stage, Run, same_level, Enter, Got, Event}
use Rattle.initctl_frame.specs.declared.requests.HeardRequest.TheVariants as got

-- no level is requested in the stretch
abbrev pub is_no_level_asked : List Event → Bool
is_no_level_asked [] = true
is_no_level_asked (Got (got.Level level grace) ∷ stretch) = false
is_no_level_asked (happening ∷ stretch) = is_no_level_asked stretch

-- a stage is entered in the stretch
abbrev pub is_stage_entered : List Event → Bool
is_stage_entered [] = false
is_stage_entered (Enter stage grace ∷ stretch) = true
is_stage_entered (happening ∷ stretch) = is_stage_entered stretch

-- this run level is not in force
abbrev pub is_elsewhere : Level → Option Stage → Bool
is_elsewhere level (Some (Run now)) = not (same_level level now)
is_elsewhere level _ = true
