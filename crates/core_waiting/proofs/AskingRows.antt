-- A worked example of a request for another level, checked by computation (`refl`).
use Rattle.core_waiting.proofs.Words.{◌≡◌, refl, true, List, [], ◌∷◌, ◌++◌, codes, At, Term, NotRead, Enter, Asked, Hit}
use Rattle.core_waiting.proofs.Words.{Told, Got, Event, is_idle, due, is_sound, is_no_level_asked, is_stage_entered}
use Rattle.init_words.specs.declared.actions.Act.TheVariants as act
use Rattle.init_words.specs.declared.levels.Level.TheVariants as level
use Rattle.init_words.specs.declared.stages.Stage.TheVariants as stage
use Rattle.initctl_frame.specs.declared.requests.HeardRequest.TheVariants as got
use Rattle.trace_events.specs.declared.happenings.Happening.TheVariants.{Settle}
use Rattle.trace_events.specs.declared.steps.Step.TheVariants as step
use Rattle.core_waiting.proofs.Rows.{entry, opening, started, entered}

abbrev before : List Event
before = Settle level.L3 ∷ started (codes "r") 6
    ++ entered level.L3 ((entry (codes "r") (At level.L3 ∷ []) act.Respawn) ∷ [])

abbrev asked : List Event
asked = Got (got.Level level.L1 2) ∷ before

abbrev between : List Event
between = Told (codes "r") ∷ Hit (codes "r") ∷ Asked (codes "r") Term ∷ Enter (stage.Run level.L1) 2 ∷ NotRead ∷ []

pub sound : is_sound (opening level.L3) (between ++ asked) ≡ true
sound = refl

pub unasked : is_no_level_asked between ≡ true
unasked = refl

pub rests : due (opening level.L3) (between ++ asked) ≡ []
rests = refl

pub idle : is_idle (between ++ asked) ≡ true
idle = refl

pub leaves : is_stage_entered between ≡ true
leaves = refl

-- before that a step is due, and it is that one
pub due_before : due (opening level.L3) (NotRead ∷ asked) ≡ step.Enter (stage.Run level.L1) 2 ∷ []
due_before = refl
