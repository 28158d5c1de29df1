-- No step and no request changes the generation.
use Rattle.reexec_state.proofs.Words.{◌≡◌, refl, Bool, true, false, cond, Option, Some, None, Stage, same_level}
use Rattle.reexec_state.proofs.Words.{HeardRequest, Goal, Step, Enter, Call, Power, Reread, Order, Hold, Settle}
use Rattle.reexec_state.proofs.Words.{Reexec, Idle, CoreFields, CoreState, after_got, after_step, fields_after_level}
use Rattle.init_words.specs.declared.stages.Stage.TheVariants as stage
use Rattle.initctl_frame.specs.declared.requests.HeardRequest.TheVariants as got

pub step_same : (s : Step) (c : CoreState) → (after_step s c).fields.generation ≡ c.fields.generation
step_same (Enter now grace) c = refl
step_same (Call letter) c = refl
step_same (Power kind) c = refl
step_same (Order id ask) c = refl
step_same (Hold id) c = refl
step_same (Settle level) c = refl
step_same Reread c = refl
step_same Reexec c = refl
step_same Idle c = refl

heard_same : (now : Option Stage) (wish : Goal) (fields : CoreFields)
    → (fields_after_level now wish fields).generation ≡ fields.generation
heard_same (Some (stage.Run level)) wish fields = by (same_level wish.level level)
  where
    by : (b : Bool) → (cond b (record fields { level_wish = None })
        (record fields { level_wish = Some wish; reread = true })).generation ≡ fields.generation
    by true = refl
    by false = refl
heard_same (Some stage.Boot) wish fields = refl
heard_same (Some stage.Sysinit) wish fields = refl
heard_same None wish fields = refl

pub request_same : (request : HeardRequest) (c : CoreState)
    → (after_got request c).fields.generation ≡ c.fields.generation
request_same (got.Level level grace) c = heard_same c.fields.stage (record { level = level; grace = grace }) c.fields
request_same (got.Call letter) c = refl
request_same got.Reload c = refl
request_same got.Reexec c = refl
request_same (got.Power kind) c = refl
request_same (got.Nothing cause) c = refl
