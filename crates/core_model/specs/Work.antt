-- A bound on the number of steps that init can still take before something else happens: each step decreases it, so
-- init always comes to rest.
use Rattle.std.specs.Prelude.{ℕ, Bool, not, ◌+◌, ◌*◌, if◌then◌else◌, length, filter, Option, Some, None, is_some}
use Rattle.std.specs.Prelude.{is_none}
use Rattle.core_model.specs.Words.{Stage, Sysinit, Boot, Run, is_held, SlotState}
use Rattle.trace_events.specs.CallSets.{news_count}
use Rattle.core_model.specs.State.{CoreState}

-- the number of stages still to come
abbrev pub stages_left : Option Stage → ℕ
stages_left None = 3
stages_left (Some Sysinit) = 2
stages_left (Some Boot) = 1
stages_left (Some (Run level)) = 0

-- the number of stages that may still be entered; a pending request for another level adds at most two
abbrev pub enters_left : CoreState → ℕ
enters_left c = stages_left c.fields.stage + (if is_some c.fields.level_wish then 2 else 0)

-- an order may be given for the record, because none is open
abbrev pub unasked : SlotState → Bool
unasked slot = is_none slot.order

-- the entry of the record is not held, so it may be held
abbrev pub unheld : ℕ → SlotState → Bool
unheld now slot = not (is_held slot.limiter.held now)

-- the steps left in this stage: an order and a hold for each record, the announcement, and the pending calls
abbrev pub work_here : CoreState → ℕ
work_here c =
    length (filter unasked c.slots) + length (filter (unheld c.fields.time) c.slots)
    + (if c.fields.announced then 0 else 1) + news_count c.fields.pending

-- the steps left in all stages
abbrev pub work_left : CoreState → ℕ
work_left c = enters_left c * (2 * length c.slots + 2) + work_here c
