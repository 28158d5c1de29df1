-- If a step is a start, its id is in the table.
use Rattle.supervisor.proofs.Words.{arith, ◌≡◌, refl, subst, ℕ, Bool, true, false, cond, List, [], ◌∷◌, ◌++◌}
use Rattle.supervisor.proofs.Words.{append_assoc, Option, Some, None, is_some, zip, Entry, same_id-self, entry_of, Goal}
use Rattle.supervisor.proofs.Words.{Step, SlotState, is_quiet, CoreState, after_step, or_else, or_idle, level_step}
use Rattle.supervisor.proofs.Words.{news_step, wished_step, wish_step, stands, stop_among, has_excluded, limited_step}
use Rattle.supervisor.proofs.Words.{can_start_record, start_step, is_owed_record, start_along, is_over_among}
use Rattle.supervisor.proofs.Words.{next_stage, enter_step, stage_step, settle_step, can_look_record, look_among}
use Rattle.supervisor.proofs.Words.{calm_step, work_step, first_step, decide_in, decide, is_listed}
use Rattle.init_words.specs.declared.orders.OrderKind.TheVariants as ask
use Rattle.init_words.specs.declared.stages.Stage.{Stage}
use Rattle.init_words.specs.declared.stages.Stage.TheVariants as stage
use Rattle.trace_events.specs.declared.steps.Step.TheVariants as step
use Rattle.trace_events.specs.Wishes.{in_run}
use Rattle.trace_events.specs.declared.call_sets.CallSet.{CallSet}
use Rattle.trace_events.specs.CallSets.{first_pending_step}

module _ (table : List Entry) where
  -- if there is a step, it is listed
  abbrev all_listed : Option Step → Bool
  all_listed None = true
  all_listed (Some made) = is_listed table made

  abbrev Listed : Option Step → Type 0
  Listed o = all_listed o ≡ true

  else_listed : (a b : Option Step) → Listed a → Listed b → Listed (or_else a b)
  else_listed a b one two = grind arith

  idle_listed : (o : Option Step) → Listed o → is_listed table (or_idle o) ≡ true
  idle_listed o h = grind arith

  if_listed : (b : Bool) (x y : Option Step) → Listed x → Listed y → Listed (cond b x y)
  if_listed true x y one two = one
  if_listed false x y one two = two

  level_listed : (booted : Bool) (wish : Option Goal) → Listed (level_step booted wish)
  level_listed booted wish = grind arith

  first_listed : (pending : CallSet) → Listed (first_pending_step pending)
  first_listed pending = grind arith

  stop_listed : (grace now : ℕ) (slots : List SlotState) → Listed (stop_among grace now slots)
  stop_listed grace now [] = grind arith
  stop_listed grace now (slot ∷ slots) = grind (arith, stop_listed grace now slots)

  look_listed : (slots : List SlotState) → Listed (look_among slots)
  look_listed [] = refl
  look_listed (slot ∷ slots) =
      if_listed (can_look_record slot) (Some (step.Order slot.id ask.Look)) (look_among slots) refl (look_listed slots)

  enter_listed : (stage : Option Stage) (grace : ℕ) → Listed (enter_step stage grace)
  enter_listed stage grace = grind arith

  limited_listed : (now : ℕ) (e : Entry) (slot : SlotState) → is_some (entry_of e.id table) ≡ true
      → Listed (limited_step now e slot)
  limited_listed now e slot own = grind arith

entry_there : (before table : List Entry) (e : Entry) → is_some (entry_of e.id (before ++ e ∷ table)) ≡ true
entry_there [] table e = grind (arith, same_id-self)
entry_there (first ∷ before) table e = grind (arith, entry_there before table e, same_id-self)

-- the step found for the rest of the table is listed in the whole table
start_listed : (stage : Stage) (now : ℕ) (before table : List Entry) (slots : List SlotState)
    → Listed (before ++ table) (start_along stage now (zip table slots))
start_listed stage now before [] [] = refl
start_listed stage now before [] (slot ∷ slots) = refl
start_listed stage now before (e ∷ table) [] = refl
start_listed stage now before (e ∷ table) (slot ∷ slots) =
    else_listed (before ++ e ∷ table) (start_step stage now e slot)
    (cond (is_owed_record stage e slot) None (start_along stage now (zip table slots)))
    (if_listed (before ++ e ∷ table) (can_start_record stage e slot) (limited_step now e slot) None
    (limited_listed (before ++ e ∷ table) now e slot (entry_there before table e)) refl)
    (if_listed (before ++ e ∷ table) (is_owed_record stage e slot) None (start_along stage now (zip table slots)) refl
    (subst (λ all. Listed all (start_along stage now (zip table slots))) (append_assoc before (e ∷ []) table)
    (start_listed stage now (before ++ e ∷ []) table slots)))

settle_listed : (c : CoreState) (stage : Stage)
    → Listed c.table (settle_step stage c.fields.announced c.fields.time c.table c.slots)
settle_listed c stage = grind arith

decide_in_listed : (c : CoreState) (stage : Option Stage) → is_listed c.table (decide_in stage c) ≡ true
decide_in_listed c None = idle_listed c.table (first_step c)
    (if_listed c.table (is_quiet c.slots) (Some (step.Enter stage.Sysinit c.fields.goal.grace)) None refl refl)
decide_in_listed c (Some stage) = idle_listed c.table (or_else (wish_step stage c) (or_else (work_step stage c)
    (look_among c.slots))) (else_listed c.table (wish_step stage c) (or_else (work_step stage c) (look_among c.slots))
    wish (else_listed c.table (work_step stage c) (look_among c.slots) work (look_listed c.table c.slots)))
  where
    wished : Listed c.table (wished_step stage c)
    wished = if_listed c.table c.fields.reexec (Some step.Reexec) (cond c.fields.reread (Some step.Reread) (or_else
        (level_step c.fields.booted c.fields.level_wish) (news_step stage c))) refl (if_listed c.table c.fields.reread
        (Some step.Reread) (or_else (level_step c.fields.booted c.fields.level_wish) (news_step stage c)) refl
        (else_listed c.table (level_step c.fields.booted c.fields.level_wish) (news_step stage c)
        (level_listed c.table c.fields.booted c.fields.level_wish)
        (if_listed c.table (in_run (Some stage)) (first_pending_step c.fields.pending) None
        (first_listed c.table c.fields.pending) refl)))

    wish : Listed c.table (wish_step stage c)
    wish = if_listed c.table (is_quiet c.slots) (wished_step stage c) None wished refl

    calm : Listed c.table (calm_step stage c)
    calm = else_listed c.table (start_along stage c.fields.time (zip c.table c.slots)) (or_else (stage_step stage
        c.fields.goal c.table c.slots) (settle_step stage c.fields.announced c.fields.time c.table c.slots))
        (start_listed stage c.fields.time [] c.table c.slots) (else_listed c.table (stage_step stage c.fields.goal
        c.table c.slots) (settle_step stage c.fields.announced c.fields.time c.table c.slots)
        (if_listed c.table (is_over_among stage c.table c.slots)
        (enter_step (next_stage stage c.fields.goal.level) c.fields.goal.grace) None
        (enter_listed c.table (next_stage stage c.fields.goal.level) c.fields.goal.grace) refl)
        (settle_listed c stage))

    work : Listed c.table (work_step stage c)
    work = if_listed c.table (stands stage c) None (or_else (stop_among c.fields.grace c.fields.time c.slots)
        (cond (has_excluded c.slots) None (calm_step stage c))) refl (else_listed c.table
        (stop_among c.fields.grace c.fields.time c.slots) (cond (has_excluded c.slots) None (calm_step stage c))
        (stop_listed c.table c.fields.grace c.fields.time c.slots)
        (if_listed c.table (has_excluded c.slots) None (calm_step stage c) refl calm))

-- the step that the core decides on is listed
pub decide_listed : (c : CoreState) → is_listed c.table (decide c) ≡ true
decide_listed c = decide_in_listed c c.fields.stage

-- a step does not change the table
pub table_kept : (made : Step) (c : CoreState) → (after_step made c).table ≡ c.table
table_kept made c = grind arith
