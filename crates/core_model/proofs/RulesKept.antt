-- A core still obeys the rules after each step of init, and after everything that reaches it.
use Rattle.core_model.proofs.Words.{◌≡◌, refl, sym, ap, ◌∙◌, subst, Bool, true, false, not, ◌&&◌, ◌||◌, cond, ℕ, List}
use Rattle.core_model.proofs.Words.{[], ◌∷◌, zip, Option, Some, None, is_some, is_none, Ok, arith, false≢true}
use Rattle.core_model.proofs.Words.{and_parts, and_from, not-true, Entry, Answer, Start, Look, Term, Kill, Stage}
use Rattle.core_model.proofs.Words.{is_limited, same_level, same_level-self, is_distinct, may_of, Goal, Step, Order}
use Rattle.core_model.proofs.Words.{Reread, Reexec, Idle, in_run, SlotState, allows, can_be_asked, after_order}
use Rattle.core_model.proofs.Words.{with_changed, order_in, refusal_of, first_pending_step, or_else, or_idle}
use Rattle.core_model.proofs.Words.{level_step}
use Rattle.core_model.proofs.Words.{news_step, wished_step, stop_among, has_excluded, is_owed_record, can_start_record}
use Rattle.core_model.proofs.Words.{start_step, start_along, stage_step, settle_step, look_among, work_step, decide_in}
use Rattle.core_model.proofs.Words.{decide, may_follow, are_starts_along, are_starts_in, is_callable, is_goal_reached}
use Rattle.core_model.proofs.Words.{IsFit, CoreState, opening_state, is_boot, wished, is_named, after_step, after_adopt}
use Rattle.init_words.specs.declared.stages.Stage.TheVariants as stage
use Rattle.respawn_limit.specs.Window.{is_held}
use Rattle.trace_events.specs.declared.steps.Step.TheVariants.{Enter, Call, Power, Hold, Settle}
use Rattle.child_table.specs.Lists.{is_quiet}
use Rattle.core_model.specs.Steps.{after_answer_to}
use Rattle.core_model.proofs.Kept.{rules_of}
use Rattle.core_model.proofs.Ruled.{all_kept, fields_kept, kept_by}
use Rattle.core_model.proofs.RuledAsked.{start_all_ruled, child_ruled, hold_ruled}
use Rattle.core_model.proofs.RuledMade.{opening_ruled, entered_ruled, adopted_ruled, called_ruled}
use Rattle.core_model.proofs.RuledTold.{answer_ruled}
use Rattle.core_model.proofs.RuledWalk.{walk_kept}

-- a new core
pub opening_keeps : (table : List Entry) (goal : Goal) → is_distinct table ≡ true → IsFit (opening_state table goal)
opening_keeps table goal distinct = kept_by (opening_state table goal) (opening_ruled table distinct)
    (record { clock = omega arith; wish = refl; announced = refl; reached = refl })

-- what a step that is decided in a stage implies: a stage, a call and an announcement come only where they may, and a
-- start neither follows an owed entry nor comes while a child is excluded
module _ (c : CoreState) (keeps : IsFit c) (now : Stage) (in_stage : c.fields.stage ≡ Some now) where
  abbrev is_lawful : Option Step → Bool
  is_lawful (Some (Order id Start)) = not (has_excluded c.slots)
      && are_starts_along now (zip c.table (with_changed id (after_order Start c.fields.time) c.slots))
  is_lawful (Some (Enter next grace)) = is_quiet c.slots
      && is_goal_reached (Some next) (wished c.fields.level_wish c.fields.goal) (is_boot next || c.fields.booted)
  is_lawful (Some (Call letter)) = is_quiet c.slots
  is_lawful (Some (Power kind)) = is_quiet c.slots
  is_lawful (Some (Settle level)) = in_run (Some now)
  is_lawful _ = true

  lawful_or : (a b : Option Step) → is_lawful a ≡ true → is_lawful b ≡ true → is_lawful (or_else a b) ≡ true
  lawful_or a b ha hb = grind arith

  lawful_if : (b : Bool) (o : Option Step) → (b ≡ true → is_lawful o ≡ true) → is_lawful (cond b o None) ≡ true
  lawful_if true o h = h refl
  lawful_if false o h = refl

  lawful_unless : (b : Bool) (o : Option Step) → (b ≡ false → is_lawful o ≡ true) → is_lawful (cond b None o) ≡ true
  lawful_unless true o h = refl
  lawful_unless false o h = h refl

  -- the pending requests, at a quiet point
  wished_lawful : is_quiet c.slots ≡ true → is_lawful (wished_step now c) ≡ true
  wished_lawful quiet = at c.fields.reexec c.fields.reread
    where
      reached : (wish : Goal) → c.fields.level_wish ≡ Some wish → (b : Bool)
          → is_goal_reached (Some (cond b stage.Boot (stage.Run wish.level))) (wished c.fields.level_wish c.fields.goal)
          (is_boot (cond b stage.Boot (stage.Run wish.level)) || c.fields.booted) ≡ true
      reached wish is true = refl
      reached wish is false =
          ap (λ o. same_level (wished o c.fields.goal).level wish.level) is ∙ same_level-self wish.level

      level : (wish : Option Goal) → c.fields.level_wish ≡ wish → is_lawful (level_step c.fields.booted wish) ≡ true
      level wish is = grind arith

      pending : is_lawful (first_pending_step c.fields.pending) ≡ true
      pending = grind arith

      at : (x r : Bool) → is_lawful (cond x (Some Reexec)
          (cond r (Some Reread) (or_else (level_step c.fields.booted c.fields.level_wish) (news_step now c)))) ≡ true
      at true r = refl
      at false true = refl
      at false false = lawful_or (level_step c.fields.booted c.fields.level_wish) (news_step now c) (level
          c.fields.level_wish refl)
          (lawful_if (in_run (Some now)) (first_pending_step c.fields.pending) (λ run. pending))

  stage_lawful : is_lawful (stage_step now c.fields.goal c.table c.slots) ≡ true
  stage_lawful = grind arith

  settle_lawful : is_lawful (settle_step now c.fields.announced c.fields.time c.table c.slots) ≡ true
  settle_lawful = grind arith

  -- signals and looks
  stops_lawful : (slots : List SlotState) → is_lawful (stop_among c.fields.grace c.fields.time slots) ≡ true
  stops_lawful [] = grind arith
  stops_lawful (slot ∷ slots) = grind (arith, stops_lawful slots)

  looks_lawful : (slots : List SlotState) → is_lawful (look_among slots) ≡ true
  looks_lawful [] = grind arith
  looks_lawful (slot ∷ slots) = grind (arith, looks_lawful slots)

  -- a start, as the walk finds it
  abbrev is_walked : Option Step → Bool
  is_walked None = true
  is_walked (Some (Order id Start)) = true
  is_walked (Some (Hold id)) = true
  is_walked _ = false

  walked_or : (a b : Option Step) → is_walked a ≡ true → is_walked b ≡ true → is_walked (or_else a b) ≡ true
  walked_or a b ha hb = grind arith

  walked : (ps : List (Entry × SlotState)) → is_walked (start_along now c.fields.time ps) ≡ true
  walked [] = refl
  walked (p ∷ ps) = walked_or (start_step now c.fields.time p.0 p.1)
      (cond (is_owed_record now p.0 p.1) None (start_along now c.fields.time ps)) (step (can_start_record now p.0 p.1)
      (is_limited p.0.act) (is_held p.1.limiter.held c.fields.time) (allows (may_of p.1.limiter c.fields.time)))
      (rest (is_owed_record now p.0 p.1) (walked ps))
    where
      step : (b l h a : Bool) → is_walked (cond b (cond l
          (cond h None (Some (cond a (Order p.0.id Start) (Hold p.0.id)))) (Some (Order p.0.id Start))) None) ≡ true
      step true true true a = refl
      step true true false true = refl
      step true true false false = refl
      step true false h a = refl
      step false l h a = refl

      rest : (b : Bool) → is_walked (start_along now c.fields.time ps) ≡ true
          → is_walked (cond b None (start_along now c.fields.time ps)) ≡ true
      rest true h = refl
      rest false h = h

  starts_lawful : has_excluded c.slots ≡ false → is_lawful (start_along now c.fields.time (zip c.table c.slots)) ≡ true
  starts_lawful spared = at (start_along now c.fields.time (zip c.table c.slots)) refl (walked (zip c.table c.slots))
    where
      at : (o : Option Step) → start_along now c.fields.time (zip c.table c.slots) ≡ o → is_walked o ≡ true
          → is_lawful o ≡ true
      at None is h = refl
      at (Some (Order id Start)) is h = and_from (not (has_excluded c.slots))
          (are_starts_along now (zip c.table (with_changed id (after_order Start c.fields.time) c.slots)))
          (ap not spared) (walk_kept now c.fields.time id c.table c.slots keeps.in_order (rules_of c keeps).distinct is
          (sym (ap (λ s. are_starts_in s c.table c.slots) in_stage) ∙ (rules_of c keeps).starts))
      at (Some (Hold id)) is h = refl
      at (Some (Order id Look)) is h = absurd (false≢true h)
      at (Some (Order id Term)) is h = absurd (false≢true h)
      at (Some (Order id Kill)) is h = absurd (false≢true h)
      at (Some (Enter next grace)) is h = absurd (false≢true h)
      at (Some (Call letter)) is h = absurd (false≢true h)
      at (Some (Power kind)) is h = absurd (false≢true h)
      at (Some (Settle level)) is h = absurd (false≢true h)
      at (Some Reread) is h = absurd (false≢true h)
      at (Some Reexec) is h = absurd (false≢true h)
      at (Some Idle) is h = absurd (false≢true h)

  work_lawful : is_lawful (work_step now c) ≡ true
  work_lawful = grind (arith, lawful_unless, lawful_or, stops_lawful, starts_lawful, stage_lawful, settle_lawful)

  idle_lawful : (o : Option Step) → is_lawful o ≡ true → is_lawful (Some (or_idle o)) ≡ true
  idle_lawful o h = grind arith

  decided_lawful : (s : Step) → decide c ≡ s → is_lawful (Some s) ≡ true
  decided_lawful s is = grind (arith, idle_lawful, lawful_or, lawful_if, wished_lawful, work_lawful, looks_lawful)

-- a stage that is entered at a quiet point
entered_keeps : (c : CoreState) → IsFit c → (next : Stage) (grace : ℕ) → is_quiet c.slots ≡ true
    → is_goal_reached (Some next) (wished c.fields.level_wish c.fields.goal) (is_boot next || c.fields.booted) ≡ true
    → IsFit (after_step (Enter next grace) c)
entered_keeps c keeps next grace quiet reached = kept_by (after_step (Enter next grace) c) (entered_ruled c keeps quiet
    next) (record { clock = (rules_of c keeps).clock; wish = refl; announced = refl; reached = reached })

-- an entry that a step names can be called
named_callable : (s : Step) (now : Option Stage) (e : Entry) → is_named s now e ≡ true → is_callable (Some e.act) ≡ true
named_callable s now e h = grind arith

-- a step that was decided
step_in : (c : CoreState) → IsFit c → (now : Stage) → c.fields.stage ≡ Some now → (s : Step) → decide c ≡ s
    → IsFit (after_step s c)
step_in c keeps now in_stage (Enter next grace) is =
    let parts = and_parts (is_quiet c.slots) (is_goal_reached (Some next) (wished c.fields.level_wish c.fields.goal)
    (is_boot next || c.fields.booted)) (decided_lawful c keeps now in_stage (Enter next grace) is) in
    entered_keeps c keeps next grace parts.0 parts.1
step_in c keeps now in_stage (Call letter) is =
    kept_by (after_step (Call letter) c) (called_ruled c keeps (decided_lawful c keeps now in_stage (Call letter) is)
    (is_named (Call letter) c.fields.stage) (named_callable (Call letter) c.fields.stage)) (fields_kept c keeps)
step_in c keeps now in_stage (Power kind) is =
    kept_by (after_step (Power kind) c) (called_ruled c keeps (decided_lawful c keeps now in_stage (Power kind) is)
    (is_named (Power kind) c.fields.stage) (named_callable (Power kind) c.fields.stage)) (fields_kept c keeps)
step_in c keeps now in_stage (Order id Start) is =
    let parts = and_parts (not (has_excluded c.slots)) (are_starts_along now (zip c.table (with_changed id
    (after_order Start c.fields.time) c.slots))) (decided_lawful c keeps now in_stage (Order id Start) is) in
    kept_by (after_step (Order id Start) c)
    (start_all_ruled c keeps id is now in_stage (not-true (has_excluded c.slots) parts.0) parts.1) (fields_kept c keeps)
step_in c keeps now in_stage (Order id Look) is = kept_by (after_step (Order id Look) c) (child_ruled c keeps id Look is
    (λ s h. (and_parts (is_none s.order) (is_some s.child) (and_parts (can_be_asked Look c.fields.time s) true h).0).1)
    (λ s. refl) now in_stage) (fields_kept c keeps)
step_in c keeps now in_stage (Order id Term) is = kept_by (after_step (Order id Term) c) (child_ruled c keeps id Term is
    (λ s h. (and_parts (is_none s.order) (is_some s.child) (and_parts (can_be_asked Term c.fields.time s)
    (may_follow Term s.stop) h).0).1) (λ s. refl) now in_stage) (fields_kept c keeps)
step_in c keeps now in_stage (Order id Kill) is = kept_by (after_step (Order id Kill) c) (child_ruled c keeps id Kill is
    (λ s h. (and_parts (is_none s.order) (is_some s.child) (and_parts (can_be_asked Kill c.fields.time s)
    (may_follow Kill s.stop) h).0).1) (λ s. refl) now in_stage) (fields_kept c keeps)
step_in c keeps now in_stage (Hold id) is =
    kept_by (after_step (Hold id) c) (hold_ruled c keeps id is now in_stage) (fields_kept c keeps)
step_in c keeps now in_stage (Settle level) is = kept_by (after_step (Settle level) c) (all_kept c keeps) (record {
  clock = (rules_of c keeps).clock;
  wish = (rules_of c keeps).wish;
  announced = ap in_run in_stage ∙ decided_lawful c keeps now in_stage (Settle level) is;
  reached = (rules_of c keeps).reached;
})
step_in c keeps now in_stage _ is = keeps

pub step_keeps : (c : CoreState) → IsFit c → (s : Step) → decide c ≡ s → IsFit (after_step s c)
step_keeps c keeps s is = at c.fields.stage refl
  where
    first : c.fields.stage ≡ None → (b : Bool) → is_quiet c.slots ≡ b
        → IsFit (after_step (or_idle (cond b (Some (Enter stage.Sysinit c.fields.goal.grace)) None)) c)
    first before true quiet = entered_keeps c keeps stage.Sysinit c.fields.goal.grace quiet
        (sym (ap (λ o. is_goal_reached o c.fields.goal c.fields.booted) before) ∙ (rules_of c keeps).reached)
    first before false busy = keeps

    at : (o : Option Stage) → c.fields.stage ≡ o → IsFit (after_step s c)
    at None before = subst (λ x. IsFit (after_step x c)) (sym (ap (λ o. decide_in o c) before) ∙ is)
        (first before (is_quiet c.slots) refl)
    at (Some now) in_stage = step_in c keeps now in_stage s is

-- an answer that is accepted
pub told_keeps : (c : CoreState) → IsFit c → (id : List ℕ) (answer : Answer)
    → refusal_of (order_in id c.slots) answer ≡ Ok tt → IsFit (after_answer_to id answer c)
told_keeps c keeps id answer taken =
    kept_by (after_answer_to id answer c) (answer_ruled c keeps id answer taken) (fields_kept c keeps)

-- another table, at a quiet point
pub adopt_keeps : (c : CoreState) → IsFit c → is_quiet c.slots ≡ true → (table : List Entry) → is_distinct table ≡ true
    → IsFit (after_adopt table c)
adopt_keeps c keeps quiet table distinct =
    kept_by (after_adopt table c) (adopted_ruled c keeps quiet table distinct) (record {
      clock = (rules_of c keeps).clock;
      wish = (rules_of c keeps).wish;
      announced = refl;
      reached = (rules_of c keeps).reached;
    })
