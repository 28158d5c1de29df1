-- What holds for each kind of step holds for the step that is decided.
use Rattle.core_model.proofs.Words.{arith, ◌≡◌, refl, sym, ap, ◌∙◌, ℕ, Bool, true, false, not, ◌+◌, ◌&&◌, cond, List}
use Rattle.core_model.proofs.Words.{[], ◌∷◌, zip, Option, Some, None, is_none, is_some, nat_le, false≢true, Entry}
use Rattle.core_model.proofs.Words.{Letter, Level, Stage, OrderKind, Start, Look, Term, Kill, PowerKind, is_limited}
use Rattle.core_model.proofs.Words.{may_of, Goal, Step, Reread, Order, Reexec, Idle, in_run, Stop, Due, Termed, Killed}
use Rattle.core_model.proofs.Words.{SlotState, allows, CallSet, first_pending_step, CoreState, or_else, or_idle}
use Rattle.core_model.proofs.Words.{level_step}
use Rattle.core_model.proofs.Words.{news_step, wished_step, stop_step, stop_among, signal_step, limited_step}
use Rattle.core_model.proofs.Words.{start_step, start_along, start_among, stage_step, settle_step, calm_step, work_step}
use Rattle.core_model.proofs.Words.{look_among, can_look_record, can_start_record, is_owed_record, is_over_among}
use Rattle.core_model.proofs.Words.{all_served, has_excluded, stands, decide_in, decide}
use Rattle.init_words.specs.declared.stages.Stage.TheVariants as stage
use Rattle.init_words.specs.declared.levels.Letter.TheVariants as letter
use Rattle.init_words.specs.declared.orders.PowerKind.TheVariants as power
use Rattle.respawn_limit.specs.Window.{is_held}
use Rattle.trace_events.specs.declared.steps.Step.TheVariants.{Enter, Call, Power, Hold, Settle}
use Rattle.core_model.specs.Decide.{is_idle}

-- each kind of step passes the test: an Enter with the seconds of the goal or of the requested level, and a
-- re-execution if one is requested
pub record EachPasses (test : Step → Bool) (c : CoreState) : Type 0 where
  pub orders : (id : List ℕ) (ask : OrderKind) → test (Order id ask) ≡ true
  pub holds : (id : List ℕ) → test (Hold id) ≡ true
  pub settles : (level : Level) → test (Settle level) ≡ true
  pub calls : (called : Letter) → test (Call called) ≡ true
  pub powers : (kind : PowerKind) → test (Power kind) ≡ true
  pub reread : test Reread ≡ true
  pub idle : test Idle ≡ true
  pub reexec : c.fields.reexec ≡ true → test Reexec ≡ true
  pub goal : (now : Stage) → test (Enter now c.fields.goal.grace) ≡ true
  pub wish : (wish : Goal) → c.fields.level_wish ≡ Some wish → (now : Stage) → test (Enter now wish.grace) ≡ true

module _ (test : Step → Bool) (c : CoreState) (each : EachPasses test c) where
  abbrev Pass : Option Step → Type 0
  Pass None = Unit {0}
  Pass (Some step) = test step ≡ true

  by_cond : (b : Bool) (x y : Option Step) → (b ≡ true → Pass x) → Pass y → Pass (cond b x y)
  by_cond true x y hx hy = hx refl
  by_cond false x y hx hy = hy

  by_else : (x y : Option Step) → Pass x → Pass y → Pass (or_else x y)
  by_else None y hx hy = hy
  by_else (Some step) y hx hy = hx

  by_idle : (x : Option Step) → Pass x → test (or_idle x) ≡ true
  by_idle x h = grind arith

  signals : (grace now : ℕ) (id : List ℕ) (stop : Option Stop) → Pass (signal_step grace now id stop)
  signals grace now id (Some Due) = each.orders id Term
  signals grace now id (Some (Termed time)) =
      by_cond (nat_le (time + grace) now) (Some (Order id Kill)) None (λ _. each.orders id Kill) tt
  signals grace now id (Some (Killed time)) = tt
  signals grace now id None = tt

  stops : (grace now : ℕ) (slots : List SlotState) → Pass (stop_among grace now slots)
  stops grace now [] = tt
  stops grace now (slot ∷ slots) = by_else (stop_step grace now slot) (stop_among grace now slots)
      (by_cond (is_some slot.child && is_none slot.order && not slot.missed)
      (signal_step grace now slot.id slot.stop) None (λ _. signals grace now slot.id slot.stop) tt)
      (stops grace now slots)

  limited : (now : ℕ) (e : Entry) (slot : SlotState) → Pass (limited_step now e slot)
  limited now e slot = by_cond (is_limited e.act) (cond (is_held slot.limiter.held now) None
      (Some (cond (allows (may_of slot.limiter now)) (Order e.id Start) (Hold e.id)))) (Some (Order e.id Start))
      (λ _. by_cond (is_held slot.limiter.held now) None (Some (cond (allows (may_of slot.limiter now))
      (Order e.id Start) (Hold e.id))) (λ _. tt) (by (allows (may_of slot.limiter now)))) (each.orders e.id Start)
    where
      by : (b : Bool) → Pass (Some (cond b (Order e.id Start) (Hold e.id)))
      by true = each.orders e.id Start
      by false = each.holds e.id

  starts : (now : Stage) (time : ℕ) (ps : List (Entry × SlotState)) → Pass (start_along now time ps)
  starts now time [] = tt
  starts now time (p ∷ ps) =
      by_else (start_step now time p.0 p.1) (cond (is_owed_record now p.0 p.1) None (start_along now time ps))
      (by_cond (can_start_record now p.0 p.1) (limited_step time p.0 p.1) None (λ _. limited time p.0 p.1) tt)
      (by_cond (is_owed_record now p.0 p.1) None (start_along now time ps) (λ _. tt) (starts now time ps))

  stages : (now : Stage) → Pass (stage_step now c.fields.goal c.table c.slots)
  stages stage.Sysinit = by_cond (is_over_among stage.Sysinit c.table c.slots) (Some (Enter _ c.fields.goal.grace)) None
      (λ _. each.goal _) tt
  stages stage.Boot =
      by_cond (is_over_among stage.Boot c.table c.slots) (Some (Enter _ c.fields.goal.grace)) None (λ _. each.goal _) tt
  stages (stage.Run level) = by_cond (is_over_among (stage.Run level) c.table c.slots) None None (λ _. tt) tt

  settled : (now : Stage) → Pass (settle_step now c.fields.announced c.fields.time c.table c.slots)
  settled stage.Sysinit = tt
  settled stage.Boot = tt
  settled (stage.Run level) = by_cond (not c.fields.announced && is_idle c.slots
      && all_served level c.fields.time c.table c.slots) (Some (Settle level)) None (λ _. each.settles level) tt

  looks : (slots : List SlotState) → Pass (look_among slots)
  looks [] = tt
  looks (slot ∷ slots) = by_cond (can_look_record slot) (Some (Order slot.id Look)) (look_among slots)
      (λ _. each.orders slot.id Look) (looks slots)

  levels : (booted : Bool) (wish : Option Goal)
      → ((w : Goal) → wish ≡ Some w → (now : Stage) → test (Enter now w.grace) ≡ true) → Pass (level_step booted wish)
  levels booted None short = tt
  levels booted (Some wish) short = short wish refl _

  pending : (kept : CallSet) → Pass (first_pending_step kept)
  pending kept = by kept.fail kept.fail_now kept.ok kept.a kept.b kept.c
    where
      by : (fail fail_now ok a b c : Bool)
          → Pass (first_pending_step (record { fail = fail; fail_now = fail_now; ok = ok; a = a; b = b; c = c }))
      by true fail_now ok a b c = each.powers power.Fail
      by false true ok a b c = each.powers power.FailNow
      by false false true a b c = each.powers power.Ok
      by false false false true b c = each.calls letter.A
      by false false false false true c = each.calls letter.B
      by false false false false false true = each.calls letter.C
      by false false false false false false = tt

  wishes : (now : Stage) → Pass (wished_step now c)
  wishes now = by_cond c.fields.reexec (Some Reexec) (cond c.fields.reread (Some Reread)
      (or_else (level_step c.fields.booted c.fields.level_wish) (news_step now c))) each.reexec
      (by_cond c.fields.reread (Some Reread)
      (or_else (level_step c.fields.booted c.fields.level_wish) (news_step now c)) (λ _. each.reread)
      (by_else (level_step c.fields.booted c.fields.level_wish) (news_step now c)
      (levels c.fields.booted c.fields.level_wish each.wish)
      (by_cond (in_run (Some now)) (first_pending_step c.fields.pending) None (λ _. pending c.fields.pending) tt)))

  calm : (now : Stage) → Pass (calm_step now c)
  calm now = by_else (start_among now c.fields.time c.table c.slots) (or_else
      (stage_step now c.fields.goal c.table c.slots) (settle_step now c.fields.announced c.fields.time c.table c.slots))
      (starts now c.fields.time (zip c.table c.slots))
      (by_else (stage_step now c.fields.goal c.table c.slots)
      (settle_step now c.fields.announced c.fields.time c.table c.slots) (stages now) (settled now))

  work : (now : Stage) → Pass (work_step now c)
  work now = by_cond (stands now c) None (or_else (stop_among c.fields.grace c.fields.time c.slots)
      (cond (has_excluded c.slots) None (calm_step now c))) (λ _. tt)
      (by_else (stop_among c.fields.grace c.fields.time c.slots) (cond (has_excluded c.slots) None (calm_step now c))
      (stops c.fields.grace c.fields.time c.slots)
      (by_cond (has_excluded c.slots) None (calm_step now c) (λ _. tt) (calm now)))

  decided_in : (now : Option Stage) → test (decide_in now c) ≡ true
  decided_in now = grind (arith, by_idle, by_cond, by_else, wishes, work, looks)

  pub decided : test (decide c) ≡ true
  decided = decided_in c.fields.stage

-- a re-execution is decided only if it is requested
abbrev is_other : Step → Bool
is_other Reexec = false
is_other _ = true

pub reexec_wished : (c : CoreState) → decide c ≡ Reexec → c.fields.reexec ≡ true
reexec_wished c is = by c.fields.reexec refl
  where
    others : c.fields.reexec ≡ false → EachPasses is_other c
    others none = record {
      orders = λ id ask. refl;
      holds = λ id. refl;
      settles = λ level. refl;
      calls = λ called. refl;
      powers = λ kind. refl;
      reread = refl;
      idle = refl;
      reexec = λ wished. absurd (false≢true (sym none ∙ wished));
      goal = λ now. refl;
      wish = λ wish has now. refl;
    }

    by : (b : Bool) → c.fields.reexec ≡ b → c.fields.reexec ≡ true
    by true wished = wished
    by false none = absurd (false≢true (sym (ap is_other is) ∙ decided is_other c (others none)))
