-- A core still obeys the rules after a request, a clock reading and a round.
use Rattle.core_model.proofs.Words.{◌≡◌, ◌≤◌, refl, ap, ◌∙◌, Bool, true, false, not, ◌||◌, cond, ℕ, max, min, Option}
use Rattle.core_model.proofs.Words.{Some, None, is_some, arith, CLOCK_LIMIT, Entry, Level, Stage, same_level}
use Rattle.core_model.proofs.Words.{HeardRequest, Goal, SlotState, after_nudge, order_map, timely_map}
use Rattle.core_model.proofs.Words.{timely_later, is_started, is_level_wish_valid, is_goal_reached, IsFit, CoreState}
use Rattle.core_model.proofs.Words.{after_clock, after_round, fields_after_level, after_got, after_not_read}
use Rattle.core_model.proofs.Words.{after_handed}
use Rattle.core_model.proofs.Words.{after_handed_on}
use Rattle.init_words.specs.declared.stages.Stage.TheVariants as stage
use Rattle.initctl_frame.specs.declared.requests.HeardRequest.TheVariants as got
use Rattle.core_model.proofs.Kept.{rules_of}
use Rattle.core_model.proofs.Each.{each_always, each_less, each_map, distinct_map}
use Rattle.core_model.proofs.Ruled.{all_kept, fields_kept, kept_by}
use Rattle.core_model.proofs.RuledLimits.{limiter_later}
use Rattle.core_model.proofs.RuledStarts.{IsLess, starts_less, free_less}
use Rattle.core_model.proofs.RuledRecord.{IsRuled, stop_same, allowed_same, marks_parts, marks_from}

module _ (c : CoreState) (keeps : IsFit c) where
  -- a request for a level: it becomes the pending request in a runlevel, and the goal in any other stage
  goal_heard : (wish : Goal) → is_goal_reached c.fields.stage wish c.fields.booted ≡ is_goal_reached c.fields.stage
      c.fields.goal c.fields.booted → IsFit (record c { fields = record c.fields { goal = wish; reread = true } })
  goal_heard wish same =
      kept_by (record c { fields = record c.fields { goal = wish; reread = true } }) (all_kept c keeps) (record {
        clock = (rules_of c keeps).clock;
        wish = (rules_of c keeps).wish;
        announced = (rules_of c keeps).announced;
        reached = same ∙ (rules_of c keeps).reached;
      })

  wish_heard : (now : Level) (wish : Goal) → c.fields.stage ≡ Some (stage.Run now) → (b : Bool)
      → same_level wish.level now ≡ b → IsFit (record c {
        fields = cond b (record c.fields { level_wish = None })
            (record c.fields { level_wish = Some wish; reread = true });
      })
  wish_heard now wish is true same =
      kept_by (record c { fields = record c.fields { level_wish = None } }) (all_kept c keeps) (record {
        clock = (rules_of c keeps).clock;
        wish = refl;
        announced = (rules_of c keeps).announced;
        reached = (rules_of c keeps).reached;
      })
  wish_heard now wish is false other = kept_by
      (record c { fields = record c.fields { level_wish = Some wish; reread = true } }) (all_kept c keeps) (record {
        clock = (rules_of c keeps).clock;
        wish = ap (λ o. is_level_wish_valid o (Some wish)) is ∙ ap not other;
        announced = (rules_of c keeps).announced;
        reached = (rules_of c keeps).reached;
      })

  level_heard : (wish : Goal) (o : Option Stage) → c.fields.stage ≡ o
      → IsFit (record c { fields = fields_after_level o wish c.fields })
  level_heard wish o is = grind (arith, goal_heard, wish_heard)

  pub got_keeps : (request : HeardRequest) → IsFit (after_got request c)
  got_keeps (got.Level level grace) = level_heard (record { level = level; grace = grace }) c.fields.stage refl
  got_keeps (got.Call letter) = kept_by (after_got (got.Call letter) c) (all_kept c keeps) (fields_kept c keeps)
  got_keeps got.Reload = kept_by (after_got got.Reload c) (all_kept c keeps) (fields_kept c keeps)
  got_keeps got.Reexec = kept_by (after_got got.Reexec c) (all_kept c keeps) (fields_kept c keeps)
  got_keeps (got.Power kind) = kept_by (after_got (got.Power kind) c) (all_kept c keeps) (fields_kept c keeps)
  got_keeps (got.Nothing cause) = keeps

  -- inittab could not be read, and a hand-over
  pub not_read_keeps : IsFit (after_not_read c)
  not_read_keeps = kept_by (after_not_read c) (all_kept c keeps) (fields_kept c keeps)

  pub handed_keeps : IsFit (after_handed c)
  handed_keeps = kept_by (after_handed c) (all_kept c keeps) (fields_kept c keeps)

  pub handed_on_keeps : IsFit (after_handed_on c)
  handed_on_keeps = kept_by (after_handed_on c) (all_kept c keeps) (fields_kept c keeps)

  -- a clock reading
  later_ruled : (later : ℕ) → c.fields.time ≤ later → (slot : SlotState)
      → IsRuled c.fields.stage c.table c.fields.time slot → IsRuled c.fields.stage c.table later slot
  later_ruled later more slot own = record {
    cause = own.cause;
    birth = own.birth;
    order = own.order;
    stop = own.stop;
    marks = own.marks;
    limiter = limiter_later c.fields.time later more slot own.limiter;
  }

  pub clock_keeps : (reading : ℕ) → IsFit (after_clock reading c)
  clock_keeps reading =
      let ruled = all_kept c keeps in
      let limit : c.fields.time ≤ CLOCK_LIMIT = (rules_of c keeps).clock in
      let more : c.fields.time ≤ max (min reading CLOCK_LIMIT) c.fields.time = omega arith in
      let capped : max (min reading CLOCK_LIMIT) c.fields.time ≤ CLOCK_LIMIT = omega arith in
      kept_by (after_clock reading c) (record {
        each = each_less (IsRuled c.fields.stage c.table c.fields.time)
            (IsRuled c.fields.stage c.table (max (min reading CLOCK_LIMIT) c.fields.time))
            (later_ruled (max (min reading CLOCK_LIMIT) c.fields.time) more) c.slots ruled.each;
        in_order = keeps.in_order;
        distinct = (rules_of c keeps).distinct;
        starts = (rules_of c keeps).starts;
        free = (rules_of c keeps).free;
        timely =
            timely_later c.fields.time (max (min reading CLOCK_LIMIT) c.fields.time) more c.slots
            (rules_of c keeps).timely;
      }) (record {
        clock = capped;
        wish = (rules_of c keeps).wish;
        announced = (rules_of c keeps).announced;
        reached = (rules_of c keeps).reached;
      })

  -- a round
  round_ruled : (slot : SlotState) → IsRuled c.fields.stage c.table c.fields.time slot
      → IsRuled c.fields.stage c.table c.fields.time (after_nudge slot)
  round_ruled slot own =
      let marked = marks_parts slot own.marks in
      record {
        cause = own.cause;
        birth = own.birth;
        order = allowed_same slot.order slot (after_nudge slot) refl refl refl own.order;
        stop = stop_same slot.child c.fields.stage c.table slot (after_nudge slot) slot.stop refl own.stop;
        marks = marks_from (after_nudge slot)
            (record {
              look = looked (is_some slot.child) slot.look marked.look;
              missed = refl;
              called = marked.called;
            });
        limiter = own.limiter;
      }
    where
      looked : (there look : Bool) → (not look || there) ≡ true → (not (there || look) || there) ≡ true
      looked true look h = refl
      looked false look h = h

  pub round_keeps : IsFit (after_round c)
  round_keeps = kept_by (after_round c) (record {
    each = each_map (IsRuled c.fields.stage c.table c.fields.time)
        (IsRuled c.fields.stage c.table c.fields.time) after_nudge round_ruled c.slots (all_kept c keeps).each;
    in_order = order_map after_nudge (λ s. refl) (λ s. refl) c.table c.slots keeps.in_order;
    distinct = distinct_map after_nudge (λ s. refl) c.slots (rules_of c keeps).distinct;
    starts = starts_less c.fields.stage after_nudge c.table c.slots
        (each_always (λ s. is_started (after_nudge s) ≡ true → is_started s ≡ true) (λ s h. h) c.slots)
        (λ now. each_always (λ s. (e : Entry) → IsLess now e s (after_nudge s))
        (λ s e. record { allowed = λ h. h; started = λ h. h; owed = λ h. h }) c.slots) (rules_of c keeps).starts;
    free = free_less after_nudge c.slots (each_always (λ s. is_started (after_nudge s) ≡ true → is_started s
        ≡ true) (λ s h. h) c.slots)
        (each_always (λ s. is_some (after_nudge s).stop ≡ true → is_some s.stop ≡ true)
        (λ s h. h) c.slots) (rules_of c keeps).free;
    timely = timely_map c.fields.time after_nudge (λ s h. h) c.slots (rules_of c keeps).timely;
  }) (fields_kept c keeps)
