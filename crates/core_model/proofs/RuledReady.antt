-- A record at a quiet point still obeys the rules after it was judged by a stage, and after a table was adopted.
use Rattle.core_model.proofs.Words.{arith, ◌≡◌, refl, sym, ap, ◌∙◌, Bool, true, false, not, ◌||◌, cond, ℕ, List, Option}
use Rattle.core_model.proofs.Words.{Some, None, is_some, is_none, option_or, and_parts, unused, Entry, Stage}
use Rattle.core_model.proofs.Words.{is_limited, entry_of, KnownChild, Stop, Due, SlotState, new_record}
use Rattle.core_model.proofs.Words.{is_limited_record, adopted, left_over, is_left_over, after_enter, judged}
use Rattle.core_model.proofs.Words.{judged_child, after_judge, is_busy, order-after_judge, has_cause, is_birth_known}
use Rattle.core_model.proofs.Words.{is_order_allowed, is_child_excluded, is_stop_judged, may_be_signalled}
use Rattle.core_model.proofs.Words.{is_limit_kept, is_unused, is_limiter_consistent}
use Rattle.child_table.specs.Judging.{is_excluded}
use Rattle.core_model.proofs.RuledRecord.{IsRuled, IsMarked, marks_parts, marks_from, calm_order, stop_childless}

-- a record at a quiet point, which a stage can judge
pub record IsReady (now : ℕ) (slot : SlotState) : Type 0 where
  pub cause : has_cause slot ≡ true
  pub birth : is_birth_known slot.child ≡ true
  pub calm : is_busy slot.order ≡ false
  pub order : is_order_allowed slot ≡ true
  pub childless : (is_some slot.child || is_none slot.stop) ≡ true
  pub marks : IsMarked slot
  pub limiter : is_limiter_consistent now slot ≡ true

abbrev pub IsCalm : Option Stage → List Entry → ℕ → SlotState → Type 0
IsCalm stage table now slot = IsRuled stage table now slot × (is_busy slot.order ≡ false)

pub judged_ruled : (stage : Stage) (table : List Entry) (now : ℕ) (slot : SlotState) → IsReady now slot
    → IsCalm (Some stage) table now (after_judge table stage slot)
judged_ruled stage table now slot ready =
    (by_child slot.child refl, ap is_busy (order-after_judge table stage slot) ∙ ready.calm)
  where
    begun : (stop : Option Stop) → is_some (option_or stop (Some Due)) ≡ true
    begun stop = grind arith

    signalled : (m : Bool) (stop : Option Stop) → (not m || may_be_signalled stop) ≡ true
        → (not m || may_be_signalled (option_or stop (Some Due))) ≡ true
    signalled m stop h = grind arith

    by : (child : KnownChild) → slot.child ≡ Some child → (b : Bool)
        → is_excluded stage child.act (entry_of slot.id table) ≡ b → IsRuled (Some stage) table now (judged b slot)
    by child is true excluded = record {
      cause = ready.cause;
      birth = ready.birth;
      order = calm_order slot.order slot (judged true slot) ready.calm refl ready.order;
      stop = ap (λ o. cond (is_child_excluded (Some stage) table slot o) (is_some (option_or slot.stop (Some Due)))
          (is_none (option_or slot.stop (Some Due)))) is ∙ ap (λ b. cond b (is_some (option_or slot.stop (Some Due)))
          (is_none (option_or slot.stop (Some Due)))) excluded ∙ begun slot.stop;
      marks = marks_from (judged true slot) (record {
        look = ready.marks.look;
        missed = signalled slot.missed slot.stop ready.marks.missed;
        called = ready.marks.called;
      });
      limiter = ready.limiter;
    }
    by child is false spared = record {
      cause = ready.cause;
      birth = ready.birth;
      order = calm_order slot.order slot (judged false slot) ready.calm refl ready.order;
      stop =
          ap (λ o. cond (is_child_excluded (Some stage) table slot o) false true) is
          ∙ ap (λ b. cond b false true) spared;
      marks =
          marks_from (judged false slot)
          (record { look = ready.marks.look; missed = refl; called = ready.marks.called });
      limiter = ready.limiter;
    }

    by_child : (o : Option KnownChild) → slot.child ≡ o
        → IsRuled (Some stage) table now (judged_child stage table o slot)
    by_child None is = record {
      cause = ready.cause;
      birth = ready.birth;
      order = ready.order;
      stop = ap (λ o. cond (is_child_excluded (Some stage) table slot o) (is_some slot.stop) (is_none slot.stop)) is
          ∙ sym (ap (λ o. is_some o || is_none slot.stop) is) ∙ ready.childless;
      marks = marks_from slot ready.marks;
      limiter = ready.limiter;
    }
    by_child (Some child) is = by child is (is_excluded stage child.act (entry_of slot.id table)) refl

-- an unused limiter
fresh_limiter : (now : ℕ) (limited : Bool) → cond limited (is_limit_kept now unused) (is_unused unused) ≡ true
fresh_limiter now true = refl
fresh_limiter now false = refl

-- the records at a quiet point, ready for a stage: as they are, of an entry of the table, and without an entry
pub ready_enter : (stage : Option Stage) (table : List Entry) (now : ℕ) (slot : SlotState)
    → IsCalm stage table now slot → IsReady now (after_enter slot)
ready_enter stage table now slot calm =
    let marked = marks_parts slot calm.0.marks in
    record {
      cause = calm.0.cause;
      birth = calm.0.birth;
      calm = calm.1;
      order = calm_order slot.order slot (after_enter slot) calm.1 refl calm.0.order;
      childless = stop_childless stage table slot calm.0.stop;
      marks = record { look = marked.look; missed = marked.missed; called = refl };
      limiter = fresh_limiter now (is_limited_record slot);
    }

pub ready_new : (now : ℕ) (e : Entry) → IsReady now (new_record e)
ready_new now e = record {
  cause = refl;
  birth = refl;
  calm = refl;
  order = refl;
  childless = refl;
  marks = record { look = refl; missed = refl; called = refl };
  limiter = fresh_limiter now (is_limited e.act);
}

pub ready_adopted : (stage : Option Stage) (table : List Entry) (now : ℕ) (e : Entry) (slot : SlotState)
    → IsCalm stage table now slot → IsReady now (adopted e (Some slot))
ready_adopted stage table now e slot calm =
    let marked = marks_parts slot calm.0.marks in
    record {
      cause = refl;
      birth = calm.0.birth;
      calm = calm.1;
      order = calm_order slot.order slot (adopted e (Some slot)) calm.1 refl calm.0.order;
      childless = stop_childless stage table slot calm.0.stop;
      marks = record { look = marked.look; missed = marked.missed; called = refl };
      limiter = fresh_limiter now (is_limited e.act);
    }

pub ready_left : (stage : Option Stage) (table next : List Entry) (now : ℕ) (slot : SlotState)
    → is_left_over next slot ≡ true → IsCalm stage table now slot → IsReady now (left_over slot)
ready_left stage table next now slot left calm =
    let marked = marks_parts slot calm.0.marks in
    record {
      cause = (and_parts (is_some slot.child) (is_none (entry_of slot.id next)) left).0;
      birth = calm.0.birth;
      calm = calm.1;
      order = calm_order slot.order slot (left_over slot) calm.1 refl calm.0.order;
      childless = stop_childless stage table slot calm.0.stop;
      marks = record { look = marked.look; missed = marked.missed; called = refl };
      limiter = refl;
    }

-- before the first stage, each child stays excluded
pub dawn_stop : (o : Option KnownChild) (table next : List Entry) (before after : SlotState) (stop : Option Stop)
    → cond (is_child_excluded None table before o) (is_some stop) (is_none stop) ≡ true
    → cond (is_child_excluded None next after o) (is_some stop) (is_none stop) ≡ true
dawn_stop o table next before after stop h = grind arith

pub dawn_ruled : (table : List Entry) (now : ℕ) (slot : SlotState) → IsReady now slot
    → is_stop_judged None table slot ≡ true → IsCalm None table now slot
dawn_ruled table now slot ready stop = (
  record {
    cause = ready.cause;
    birth = ready.birth;
    order = ready.order;
    stop = stop;
    marks = marks_from slot ready.marks;
    limiter = ready.limiter;
  },
  ready.calm,
)
