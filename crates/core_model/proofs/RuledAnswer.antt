-- A record still obeys the rules when its order is answered.
use Rattle.core_model.proofs.Words.{arith, ◌≡◌, refl, sym, ap, ◌∙◌, subst, Bool, true, false, not, ◌&&◌, ◌||◌, cond, ℕ}
use Rattle.core_model.proofs.Words.{List, Option, Some, None, is_some, is_none, false≢true, and_parts, Status, Entry}
use Rattle.core_model.proofs.Words.{OrderKind, Start, Look, Term, Kill, Answer, Stage, answers, or_true, or_false}
use Rattle.core_model.proofs.Words.{is_order, Stop, Termed, Killed, SlotState, after_hit, after_answer, is_over}
use Rattle.core_model.proofs.Words.{may_follow, allows_order, is_started, is_child_excluded, may_be_signalled}
use Rattle.init_words.specs.declared.orders.Answer.TheVariants.{Born, NotBorn, Ended, Alive, NoLook, Hit, Miss}
use Rattle.core_model.proofs.Ruled.{IsPlaced}
use Rattle.core_model.proofs.RuledRecord.{IsRuled, excluded_same, stop_same, marks_parts, marks_from, stop_childless}

-- the answer is one to the open order
abbrev pub is_answered : Answer → Option OrderKind → Bool
is_answered answer None = false
is_answered answer (Some ask) = answers answer ask

-- a child with an open signal may be sent one, so it is excluded
signalled : (ask : OrderKind) (stop : Option Stop) → may_follow ask stop ≡ true → may_be_signalled stop ≡ true
signalled ask stop h = grind arith

stopped : (stop : Option Stop) → may_be_signalled stop ≡ true → is_some stop ≡ true
stopped stop h = grind arith

excluded_stop : (x : Bool) (stop : Option Stop) → is_some stop ≡ true → cond x (is_some stop) (is_none stop) ≡ true
    → cond x true false ≡ true
excluded_stop true stop some h = refl
excluded_stop false None some h = absurd (false≢true some)
excluded_stop false (Some stop) some h = h

some_from : {X : Type 0} (o : Option X) → is_none o ≡ false → is_some o ≡ true
some_from o h = grind arith

none_from : {X Y : Type 0} (o : Option X) (p : Option Y) → is_none o ≡ true → (is_some o || is_none p) ≡ true → p ≡ None
none_from o p h k = grind arith

-- one record, when its order is answered
module _ (stage : Option Stage) (table : List Entry) (now : ℕ) (slot : SlotState)
    (placed : IsPlaced stage table now slot) where
  -- what the rules say about its open order
  allowed : (ask : OrderKind) → slot.order ≡ Some ask → allows_order (Some ask) slot ≡ true
  allowed ask is = sym (ap (λ o. allows_order o slot) is) ∙ placed.rules.order

  -- the answer only ends the order
  rest_ruled : (after : SlotState) → after ≡ record slot { order = None } → IsRuled stage table now after
  rest_ruled after is = subst (IsRuled stage table now) (sym is) (record {
    cause = placed.rules.cause;
    birth = placed.rules.birth;
    order = refl;
    stop = stop_same slot.child stage table slot (record slot { order = None }) slot.stop refl placed.rules.stop;
    marks = placed.rules.marks;
    limiter = placed.rules.limiter;
  })

  born_ruled : (n : ℕ) → slot.order ≡ Some Start → IsRuled stage table now (after_answer (Born n) now slot)
  born_ruled n is =
      let marked = marks_parts slot placed.rules.marks in
      let may = and_parts (is_some slot.table_act) (is_none slot.child) (allowed Start is) in
      let none : slot.stop ≡ None =
      none_from slot.child slot.stop may.1 (stop_childless stage table slot placed.rules.stop) in
      record {
        cause = or_true (is_some slot.table_act);
        birth = may.0;
        order = refl;
        stop = ap (λ b. cond b false true) (placed.start (ap (is_order Start) is));
        marks = marks_from (after_answer (Born n) now slot) (record {
          look = refl;
          missed = sym (ap (λ o. not slot.missed || may_be_signalled o) none) ∙ marked.missed;
          called = marked.called;
        });
        limiter = placed.rules.limiter;
      }

  ended_ruled : (status : Status) (after : SlotState) → after
      ≡ record slot { order = None; child = None; stop = None; look = false; missed = false; last = Some status }
      → is_none slot.table_act ≡ false → IsRuled stage table now after
  ended_ruled status after is stays =
      let marked = marks_parts slot placed.rules.marks in
      let left : SlotState =
      record slot { order = None; child = None; stop = None; look = false; missed = false; last = Some status } in
      subst (IsRuled stage table now) (sym is) (record {
        cause = or_false (is_some slot.table_act) ∙ some_from slot.table_act stays;
        birth = refl;
        order = refl;
        stop = refl;
        marks = marks_from left (record { look = refl; missed = refl; called = marked.called });
        limiter = placed.rules.limiter;
      })

  -- a signal was sent, or could not be
  hit_ruled : (stop : Option Stop) → is_some stop ≡ true → is_some slot.stop ≡ true
      → IsRuled stage table now (record slot { order = None; stop = stop; missed = false })
  hit_ruled stop new old =
      let marked = marks_parts slot placed.rules.marks in
      let after : SlotState = record slot { order = None; stop = stop; missed = false } in
      record {
        cause = placed.rules.cause;
        birth = placed.rules.birth;
        order = refl;
        stop = by (is_child_excluded stage table after slot.child) stop new
            (ap (λ b. cond b true false) (sym (excluded_same slot.child stage table slot after refl))
            ∙ excluded_stop (is_child_excluded stage table slot slot.child) slot.stop old placed.rules.stop);
        marks = marks_from after (record { look = marked.look; missed = refl; called = marked.called });
        limiter = placed.rules.limiter;
      }
    where
      by : (x : Bool) (s : Option Stop) → is_some s ≡ true → cond x true false ≡ true
          → cond x (is_some s) (is_none s) ≡ true
      by x s some h = grind arith

  signal_stop : (ask : OrderKind) → (is_some slot.child && may_follow ask slot.stop) ≡ true
      → may_be_signalled slot.stop ≡ true
  signal_stop ask may = signalled ask slot.stop (and_parts (is_some slot.child) (may_follow ask slot.stop) may).1

  hit_by : (o : Option OrderKind) → slot.order ≡ o → is_answered Hit o ≡ true
      → IsRuled stage table now (record slot { order = None; stop = after_hit o now slot.stop; missed = false })
  hit_by None is h = absurd (false≢true h)
  hit_by (Some Start) is h = absurd (false≢true h)
  hit_by (Some Look) is h = absurd (false≢true h)
  hit_by (Some Term) is h = hit_ruled (Some (Termed now)) refl (stopped slot.stop (signal_stop Term (allowed Term is)))
  hit_by (Some Kill) is h = hit_ruled (Some (Killed now)) refl (stopped slot.stop (signal_stop Kill (allowed Kill is)))

  miss_ruled : may_be_signalled slot.stop ≡ true → IsRuled stage table now (record slot { order = None; missed = true })
  miss_ruled may =
      let marked = marks_parts slot placed.rules.marks in
      let after : SlotState = record slot { order = None; missed = true } in
      record {
        cause = placed.rules.cause;
        birth = placed.rules.birth;
        order = refl;
        stop = stop_same slot.child stage table slot after slot.stop refl placed.rules.stop;
        marks = marks_from after (record { look = marked.look; missed = may; called = marked.called });
        limiter = placed.rules.limiter;
      }

  miss_by : (o : Option OrderKind) → slot.order ≡ o → is_answered Miss o ≡ true → may_be_signalled slot.stop ≡ true
  miss_by o is h = grind arith

  born_by : (n : ℕ) (o : Option OrderKind) → slot.order ≡ o → is_answered (Born n) o ≡ true → slot.order ≡ Some Start
  born_by n o is h = grind arith

  pub told_ruled : (answer : Answer) → is_answered answer slot.order ≡ true → is_over answer slot ≡ false
      → IsRuled stage table now (after_answer answer now slot)
  told_ruled (Born n) is stays = born_ruled n (born_by n slot.order refl is)
  told_ruled (Ended status) is stays = ended_ruled status (after_answer (Ended status) now slot) refl stays
  told_ruled NotBorn is stays = rest_ruled (after_answer NotBorn now slot) refl
  told_ruled Alive is stays = rest_ruled (after_answer Alive now slot) refl
  told_ruled NoLook is stays = rest_ruled (after_answer NoLook now slot) refl
  told_ruled Hit is stays = hit_by slot.order refl is
  told_ruled Miss is stays = miss_ruled (miss_by slot.order refl is)

  -- the record had a child or an open start, so the answer makes no entry owed and does not begin to stop a child
  pub was_busy : (answer : Answer) (o : Option OrderKind) → slot.order ≡ o → is_answered answer o ≡ true
      → (is_some slot.child || is_started slot) ≡ true
  was_busy answer o is h = grind arith

  pub begins_none : (answer : Answer) → is_some (after_answer answer now slot).stop ≡ true → is_some slot.stop ≡ true
  begins_none answer h = grind arith
