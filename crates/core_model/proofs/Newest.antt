-- A property of sets of pending calls, by cases on the first call that is pending.
use Rattle.core_model.proofs.Words.{Bool, true, false, CallSet}

module _ (P : CallSet → Type 0)
    (fail : (n o a b c : Bool) → P (record { fail = true; fail_now = n; ok = o; a = a; b = b; c = c }))
    (fail_now : (o a b c : Bool) → P (record { fail = false; fail_now = true; ok = o; a = a; b = b; c = c }))
    (ok : (a b c : Bool) → P (record { fail = false; fail_now = false; ok = true; a = a; b = b; c = c }))
    (by_a : (b c : Bool) → P (record { fail = false; fail_now = false; ok = false; a = true; b = b; c = c }))
    (by_b : (c : Bool) → P (record { fail = false; fail_now = false; ok = false; a = false; b = true; c = c }))
    (by_c : P (record { fail = false; fail_now = false; ok = false; a = false; b = false; c = true }))
    (none : P (record { fail = false; fail_now = false; ok = false; a = false; b = false; c = false })) where
  pub by_first : (pending : CallSet) → P pending
  by_first pending = at pending.fail pending.fail_now pending.ok pending.a pending.b pending.c
    where
      at : (f n o a b c : Bool) → P (record { fail = f; fail_now = n; ok = o; a = a; b = b; c = c })
      at true n o a b c = fail n o a b c
      at false true o a b c = fail_now o a b c
      at false false true a b c = ok a b c
      at false false false true b c = by_a b c
      at false false false false true c = by_b c
      at false false false false false true = by_c
      at false false false false false false = none
