-- Sets of pending calls: power events and letters (telinit(8), initreq.h).
use Rattle.std.specs.Prelude.{ℕ, Bool, false, ◌||◌, ◌+◌, if◌then◌else◌, List, Option, Some, None}
use Rattle.trace_events.specs.Words.{Letter, PowerKind}
use Rattle.init_words.specs.declared.orders.PowerKind.TheVariants as power
use Rattle.init_words.specs.declared.levels.Letter.TheVariants as letter
use Rattle.trace_events.specs.declared.call_sets.CallSet.{CallSet}
use Rattle.trace_events.specs.declared.steps.Step.{Step}
use Rattle.trace_events.specs.declared.steps.Step.TheVariants.{Call, Power}
use Rattle.trace_events.specs.Event.{Event}
use Rattle.trace_events.specs.Wishes.{is_power_pending, is_letter_pending}

-- the empty set of pending calls
abbrev pub no_news : CallSet
no_news = record { fail = false; fail_now = false; ok = false; a = false; b = false; c = false }

-- the power event is in the set
abbrev pub contains_kind : PowerKind → CallSet → Bool
contains_kind power.Fail pending = pending.fail
contains_kind power.FailNow pending = pending.fail_now
contains_kind power.Ok pending = pending.ok

-- the letter is in the set
abbrev pub contains_letter : Letter → CallSet → Bool
contains_letter letter.A pending = pending.a
contains_letter letter.B pending = pending.b
contains_letter letter.C pending = pending.c

-- the set after the power event is added or removed
abbrev pub with_kind : PowerKind → Bool → CallSet → CallSet
with_kind power.Fail present pending = record pending { fail = present }
with_kind power.FailNow present pending = record pending { fail_now = present }
with_kind power.Ok present pending = record pending { ok = present }

-- the set after the letter is added or removed
abbrev pub with_call : Letter → Bool → CallSet → CallSet
with_call letter.A present pending = record pending { a = present }
with_call letter.B present pending = record pending { b = present }
with_call letter.C present pending = record pending { c = present }

-- the set is not empty
abbrev pub has_news : CallSet → Bool
has_news pending = pending.fail || pending.fail_now || pending.ok || pending.a || pending.b || pending.c

-- the step that carries out the first call in the set; power events come before letters
abbrev pub first_pending_step : CallSet → Option Step
first_pending_step pending =
    if pending.fail then Some (Power power.Fail)
    else if pending.fail_now then Some (Power power.FailNow)
    else if pending.ok then Some (Power power.Ok)
    else if pending.a then Some (Call letter.A)
    else if pending.b then Some (Call letter.B)
    else if pending.c then Some (Call letter.C)
    else None

-- 1 if the condition holds, otherwise 0
abbrev pub one_if : Bool → ℕ
one_if b = if b then 1 else 0

-- the number of pending calls
abbrev pub news_count : CallSet → ℕ
news_count pending =
    one_if pending.fail + one_if pending.fail_now + one_if pending.ok
    + one_if pending.a + one_if pending.b + one_if pending.c

-- the power events and letters that are pending after a trace
abbrev pub pending_calls : List Event → CallSet
pending_calls past = record {
  fail = is_power_pending power.Fail past;
  fail_now = is_power_pending power.FailNow past;
  ok = is_power_pending power.Ok past;
  a = is_letter_pending letter.A past;
  b = is_letter_pending letter.B past;
  c = is_letter_pending letter.C past;
}
