-- Lemmas on composing the calls of one script's run.
use Rattle.rc_driver.proofs.Words.{◌≡◌, refl, ap, ◌∙◌, subst, cond, nat_lt, ℕ, ◌+◌, ◌-◌, Bool, true, false, List, []}
use Rattle.rc_driver.proofs.Words.{◌∷◌, ◌++◌, length, filter, Option, Some, None, Result, Ok, Err, arith, HostCall}
use Rattle.rc_driver.proofs.Words.{AddsCall, NewCallsSatisfy, NewCallsSatisfy-map, NewCallsSatisfy-one}
use Rattle.rc_driver.proofs.Words.{NewCallsSatisfy-then, ScriptOptions}
use Rattle.rc_driver.proofs.Words.{AppendsReport, ReportList}
use Rattle.rc_driver.proofs.Words.{Begins, ScriptProgresses, ScriptContinues, GoneTo, RunsTo, by_late, by_look}
use Rattle.rc_driver.proofs.Words.{by_reply, by_start}
use Rattle.rc_driver.proofs.Words.{count_pauses, is_pause, is_waiting, script_id, Tells, due_by, due_signal}
use Rattle.rc_driver.proofs.Words.{signal_line, time_lines, timer_at, timer_by}
use Rattle.std.proofs.lemmas.List.{length-append}
use Rattle.std.proofs.lemmas.Option.{none-some, same_Some}
use Rattle.std.proofs.lemmas.List.Elements.{filter-append}
use Rattle.init_words.specs.declared.limits.TheConstants.{GRACE}
use Rattle.init_words.specs.declared.orders.Answer.{Answer}
use Rattle.init_words.specs.declared.orders.SignalKind.{SignalKind}
use Rattle.init_words.specs.declared.orders.SignalKind.TheVariants as sig
use Rattle.host_calls.specs.declared.calls.Call.TheVariants as call
use Rattle.host_calls.specs.declared.calls.HostFault.{HostFault}
use Rattle.host_calls.specs.declared.calls.Reply.{Reply}
use Rattle.rc_driver.specs.declared.progress.Progress.{Progress}
use Rattle.rc_driver.specs.declared.progress.Progress.TheVariants as progress
use Rattle.rc_driver.specs.declared.times.Timer.{Timer}
use Rattle.rc_driver.specs.declared.times.Timer.TheVariants as timer

-- a start begins the run of a script
pub begins : (old new : Option (List HostCall)) (limit : Option ℕ) (id text : List ℕ) (reply : Reply) (now : Progress)
    → AddsCall old new (call.Start id text reply) → id ≡ script_id
    → now ≡ by_reply (by_start limit) reply → NewCallsSatisfy old new (Begins limit text now)
begins old new limit id text reply now adds of is =
    NewCallsSatisfy-one old new (call.Start id text reply) (Begins limit text now) adds
    ((of, refl, refl, is, refl), refl)

-- a look continues it, without a pause
pub goes_look : (old new : Option (List HostCall)) (limit : Option ℕ) (id : List ℕ) (reply : Reply) (now : Progress)
    → AddsCall old new (call.Look id reply) → id ≡ script_id
    → now ≡ by_reply (by_look limit) reply → NewCallsSatisfy old new (ScriptContinues limit progress.Born now 0)
goes_look old new limit id reply now adds of is =
    NewCallsSatisfy-one old new (call.Look id reply) (ScriptContinues limit progress.Born now 0) adds
    (λ time. (refl, λ command earlier ran. (of, ran, is)))

-- a pause, and the answer that came later, continue it
pub goes_pause : (old mid new : Option (List HostCall)) (limit : Option ℕ) (late : Option (List ℕ × Answer))
    (before now : Progress) → AddsCall old mid call.Pause
    → AddsCall mid new (call.Late late) → is_waiting before ≡ true → now ≡ by_late limit before late
    → NewCallsSatisfy old new (ScriptContinues limit before now 1)
goes_pause old mid new limit late before now pauses lates waiting is =
    NewCallsSatisfy-then old mid new (λ xs. xs ≡ call.Pause ∷ []) (λ ys. ys ≡ call.Late late ∷ [])
    (ScriptContinues limit before now 1)
    (NewCallsSatisfy-one old mid call.Pause (λ xs. xs ≡ call.Pause ∷ []) pauses refl)
    (NewCallsSatisfy-one mid new (call.Late late) (λ ys. ys ≡ call.Late late ∷ []) lates refl)
    (λ xs ys first second. rw (first, second) (λ time. (refl, λ command earlier ran. (before, waiting, ran, is))))

-- a reading of the clock at which no signal is due continues it
pub goes_clock : (old new : Option (List HostCall)) (limit : Option ℕ) (reading : Result ℕ HostFault)
    (before now : Timer) → AddsCall old new (call.Clock reading)
    → due_by limit before reading ≡ None → now ≡ timer_by before reading None
    → NewCallsSatisfy old new (ScriptProgresses limit progress.Found before progress.Living now 0)
goes_clock old new limit reading before now adds due is =
    NewCallsSatisfy-one old new (call.Clock reading)
    (ScriptProgresses limit progress.Found before progress.Living now 0) adds
    (refl, λ command earlier ran. (refl, before, ran, due, is))

-- a reading of the clock at which a signal is due, and the signal, continue it
pub goes_signal : (old mid new : Option (List HostCall)) (limit : Option ℕ) (reading : Result ℕ HostFault) (id : List ℕ)
    (signal : SignalKind) (reply : Reply) (before now : Timer)
    → AddsCall old mid (call.Clock reading) → AddsCall mid new (call.Signal id signal reply) → id ≡ script_id
    → due_by limit before reading ≡ Some signal → now ≡ timer_by before reading (Some signal)
    → NewCallsSatisfy old new (ScriptProgresses limit progress.Found before progress.Living now 0)
goes_signal old mid new limit reading id signal reply before now clocks signals of due is =
    NewCallsSatisfy-then old mid new (λ xs. xs ≡ call.Clock reading ∷ []) (λ ys. ys ≡ call.Signal id signal reply ∷ [])
    (ScriptProgresses limit progress.Found before progress.Living now 0)
    (NewCallsSatisfy-one old mid (call.Clock reading) (λ xs. xs ≡ call.Clock reading ∷ []) clocks refl)
    (NewCallsSatisfy-one mid new (call.Signal id signal reply)
    (λ ys. ys ≡ call.Signal id signal reply ∷ []) signals refl)
    (λ xs ys first second. rw (first, second) (refl, λ command earlier ran. (of, refl, before, ran, due, is)))

-- no signal is due if the clock can't be read
pub no_reading : (limit : Option ℕ) (before : Timer) (fault : HostFault) → due_by limit before (Err fault) ≡ None
no_reading None before fault = refl
no_reading (Some seconds) before fault = refl

-- the value of a conditional that is `Some`
some_of : {T : Type 0} (b : Bool) (x y : T) → cond b (Some x) None ≡ Some y → x ≡ y
some_of true x y is = same_Some x y is
some_of false x y is = absurd (none-some y is)

-- the message about a signal that is due comes after the earlier ones
tells_due : (way : ScriptOptions) (dir link : List ℕ) (seconds now : ℕ) (time : Timer) (signal : SignalKind)
    → due_signal seconds time now ≡ Some signal
    → time_lines way dir link (timer_at time now (Some signal))
    ≡ signal_line way.seconds dir link signal ∷ time_lines way dir link time
tells_due way dir link seconds now timer.Unread signal due = absurd (none-some signal due)
tells_due way dir link seconds now timer.Killed signal due = absurd (none-some signal due)
tells_due way dir link seconds now (timer.RunningSince began) signal due =
    subst
    (λ g. time_lines way dir link (timer_at (timer.RunningSince began) now (Some g))
    ≡ signal_line way.seconds dir link g ∷ [])
    (some_of (nat_lt seconds (now - began)) sig.Term signal due) refl
tells_due way dir link seconds now (timer.TermSent sent) signal due =
    subst (λ g. time_lines way dir link (timer_at (timer.TermSent sent) now (Some g))
    ≡ signal_line way.seconds dir link g ∷ signal_line way.seconds dir link sig.Term ∷ [])
    (some_of (nat_lt GRACE (now - sent)) sig.Kill signal due) refl

tells_by : (way : ScriptOptions) (dir link : List ℕ) (limit : Option ℕ) (now : ℕ) (time : Timer) (signal : SignalKind)
    → due_by limit time (Ok now) ≡ Some signal
    → time_lines way dir link (timer_at time now (Some signal))
    ≡ signal_line way.seconds dir link signal ∷ time_lines way dir link time
tells_by way dir link None now time signal due = absurd (none-some signal due)
tells_by way dir link (Some seconds) now time signal due = tells_due way dir link seconds now time signal due

pub tells_signal : (way : ScriptOptions) (dir link : List ℕ) (limit : Option ℕ) (now : ℕ) (time : Timer)
    (signal : SignalKind) (before told tells : ReportList)
    → due_by limit time (Ok now) ≡ Some signal → AppendsReport told tells (signal_line way.seconds dir link signal)
    → Tells before told (time_lines way dir link time)
    → Tells before tells (time_lines way dir link (timer_at time now (Some signal)))
tells_signal way dir link limit now time signal before told tells due line earlier =
    rw (tells_by way dir link limit now time signal due) (told, earlier, line)

-- a reading of the clock at which no signal is due reports nothing
pub tells_none : (way : ScriptOptions) (dir link : List ℕ) (now : ℕ) (time : Timer)
    → time_lines way dir link (timer_at time now None) ≡ time_lines way dir link time
tells_none way dir link now timer.Unread = refl
tells_none way dir link now (timer.RunningSince began) = refl
tells_none way dir link now (timer.TermSent sent) = refl
tells_none way dir link now timer.Killed = refl

count_both : (later earlier : List HostCall)
    → count_pauses (later ++ earlier) ≡ count_pauses later + count_pauses earlier
count_both later earlier =
    ap length (filter-append is_pause later earlier) ∙ length-append (filter is_pause later) (filter is_pause earlier)

-- a run that continues
pub gone_on : (old mid new : Option (List HostCall)) (limit : Option ℕ) (command : List ℕ) (known before now : Progress)
    (time then : Timer) (taken pauses still remaining : ℕ) → known ≡ before
    → still ≡ taken + remaining → NewCallsSatisfy old mid (GoneTo limit command known time pauses still)
    → NewCallsSatisfy mid new (ScriptProgresses limit before time now then taken)
    → NewCallsSatisfy old new (GoneTo limit command now then pauses remaining)
gone_on old mid new limit command known before now time then taken pauses still remaining same fewer gone goes =
    NewCallsSatisfy-then old mid new (GoneTo limit command known time pauses still)
    (ScriptProgresses limit before time now then taken)
    (GoneTo limit command now then pauses remaining) gone goes
    (λ earlier later was is. (
      is.1 command earlier (subst (λ p. RunsTo limit command p time earlier) same was.0),
      counted earlier later was.1 is.0,
    ))
  where
    counted : (earlier later : List HostCall) → pauses ≡ count_pauses earlier + still → count_pauses later ≡ taken
        → pauses ≡ count_pauses (later ++ earlier) + remaining
    counted earlier later was is = rw (count_both later earlier, is) (omega (arith, was, fewer))

-- the same without a change of the timer
pub gone_further : (old mid new : Option (List HostCall)) (limit : Option ℕ) (command : List ℕ)
    (known before now : Progress) (time : Timer) (taken pauses still remaining : ℕ) → known ≡ before
    → still ≡ taken + remaining → NewCallsSatisfy old mid (GoneTo limit command known time pauses still)
    → NewCallsSatisfy mid new (ScriptContinues limit before now taken)
    → NewCallsSatisfy old new (GoneTo limit command now time pauses remaining)
gone_further old mid new limit command known before now time taken pauses still remaining same fewer gone goes =
    gone_on old mid new limit command known before now time time taken pauses still remaining same fewer gone
    (NewCallsSatisfy-map mid new (ScriptContinues limit before now taken)
    (ScriptProgresses limit before time now time taken) goes
    (λ calls is. is time))
