-- What an edge has recorded since some moment, and what its log had taken.
use Rattle.supervisor.proofs.EdgeWords.{◌≡◌, refl, sym, ◌∙◌, ap, subst, true, false, List, [], ◌∷◌, ◌++◌, map}
use Rattle.supervisor.proofs.EdgeWords.{append-nil}
use Rattle.supervisor.proofs.EdgeWords.{Option, Some, None, reverse, option_map, Event, Goal, LogState, HostCall, Took}
use Rattle.supervisor.proofs.EdgeWords.{are_seconds_short, Point, point_after, IfPossibleFrom}
use Rattle.host_calls.specs.Record.{AreNewCalls, NewCallsSatisfy}
use Rattle.supervisor.specs.Edges.{EdgeState, HadEach, HadTaken, Kept, KeptAt, Made, calls_of, first_told, trace_at}
use Rattle.supervisor.proofs.Keeping.{calls_of-append}
use Rattle.supervisor.proofs.Leading.{IfPossibleFrom-map}

-- An edge.

pub firsts_are : {L : Type 0} (told : Option (List HostCall)) (log : L)
    → option_map calls_of (first_told told log) ≡ told
firsts_are None log = refl
firsts_are {L} (Some calls) log = ap Some (by calls)
  where
    by : (calls : List HostCall) → calls_of (map (λ call. record { call = call; log = log }) calls) ≡ calls
    by [] = refl
    by (call ∷ calls) = ap (λ cs. call ∷ cs) (by calls)

-- What was recorded since.

-- the calls without the logs
NewCallsSatisfy-calls : {L : Type 0} (old new : Option (List (Made L))) (P : List (Made L) → Type 0)
    (Q : List HostCall → Type 0)
    → NewCallsSatisfy old new P → ((made_calls : List (Made L)) → P made_calls → Q (calls_of made_calls))
    → NewCallsSatisfy (option_map calls_of old) (option_map calls_of new) Q
NewCallsSatisfy-calls {L} old new P Q (made_calls, told, made) more =
    (calls_of made_calls, by new told, more made_calls made)
  where
    by : (new : Option (List (Made L))) → AreNewCalls old new made_calls
        → AreNewCalls (option_map calls_of old) (option_map calls_of new) (calls_of made_calls)
    by None told = tt
    by (Some all) (before, was, is) =
        (calls_of before, ap (option_map calls_of) was, ap calls_of is ∙ calls_of-append made_calls before)

-- the same for an edge since its creation, whose host is taken out at the end
pub NewCallsSatisfy-edge : {H L : Type 0} (host_told : H → Option (List HostCall)) (host now : H) (log : L)
    (first last : EdgeState H L) (P : List (Made L) → Type 0) (Q : List HostCall → Type 0)
    → first ≡ record { host = host; log = log; told = first_told (host_told host) log }
    → option_map calls_of last.told ≡ host_told last.host → now ≡ last.host
    → NewCallsSatisfy first.told last.told P → ((made_calls : List (Made L)) → P made_calls → Q (calls_of made_calls))
    → NewCallsSatisfy (host_told host) (host_told now) Q
NewCallsSatisfy-edge {H} {L} host_told host now log first last P Q began are same since more =
    subst (λ told. NewCallsSatisfy told (host_told now) Q)
    (ap (λ (e : EdgeState H L). option_map calls_of e.told) began ∙ firsts_are (host_told host) log)
    (subst (λ told. NewCallsSatisfy (option_map calls_of first.told) told Q) (are ∙ ap host_told (sym same))
    (NewCallsSatisfy-calls first.told last.told P Q since more))

-- A log that had taken nothing at first.

had_taken : (fitted : Goal → Point → Type 0) (old now : LogState) (call : HostCall) (earlier : List HostCall)
    → old.taken [] → KeptAt (λ p. []) fitted old now call earlier → HadTaken fitted now call earlier
had_taken fitted old now call earlier fresh = IfPossibleFrom-map fitted fitted
    (λ goal p earlier. are_seconds_short goal p.past ≡ true
    → Took old now [] (trace_at call (point_after earlier p).past))
    (λ goal p earlier. are_seconds_short goal p.past ≡ true → now.failed ≡ false
    → now.taken (reverse (trace_at call (point_after earlier p).past))) earlier
    (λ goal p sound fits. (
      fits,
      λ took short works.
          let all = took short in
          let takes = all.log [] fresh in
          subst (λ l. now.taken (reverse l)) (sym
          (all.grown ∙ append-nil all.came ∙ takes.parts ∙ ap (λ l. l ++ takes.took) (takes.whole works))) takes.told,
    ))

pub had_each : {L : Type 0} (state : L → LogState) (fitted : Goal → Point → Type 0) (old : LogState)
    (made_calls : List (Made L)) → old.taken [] → Kept state (λ p. []) fitted old made_calls
    → HadEach state fitted made_calls
had_each state fitted old [] fresh kept = tt
had_each state fitted old (made ∷ made_calls) fresh kept = (
  had_taken fitted old (state made.log) made.call (calls_of made_calls) fresh kept.0,
  had_each state fitted old made_calls fresh kept.1,
)

-- A log in front of another one.

abbrev pub with_logs : {L M : Type 0} → (L → M) → List (Made L) → List (Made M)
with_logs f [] = []
with_logs f (made ∷ made_calls) = record { call = made.call; log = f made.log } ∷ with_logs f made_calls

pub with_logs-calls : {L M : Type 0} (f : L → M) (made_calls : List (Made L))
    → calls_of (with_logs f made_calls) ≡ calls_of made_calls
with_logs-calls f [] = refl
with_logs-calls f (made ∷ made_calls) = ap (λ cs. made.call ∷ cs) (with_logs-calls f made_calls)

-- the other log has taken what this one has, and has failed if this one has
pub with_logs-had : {L M : Type 0} (f : L → M) (state : L → LogState) (other : M → LogState)
    (fitted : Goal → Point → Type 0)
    → ((log : L) → (other (f log)).failed ≡ false → (state log).failed ≡ false)
    → ((log : L) (trace : List Event) → (state log).taken trace → (other (f log)).taken trace)
    → (made_calls : List (Made L)) → HadEach state fitted made_calls → HadEach other fitted (with_logs f made_calls)
with_logs-had f state other fitted works took [] had = tt
with_logs-had f state other fitted works took (made ∷ made_calls) had = (
  subst (HadTaken fitted (other (f made.log)) made.call) (sym (with_logs-calls f made_calls))
      (IfPossibleFrom-map fitted fitted (TracksPoint (state made.log)) (TracksPoint (other (f made.log)))
      (calls_of made_calls)
      (λ goal p sound fits. (
        fits,
        λ told short fine. took made.log (reverse (trace_at made.call (point_after (calls_of made_calls) p).past))
            (told short (works made.log fine)),
      ))
      had.0),
  with_logs-had f state other fitted works took made_calls had.1,
)
  where
    TracksPoint : LogState → Goal → Point → List HostCall → Type 0
    TracksPoint log goal p earlier = are_seconds_short goal p.past ≡ true → log.failed ≡ false
        → log.taken (reverse (trace_at made.call (point_after earlier p).past))
