-- What a log had taken when each call was made, for one call, for none, and for two parts.
use Rattle.supervisor.proofs.EdgeWords.{arith, ◌≡◌, refl, sym, ap, subst, true, List, [], ◌∷◌, ◌++◌, Option, Some, None}
use Rattle.supervisor.proofs.EdgeWords.{and_parts, OrderKind, Goal, Event, is_sound, LogState, Announce, HostCall}
use Rattle.supervisor.proofs.EdgeWords.{Point}
use Rattle.supervisor.proofs.EdgeWords.{announced, point_after, CallsLead, Logs, Took, IfPossibleFrom, Went}
use Rattle.supervisor.proofs.EdgeWords.{CallsWereInPlace}
use Rattle.supervisor.proofs.EdgeWords.{are_seconds_short}
use Rattle.supervisor.proofs.EdgeWords.{is_allowed, are_short, is_seconds, past_of}
use Rattle.trace_events.specs.declared.happenings.Happening.TheVariants.{Asked}
use Rattle.host_calls.specs.Record.{NewCallsSatisfy}
use Rattle.supervisor.specs.Edges.{AddsStamped, Kept, KeptAt, Made, calls_of, trace_at}
use Rattle.supervisor.specs.Fronts.{Began, Fronts}
use Rattle.supervisor.proofs.Fronts.{Began-then}
use Rattle.supervisor.proofs.Leading.{IfPossibleFrom-map, IfPossibleFrom-then, allowed_rest}
use Rattle.supervisor.proofs.Seconds.{short_then}
use Rattle.supervisor.proofs.Taking.{Took-none, Took-then}

-- The calls without the logs.

pub calls_of-append : {L : Type 0} (ys xs : List (Made L)) → calls_of (ys ++ xs) ≡ calls_of ys ++ calls_of xs
calls_of-append [] xs = refl
calls_of-append (made ∷ ys) xs = ap (λ l. made.call ∷ l) (calls_of-append ys xs)

-- a call was made, whether it is recorded or not
pub NewCallsSatisfy-made : {L : Type 0} (old new : Option (List (Made L))) (call : HostCall) (log : L)
    (P : List (Made L)
    → Type 0) → AddsStamped old new call log → P (record { call = call; log = log } ∷ []) → NewCallsSatisfy old new P
NewCallsSatisfy-made old None call log P adds p = (record { call = call; log = log } ∷ [], tt, p)
NewCallsSatisfy-made old (Some all) call log P adds p = (record { call = call; log = log } ∷ [], adds, p)

-- the same for equal records
pub AddsStamped-same : {L : Type 0} (old before behind new : Option (List (Made L))) (call : HostCall) (log : L)
    → before ≡ old → new ≡ behind → AddsStamped before behind call log → AddsStamped old new call log
AddsStamped-same old before behind new call log same_before same_behind adds = subst (λ t. AddsStamped old t call log)
    (sym same_behind) (subst (λ t. AddsStamped t behind call log) same_before adds)

-- At each call.

-- neither the log nor the trace has changed
pub kept_still : (fitted : Goal → Point → Type 0) (old : LogState) (call : HostCall)
    → ((so_far : List Event) → trace_at call so_far ≡ so_far) → KeptAt past_of fitted old old call []
kept_still fitted old call same goal p sound fits allowed =
    (tt, λ carried short. subst (Took old old p.past) (sym (same p.past)) (Took-none old p.past))

-- the order was written
pub kept_asked : (fitted : Goal → Point → Type 0) (old now : LogState) (call : HostCall) (id : List _)
    (order : OrderKind) → ((so_far : List Event) → trace_at call so_far ≡ Asked id order ∷ so_far)
    → ((so_far : List Event) → Logs old now so_far (Asked id order ∷ so_far)) → KeptAt past_of fitted old now call []
kept_asked fitted old now call id order asks took goal p sound fits allowed = (
  tt,
  λ carried short. subst (Took old now p.past) (sym (asks p.past))
      (took p.past (and_parts (is_seconds goal.grace) (are_short p.past) short).1),
)

announced_allows : (goal : Goal) (happening : Event) (so_far : List Event) → is_allowed goal so_far ≡ true
    → is_allowed goal (announced happening so_far) ≡ true
announced_allows goal happening so_far allowed = grind (arith, allowed_rest)

-- what is announced was written, as the calls before required
pub kept_led : (f₀ f₁ : Goal → Point → Type 0) (old now : LogState) (happening : Event) (earlier : List HostCall)
    → CallsLead f₀ f₁ old now (Announce happening ∷ earlier) → KeptAt past_of f₀ old now (Announce happening) earlier
kept_led f₀ f₁ old now happening earlier leads goal p sound fits allowed =
    let led = leads goal p sound fits (announced_allows goal happening (point_after earlier p).past allowed) in
    (led.0, λ carried. (led.1 carried).log)

-- after earlier calls
kept_then : (f₀ f₁ : Goal → Point → Type 0) (old mid now : LogState) (call : HostCall) (xs ys : List HostCall)
    → CallsLead f₀ f₁ old mid xs → KeptAt past_of f₁ mid now call ys → KeptAt past_of f₀ old now call (ys ++ xs)
kept_then f₀ f₁ old mid now call xs ys leads kept = IfPossibleFrom-then f₀ f₁ old mid
    (λ goal p calls. are_seconds_short goal p.past ≡ true
    → Took mid now p.past (trace_at call (point_after calls p).past))
    (λ goal p calls. are_seconds_short goal p.past ≡ true
    → Took old now p.past (trace_at call (point_after calls p).past)) xs ys leads kept
    (λ goal p joined went took short. subst (λ (q : Point). Took old now p.past (trace_at call q.past)) (sym joined)
    (Took-then old mid now p.past (point_after xs p).past (trace_at call (point_after ys (point_after xs p)).past)
    (went.log short) (took (short_then goal xs p went.well.sound short))))

-- At each of some calls.

module _ {L : Type 0} (state : L → LogState) where
  pub Kept-then : (f₀ f₁ : Goal → Point → Type 0) (old mid : LogState) (xs ys : List (Made L)) → CallsLead f₀ f₁ old mid
      (calls_of xs) → Kept state past_of f₀ old xs → Kept state past_of f₁ mid ys → Kept state past_of f₀ old (ys ++ xs)
  Kept-then f₀ f₁ old mid xs [] leads first second = first
  Kept-then f₀ f₁ old mid xs (made ∷ ys) leads first second = (
    subst (KeptAt past_of f₀ old (state made.log) made.call) (sym (calls_of-append ys xs))
        (kept_then f₀ f₁ old mid (state made.log) made.call (calls_of xs) (calls_of ys) leads second.0),
    Kept-then f₀ f₁ old mid xs ys leads first second.1,
  )

-- Restricting the condition, and extending to a log that had taken what came before.

module _ (from : Point → List Event) (f g : Goal → Point → Type 0) (l₀ l₁ : LogState)
    (took : (goal : Goal) (p : Point) → is_sound goal p.past ≡ true → g goal p
    → f goal p × (are_seconds_short goal p.past ≡ true → Took l₀ l₁ (from p) p.past)) where
  pub leads_from : (fit : Goal → Point → Type 0) (l₂ : LogState) (calls : List HostCall) → CallsLead f fit l₁ l₂ calls
      → IfPossibleFrom g (Went from fit l₀ l₂) calls
  leads_from fit l₂ calls = IfPossibleFrom-map f g (Went past_of fit l₁ l₂) (Went from fit l₀ l₂) calls
      (λ goal p sound fits.
      let (before, had) = took goal p sound fits in (
        before,
        λ went. record {
          well = went.well;
          fits = went.fits;
          log = λ short. Took-then l₀ l₁ l₂ (from p) p.past (point_after calls p).past (had short) (went.log short);
        },
      ))

  pub fronts_from : (l₂ : LogState) (calls : List HostCall) → Fronts past_of f l₁ l₂ calls → Fronts from g l₀ l₂ calls
  fronts_from l₂ calls fronts later earlier next call is apart =
      IfPossibleFrom-map f g (So past_of l₁) (So from l₀) (call ∷ earlier)
      (λ goal p sound fits.
      let (before, had) = took goal p sound fits in (
        before,
        λ so_far. (
          so_far.0,
          λ short. Began-then l₀ l₁ l₂ (from p) p.past (point_after (call ∷ earlier) p).past (had short)
              (so_far.1 short),
        ),
      ))
      (fronts later earlier next call is apart)
    where
      So : (Point → List Event) → LogState → Goal → Point → List HostCall → Type 0
      So at log goal p so_far = CallsWereInPlace goal p so_far
          × (are_seconds_short goal p.past ≡ true → Began log l₂ (at p) (point_after so_far p).past)

  pub kept_from : {L : Type 0} (state : L → LogState) (made_calls : List (Made L)) → Kept state past_of f l₁ made_calls
      → Kept state from g l₀ made_calls
  kept_from state [] kept = tt
  kept_from state (made ∷ made_calls) kept = (
    IfPossibleFrom-map f g (TracksPoint past_of l₁) (TracksPoint from l₀) (calls_of made_calls)
        (λ goal p sound fits.
        let (before, had) = took goal p sound fits in (
          before,
          λ taken short. Took-then l₀ l₁ (state made.log) (from p) p.past
              (trace_at made.call (point_after (calls_of made_calls) p).past) (had short) (taken short),
        ))
        kept.0,
    kept_from state made_calls kept.1,
  )
    where
      TracksPoint : (Point → List Event) → LogState → Goal → Point → List HostCall → Type 0
      TracksPoint at old goal p earlier = are_seconds_short goal p.past ≡ true
          → Took old (state made.log) (at p) (trace_at made.call (point_after earlier p).past)
