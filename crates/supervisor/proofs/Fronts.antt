-- What holds up to each call, for one call, for two that carry out one step, and for two parts.
use Rattle.supervisor.proofs.EdgeWords.{arith, ◌≡◌, refl, sym, ◌∙◌, ap, subst, ◌⊎◌, inl, inr, Bool, true, false, List}
use Rattle.supervisor.proofs.EdgeWords.{[]}
use Rattle.supervisor.proofs.EdgeWords.{◌∷◌, ◌++◌, drop, reverse, append_assoc, false≢true, false_from_ne_true}
use Rattle.supervisor.proofs.EdgeWords.{reverse-append, Goal, Event, LogState, HostCall, Point, point_after, CallsLead}
use Rattle.supervisor.proofs.EdgeWords.{Takes}
use Rattle.supervisor.proofs.EdgeWords.{Took, IfPossibleFrom, Went, CallsWereInPlace, are_seconds_short, past_of, Grows}
use Rattle.std.proofs.lemmas.List.{reverse-reverse}
use Rattle.supervisor.specs.Fronts.{Began, Fronts, reports_outcome_of}
use Rattle.supervisor.proofs.Leading.{IfPossibleFrom-map, IfPossibleFrom-then, well_then}
use Rattle.supervisor.proofs.Seconds.{short_then}
use Rattle.supervisor.proofs.Taking.{takes-then}

-- Where a list of calls is cut.

-- a cut of two joined lists is in the earlier or in the later one
cut_in : (later earlier ys xs : List HostCall) (next : HostCall) → ys ++ xs ≡ later ++ next ∷ earlier
    → ((front : List HostCall) × (xs ≡ front ++ next ∷ earlier))
    ⊎ ((front : List HostCall) × (ys ≡ later ++ next ∷ front) × (earlier ≡ front ++ xs))
cut_in later earlier [] xs next is = inl (later, is)
cut_in [] earlier (y ∷ ys) xs next is = grind arith
cut_in (l ∷ later) earlier (y ∷ ys) xs next is = grind (arith, cut_in later earlier ys xs next)

-- a list of fewer than two calls has no two consecutive calls
no_front : (later earlier : List HostCall) (next call : HostCall) → [] ≡ later ++ next ∷ call ∷ earlier → ⊥
no_front [] earlier next call is = cc
no_front (l ∷ later) earlier next call is = cc

one_front : (later earlier : List HostCall) (one next call : HostCall) → one ∷ [] ≡ later ++ next ∷ call ∷ earlier → ⊥
one_front [] earlier one next call is = cc
one_front (l ∷ later) earlier one next call is = no_front later earlier next call (ap (drop 1) is)

-- What a log had taken by then.

-- the log has taken more since
takes_grown : (old mid new : LogState) (before came more : List Event) → Takes old mid before came more → Grows mid new
    → (all : List Event) × Takes old new before came all
takes_grown old mid new before came more takes grows = (
  reverse last ++ more,
  record {
    took = takes.took;
    missed = takes.missed;
    parts = takes.parts;
    told =
        subst new.taken
        (append_assoc before (reverse (more ++ takes.took)) last ∙ ap (λ l. before ++ l) joined) grown.1;
    whole =
        λ works. takes.whole (false_from_ne_true mid.failed (λ failed. false≢true (sym works ∙ grows.stays failed)));
    ended = ends mid.failed refl;
    nothing = λ failed. (λ i. (reverse (grown.2 (takes.stays failed) i) ++ more) ++ takes.took) ∙ takes.nothing failed;
    stays = λ failed. grows.stays (takes.stays failed);
  },
)
  where
    grown : (l : List Event) × new.taken ((before ++ reverse (more ++ takes.took)) ++ l) × (mid.failed ≡ true → l ≡ [])
    grown = grows.told (before ++ reverse (more ++ takes.took)) takes.told

    last : List Event
    last = grown.0

    joined : reverse (more ++ takes.took) ++ last ≡ reverse ((reverse last ++ more) ++ takes.took)
    joined = ap (λ l. reverse (more ++ takes.took) ++ l) (sym (reverse-reverse last)) ∙ sym (reverse-append
        (reverse last) (more ++ takes.took)) ∙ ap reverse (sym (append_assoc (reverse last) more takes.took))

    ends : (b : Bool) → mid.failed ≡ b → (takes.missed ≡ []) ⊎ (reverse last ++ more ≡ [])
    ends true failed =
        elim takes.ended [ inl every ↦ inl every | inr none ↦ inr (λ i. reverse (grown.2 failed i) ++ none i) ]
    ends false works = inl (takes.whole works)

Began-grown : (old mid new : LogState) (past so_far : List Event) → Began old mid past so_far → Grows mid new
    → Began old new past so_far
Began-grown old mid new past so_far began grows = record {
  came = began.came;
  grown = began.grown;
  log = λ before taken.
      let (more, takes) = began.log before taken in
      takes_grown old mid new before began.came more takes grows;
}

pub Began-then : (old mid new : LogState) (past between so_far : List Event) → Took old mid past between
    → Began mid new between so_far → Began old new past so_far
Began-then old mid new past between so_far first second = record {
  came = second.came ++ first.came;
  grown = second.grown ∙ ap (λ l. second.came ++ l) first.grown ∙ sym (append_assoc second.came first.came past);
  log = λ before taken.
      let one = first.log before taken in
      let (more, two) = second.log (before ++ reverse one.took) one.told in
      (more, takes-then old mid new before first.came second.came more one two);
}

-- Up to some calls.

abbrev SoFar : LogState → LogState → Goal → Point → List HostCall → Type 0
SoFar old new goal p calls = CallsWereInPlace goal p calls
    × (are_seconds_short goal p.past ≡ true → Began old new p.past (point_after calls p).past)

-- up to all of them, and the log has taken more since
leads_so_far : (f₀ f₁ : Goal → Point → Type 0) (old mid new : LogState) (calls : List HostCall) → ((goal : Goal)
    (p : Point) → f₀ goal p → Grows mid new) → CallsLead f₀ f₁ old mid calls → IfPossibleFrom f₀ (SoFar old new) calls
leads_so_far f₀ f₁ old mid new calls grows = IfPossibleFrom-map f₀ f₀ (Went past_of f₁ old mid) (SoFar old new) calls
    (λ goal p sound fits. (
      fits,
      λ went. (
        went.well,
        λ short.
            let took : Took old mid p.past (point_after calls p).past = went.log short in
            Began-grown old mid new p.past (point_after calls p).past
            (record { came = took.came; grown = took.grown; log = λ before taken. ([], took.log before taken) })
            (grows goal p fits),
      ),
    ))

-- Up to each call.

pub fronts_none : (fitted : Goal → Point → Type 0) (old new : LogState) → Fronts past_of fitted old new []
fronts_none fitted old new later earlier next call is apart = absurd (no_front later earlier next call is)

pub fronts_one : (fitted : Goal → Point → Type 0) (old new : LogState) (one : HostCall)
    → Fronts past_of fitted old new (one ∷ [])
fronts_one fitted old new one later earlier next call is apart = absurd (one_front later earlier one next call is)

-- two calls, of which the second announces the outcome of the first
pub fronts_two : (fitted : Goal → Point → Type 0) (old new : LogState) (one two : HostCall)
    → reports_outcome_of two one ≡ true → Fronts past_of fitted old new (two ∷ one ∷ [])
fronts_two fitted old new one two says [] earlier next call is apart =
    let same_two : two ≡ next = cc in
    let same_one : one ≡ call = cc in
    absurd (false≢true (sym apart ∙ (λ i. reports_outcome_of (sym same_two i) (sym same_one i)) ∙ says))
fronts_two fitted old new one two says (l ∷ later) earlier next call is apart =
    absurd (one_front later earlier one next call (ap (drop 1) is))

-- `ys` after `xs`
pub fronts_then : (f₀ f₁ : Goal → Point → Type 0) (old mid new : LogState) (xs ys : List HostCall)
    → CallsLead f₀ f₁ old mid xs → Fronts past_of f₀ old mid xs → Fronts past_of f₁ mid new ys
    → ((goal : Goal) (p : Point) → f₀ goal p → Grows mid new) → Fronts past_of f₀ old new (ys ++ xs)
fronts_then f₀ f₁ old mid new xs ys leads first second grows later earlier next call is apart =
    elim (cut_in later (call ∷ earlier) ys xs next is) [
      | inl (front, at) ↦ IfPossibleFrom-map f₀ f₀ (SoFar old mid) (SoFar old new) (call ∷ earlier)
          (λ goal p sound fits. (
            fits,
            λ so_far. (
              so_far.0,
              λ short. Began-grown old mid new p.past (point_after (call ∷ earlier) p).past (so_far.1 short)
                  (grows goal p fits),
            ),
          ))
          (first front earlier next call at apart)
      | inr (front, at, before) ↦ by front at before
    ]
  where
    by : (front : List HostCall) → ys ≡ later ++ next ∷ front → call ∷ earlier ≡ front ++ xs
        → IfPossibleFrom f₀ (SoFar old new) (call ∷ earlier)
    by [] at before =
        subst (IfPossibleFrom f₀ (SoFar old new)) (sym before) (leads_so_far f₀ f₁ old mid new xs grows leads)
    by (b ∷ front) at before =
        let same : call ≡ b = cc in
        subst (IfPossibleFrom f₀ (SoFar old new)) (sym before)
        (IfPossibleFrom-then f₀ f₁ old mid (SoFar mid new) (SoFar old new) xs
        (b ∷ front) leads (second later front next b at (ap (reports_outcome_of next) (sym same) ∙ apart))
        (λ goal p joined went so_far. (
          well_then goal p xs (b ∷ front) went.well so_far.0,
          λ short. subst (λ (q : Point). Began old new p.past q.past) (sym joined)
              (Began-then old mid new p.past (point_after xs p).past (point_after (b ∷ front) (point_after xs p)).past
              (went.log short) (so_far.1 (short_then goal xs p went.well.sound short))),
        )))
