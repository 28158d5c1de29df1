-- Parts of a turn, one after the other.
use Rattle.supervisor.proofs.Words.{◌≡◌, refl, sym, subst, ℕ, suc, ◌+◌, ◌≤◌, Bool, true, false, inl, inr, List, [], ◌∷◌}
use Rattle.supervisor.proofs.Words.{◌++◌, Option, arith, Goal, is_sound, LogState, HostCall, AddsStamped, Kept, KeptAt}
use Rattle.supervisor.proofs.Words.{Made, calls_of, Point, Fronts, reports_outcome_of, Grows, CallsLead, Took}
use Rattle.supervisor.proofs.Words.{are_seconds_short}
use Rattle.supervisor.proofs.Words.{past_of, STEP_LIMIT, AreSteps, NewCallsSatisfy-none, NewCallsSatisfy-map}
use Rattle.supervisor.proofs.Words.{NewCallsSatisfy-then, Took-none}
use Rattle.supervisor.proofs.Words.{fronts_from, fronts_none, fronts_one, fronts_then, fronts_two, CallsLead-none}
use Rattle.supervisor.proofs.Words.{CallsLead-then, Kept-then, NewCallsSatisfy-made, calls_of-append, kept_from}
use Rattle.supervisor.proofs.Words.{AreAllSteps}
use Rattle.supervisor.proofs.Words.{IsStepUnlessIdle, MakesOver}

module _ {L : Type 0} (state : L → LogState) where
  -- what holds of the calls that were made
  abbrev pub AreMade : LogState → LogState → (List HostCall → Type 0) → (Goal → Point → Type 0)
      → (Goal → Point → Type 0) → List (Made L) → Type 0
  AreMade l₀ l₁ Shape f₀ f₁ made_calls = Shape (calls_of made_calls) × CallsLead f₀ f₁ l₀ l₁ (calls_of made_calls)
      × Fronts past_of f₀ l₀ l₁ (calls_of made_calls) × Kept state past_of f₀ l₀ made_calls

  pub MadeCallsLead-one : (old new : Option (List (Made L))) (l₀ l₁ : LogState) (log : L) (call : HostCall)
      (Shape : List
      HostCall → Type 0) (f₀ f₁ : Goal → Point → Type 0) → AddsStamped old new call log → Shape (call ∷ [])
      → CallsLead f₀
      f₁ l₀ l₁ (call ∷ []) → KeptAt past_of f₀ l₀ (state log) call [] → MakesOver state old new l₀ l₁ Shape f₀ f₁
  MadeCallsLead-one old new l₀ l₁ log call Shape f₀ f₁ adds shape leads kept =
      NewCallsSatisfy-made old new call log (AreMade l₀ l₁ Shape f₀ f₁) adds
      (shape, leads, fronts_one f₀ l₀ l₁ call, (kept, tt))

  -- two calls, the second of which announces the outcome of the first
  pub MadeCallsLead-two : (old mid new : Option (List (Made L))) (l₀ l₁ : LogState) (log₁ log₂ : L) (one two : HostCall)
      (Shape : List HostCall → Type 0) (f₀ f₁ : Goal → Point → Type 0) → reports_outcome_of two one ≡ true
      → AddsStamped old mid one log₁ → AddsStamped mid new two log₂ → Shape (two ∷ one ∷ [])
      → CallsLead f₀ f₁ l₀ l₁ (two ∷ one ∷ []) → KeptAt past_of f₀ l₀ (state log₁) one []
      → KeptAt past_of f₀ l₀ (state log₂) two (one ∷ []) → MakesOver state old new l₀ l₁ Shape f₀ f₁
  MadeCallsLead-two old mid new l₀ l₁ log₁ log₂ one two Shape f₀ f₁ says first second shape leads kept_one kept_two =
      NewCallsSatisfy-then old mid new (IsMade one log₁) (IsMade two log₂) (AreMade l₀ l₁ Shape f₀ f₁)
      (NewCallsSatisfy-made old mid one log₁ (IsMade one log₁) first refl)
      (NewCallsSatisfy-made mid new two log₂ (IsMade two log₂) second refl)
      (λ xs ys is_one is_two. subst (AreMade l₀ l₁ Shape f₀ f₁) (sym (λ i. is_two i ++ is_one i))
      (shape, leads, fronts_two f₀ l₀ l₁ one two says, (kept_two, (kept_one, tt))))
    where
      IsMade : HostCall → L → List (Made L) → Type 0
      IsMade call log made_calls = made_calls ≡ record { call = call; log = log } ∷ []

  pub MadeCallsLead-none : (now : Option (List (Made L))) (log : LogState) (Shape : List HostCall → Type 0)
      (f : Goal → Point → Type 0) → Shape [] → MakesOver state now now log log Shape f f
  MadeCallsLead-none now log Shape f shape =
      NewCallsSatisfy-none now (AreMade log log Shape f f) (shape, CallsLead-none f log, fronts_none f log log, tt)

  -- `ys` after `xs`, if the log only takes more in between, whatever is answered
  pub MadeCallsLead-then : (old mid new : Option (List (Made L))) (l₀ l₁ l₂ : LogState) (P Q R : List HostCall → Type 0)
      (f₀ f₁ f₂ : Goal → Point → Type 0) → ((goal : Goal) (p : Point) → f₀ goal p → Grows l₁ l₂)
      → MakesOver state old mid l₀ l₁ P f₀ f₁ → MakesOver state mid new l₁ l₂ Q f₁ f₂
      → ((xs ys : List HostCall) → P xs → Q ys → R (ys ++ xs)) → MakesOver state old new l₀ l₂ R f₀ f₂
  MadeCallsLead-then old mid new l₀ l₁ l₂ P Q R f₀ f₁ f₂ grows first second both =
      NewCallsSatisfy-then old mid new (AreMade l₀ l₁ P f₀ f₁) (AreMade l₁ l₂ Q f₁ f₂)
      (AreMade l₀ l₂ R f₀ f₂) first second
      (λ xs ys a b.
      let earlier = calls_of xs in
      let later = calls_of ys in
      let joined = sym (calls_of-append ys xs) in (
        subst R joined (both earlier later a.0 b.0),
        subst (CallsLead f₀ f₂ l₀ l₂) joined (CallsLead-then f₀ f₁ f₂ l₀ l₁ l₂ earlier later a.1 b.1),
        subst (Fronts past_of f₀ l₀ l₂) joined (fronts_then f₀ f₁ l₀ l₁ l₂ earlier later a.1 a.2 b.2 grows),
        Kept-then state f₀ f₁ l₀ l₁ xs ys a.1 a.3 b.3,
      ))

  pub MadeCallsLead-map : (old new : Option (List (Made L))) (l₀ l₁ : LogState) (P Q : List HostCall → Type 0)
      (f₀ f₁ g₀ g₁ : Goal → Point → Type 0) → ((goal : Goal) (p : Point) → is_sound goal p.past ≡ true → g₀ goal p
      → f₀ goal p) → MakesOver state old new l₀ l₁ P f₀ f₁ → ((calls : List HostCall) → P calls
      → CallsLead f₀ f₁ l₀ l₁ calls → Q calls × CallsLead g₀ g₁ l₀ l₁ calls) → MakesOver state old new l₀ l₁ Q g₀ g₁
  MadeCallsLead-map old new l₀ l₁ P Q f₀ f₁ g₀ g₁ narrower makes more =
      NewCallsSatisfy-map old new (AreMade l₀ l₁ P f₀ f₁) (AreMade l₀ l₁ Q g₀ g₁) makes
      (λ made_calls a.
      let mapped = more (calls_of made_calls) a.0 a.1 in (
        mapped.0,
        mapped.1,
        fronts_from past_of f₀ g₀ l₀ l₀ before l₁ (calls_of made_calls) a.2,
        kept_from past_of f₀ g₀ l₀ l₀ before state made_calls a.3,
      ))
    where
      before : (goal : Goal) (p : Point) → is_sound goal p.past ≡ true → g₀ goal p
          → f₀ goal p × (are_seconds_short goal p.past ≡ true → Took l₀ l₀ p.past p.past)
      before goal p sound fits = (narrower goal p sound fits, λ short. Took-none l₀ p.past)

-- ---- steps, one after the other

pub steps_more : (strict : Bool) (made : ℕ) (xs ys : List HostCall) → AreSteps strict made xs
    → IsStepUnlessIdle strict false ys → AreSteps strict (made + 1) (ys ++ xs)
steps_more strict made xs ys steps step = subst (λ n. AreSteps strict n (ys ++ xs)) next (ys, xs, refl, step, steps)
  where
    next : suc made ≡ made + 1
    next = omega arith

pub steps_end : (strict : Bool) (made : ℕ) (xs ys : List HostCall) → made ≤ STEP_LIMIT → AreSteps strict made xs
    → IsStepUnlessIdle strict true ys → AreAllSteps strict true (ys ++ xs)
steps_end strict made xs ys within steps none = subst (λ calls. AreAllSteps strict true (calls ++ xs)) (sym none)
    (record { count = made; step_calls = steps; most = within; ended = inl refl })

pub steps_all : (strict : Bool) (calls : List HostCall) → AreSteps strict STEP_LIMIT calls
    → AreAllSteps strict false calls
steps_all strict calls steps = record { count = STEP_LIMIT; step_calls = steps; most = omega arith; ended = inr refl }
