-- A part of init's work, for one call, for none, and for two parts; and if the whole was possible, its earlier part
-- was.
use Rattle.supervisor.proofs.EdgeWords.{arith, ◌≡◌, refl, sym, ◌∙◌, ap, subst, ℕ, Bool, true, false, ◌+◌, List, [], ◌∷◌}
use Rattle.supervisor.proofs.EdgeWords.{◌++◌, Option, Ok, Err, list_all, and_parts, Answer, OrderKind, Goal, Event}
use Rattle.supervisor.proofs.EdgeWords.{is_sound, Start, Signal, Late, Clock, TakeBytes, ReadTables, Carry, Announce}
use Rattle.supervisor.proofs.EdgeWords.{Pause}
use Rattle.supervisor.proofs.EdgeWords.{Reply, HostCall, TextRead, LogState, Point, ordered, come, nudged_if}
use Rattle.supervisor.proofs.EdgeWords.{byte_after, bytes_after, handed_if, announced, after, point_after, is_in_place}
use Rattle.supervisor.proofs.EdgeWords.{AreTexts, Counted, IsStateText, may_happen, is_allowed, are_carried, gone_on}
use Rattle.supervisor.proofs.EdgeWords.{past_of}
use Rattle.supervisor.proofs.EdgeWords.{Took, IfPossibleFrom, Went, CallsWereInPlace, has_trace, CallsLead, Heard}
use Rattle.supervisor.proofs.EdgeWords.{Hears}
use Rattle.supervisor.proofs.EdgeWords.{takes_no_bytes}
use Rattle.trace_events.specs.declared.happenings.Handed.TheVariants as handed
use Rattle.trace_events.specs.declared.happenings.Happening.TheVariants as past
use Rattle.trace_laws.proofs.Laws.{lawful_unbroken, sound_lawful}
use Rattle.host_calls.specs.declared.calls.Call.TheVariants.{Look}
use Rattle.supervisor.proofs.Point.{point_after-append, has_trace-append, has_trace-one}
use Rattle.supervisor.proofs.Seconds.{logged, short_then}
use Rattle.supervisor.proofs.Taking.{Logs-none, Logs-then, Took-none, Took-then}

module _ (goal : Goal) where
  -- the past of something that was possible was possible
  pub allowed_rest : (happening : Event) (so_far : List Event) → is_allowed goal (happening ∷ so_far) ≡ true
      → is_allowed goal so_far ≡ true
  allowed_rest happening so_far h = (and_parts (may_happen goal happening so_far) (is_allowed goal so_far) h).1

  pub allowed_first : (happening : Event) (so_far : List Event) → is_allowed goal (happening ∷ so_far) ≡ true
      → may_happen goal happening so_far ≡ true
  allowed_first happening so_far h = (and_parts (may_happen goal happening so_far) (is_allowed goal so_far) h).0

  pub ordered_allowed : (id : List ℕ) (ask : OrderKind) (reply : Reply) (so_far : List Event)
      → is_allowed goal (ordered id ask reply so_far) ≡ true → is_allowed goal so_far ≡ true
  ordered_allowed id ask reply so_far h = grind arith

  pub nudged_allowed : (b : Bool) (so_far : List Event) → is_allowed goal (nudged_if b so_far) ≡ true
      → is_allowed goal so_far ≡ true
  nudged_allowed true so_far h = allowed_rest past.Nudge so_far h
  nudged_allowed false so_far h = h

  pub come_allowed : (late : Option (List ℕ × Answer)) (so_far : List Event) → is_allowed goal (come late so_far) ≡ true
      → is_allowed goal so_far ≡ true
  come_allowed late so_far h = grind arith

  byte_allowed : (byte : ℕ) (p : Point) → is_allowed goal (byte_after byte p).past ≡ true
      → is_allowed goal p.past ≡ true
  byte_allowed byte p h = grind arith

  pub bytes_allowed : (bytes : List ℕ) (p : Point) → is_allowed goal (bytes_after bytes p).past ≡ true
      → is_allowed goal p.past ≡ true
  bytes_allowed [] p h = h
  bytes_allowed (byte ∷ bytes) p h = byte_allowed byte p (bytes_allowed bytes (byte_after byte p) h)

  handed_allowed : (b : Bool) (so_far : List Event) → is_allowed goal (handed_if b so_far) ≡ true
      → is_allowed goal so_far ≡ true
  handed_allowed true so_far h = allowed_rest (past.Handed handed.Whole) so_far h
  handed_allowed false so_far h = h

  announced_allowed : (happening : Event) (so_far : List Event) → is_allowed goal (announced happening so_far) ≡ true
      → is_allowed goal so_far ≡ true
  announced_allowed happening so_far h = grind arith

  pub after_allowed : (call : HostCall) (p : Point) → is_allowed goal (after call p).past ≡ true
      → is_allowed goal p.past ≡ true
  after_allowed call p h =
      grind (
        arith,
        ordered_allowed,
        come_allowed,
        nudged_allowed,
        allowed_rest,
        bytes_allowed,
        handed_allowed,
        announced_allowed,
      )

  pub calls_allowed : (calls : List HostCall) (p : Point) → is_allowed goal (point_after calls p).past ≡ true
      → is_allowed goal p.past ≡ true
  calls_allowed [] p h = h
  calls_allowed (call ∷ calls) p h = calls_allowed calls p (after_allowed call (point_after calls p) h)

-- no happening of a sound trace breaks a law
pub went_well : (goal : Goal) (p : Point) (calls : List HostCall) → has_trace goal calls p ≡ true
    → is_sound goal (point_after calls p).past ≡ true → CallsWereInPlace goal p calls
went_well goal p calls in_place sound = record {
  in_place = in_place;
  sound = sound;
  unbroken = lawful_unbroken (point_after calls p).past (sound_lawful goal (point_after calls p).past sound);
}

-- a call with the effect of what needs no call, made where it is permitted
pub CallsLead-heard : (fitted fit : Goal → Point → Type 0) (old new : LogState) (call : HostCall)
    (more : List Event → List Event) → Hears fitted fit old new more → ((p : Point) → after call p ≡ gone_on more p)
    → ((goal : Goal) (p : Point) → is_sound goal p.past ≡ true → fitted goal p → is_in_place goal call [] p.past ≡ true)
    → ((goal : Goal) (p : Point) → AreTexts goal (call ∷ []) p) → CallsLead fitted fit old new (call ∷ [])
CallsLead-heard fitted fit old new call more hears comes position texts goal p sound fits allowed = (
  texts goal p,
  λ carried.
      let heard : Heard fit old new goal p (gone_on more p) =
      hears goal p sound fits (ap (λ (q : Point). is_allowed goal q.past) (sym (comes p)) ∙ allowed) in
      let behind : Heard fit old new goal p (after call p) = subst (Heard fit old new goal p) (sym (comes p)) heard in
      record {
        well = went_well goal p (call ∷ []) (has_trace-one goal call p (ap (λ (q : Point). q.generation) (comes p))
            (position goal p sound fits)) behind.sound;
        fits = behind.fits;
        log = logged goal (call ∷ []) p old new behind.sound behind.log;
      },
)

-- the texts came back in a permitted way in each of two parts
pub carried_parts : (ys xs : List HostCall) (p : Point) → are_carried (ys ++ xs) p ≡ true
    → (are_carried ys (point_after xs p) ≡ true) × (are_carried xs p ≡ true)
carried_parts [] xs p h = grind (arith, point_after-append)
carried_parts (happening ∷ ys) xs p h = grind (arith, carried_parts ys xs p, point_after-append)

-- each of two parts carried state texts
pub texts_then : (goal : Goal) (ys xs : List HostCall) (p : Point)
    → (are_carried xs p ≡ true → AreTexts goal ys (point_after xs p)) → AreTexts goal xs p → AreTexts goal (ys ++ xs) p
texts_then goal [] xs p later earlier = earlier
texts_then goal (Carry text back ∷ ys) xs p later earlier = (
  λ carried.
      let parts = carried_parts ys xs p carried in
      subst (λ (q : Point). IsStateText goal q.past (q.generation + 1) text) (sym (point_after-append ys xs p))
      ((later parts.1).0 parts.0),
  texts_then goal ys xs p (λ carried. (later carried).1) earlier,
)
texts_then goal (Start id command reply ∷ ys) xs p later earlier = texts_then goal ys xs p later earlier
texts_then goal (Look id reply ∷ ys) xs p later earlier = texts_then goal ys xs p later earlier
texts_then goal (Signal id sent reply ∷ ys) xs p later earlier = texts_then goal ys xs p later earlier
texts_then goal (Late late ∷ ys) xs p later earlier = texts_then goal ys xs p later earlier
texts_then goal (Clock time ∷ ys) xs p later earlier = texts_then goal ys xs p later earlier
texts_then goal (TakeBytes room taken ∷ ys) xs p later earlier = texts_then goal ys xs p later earlier
texts_then goal (ReadTables parts ∷ ys) xs p later earlier = texts_then goal ys xs p later earlier
texts_then goal (Announce happening ∷ ys) xs p later earlier = texts_then goal ys xs p later earlier
texts_then goal (Pause ∷ ys) xs p later earlier = texts_then goal ys xs p later earlier

pub CallsLead-none : (fit : Goal → Point → Type 0) (log : LogState) → CallsLead fit fit log log []
CallsLead-none fit log goal p sound fits allowed =
    (tt, λ carried. record { well = went_well goal p [] refl sound; fits = fits; log = λ short. Took-none log p.past })

-- a stronger condition, or a weaker property, up to some calls
pub IfPossibleFrom-map : (f g : Goal → Point → Type 0) (P Q : Goal → Point → List HostCall → Type 0)
    (calls : List HostCall)
    → ((goal : Goal) (p : Point) → is_sound goal p.past ≡ true → g goal p
    → f goal p × (P goal p calls → Q goal p calls)) → IfPossibleFrom f P calls → IfPossibleFrom g Q calls
IfPossibleFrom-map f g P Q calls more up goal p sound fits allowed =
    let (before, behind) = more goal p sound fits in
    let led = up goal p sound before allowed in
    (led.0, λ carried. behind (led.1 carried))

-- the same after other calls
pub IfPossibleFrom-then : (f₀ f₁ : Goal → Point → Type 0) (old mid : LogState)
    (Q R : Goal → Point → List HostCall → Type 0)
    (xs ys : List HostCall) → CallsLead f₀ f₁ old mid xs → IfPossibleFrom f₁ Q ys
    → ((goal : Goal) (p : Point) → point_after (ys ++ xs) p ≡ point_after ys (point_after xs p)
    → Went past_of f₁ old mid goal p xs → Q goal (point_after xs p) ys → R goal p (ys ++ xs))
    → IfPossibleFrom f₀ R (ys ++ xs)
IfPossibleFrom-then f₀ f₁ old mid Q R xs ys one two both goal p sound fits allowed =
    let joined : point_after (ys ++ xs) p ≡ point_after ys (point_after xs p) = point_after-append ys xs p in
    let later : is_allowed goal (point_after ys (point_after xs p)).past ≡ true =
    ap (λ (q : Point). is_allowed goal q.past) (sym joined) ∙ allowed in
    let earlier = one goal p sound fits (calls_allowed goal ys (point_after xs p) later) in
    let behind : are_carried xs p ≡ true
    → AreTexts goal ys (point_after xs p) × (are_carried ys (point_after xs p) ≡ true → Q goal (point_after xs p) ys) =
    λ carried. two goal (point_after xs p) (earlier.1 carried).well.sound (earlier.1 carried).fits later in (
      texts_then goal ys xs p (λ carried. (behind carried).0) earlier.0,
      λ carried.
          let parts = carried_parts ys xs p carried in
          both goal p joined (earlier.1 parts.1) ((behind parts.1).1 parts.0),
    )

pub well_then : (goal : Goal) (p : Point) (xs ys : List HostCall) → CallsWereInPlace goal p xs
    → CallsWereInPlace goal (point_after xs p) ys → CallsWereInPlace goal p (ys ++ xs)
well_then goal p xs ys first second = went_well goal p (ys ++ xs) (has_trace-append goal ys xs p second.in_place
    first.in_place) (ap (λ (q : Point). is_sound goal q.past) (point_after-append ys xs p) ∙ second.sound)

-- `ys` after `xs`
pub CallsLead-then : (f₀ f₁ f₂ : Goal → Point → Type 0) (l₀ l₁ l₂ : LogState) (xs ys : List HostCall)
    → CallsLead f₀ f₁ l₀ l₁ xs → CallsLead f₁ f₂ l₁ l₂ ys → CallsLead f₀ f₂ l₀ l₂ (ys ++ xs)
CallsLead-then f₀ f₁ f₂ l₀ l₁ l₂ xs ys one two = IfPossibleFrom-then f₀ f₁ l₀ l₁ (Went past_of f₂ l₁ l₂)
    (Went past_of f₂ l₀ l₂) xs ys one two (λ goal p joined first second. record {
      well = well_then goal p xs ys first.well second.well;
      fits = subst (f₂ goal) (sym joined) second.fits;
      log = λ short. subst (λ (q : Point). Took l₀ l₂ p.past q.past) (sym joined)
          (Took-then l₀ l₁ l₂ p.past (point_after xs p).past (point_after ys (point_after xs p)).past (first.log short)
          (second.log (short_then goal xs p first.well.sound short)));
    })

-- from a stronger condition to a weaker one, using that the trace is sound
pub CallsLead-map : (f g fit fit' : Goal → Point → Type 0) (old new : LogState) (calls : List HostCall)
    → ((goal : Goal) (p : Point) → is_sound goal p.past ≡ true → g goal p → f goal p × (is_sound goal
    (point_after calls p).past ≡ true → fit goal (point_after calls p) → fit' goal (point_after calls p)))
    → CallsLead f fit old new calls → CallsLead g fit' old new calls
CallsLead-map f g fit fit' old new calls more =
    IfPossibleFrom-map f g (Went past_of fit old new) (Went past_of fit' old new) calls
    (λ goal p sound fits.
    let (before, behind) = more goal p sound fits in
    (before, λ went. record { well = went.well; fits = behind went.well.sound went.fits; log = went.log }))

pub CallsLead-weaken : (fitted fitted' fit fit' : Goal → Point → Type 0) (old new : LogState) (calls : List HostCall)
    → ((goal : Goal) (p : Point) → fitted' goal p → fitted goal p) → ((goal : Goal) (p : Point) → fit goal p
    → fit' goal p) → CallsLead fitted fit old new calls → CallsLead fitted' fit' old new calls
CallsLead-weaken fitted fitted' fit fit' old new calls before behind =
    CallsLead-map fitted fitted' fit fit' old new calls
    (λ goal p sound fits. (before goal p fits, λ now. behind goal (point_after calls p)))

pub over_left : (calls : List HostCall) (p : Point) → list_all takes_no_bytes calls ≡ true
    → (point_after calls p).over ≡ p.over
over_left [] p h = grind arith
over_left (call ∷ calls) p h = grind (arith, over_left calls p)

-- calls other than reading the clock and asking for late answers do not change the number of late answers
bytes_lates : (bytes : List ℕ) (p : Point) → (bytes_after bytes p).lates ≡ p.lates
bytes_lates [] p = grind arith
bytes_lates (byte ∷ bytes) p = grind (arith, bytes_lates bytes (byte_after byte p))

pub bytes_generation : (bytes : List ℕ) (p : Point) → (bytes_after bytes p).generation ≡ p.generation
bytes_generation [] p = grind arith
bytes_generation (byte ∷ bytes) p = grind (arith, bytes_generation bytes (byte_after byte p))

pub bytes_counted : (room : ℕ) (taken : TextRead) (count : ℕ) (goal : Goal) (p : Point) → Counted count goal p
    → Counted count goal (point_after (TakeBytes room taken ∷ []) p)
bytes_counted room (Ok bytes) count goal p is = bytes_lates bytes p ∙ is
bytes_counted room (Err fault) count goal p is = is

-- what the calls do not change holds in addition to what they establish
pub CallsLead-beside : (f₀ f₁ K : Goal → Point → Type 0) (old new : LogState) (calls : List HostCall)
    → ((goal : Goal) (p : Point) → K goal p → K goal (point_after calls p)) → CallsLead f₀ f₁ old new calls
    → CallsLead (λ goal p. f₀ goal p × K goal p) (λ goal p. f₁ goal p × K goal p) old new calls
CallsLead-beside f₀ f₁ K old new calls kept = CallsLead-map f₀ (λ goal p. f₀ goal p × K goal p) f₁ (λ goal p. f₁ goal p
    × K goal p) old new calls (λ goal p sound fits. (fits.0, λ now behind. (behind, kept goal p fits.1)))

pub CallsLead-frame : (f₀ f₁ : Goal → Point → Type 0) (K : List ℕ → Type 0) (old new : LogState) (calls : List HostCall)
    → list_all takes_no_bytes calls ≡ true → CallsLead f₀ f₁ old new calls
    → CallsLead (λ goal p. f₀ goal p × K p.over) (λ goal p. f₁ goal p × K p.over) old new calls
CallsLead-frame f₀ f₁ K old new calls none leads = CallsLead-beside f₀ f₁ (λ goal p. K p.over) old new calls
    (λ goal p kept. subst K (sym (over_left calls p none)) kept) leads

-- a call without effect
pub CallsLead-still : (fit : Goal → Point → Type 0) (log : LogState) (call : HostCall)
    → ((p : Point) → after call p ≡ p) → ((goal : Goal) (so_far : List Event) → is_in_place goal call [] so_far ≡ true)
    → ((goal : Goal) (p : Point) → AreTexts goal (call ∷ []) p) → CallsLead fit fit log log (call ∷ [])
CallsLead-still fit log call still position texts goal p sound fits allowed = (
  texts goal p,
  λ carried. record {
    well = went_well goal p (call ∷ []) (has_trace-one goal call p (ap (λ (q : Point). q.generation) (still p))
        (position goal p.past)) (ap (λ (q : Point). is_sound goal q.past) (still p) ∙ sound);
    fits = subst (fit goal) (sym (still p)) fits;
    log = λ short. subst (λ (q : Point). Took log log p.past q.past) (sym (still p)) (Took-none log p.past);
  },
)

-- the same for what needs no call
pub Hears-none : (fit : Goal → Point → Type 0) (log : LogState) → Hears fit fit log log (λ so_far. so_far)
Hears-none fit log goal p sound fits allowed = record { sound = sound; fits = fits; log = Logs-none log p.past }

-- one after the other, if what was possible after the later one was possible after the earlier one
pub Hears-then : (f₀ f₁ f₂ : Goal → Point → Type 0) (l₀ l₁ l₂ : LogState) (earlier later : List Event → List Event)
    → ((goal : Goal) (so_far : List Event) → is_allowed goal (later so_far) ≡ true → is_allowed goal so_far ≡ true)
    → Hears f₀ f₁ l₀ l₁ earlier → Hears f₁ f₂ l₁ l₂ later → Hears f₀ f₂ l₀ l₂ (λ so_far. later (earlier so_far))
Hears-then f₀ f₁ f₂ l₀ l₁ l₂ earlier later rest one two goal p sound fits allowed =
    let first : Heard f₁ l₀ l₁ goal p (gone_on earlier p) =
    one goal p sound fits (rest goal (earlier p.past) allowed) in
    let second : Heard f₂ l₁ l₂ goal (gone_on earlier p) (gone_on later (gone_on earlier p)) =
    two goal (gone_on earlier p) first.sound first.fits allowed in
    record {
      sound = second.sound;
      fits = second.fits;
      log = Logs-then l₀ l₁ l₂ p.past (earlier p.past) (later (earlier p.past)) first.log second.log;
    }
