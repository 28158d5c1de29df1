-- The parts of a turn, and turns, one after the other.
use Rattle.supervisor.proofs.Words.{arith, ◌≡◌, refl, sym, ap, ◌∙◌, subst, ℕ, zero, suc, Bool, true, false, not, ◌&&◌}
use Rattle.supervisor.proofs.Words.{◌||◌, List, [], ◌∷◌, ◌++◌, drop, length, Option, Result, list_all, false≢true}
use Rattle.supervisor.proofs.Words.{and_from, and_parts, list_all-append, PartialBlock, ReaderAfter, Goal, is_sound}
use Rattle.supervisor.proofs.Words.{CoreState}
use Rattle.supervisor.proofs.Words.{is_drained, unreaped_recorded, LogState, Clock, TakeBytes, Pause, HostCall}
use Rattle.supervisor.proofs.Words.{AddsStamped, Made, calls_of, kept_still, Point, point_after, Brings}
use Rattle.supervisor.proofs.Words.{has_short_seconds, Grows, HasReadSomeBytes, Counted, HasReadBytes, CallsLead, Took}
use Rattle.supervisor.proofs.Words.{Tracks, IfPossibleFrom}
use Rattle.supervisor.proofs.Words.{Went}
use Rattle.supervisor.proofs.Words.{past_of, AreSteps, AreTurns, IsTurn, MadeTurns, Turned, are_full, are_late_answers}
use Rattle.supervisor.proofs.Words.{are_byte_readings, bytes_taken, has_come, is_busy, is_room, is_reread, is_step}
use Rattle.supervisor.proofs.Words.{takes_no_bytes}
use Rattle.supervisor.proofs.Words.{Grows-none, IfPossibleFrom-then, CallsLead-map, CallsLead-beside, CallsLead-frame}
use Rattle.supervisor.proofs.Words.{CallsLead-still}
use Rattle.supervisor.proofs.Words.{CallsLead-weaken, bytes_counted, NewCallsSatisfy-map, NewCallsSatisfy-none}
use Rattle.supervisor.proofs.Words.{NewCallsSatisfy-then, FitsAndRestsIf}
use Rattle.supervisor.proofs.Words.{AreAllSteps, TracksAtBlockStart, IsReading, HoldsAfterTurn, HoldsAfterTurns}
use Rattle.supervisor.proofs.Words.{MakesOver}
use Rattle.trace_events.specs.Due.{due, first}
use Rattle.host_calls.specs.declared.calls.HostFault.{HostFault}
use Rattle.host_calls.specs.Record.{NewCallsSatisfy}
use Rattle.supervisor.specs.CallsLead.{TracksPoint}
use Rattle.supervisor.proofs.Seconds.{short_then}
use Rattle.supervisor.proofs.Requests.{calls_bring}
use Rattle.supervisor.proofs.Carried.{CallsLead-left}
use Rattle.supervisor.proofs.Parts.{AreMade, MadeCallsLead-map, MadeCallsLead-none, MadeCallsLead-one}
use Rattle.supervisor.proofs.Parts.{MadeCallsLead-then}

-- ---- what calls do not change

all_by : (p q : HostCall → Bool) → ((call : HostCall) → p call ≡ true → q call ≡ true) → (calls : List HostCall)
    → list_all p calls ≡ true → list_all q calls ≡ true
all_by p q more [] all = grind arith
all_by p q more (call ∷ calls) all = grind (arith, all_by p q more calls)

come_none : (call : HostCall) → has_come call ≡ true → takes_no_bytes call ≡ true
come_none call h = grind arith

step_none : (strict : Bool) (calls : List HostCall) → (is_step calls || is_reread strict calls) ≡ true
    → list_all takes_no_bytes calls ≡ true
step_none strict calls h = grind arith

steps_none : (strict : Bool) (count : ℕ) (calls : List HostCall) → AreSteps strict count calls
    → list_all takes_no_bytes calls ≡ true
steps_none strict zero calls none = ap (list_all takes_no_bytes) none
steps_none strict (suc count) calls (last, before, is, step, steps) =
    ap (list_all takes_no_bytes) is ∙ list_all-append takes_no_bytes last before
    ∙ and_from (list_all takes_no_bytes last)
    (list_all takes_no_bytes before) (step_none strict last step) (steps_none strict count before steps)

lates_none : (calls : List HostCall) → are_late_answers calls ≡ true → list_all takes_no_bytes calls ≡ true
lates_none calls h = grind (arith, all_by, come_none)

full_counted : (count : ℕ) (calls : List HostCall) → are_full calls ≡ true → (goal : Goal) (p : Point)
    → Counted count goal p → Counted count goal (point_after calls p)
full_counted count [] full goal p is = is
full_counted count (TakeBytes room taken ∷ calls) full goal p is =
    bytes_counted room taken count goal (point_after calls p)
    (full_counted count calls (and_parts _ (are_full calls) full).1 goal p is)
full_counted count (_ ∷ calls) full goal p is = absurd (false≢true full)

takes_counted : (count : ℕ) (calls : List HostCall) → are_byte_readings calls ≡ true → (goal : Goal) (p : Point)
    → Counted count goal p → Counted count goal (point_after calls p)
takes_counted count (TakeBytes room taken ∷ calls) takes goal p is =
    bytes_counted room taken count goal (point_after calls p)
    (full_counted count calls (and_parts (is_room room (bytes_taken calls)) (are_full calls)
    (and_parts (is_room room (bytes_taken calls) && are_full calls) _ takes).0).1 goal p is)
takes_counted count [] takes goal p is = absurd (false≢true takes)
takes_counted count (_ ∷ calls) takes goal p is = absurd (false≢true takes)

-- ---- a turn

abbrev HasTaken : List HostCall → Type 0
HasTaken calls = (time : Result ℕ HostFault) × (takes : List HostCall) × (calls ≡ takes ++ Clock time ∷ [])
    × (are_byte_readings takes ≡ true)

abbrev HasHeard : List HostCall → Type 0
HasHeard calls = (time : Result ℕ HostFault) × (takes lates : List HostCall)
    × (calls ≡ lates ++ (takes ++ Clock time ∷ [])) × (are_byte_readings takes ≡ true) × (are_late_answers lates ≡ true)

turned : (strict done : Bool) (xs ys : List HostCall) → HasHeard xs → AreAllSteps strict done ys
    → IsTurn strict done (ys ++ xs)
turned strict done xs ys h steps = grind arith

-- the condition holds, and no late answer was asked for since the clock was read
abbrev Counting : (Goal → Point → Type 0) → Goal → Point → Type 0
Counting fit goal p = fit goal p × Counted 0 goal p

pub turn_made : {L : Type 0} (state : L → LogState) (strict done : Bool) (t₀ t₁ t₂ t₃ t₄ : Option (List (Made L)))
    (l₀ l₁ l₂ l₃ l₄ : LogState) (c₀ c₁ c₂ c₃ c₄ : CoreState) (b₀ b₁ : PartialBlock)
    → MakesOver state t₀ t₁ l₀ l₁ IsReading
    (Tracks c₀) (λ goal p. Tracks c₁ goal p × Counted 0 goal p)
    → MakesOver state t₁ t₂ l₁ l₂ (λ calls. are_byte_readings calls
    ≡ true) (TracksPoint c₁ b₀) (TracksPoint c₂ b₁)
    → MakesOver state t₂ t₃ l₂ l₃ (λ calls. are_late_answers calls ≡ true)
    (λ goal p. Tracks c₂ goal p × Counted 0 goal p) (Tracks c₃) → MakesOver state t₃ t₄ l₃ l₄ (AreAllSteps strict done)
    (Tracks c₃) (FitsAndRestsIf done (Tracks c₄))
    → (HasReadSomeBytes b₀ → has_short_seconds c₀ ≡ true → Grows l₁ l₂ × Grows l₂ l₃
    × Grows l₃ l₄) → MakesOver state t₀ t₄ l₀ l₄ (IsTurn strict done) (TracksPoint c₀ b₀) (HoldsAfterTurn done c₄ b₁)
turn_made state strict done t₀ t₁ t₂ t₃ t₄ l₀ l₁ l₂ l₃ l₄ c₀ c₁ c₂ c₃ c₄ b₀ b₁ clock takes lates steps grows =
    MadeCallsLead-map state t₀ t₄ l₀ l₄ (IsTurn strict done) (IsTurn strict done) (TracksPoint c₀ b₀)
    (FitsAndRestsIf done (TracksPoint c₄ b₁))
    (TracksPoint c₀ b₀) (HoldsAfterTurn done c₄ b₁) (λ goal p sound fits. fits)
    (MadeCallsLead-then state t₀ t₃ t₄ l₀ l₃ l₄ HasHeard (AreAllSteps strict done) (IsTurn strict done)
    (TracksPoint c₀ b₀)
    (TracksPoint c₃ b₁)
    (FitsAndRestsIf done (TracksPoint c₄ b₁)) (λ goal p fits. (grows (p.over, fits.1) fits.0.short).2)
    (MadeCallsLead-then state t₀ t₂ t₃ l₀ l₂ l₃ HasTaken (λ calls. are_late_answers calls ≡ true) HasHeard
    (TracksPoint c₀ b₀)
    (Counting (TracksPoint c₂ b₁)) (TracksPoint c₃ b₁) (λ goal p fits. (grows (p.over, fits.1) fits.0.short).1)
    (MadeCallsLead-then state t₀ t₁ t₂ l₀ l₁ l₂ IsReading (λ calls. are_byte_readings calls ≡ true) HasTaken
    (TracksPoint c₀ b₀)
    (Counting (TracksPoint c₁ b₀)) (Counting (TracksPoint c₂ b₁))
    (λ goal p fits. (grows (p.over, fits.1) fits.0.short).0) clocked taken
    (λ xs ys read take. (read.0, ys, ap (λ calls. ys ++ calls) read.1, take)))
    late (λ xs ys have come. (have.0, have.1, ys, ap (λ calls. ys ++ calls) have.2, have.3, come)))
    stepped (λ xs ys heard all. turned strict done xs ys heard all))
    (λ calls turn leads. (turn, CallsLead-left (TracksPoint c₀ b₀) done c₄ b₁ l₀ l₄ calls leads))
  where
    clocked : MakesOver state t₀ t₁ l₀ l₁ IsReading (TracksPoint c₀ b₀) (Counting (TracksPoint c₁ b₀))
    clocked =
        MadeCallsLead-map state t₀ t₁ l₀ l₁ IsReading IsReading (Tracks c₀) (Counting (Tracks c₁)) (TracksPoint c₀ b₀)
        (Counting (TracksPoint c₁ b₀)) (λ goal p sound fits. fits.0) clock
        (λ calls read leads. (
          read,
          CallsLead-weaken (TracksPoint c₀ b₀) (TracksPoint c₀ b₀)
              (λ goal p. Counting (Tracks c₁) goal p × HasReadBytes b₀ p.over)
              (Counting (TracksPoint c₁ b₀)) l₀ l₁ calls (λ goal p fits. fits)
              (λ goal p fits. ((fits.0.0, fits.1), fits.0.1))
              (CallsLead-frame (Tracks c₀) (Counting (Tracks c₁)) (HasReadBytes b₀) l₀ l₁ calls
              (ap (list_all takes_no_bytes) read.1) leads),
        ))

    taken : MakesOver state t₁ t₂ l₁ l₂ (λ calls. are_byte_readings calls ≡ true) (Counting (TracksPoint c₁ b₀))
        (Counting (TracksPoint c₂ b₁))
    taken = MadeCallsLead-map state t₁ t₂ l₁ l₂ (λ calls. are_byte_readings calls ≡ true)
        (λ calls. are_byte_readings calls ≡ true)
        (TracksPoint c₁ b₀)
        (TracksPoint c₂ b₁) (Counting (TracksPoint c₁ b₀)) (Counting (TracksPoint c₂ b₁))
        (λ goal p sound fits. fits.0) takes
        (λ calls take leads. (
          take,
          CallsLead-beside (TracksPoint c₁ b₀) (TracksPoint c₂ b₁) (Counted 0) l₁ l₂ calls
              (takes_counted 0 calls take) leads,
        ))

    late : MakesOver state t₂ t₃ l₂ l₃ (λ calls. are_late_answers calls ≡ true) (Counting (TracksPoint c₂ b₁))
        (TracksPoint c₃ b₁)
    late = MadeCallsLead-map state t₂ t₃ l₂ l₃ (λ calls. are_late_answers calls ≡ true)
        (λ calls. are_late_answers calls ≡ true)
        (Counting
        (Tracks c₂)) (Tracks c₃) (Counting (TracksPoint c₂ b₁)) (TracksPoint c₃ b₁)
        (λ goal p sound fits. (fits.0.0, fits.1)) lates
        (λ calls come leads. (
          come,
          CallsLead-weaken (λ goal p. Counting (Tracks c₂) goal p × HasReadBytes b₁ p.over)
              (Counting (TracksPoint c₂ b₁)) (TracksPoint c₃ b₁)
              (TracksPoint c₃ b₁) l₂ l₃ calls (λ goal p fits. ((fits.0.0, fits.1), fits.0.1)) (λ goal p fits. fits)
              (CallsLead-frame (Counting (Tracks c₂)) (Tracks c₃) (HasReadBytes b₁) l₂ l₃ calls
              (lates_none calls come) leads),
        ))

    stepped : MakesOver state t₃ t₄ l₃ l₄ (AreAllSteps strict done) (TracksPoint c₃ b₁)
        (FitsAndRestsIf done (TracksPoint c₄ b₁))
    stepped = MadeCallsLead-map state t₃ t₄ l₃ l₄ (AreAllSteps strict done) (AreAllSteps strict done) (Tracks c₃)
        (FitsAndRestsIf done (Tracks c₄)) (TracksPoint c₃ b₁) (FitsAndRestsIf done (TracksPoint c₄ b₁))
        (λ goal p sound fits. fits.0) steps
        (λ calls all leads. (
          all,
          CallsLead-weaken (TracksPoint c₃ b₁) (TracksPoint c₃ b₁)
              (λ goal p. FitsAndRestsIf done (Tracks c₄) goal p × HasReadBytes b₁ p.over)
              (FitsAndRestsIf done (TracksPoint c₄ b₁)) l₃ l₄ calls (λ goal p fits. fits)
              (λ goal p fits. ((fits.0.0, fits.1), fits.0.1))
              (CallsLead-frame (Tracks c₃) (FitsAndRestsIf done (Tracks c₄)) (HasReadBytes b₁) l₃ l₄ calls
              (steps_none strict all.count calls all.step_calls) leads),
        ))

-- ---- turns

-- this many turns were made; if the run ends when init is drained, no turn left it drained
abbrev pub Going : Bool → Bool → (Goal → Point → Type 0) → ℕ → Option (List CoreState) → Option (List CoreState)
    → List HostCall → Type 0
Going strict drain fitted n saw now_saw calls = NewCallsSatisfy saw now_saw (λ cores. (length cores ≡ n)
    × AreTurns strict fitted cores calls × (drain ≡ true → list_all is_busy cores ≡ true))

-- one more turn was made, and left this core
abbrev pub Gone : Bool → Bool → (Goal → Point → Type 0) → ℕ → CoreState → Option (List CoreState)
    → Option (List CoreState) → List HostCall → Type 0
Gone strict drain fitted n core saw now_saw calls =
    NewCallsSatisfy saw now_saw (λ all. (cores : List CoreState) × (all ≡ core ∷ cores)
    × (length cores ≡ n) × AreTurns strict fitted (core ∷ cores) calls × (drain ≡ true → list_all is_busy cores ≡ true))

-- before the first turn
pub turns_none : {L : Type 0} (state : L → LogState) (strict drain : Bool) (now : Option (List (Made L)))
    (log : LogState) (saw : Option (List CoreState)) (c : CoreState) (b : PartialBlock) → ReaderAfter b []
    → MakesOver state now now log log (Going strict drain (TracksAtBlockStart c) 0 saw saw) (TracksAtBlockStart c)
    (TracksPoint c b)
turns_none state strict drain now log saw c b stands =
    MadeCallsLead-map state now now log log (Going strict drain (TracksAtBlockStart c) 0
    saw saw) (Going strict drain (TracksAtBlockStart c) 0 saw saw) (TracksAtBlockStart c) (TracksAtBlockStart c)
    (TracksAtBlockStart c) (TracksPoint c b) (λ goal p sound fits. fits)
    (MadeCallsLead-none state now log (Going strict drain (TracksAtBlockStart c) 0 saw saw) (TracksAtBlockStart c)
    (NewCallsSatisfy-none saw (λ cores. (length cores ≡ 0) × AreTurns strict (TracksAtBlockStart c) cores []
    × (drain ≡ true → list_all is_busy cores ≡ true)) (refl, refl, λ drains. refl)))
    (λ calls none leads. (
      none,
      CallsLead-weaken (TracksAtBlockStart c) (TracksAtBlockStart c) (TracksAtBlockStart c)
          (TracksPoint c b) log log calls
          (λ goal p fits. fits)
          (λ goal p fits.
          (fits.0, subst (HasReadBytes b) (sym fits.1) (record { count = stands.count; front = stands.front }))) leads,
    ))

-- the last turn, after the others
abbrev IsLast : Bool → Bool → Bool → CoreState → CoreState → ℕ → Option (List CoreState) → Option (List CoreState)
    → List HostCall → Type 0
IsLast strict drain done c₀ c n saw now_saw calls = (last earlier : List HostCall) × (calls ≡ last ++ earlier)
    × IsTurn strict done last
    × IfPossibleFrom (TracksAtBlockStart c₀) (Turned done c earlier) (last ++ earlier)
    × Going strict drain (TracksAtBlockStart c₀) n saw now_saw earlier

-- one more turn, an observation, and the pause after it
pub turns_more : {L : Type 0} (state : L → LogState) (strict drain done : Bool) (n : ℕ) (t₀ t₁ t₂ t₃ : Option
    (List (Made L))) (l₀ l₁ : LogState) (log now : L) (s₀ s₁ s₂ : Option (List CoreState)) (c₀ c c' : CoreState)
    (b b' : PartialBlock)
    → MakesOver state t₀ t₁ l₀ l₁ (Going strict drain (TracksAtBlockStart c₀) n s₀ s₁) (TracksAtBlockStart c₀)
    (TracksPoint c b)
    → MakesOver state t₁ t₂ l₁ (state log) (IsTurn strict done) (TracksPoint c b) (HoldsAfterTurn done c' b')
    → (has_short_seconds c₀
    ≡ true → Grows l₁ (state log)) → NewCallsSatisfy s₁ s₂ (λ cores. cores ≡ c' ∷ []) → AddsStamped t₂ t₃ Pause log
    → now ≡ log
    → MakesOver state t₀ t₃ l₀ (state now) (Gone strict drain (TracksAtBlockStart c₀) n c' s₀ s₂)
    (TracksAtBlockStart c₀) (TracksPoint c' b')
turns_more {L = L} state strict drain done n t₀ t₁ t₂ t₃ l₀ l₁ log now s₀ s₁ s₂ c₀ c c' b b' before turn grows look
    pause same =
    subst (λ (l : L). MakesOver state t₀ t₃ l₀ (state l) (Gone strict drain (TracksAtBlockStart c₀) n c' s₀ s₂)
    (TracksAtBlockStart c₀)
    (TracksPoint c' b')) (sym same)
    (MadeCallsLead-then state t₀ t₂ t₃ l₀ l₂ l₂ Last IsPause (Gone strict drain (TracksAtBlockStart c₀) n c' s₀ s₂)
    (TracksAtBlockStart c₀)
    (HoldsAfterTurn done c' b') (TracksPoint c' b') (λ goal p fits. Grows-none l₂)
    (MadeCallsLead-then state t₀ t₁ t₂ l₀ l₁ l₂ Before Turning Last (TracksAtBlockStart c₀) (TracksPoint c b)
    (HoldsAfterTurn done c' b')
    (λ goal p fits. grows fits.0.short)
    (MadeCallsLead-map state t₀ t₁ l₀ l₁ (Going strict drain (TracksAtBlockStart c₀) n s₀ s₁) Before
    (TracksAtBlockStart c₀) (TracksPoint c b) (TracksAtBlockStart c₀) (TracksPoint c b)
    (λ goal p sound fits. fits) before (λ calls going leads. ((going, leads), leads)))
    (MadeCallsLead-map state t₁ t₂ l₁ l₂ (IsTurn strict done) Turning (TracksPoint c b) (HoldsAfterTurn done c' b')
    (TracksPoint c b)
    (HoldsAfterTurn done c' b')
    (λ goal p sound fits. fits) turn (λ calls made leads. ((made, leads), leads)))
    (λ xs ys was is. (ys, xs, refl, is.0, turned_to xs ys was.1 is.1, was.0)))
    (MadeCallsLead-one state t₂ t₃ l₂ l₂ log Pause IsPause (HoldsAfterTurn done c' b') (TracksPoint c' b') pause refl
    (CallsLead-weaken (HoldsAfterTurn done c' b') (HoldsAfterTurn done c' b') (HoldsAfterTurn done c' b')
    (TracksPoint c' b') l₂ l₂ (Pause ∷ [])
    (λ goal p fits. fits) (λ goal p fits. fits.at)
    (CallsLead-still (HoldsAfterTurn done c' b') l₂ Pause (λ p. refl) (λ goal so_far. refl) (λ goal p. tt)))
    (kept_still (HoldsAfterTurn done c' b') l₂ Pause (λ so_far. refl)))
    (λ xs ys (last, earlier, is, made, more, going) one. seen last earlier (ys ++ xs)
    (λ i. one i ++ is i) made more going))
  where
    l₂ : LogState
    l₂ = state log

    Before : List HostCall → Type 0
    Before calls = Going strict drain (TracksAtBlockStart c₀) n s₀ s₁ calls
        × CallsLead (TracksAtBlockStart c₀) (TracksPoint c b) l₀ l₁ calls

    Turning : List HostCall → Type 0
    Turning calls = IsTurn strict done calls × CallsLead (TracksPoint c b) (HoldsAfterTurn done c' b') l₁ l₂ calls

    Last : List HostCall → Type 0
    Last = IsLast strict drain done c₀ c' n s₀ s₁

    IsPause : List HostCall → Type 0
    IsPause calls = calls ≡ Pause ∷ []

    turned_to : (xs ys : List HostCall) → CallsLead (TracksAtBlockStart c₀) (TracksPoint c b) l₀ l₁ xs
        → CallsLead (TracksPoint c b) (HoldsAfterTurn done c' b') l₁ l₂ ys
        → IfPossibleFrom (TracksAtBlockStart c₀) (Turned done c' xs) (ys ++ xs)
    turned_to xs ys one two =
        IfPossibleFrom-then (TracksAtBlockStart c₀) (TracksPoint c b) l₀ l₁
        (Went past_of (HoldsAfterTurn done c' b') l₁ l₂)
        (Turned done c' xs) xs ys one two
        (λ goal p joined went more. record {
          sound = ap (λ (q : Point). is_sound goal q.past) joined ∙ more.well.sound;
          tracks = subst (Tracks c' goal) (sym joined) more.fits.at.0;
          rests = λ is. ap (λ (q : Point). first (due goal q.past)) joined ∙ more.fits.rests is;
          adds = λ short.
              let took : Took l₁ l₂ (point_after xs p).past (point_after ys (point_after xs p)).past =
              more.log (short_then goal xs p went.well.sound short) in
              (took.came, ap (λ (q : Point). q.past) joined ∙ took.grown);
        })

    seen : (last earlier calls : List HostCall) → calls ≡ Pause ∷ (last ++ earlier) → IsTurn strict done last
        → IfPossibleFrom (TracksAtBlockStart c₀) (Turned done c' earlier) (last ++ earlier)
        → Going strict drain (TracksAtBlockStart c₀) n s₀ s₁ earlier
        → Gone strict drain (TracksAtBlockStart c₀) n c' s₀ s₂ calls
    seen last earlier calls is made more going =
        NewCallsSatisfy-then s₀ s₁ s₂ (λ cores. (length cores ≡ n) × AreTurns strict
        (TracksAtBlockStart c₀) cores earlier
        × (drain ≡ true → list_all is_busy cores ≡ true)) (λ cores. cores ≡ c' ∷ [])
        (λ all. (cores : List CoreState) × (all ≡ c' ∷ cores) × (length cores ≡ n)
        × AreTurns strict (TracksAtBlockStart c₀) (c' ∷ cores) calls
        × (drain ≡ true → list_all is_busy cores ≡ true)) going look
        (λ cores newest was one.
        (cores, ap (λ front. front ++ cores) one, was.0, (done, last, earlier, is, made, more, was.1), was.2))

-- the calls have a shape that follows from theirs
shaped : {L : Type 0} (state : L → LogState) (t₀ t₁ : Option (List (Made L))) (l₀ l₁ : LogState)
    (P Q : List HostCall → Type 0) (f₀ f₁ : Goal → Point → Type 0) → ((calls : List HostCall) → P calls → Q calls)
    → MakesOver state t₀ t₁ l₀ l₁ P f₀ f₁ → MakesOver state t₀ t₁ l₀ l₁ Q f₀ f₁
shaped state t₀ t₁ l₀ l₁ P Q f₀ f₁ more makes = MadeCallsLead-map state t₀ t₁ l₀ l₁ P Q f₀ f₁ f₀ f₁
    (λ goal p sound fits. fits) makes (λ calls shape leads. (more calls shape, leads))

-- the run continues
pub turns_on : {L : Type 0} (state : L → LogState) (strict drain : Bool) (n m : ℕ) (t₀ t₁ : Option (List (Made L)))
    (l₀ l₁ : LogState) (s₀ s₁ : Option (List CoreState)) (f₀ f₁ : Goal → Point → Type 0) (c : CoreState) → suc n ≡ m
    → (drain ≡ true → is_drained c ≡ false) → MakesOver state t₀ t₁ l₀ l₁ (Gone strict drain f₀ n c s₀ s₁) f₀ f₁
    → MakesOver state t₀ t₁ l₀ l₁ (Going strict drain f₀ m s₀ s₁) f₀ f₁
turns_on state strict drain n m t₀ t₁ l₀ l₁ s₀ s₁ f₀ f₁ c next busy =
    shaped state t₀ t₁ l₀ l₁ (Gone strict drain f₀ n c s₀ s₁) (Going strict drain f₀ m s₀ s₁) f₀ f₁
    (λ calls (all, told, (cores, is, count, turns, earlier)). (
      all,
      told,
      (
        ap length is ∙ ap suc count ∙ next,
        subst (λ a. AreTurns strict f₀ a calls) (sym is) turns,
        (λ drains. ap (list_all is_busy) is
            ∙ and_from (is_busy c) (list_all is_busy cores) (ap not (busy drains)) (earlier drains)),
      ),
    ))

pub turns_end : {L : Type 0} (state : L → LogState) (strict drain : Bool) (n m : ℕ) (t₀ t₁ : Option (List (Made L)))
    (l₀ l₁ : LogState) (s₀ s₁ : Option (List CoreState)) (f₀ f₁ : Goal → Point → Type 0) (c : CoreState) → suc n ≡ m
    → MakesOver state t₀ t₁ l₀ l₁ (Gone strict drain f₀ n c s₀ s₁) f₀ f₁
    → MakesOver state t₀ t₁ l₀ l₁ (MadeTurns strict drain f₀ m s₀ s₁) f₀ f₁
turns_end state strict drain n m t₀ t₁ l₀ l₁ s₀ s₁ f₀ f₁ c next =
    shaped state t₀ t₁ l₀ l₁ (Gone strict drain f₀ n c s₀ s₁) (MadeTurns strict drain f₀ m s₀ s₁) f₀ f₁
    (λ calls (all, told, (cores, is, count, turns, earlier)). (
      all,
      told,
      (
        ap length is ∙ ap suc count ∙ next,
        subst (λ a. AreTurns strict f₀ a calls) (sym is) turns,
        (λ drains. ap (λ a. list_all is_busy (drop 1 a)) is ∙ earlier drains),
      ),
    ))

pub turns_limit : {L : Type 0} (state : L → LogState) (strict drain : Bool) (n m : ℕ) (t₀ t₁ : Option (List (Made L)))
    (l₀ l₁ : LogState) (s₀ s₁ : Option (List CoreState)) (f₀ f₁ : Goal → Point → Type 0) → n ≡ m → MakesOver state t₀ t₁
    l₀ l₁ (Going strict drain f₀ n s₀ s₁) f₀ f₁ → MakesOver state t₀ t₁ l₀ l₁ (MadeTurns strict drain f₀ m s₀ s₁) f₀ f₁
turns_limit state strict drain n m t₀ t₁ l₀ l₁ s₀ s₁ f₀ f₁ same =
    shaped state t₀ t₁ l₀ l₁ (Going strict drain f₀ n s₀ s₁) (MadeTurns strict drain f₀ m s₀ s₁) f₀ f₁
    (λ calls
    (cores, told, (count, turns, busy)). (cores, told, (count ∙ same, turns, λ drains. others cores (busy drains))))
  where
    others : (cores : List CoreState) → list_all is_busy cores ≡ true → list_all is_busy (drop 1 cores) ≡ true
    others [] all = refl
    others (core ∷ cores) all = (and_parts (is_busy core) (list_all is_busy cores) all).1

-- a core that fits a sound trace counts the unreaped children
pub turns_left : {L : Type 0} (state : L → LogState) (t₀ t₁ : Option (List (Made L))) (l₀ l₁ : LogState)
    (Shape : List HostCall → Type 0) (c₀ c : CoreState) (b : PartialBlock)
    → MakesOver state t₀ t₁ l₀ l₁ Shape (TracksAtBlockStart c₀) (TracksPoint c b)
    → MakesOver state t₀ t₁ l₀ l₁ Shape (TracksAtBlockStart c₀) (HoldsAfterTurns c)
turns_left state t₀ t₁ l₀ l₁ Shape c₀ c b makes =
    MadeCallsLead-map state t₀ t₁ l₀ l₁ Shape Shape (TracksAtBlockStart c₀) (TracksPoint c b) (TracksAtBlockStart c₀)
    (HoldsAfterTurns c) (λ goal p sound fits. fits) makes (λ calls shape leads. (shape, counts calls leads))
  where
    counts : (calls : List HostCall) → CallsLead (TracksAtBlockStart c₀) (TracksPoint c b) l₀ l₁ calls
        → CallsLead (TracksAtBlockStart c₀) (HoldsAfterTurns c) l₀ l₁ calls
    counts calls = CallsLead-map (TracksAtBlockStart c₀) (TracksAtBlockStart c₀) (TracksPoint c b)
        (HoldsAfterTurns c) l₀ l₁ calls (λ goal p sound fits.
        (fits, λ now at. (at.0, unreaped_recorded goal (point_after calls p).past c now at.0.fits.0)))

-- the requests of the calls are those of all bytes
pub turns_bring : {L : Type 0} (state : L → LogState) (t₀ t₁ : Option (List (Made L))) (l₀ l₁ : LogState)
    (Shape : List HostCall → Type 0) (f₀ f₁ : Goal → Point → Type 0) → MakesOver state t₀ t₁ l₀ l₁ Shape f₀ f₁
    → NewCallsSatisfy t₀ t₁ (λ made_calls. (p : Point) → p.over ≡ [] → Brings [] (calls_of made_calls) p)
turns_bring state t₀ t₁ l₀ l₁ Shape f₀ f₁ makes = NewCallsSatisfy-map t₀ t₁ (AreMade state l₀ l₁ Shape f₀ f₁)
    (λ made_calls. (p : Point) → p.over ≡ [] → Brings [] (calls_of made_calls) p) makes
    (λ made_calls held p none. calls_bring (calls_of made_calls) [] p none)
