-- Turns as rounds, and the level that is settled after them.
use Rattle.supervisor.proofs.Words.{◌≡◌, refl, sym, ap, ◌∙◌, subst, ℕ, zero, suc, ◌+◌, ◌-◌, ◌<◌, ◌≤◌, inl, inr, Bool}
use Rattle.supervisor.proofs.Words.{true, false, ◌&&◌, ◌||◌, nat_lt, List, [], ◌∷◌, ◌++◌, length, take, cond}
use Rattle.supervisor.proofs.Words.{append_assoc, arith, length-append, list_all, and_from, and_parts, ltb-true}
use Rattle.supervisor.proofs.Words.{list_all-append, Goal, Event, is_sound, CoreState, AreRoundsWithoutRequests}
use Rattle.supervisor.proofs.Words.{undisturbed_among}
use Rattle.supervisor.proofs.Words.{has_no_request, is_undisturbed, AtRest, after_rounds, Clock, Pause, HostCall}
use Rattle.supervisor.proofs.Words.{STEP_LIMIT, are_carried, are_seconds_short, is_allowed, Point, point_after}
use Rattle.supervisor.proofs.Words.{AreSteps, AreTurns, IsTurn, are_full, are_late_answers, are_byte_readings, has_come}
use Rattle.supervisor.proofs.Words.{is_reread}
use Rattle.supervisor.proofs.Words.{is_step, calls_allowed, carried_parts, point_after-append, SettlesWithin, IsSettled}
use Rattle.supervisor.proofs.Words.{are_unasked_rounds, undisturbed_rounds, turns_in, without_rounds, is_answered_turn}
use Rattle.supervisor.proofs.Words.{past_after, round_of, calls_to_pause, without_turn, without_turns}
use Rattle.trace_events.specs.Past.{is_idle}
use Rattle.core_waiting.proofs.Arriving.{arrives, arrives_there}
use Rattle.core_waiting.proofs.Idle.{idle_none_due}

-- ---- a turn has no pause

abbrev goes_on : HostCall → Bool
goes_on Pause = false
goes_on _ = true

come_goes : (calls : List HostCall) → list_all has_come calls ≡ true → list_all goes_on calls ≡ true
come_goes [] all = grind arith
come_goes (happening ∷ calls) all = grind (arith, come_goes calls)

lates_go : (calls : List HostCall) → are_late_answers calls ≡ true → list_all goes_on calls ≡ true
lates_go calls h = grind (arith, come_goes)

full_go : (calls : List HostCall) → are_full calls ≡ true → list_all goes_on calls ≡ true
full_go [] full = grind arith
full_go (happening ∷ calls) full = grind (arith, full_go calls)

takes_go : (calls : List HostCall) → are_byte_readings calls ≡ true → list_all goes_on calls ≡ true
takes_go calls takes = grind (arith, full_go)

step_goes : (strict : Bool) (calls : List HostCall) → (is_step calls || is_reread strict calls) ≡ true
    → (list_all goes_on calls ≡ true) × (1 ≤ length calls)
step_goes strict calls h = grind arith

steps_go : (strict : Bool) (count : ℕ) (calls : List HostCall) → AreSteps strict count calls
    → (list_all goes_on calls ≡ true) × (count ≤ length calls)
steps_go strict zero calls none = (ap (list_all goes_on) none, omega arith)
steps_go strict (suc count) calls (last, before, is, step, steps) =
    let one = step_goes strict last step in
    let others = steps_go strict count before steps in (
      ap (list_all goes_on) is ∙ list_all-append goes_on last before
          ∙ and_from (list_all goes_on last) (list_all goes_on before) one.0 others.0,
      omega (arith, one.1, others.1, ap length is, length-append last before),
    )

turn_goes : (strict done : Bool) (calls : List HostCall) → IsTurn strict done calls → list_all goes_on calls ≡ true
turn_goes strict done calls turn = grind (arith, list_all-append, steps_go, lates_go, takes_go)

-- a turn that made fewer calls than it may take steps is done
short_done : (strict done : Bool) (calls : List HostCall) → IsTurn strict done calls → length calls < STEP_LIMIT
    → done ≡ true
short_done strict done calls turn short = elim turn.ended [
  | inl is ↦ is
  | inr all ↦ absurd (omega (
    arith,
    all,
    short,
    (steps_go strict turn.count turn.steps turn.step_calls).1,
    ap length turn.whole,
    length-append turn.steps (turn.lates ++ (turn.takes ++ Clock turn.time ∷ [])),
  ))
]

up_to-append : (front calls : List HostCall) → list_all goes_on front ≡ true
    → calls_to_pause (front ++ calls) ≡ calls_to_pause calls
up_to-append [] calls all = grind arith
up_to-append (happening ∷ front) calls all = grind (arith, up_to-append front calls)

-- the newest call of several turns is a pause
up_to_turns : (strict : Bool) (fitted : Goal → Point → Type 0) (cores : List CoreState) (calls : List HostCall)
    → AreTurns strict fitted cores calls → calls_to_pause calls ≡ calls
up_to_turns strict fitted [] calls none = ap calls_to_pause none ∙ sym none
up_to_turns strict fitted (core ∷ cores) calls (done, last, before, is, turn, tracks, earlier) =
    ap calls_to_pause is ∙ sym is

-- without the newest turn, the calls before it are left
before_it : (strict : Bool) (fitted : Goal → Point → Type 0) (cores : List CoreState) (done : Bool)
    (last before calls : List HostCall) → calls ≡ Pause ∷ (last ++ before) → IsTurn strict done last
    → AreTurns strict fitted cores before → without_turn calls ≡ before
before_it strict fitted cores done last before calls is turn earlier = ap without_turn is
    ∙ up_to-append last before (turn_goes strict done last turn) ∙ up_to_turns strict fitted cores before earlier

take_front : (front rest : List Event) → take (length (front ++ rest) - length rest) (front ++ rest) ≡ front
take_front front rest = by front (length (front ++ rest) - length rest) (omega (arith, length-append front rest)) where
  by : (xs : List Event) (n : ℕ) → n ≡ length xs → take n (xs ++ rest) ≡ xs
  by [] n is = ap (λ k. take k rest) is ∙ none rest where
    none : (ys : List Event) → take 0 ys ≡ []
    none ys = grind arith
  by (x ∷ xs) n is = ap (λ k. take k (x ∷ (xs ++ rest))) is ∙ ap (λ ys. x ∷ ys) (by xs (length xs) refl)

module _ (strict : Bool) (fitted : Goal → Point → Type 0) (goal : Goal) (p : Point)
    (sound : is_sound goal p.past ≡ true) (fits : fitted goal p) (short : are_seconds_short goal p.past ≡ true) where
  abbrev May : List HostCall → Type 0
  May calls = (is_allowed goal (past_after calls p) ≡ true) × (are_carried calls p ≡ true)

  -- if the answers to the calls were possible, those to the calls before them were
  may_before : (last before : List HostCall) → May (last ++ before) → May before
  may_before last before (allowed, carried) = (
    calls_allowed goal last (point_after before p)
        (ap (λ (q : Point). is_allowed goal q.past) (sym (point_after-append last before p)) ∙ allowed),
    (carried_parts last before p carried).1,
  )

  -- after an answered turn init is at rest
  rests : (core : CoreState) (cores : List CoreState) (calls : List HostCall)
      → AreTurns strict fitted (core ∷ cores) calls → May calls → is_answered_turn calls p ≡ true
      → AtRest goal (past_after calls p) × (is_idle (past_after calls p) ≡ true)
      × (is_sound goal (past_after calls p) ≡ true)
  rests core cores calls (done, last, before, is, turn, tracks, earlier) may answered =
      let parts = and_parts (nat_lt (length calls) (length (without_turn calls) + STEP_LIMIT))
      (is_idle (past_after calls p)) answered in
      let few : length calls < length (without_turn calls) + STEP_LIMIT = ltb-true _ _ parts.0 in
      let now = subst May is may in
      let tracked = (tracks goal p sound fits now.0).1 now.1 in
      let ended : done ≡ true = short_done strict done last turn (omega (
        arith,
        few,
        ap length (before_it strict fitted cores done last before calls is turn earlier),
        ap length is,
        length-append last before,
      )) in (
        subst (λ cs. AtRest goal (past_after cs p)) (sym is)
            (idle_none_due goal (past_after (last ++ before) p) (tracked.rests ended)),
        parts.1,
        ap (λ cs. is_sound goal (past_after cs p)) is ∙ tracked.sound,
      )

  -- the calls before the newest turns, and what these turns added to the trace
  record Back (calls before : List HostCall) (n total : ℕ) : Type 0 where
    cores : List CoreState
    room : total ≤ n + length cores
    turns : AreTurns strict fitted cores before
    may : May before
    round : List Event
    is : past_after calls p ≡ round ++ past_after before p

  back : (n : ℕ) (cores : List CoreState) (calls : List HostCall) → AreTurns strict fitted cores calls
      → n ≤ length cores → May calls → Back calls (without_turns n calls) n (length cores)
  back zero cores calls turns room may =
      record { cores = cores; room = omega arith; turns = turns; may = may; round = []; is = refl }
  back (suc n) [] calls turns room may = absurd (omega (arith, room))
  back (suc n) (core ∷ cores) calls turns room may =
      let (done, last, before, is, turn, tracks, earlier) = turns in
      let now = subst May is may in
      let grown = ((tracks goal p sound fits now.0).1 now.1).adds short in
      let further : Back before (without_turns n before) n (length cores) =
      back n cores before earlier (omega (arith, room)) (may_before last before now) in
      subst (λ cs. Back calls (without_turns n cs) (suc n) (suc (length cores)))
      (sym (before_it strict fitted cores done last before calls is turn earlier)) (record {
        cores = further.cores;
        room = omega (arith, further.room);
        turns = further.turns;
        may = further.may;
        round = grown.0 ++ further.round;
        is = ap (λ cs. past_after cs p) is ∙ grown.1 ∙ ap (λ t. grown.0 ++ t) further.is
            ∙ sym (append_assoc grown.0 further.round (past_after (without_turns n before) p));
      })

  -- 1 if true, otherwise 0
  abbrev one_where : Bool → ℕ
  one_where b = cond b 1 0

  -- the newest turns as rounds of the trace
  pub record Rounds (sizes : List ℕ) (calls : List HostCall) : Type 0 where
    pub rounds : List (List Event)
    pub whole : after_rounds rounds (past_after (without_rounds sizes calls) p) ≡ past_after calls p
    pub are : AreRoundsWithoutRequests goal rounds (past_after (without_rounds sizes calls) p)
    pub many : undisturbed_among rounds (past_after (without_rounds sizes calls) p) ≡ undisturbed_rounds sizes calls p

  rounds_of : (sizes : List ℕ) (cores : List CoreState) (calls : List HostCall) → AreTurns strict fitted cores calls
      → turns_in sizes < length cores → May calls → are_unasked_rounds sizes calls p ≡ true → Rounds sizes calls
  rounds_of sizes [] calls turns room may unasked = absurd (omega (arith, room))
  rounds_of [] (core ∷ cores) calls turns room may unasked =
      let rest = rests core cores calls turns may unasked in
      record { rounds = []; whole = refl; are = (rest.0, rest.1); many = refl }
  rounds_of (n ∷ sizes) (core ∷ cores) calls turns room may unasked =
      let others = and_parts (is_answered_turn calls p && has_no_request (round_of n calls p))
      (are_unasked_rounds sizes (without_turns n calls) p) unasked in
      let parts = and_parts (is_answered_turn calls p) (has_no_request (round_of n calls p)) others.0 in
      let rest = rests core cores calls turns may parts.0 in
      let there : Back calls (without_turns n calls) n (suc (length cores)) =
      back n (core ∷ cores) calls turns (omega (arith, room)) may in
      let further : Rounds sizes (without_turns n calls) = rounds_of sizes there.cores
      (without_turns n calls) there.turns (omega (arith, room, there.room)) there.may others.1 in
      let round = round_of n calls p in
      let own : round_of n calls p ≡ there.round =
      ap (λ t. take (length t - length (past_after (without_turns n calls) p)) t) there.is
      ∙ take_front there.round (past_after (without_turns n calls) p) in
      let whole : round ++ after_rounds further.rounds (past_after (without_rounds sizes (without_turns n calls)) p)
      ≡ past_after calls p =
      ap (λ t. round ++ t) further.whole ∙ ap (λ r. r ++ past_after (without_turns n calls) p) own ∙ sym there.is in
      record {
        rounds = round ∷ further.rounds;
        whole = whole;
        are = (
          further.are,
          parts.1,
          subst (AtRest goal) (sym whole) rest.0,
          ap is_idle whole ∙ rest.1,
        );
        many = ap (λ t. one_where (is_undisturbed round t) + undisturbed_among further.rounds
            (past_after (without_rounds sizes (without_turns n calls)) p)) further.whole
            ∙ ap (λ k. one_where (is_undisturbed round (past_after (without_turns n calls) p)) + k) further.many;
      }

  arrives_in : (sizes : List ℕ) (cores : List CoreState) (calls : List HostCall) → AreTurns strict fitted cores calls
      → turns_in sizes < length cores → SettlesWithin goal p sizes calls
  arrives_in sizes [] calls turns room allowed carried unasked few = absurd (omega (arith, room))
  arrives_in sizes (core ∷ cores) calls turns room allowed carried unasked few =
      let from = past_after (without_rounds sizes calls) p in
      let made : Rounds sizes calls = rounds_of sizes (core ∷ cores) calls turns room (allowed, carried) unasked in
      let now_sound : is_sound goal (past_after calls p) ≡ true =
      (rests core cores calls turns (allowed, carried) (answered sizes unasked)).2 in
      let sound_at : is_sound goal ([] ++ after_rounds made.rounds from) ≡ true =
      ap (is_sound goal) made.whole ∙ now_sound in
      let announced = arrives goal [] made.rounds from sound_at made.are (omega (arith, few, made.many)) in
      let there = arrives_there goal [] made.rounds from sound_at made.are announced in
      subst (IsSettled goal from) made.whole (announced, there)
    where
      answered : (ns : List ℕ) → are_unasked_rounds ns calls p ≡ true → is_answered_turn calls p ≡ true
      answered [] all = all
      answered (n ∷ ns) all =
          (and_parts (is_answered_turn calls p) (has_no_request (round_of n calls p))
          (and_parts (is_answered_turn calls p
          && has_no_request (round_of n calls p)) (are_unasked_rounds ns (without_turns n calls) p) all).0).0

  -- the level is settled as stated after each turn, not only the newest
  pub arrives_up : (later : ℕ) (sizes : List ℕ) (cores : List CoreState) (calls : List HostCall) → AreTurns strict
      fitted cores calls → later + turns_in sizes < length cores
      → SettlesWithin goal p sizes (without_turns later calls)
  arrives_up later sizes [] calls turns room = absurd (omega (arith, room))
  arrives_up zero sizes (core ∷ cores) calls turns room =
      arrives_in sizes (core ∷ cores) calls turns (omega (arith, room))
  arrives_up (suc later) sizes (core ∷ cores) calls (done, last, before, is, turn, tracks, earlier) room =
      subst (λ cs. SettlesWithin goal p sizes (without_turns later cs))
      (sym (before_it strict fitted cores done last before
      calls is turn earlier)) (arrives_up later sizes cores before earlier (omega (arith, room)))
