-- Proofs of the laws of whole runs.
use Rattle.respawn_limit.proofs.Words.{◌≡◌, ℕ, ◌+◌, ◌<◌, ◌≤◌, Bool, true, false, inl, inr, List, [], ◌∷◌, ◌++◌, length}
use Rattle.respawn_limit.proofs.Words.{refl, sym, ◌∙◌, ap, arith, nat_le, Option, Some, append_assoc, All, list_all}
use Rattle.respawn_limit.proofs.Words.{and_parts, cases_lt, le-leb, leb-true, nat_tests, append-nil, All-nil, All-push}
use Rattle.respawn_limit.proofs.Words.{All-weaker, sum_by-append, sum_by_push, HOLD, STARTS, WINDOW, Yes, LimiterState}
use Rattle.respawn_limit.proofs.Words.{is_full, answer, may_of, last_starts, with_start, KeepsLastStarts}
use Rattle.respawn_limit.specs.Past.{Event, Noted, HeldAt, Cleared, times_noted, hold_end, last_reading, is_yes}
use Rattle.respawn_limit.specs.Past.{may_follow, is_run, is_start_or_hold, IsStateAfter, StartsAreSpaced}
use Rattle.respawn_limit.specs.Past.{NoStartDuringHold}
use Rattle.respawn_limit.proofs.WindowLemmas.{count_all, answer-last_starts, KeepsLastStarts-push}

-- the starts kept are the last ten of all starts noted
pub KeepsLastStarts-IsStateAfter : (limiter : LimiterState) (past : List Event) → IsStateAfter limiter past
    → KeepsLastStarts limiter.starts (times_noted past)
KeepsLastStarts-IsStateAfter limiter past stands = grind arith

-- the answer by the state of a limiter is the answer by all its events
pub may_of-IsStateAfter : (limiter : LimiterState) (past : List Event) (now : ℕ) → IsStateAfter limiter past
    → may_of limiter now ≡ answer (times_noted past) (hold_end past) now
may_of-IsStateAfter limiter past now stands = grind (arith, answer-last_starts)

-- a start that is no earlier than those kept extends the events
pub IsStateAfter-Noted : (limiter new : LimiterState) (past : List Event) (now : ℕ) → IsStateAfter limiter past
    → All (λ start. start ≤ now) limiter.starts → new ≡ with_start limiter now → IsStateAfter new (Noted now ∷ past)
IsStateAfter-Noted limiter new past now stands late is =
    let known : KeepsLastStarts (last_starts (limiter.starts ++ now ∷ [])) (times_noted past ++ now ∷ []) =
    KeepsLastStarts-push limiter.starts (times_noted past) now
    (KeepsLastStarts-IsStateAfter limiter past stands) late in
    record {
      state = is ∙ same_state (last_starts (limiter.starts ++ now ∷ []))
          (last_starts (times_noted past ++ now ∷ [])) limiter.held (hold_end past)
          known.last (ap (λ (l : LimiterState). l.held) stands.state);
      ordered = known.ordered;
    }
  where
    same_state : (a b : List ℕ) (h k : Option ℕ) → a ≡ b → h ≡ k
        → (let x : LimiterState = record { starts = a; held = h } in
        let y : LimiterState = record { starts = b; held = k } in x ≡ y)
    same_state a b h k starts held = cc

-- a start that the limiter allows extends a run
pub is_run-Noted : (limiter : LimiterState) (past : List Event) (now : ℕ) → IsStateAfter limiter past
    → may_of limiter now ≡ Yes → is_run past ≡ true → last_reading past ≤ now → is_run (Noted now ∷ past) ≡ true
is_run-Noted limiter past now stands allowed run late = grind (arith, may_of-IsStateAfter, le-leb)

-- the events before any event of a run are a run
pub is_run-earlier : (later past : List Event) → is_run (later ++ past) ≡ true → is_run past ≡ true
is_run-earlier [] past run = run
is_run-earlier (event ∷ later) past run =
    is_run-earlier later past (and_parts (may_follow (later ++ past) event) (is_run (later ++ past)) run).1

-- without a clear in between, the starts noted are those noted before, then those noted since
times_noted-append : (between past : List Event) → list_all is_start_or_hold between ≡ true
    → times_noted (between ++ past) ≡ times_noted past ++ times_noted between
times_noted-append [] past kept = sym (append-nil (times_noted past))
times_noted-append (Noted time ∷ between) past kept =
    rw (times_noted-append between past kept) (append_assoc (times_noted past) (times_noted between) (time ∷ []))
times_noted-append (HeldAt time ∷ between) past kept = times_noted-append between past kept
times_noted-append (Cleared ∷ between) past kept = cc

-- no reading since a moment is less than the last reading at that moment
record NoneEarlier (between past : List Event) : Type 0 where
  starts : All (λ time. last_reading past ≤ time) (times_noted between)
  reading : last_reading past ≤ last_reading (between ++ past)

none_earlier : (between past : List Event) → is_run (between ++ past) ≡ true → list_all is_start_or_hold between ≡ true
    → NoneEarlier between past
none_earlier [] past run kept = record { starts = All-nil (λ time. last_reading past ≤ time); reading = omega arith }
none_earlier (Noted time ∷ between) past run kept =
    let parts : (may_follow (between ++ past) (Noted time) ≡ true) × (is_run (between ++ past) ≡ true) =
    and_parts (may_follow (between ++ past) (Noted time)) (is_run (between ++ past)) run in
    let since : last_reading (between ++ past) ≤ time =
    leb-true _ _ (and_parts (nat_le (last_reading (between ++ past)) time)
    (is_yes (answer (times_noted (between ++ past)) (hold_end (between ++ past)) time)) parts.0).0 in
    let before : NoneEarlier between past = none_earlier between past parts.1 kept in
    record {
      starts = All-push (λ time. last_reading past ≤ time) (times_noted between) time before.starts (omega arith);
      reading = omega arith;
    }
none_earlier (HeldAt time ∷ between) past run kept =
    let parts : (may_follow (between ++ past) (HeldAt time) ≡ true) × (is_run (between ++ past) ≡ true) =
    and_parts (may_follow (between ++ past) (HeldAt time)) (is_run (between ++ past)) run in
    let since : last_reading (between ++ past) ≤ time = leb-true _ _ parts.0 in
    let before : NoneEarlier between past = none_earlier between past parts.1 kept in
    record { starts = before.starts; reading = omega arith }
none_earlier (Cleared ∷ between) past run kept = cc

-- if the answer is yes, the window is not full
room_at_yes : (noted : List ℕ) (end : Option ℕ) (now : ℕ) → is_yes (answer noted end now) ≡ true
    → is_full noted now ≡ false
room_at_yes noted end now says = grind arith

-- if the answer is yes, the hold is over
over_at_yes : (noted : List ℕ) (held : Option ℕ) (end now : ℕ) → held ≡ Some end → is_yes (answer noted held now) ≡ true
    → end ≤ now
over_at_yes noted held end now is says = grind arith

-- when a start of a run was noted, the answer was yes
yes_at_start : (past : List Event) (now : ℕ) → is_run (Noted now ∷ past) ≡ true
    → is_yes (answer (times_noted past) (hold_end past) now) ≡ true
yes_at_start past now run = grind arith

-- the last hold ends at least five minutes after this moment
record HoldStands (hold : ℕ) (past : List Event) : Type 0 where
  end : ℕ
  is : hold_end past ≡ Some end
  late : hold + HOLD ≤ end

hold_stands : (between earlier : List Event) (hold : ℕ) → is_run (between ++ (HeldAt hold ∷ earlier)) ≡ true
    → list_all is_start_or_hold between ≡ true → HoldStands hold (between ++ (HeldAt hold ∷ earlier))
hold_stands [] earlier hold run kept = record { end = hold + HOLD; is = refl; late = omega arith }
hold_stands (Noted time ∷ between) earlier hold run kept =
    let rest : List Event = between ++ (HeldAt hold ∷ earlier) in
    let before : HoldStands hold rest =
    hold_stands between earlier hold (and_parts (may_follow rest (Noted time)) (is_run rest) run).1 kept in
    record { end = before.end; is = before.is; late = before.late }
hold_stands (HeldAt time ∷ between) earlier hold run kept =
    let rest : List Event = between ++ (HeldAt hold ∷ earlier) in
    let parts : (may_follow rest (HeldAt time) ≡ true) × (is_run rest ≡ true) =
    and_parts (may_follow rest (HeldAt time)) (is_run rest) run in
    let since : last_reading rest ≤ time = leb-true _ _ parts.0 in
    let readings : NoneEarlier between (HeldAt hold ∷ earlier) =
    none_earlier between (HeldAt hold ∷ earlier) parts.1 kept in
    let reading : hold ≤ last_reading rest = readings.reading in
    record { end = time + HOLD; is = refl; late = omega arith }
hold_stands (Cleared ∷ between) earlier hold run kept = cc

-- no start is noted within five minutes after a hold
pub no_start_while_held : NoStartDuringHold
no_start_while_held later between earlier hold start run kept =
    let rest : List Event = between ++ (HeldAt hold ∷ earlier) in
    let here : is_run (Noted start ∷ rest) ≡ true = is_run-earlier later (Noted start ∷ rest) run in
    let before : is_run rest ≡ true = (and_parts (may_follow rest (Noted start)) (is_run rest) here).1 in
    let stands : HoldStands hold rest = hold_stands between earlier hold before kept in
    let over : stands.end ≤ start =
    over_at_yes (times_noted rest) (hold_end rest) stands.end start stands.is (yes_at_start rest start here) in
    let late : hold + HOLD ≤ stands.end = stands.late in
    omega arith

-- ten starts, none of them earlier than the first, all count until two minutes after it
full_within : (before after : List ℕ) (first now : ℕ) → STARTS ≤ length after + 1 → All (λ time. first ≤ time) after
    → now < first + WINDOW → is_full ((before ++ first ∷ []) ++ after) now ≡ true
full_within before after first now nine since soon =
    grind (arith, All-weaker, nat_tests, count_all, sum_by-append, sum_by_push)

-- a test does not both pass and fail
not_both : (b : Bool) → b ≡ true → b ≡ false → ⊥
not_both b is isnt = cc

-- eleven starts take at least two minutes
pub eleven_starts : StartsAreSpaced
eleven_starts later between earlier first last run kept nine =
    let past : List Event = Noted first ∷ earlier in
    let rest : List Event = between ++ past in
    let here : is_run (Noted last ∷ rest) ≡ true = is_run-earlier later (Noted last ∷ rest) run in
    let before : is_run rest ≡ true = (and_parts (may_follow rest (Noted last)) (is_run rest) here).1 in
    let room : is_full (times_noted rest) last ≡ false =
    room_at_yes (times_noted rest) (hold_end rest) last (yes_at_start rest last here) in
    let joined : times_noted rest ≡ (times_noted earlier ++ first ∷ []) ++ times_noted between =
    times_noted-append between past kept in
    let readings : NoneEarlier between past = none_earlier between past before kept in
    elim (cases_lt last (first + WINDOW)) [
      | inr late ↦ late
      | inl soon ↦
          let full : is_full ((times_noted earlier ++ first ∷ []) ++ times_noted between) last ≡ true =
          full_within (times_noted earlier) (times_noted between) first last nine readings.starts soon in
          let none : is_full ((times_noted earlier ++ first ∷ []) ++ times_noted between) last ≡ false =
          rw joined at room in
          absurd (not_both (is_full ((times_noted earlier ++ first ∷ []) ++ times_noted between) last) full none)
    ]

-- ten starts at time 0
abbrev ten_starts : List Event
ten_starts = Noted 0 ∷ Noted 0 ∷ Noted 0 ∷ Noted 0 ∷ Noted 0 ∷ Noted 0 ∷ Noted 0 ∷ Noted 0 ∷ Noted 0 ∷ Noted 0 ∷ []

-- the bound is sharp: ten starts at 0 and one at 120 are a run; with the last at 119 they are not
sharp_window : is_run (Noted 120 ∷ ten_starts) ≡ true
sharp_window = refl

too_soon : is_run (Noted 119 ∷ ten_starts) ≡ false
too_soon = refl

-- a start five minutes after a hold is in a run, and one a second earlier is not, unless the limiter was cleared
sharp_hold : is_run (Noted 419 ∷ HeldAt 119 ∷ ten_starts) ≡ true
sharp_hold = refl

too_soon_held : is_run (Noted 418 ∷ HeldAt 119 ∷ ten_starts) ≡ false
too_soon_held = refl

cleared : is_run (Noted 119 ∷ Cleared ∷ HeldAt 119 ∷ ten_starts) ≡ true
cleared = refl
