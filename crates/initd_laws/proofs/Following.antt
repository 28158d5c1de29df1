-- What the trace of a host's calls says of TERM and KILL, the calls of the system say.
use Rattle.std.proofs.Common.{◌≡◌, refl, sym, ◌∙◌, ap, subst, ◌⊎◌, inl, inr, ℕ, Bool, true, false, not, ◌&&◌, ◌==◌}
use Rattle.std.proofs.Common.{◌+◌, ◌/◌, ◌≤◌, nat_le, max, min, cond, List, [], ◌∷◌, ◌++◌, map, Option, Some, None}
use Rattle.std.proofs.Common.{Result, Ok}
use Rattle.std.proofs.Common.{Err, arith, eq-eqb}
use Rattle.std.specs.Option.{option_map_or}
use Rattle.std.proofs.lemmas.Bool.{false≢true, and_parts, and_from, or_left, or_right, eqb-true, false_from_ne_true}
use Rattle.std.proofs.lemmas.Bool.{le-leb, leb-true}
use Rattle.init_words.specs.declared.orders.Answer.{Answer}
use Rattle.init_words.specs.declared.orders.Answer.TheVariants as answer
use Rattle.init_words.specs.declared.orders.OrderKind.{OrderKind}
use Rattle.init_words.specs.declared.orders.OrderKind.TheVariants as ask
use Rattle.init_words.specs.declared.orders.SignalKind.{SignalKind}
use Rattle.init_words.specs.declared.orders.SignalKind.TheVariants as signal
use Rattle.init_words.specs.Ids.{same_id}
use Rattle.init_words.specs.Orders.{answers}
use Rattle.init_words.specs.Parts.{texts_of}
use Rattle.init_words.proofs.Same.{same_id-is, same_id-self}
use Rattle.init_words.proofs.Tests.{both_ways, or_either}
use Rattle.inittab_text.specs.Parts.{are_readable, table_of_texts}
use Rattle.trace_events.specs.declared.happenings.Handed.TheVariants as handed
use Rattle.trace_events.specs.declared.happenings.Happening.TheVariants as past
use Rattle.trace_events.specs.Words.{CLOCK_LIMIT}
use Rattle.trace_events.specs.Event.{Event}
use Rattle.trace_events.specs.Past.{open_of, time_of}
use Rattle.host_calls.specs.declared.calls.Call.TheVariants.{Start, Look, Signal, Late, Clock, TakeBytes, ReadTables}
use Rattle.host_calls.specs.declared.calls.Call.TheVariants.{Carry, Announce, Pause}
use Rattle.host_calls.specs.declared.calls.HostFault.{HostFault}
use Rattle.host_calls.specs.declared.calls.Reply.TheVariants.{Now, Later}
use Rattle.host_calls.specs.Calls.{HostCall, PartsRead}
use Rattle.host_calls.specs.Held.{HeldChildren, CallChangesHeld, LookChangesHeld, StartChangesHeld}
use Rattle.host_calls.specs.Settings.{HostSettings}
use Rattle.supervisor.specs.Point.{Point, acted, after, announced, answered, before_handing, before_reading, byte_after}
use Rattle.supervisor.specs.Point.{bytes_after, came_whole, handed_if, is_asked_for, is_last, nudged_if, order_for}
use Rattle.supervisor.specs.Point.{ordered, point_after, reading}
use Rattle.host_system.specs.Asking.{AreSystemCallsFor, LookRequest, SendRequest, SignalRequest, StartRequests}
use Rattle.host_system.specs.Asking.{WaitRequest}
use Rattle.host_system.specs.Asking.{AreSecondsOf, SystemCallsForCall, number_of}
use Rattle.host_system.specs.Delays.{start_delay}
use Rattle.host_system.specs.Systems.{SystemCall, Waited, look_answer, sent, signal_answer}
use Rattle.host_system.specs.Systems.SystemCall.{read_clock, read_file, run, spawn, try_wait}
use Rattle.initd_laws.specs.Signals.{is_live, is_warned, numbers_are_new, seconds}
use Rattle.initd_laws.proofs.Children.{Children, children_all, held_append, held_without, is_held, number_held}
use Rattle.initd_laws.proofs.Children.{numbers_before, unchanged}
use Rattle.initd_laws.proofs.Warning.{hit_by, was_hit}

-- ---- happenings that are no birth, no signal and no reading of the clock

record Same (so_far now : List Event) : Type 0 where
  time : time_of now ≡ time_of so_far
  hit : (id : List ℕ) (grace at : ℕ) → was_hit id grace at now ≡ was_hit id grace at so_far

same_self : (so_far : List Event) → Same so_far so_far
same_self so_far = record { time = refl; hit = λ id grace at. refl }

same_then : (a b c : List Event) → Same a b → Same b c → Same a c
same_then a b c first second = record {
  time = second.time ∙ first.time;
  hit = λ id grace at. second.hit id grace at ∙ first.hit id grace at;
}

same_back : (a b : List Event) → Same a b → Same b a
same_back a b same = record { time = sym same.time; hit = λ id grace at. sym (same.hit id grace at) }

one_same : (happening : Event) (so_far : List Event) → time_of (happening ∷ so_far) ≡ time_of so_far
    → ((id : List ℕ) (grace at : ℕ) → was_hit id grace at (happening ∷ so_far) ≡ was_hit id grace at so_far)
    → Same so_far (happening ∷ so_far)
one_same happening so_far time hit = record { time = time; hit = hit }

byte_same : (byte : ℕ) (p : Point) → Same p.past (byte_after byte p).past
byte_same byte p = record { time = grind arith; hit = λ id grace at. grind arith }

bytes_same : (bytes : List ℕ) (p : Point) → Same p.past (bytes_after bytes p).past
bytes_same [] p = same_self p.past
bytes_same (byte ∷ bytes) p = same_then p.past (byte_after byte p).past (bytes_after bytes (byte_after byte p)).past
    (byte_same byte p) (bytes_same bytes (byte_after byte p))

reading_same : (parts : PartsRead) (so_far : List Event) → Same so_far (reading parts ∷ so_far)
reading_same (Ok parts) so_far = by (are_readable (texts_of parts))
  where
    by : (b : Bool) → Same so_far (cond b (past.NewTable (table_of_texts (texts_of parts))) past.NotRead ∷ so_far)
    by true = one_same (past.NewTable (table_of_texts (texts_of parts))) so_far refl (λ i g a. refl)
    by false = one_same past.NotRead so_far refl (λ i g a. refl)
reading_same (Err fault) so_far = one_same past.NotRead so_far refl (λ i g a. refl)

handed_same : (b : Bool) (so_far : List Event) → Same so_far (handed_if b so_far)
handed_same true so_far = one_same (past.Handed handed.Whole) so_far refl (λ i g a. refl)
handed_same false so_far = same_self so_far

nudged_same : (b : Bool) (so_far : List Event) → Same so_far (nudged_if b so_far)
nudged_same true so_far = one_same past.Nudge so_far refl (λ i g a. refl)
nudged_same false so_far = same_self so_far

before_same : (so_far : List Event) → Same so_far (before_reading so_far)
before_same (past.NewTable table ∷ so_far) =
    same_back so_far (past.NewTable table ∷ so_far) (one_same (past.NewTable table) so_far refl (λ i g a. refl))
before_same (past.NotRead ∷ so_far) =
    same_back so_far (past.NotRead ∷ so_far) (one_same past.NotRead so_far refl (λ i g a. refl))
before_same so_far = same_self so_far

handing_same : (so_far : List Event) → Same so_far (before_handing so_far)
handing_same (past.Handed how ∷ so_far) =
    same_back so_far (past.Handed how ∷ so_far) (one_same (past.Handed how) so_far refl (λ i g a. refl))
handing_same so_far = same_self so_far

announced_same : (happening : Event) (so_far : List Event) → Same so_far (announced happening so_far)
announced_same past.NotRead so_far = same_then so_far (before_reading so_far) (past.NotRead ∷ before_reading so_far)
    (before_same so_far) (one_same past.NotRead (before_reading so_far) refl (λ i g a. refl))
announced_same (past.Handed how) so_far =
    same_then so_far (before_handing so_far) (past.Handed how ∷ before_handing so_far)
    (handing_same so_far) (one_same (past.Handed how) (before_handing so_far) refl (λ i g a. refl))
announced_same (past.Enter stage grace) so_far = one_same (past.Enter stage grace) so_far refl (λ i g a. refl)
announced_same (past.Call letter) so_far = one_same (past.Call letter) so_far refl (λ i g a. refl)
announced_same (past.Power kind) so_far = one_same (past.Power kind) so_far refl (λ i g a. refl)
announced_same (past.Hold id) so_far = one_same (past.Hold id) so_far refl (λ i g a. refl)
announced_same (past.Settle level) so_far = one_same (past.Settle level) so_far refl (λ i g a. refl)
announced_same happening so_far = same_self so_far

-- ---- answers to an order that was just given

asked_for : (id : List ℕ) (order : OrderKind) (given : Answer) (so_far : List Event)
    → is_asked_for id given (past.Asked id order ∷ so_far) ≡ answers given order
asked_for id order given so_far =
    ap (λ b. option_map_or (answers given) (cond b (Some order) (open_of id so_far)) false) (same_id-self id)

answered_now : (id : List ℕ) (order : OrderKind) (given : Answer) (so_far : List Event) (b : Bool)
    → answers given order ≡ b → answered id given (past.Asked id order ∷ so_far)
    ≡ cond b (past.Told id ∷ acted id given (past.Asked id order ∷ so_far)) (past.Asked id order ∷ so_far)
answered_now id order given so_far b is = ap (λ c. cond c (past.Told id ∷ acted id given
    (past.Asked id order ∷ so_far)) (past.Asked id order ∷ so_far)) (asked_for id order given so_far ∙ is)

asked_same : (id : List ℕ) (order : OrderKind) (so_far : List Event) → Same so_far (past.Asked id order ∷ so_far)
asked_same id order so_far = one_same (past.Asked id order) so_far refl (λ i g a. refl)

-- an answer that is neither a birth nor a Hit
abbrev is_plain : Answer → Bool
is_plain (answer.Born n) = false
is_plain answer.Hit = false
is_plain _ = true

acted_same : (id : List ℕ) (given : Answer) (so_far : List Event) → is_plain given ≡ true
    → Same so_far (past.Told id ∷ acted id given so_far)
acted_same id (answer.Born n) so_far plain = absurd (false≢true plain)
acted_same id answer.Hit so_far plain = absurd (false≢true plain)
acted_same id answer.NotBorn so_far plain = record { time = refl; hit = λ i g a. refl }
acted_same id (answer.Ended status) so_far plain = record { time = refl; hit = λ i g a. refl }
acted_same id answer.Alive so_far plain = record { time = refl; hit = λ i g a. refl }
acted_same id answer.NoLook so_far plain = record { time = refl; hit = λ i g a. refl }
acted_same id answer.Miss so_far plain = record { time = refl; hit = λ i g a. refl }

plain_same : (id : List ℕ) (order : OrderKind) (given : Answer) (so_far : List Event) → is_plain given ≡ true
    → Same so_far (ordered id order (Now given) so_far)
plain_same id order given so_far plain = by (is_asked_for id given asked)
  where
    asked : List Event
    asked = past.Asked id order ∷ so_far

    by : (b : Bool) → Same so_far (cond b (past.Told id ∷ acted id given asked) asked)
    by true = same_then so_far asked (past.Told id ∷ acted id given asked) (asked_same id order so_far)
        (acted_same id given asked plain)
    by false = asked_same id order so_far

-- an answer that was not asked for
other_same : (id : List ℕ) (order : OrderKind) (given : Answer) (so_far : List Event) → answers given order ≡ false
    → Same so_far (ordered id order (Now given) so_far)
other_same id order given so_far other =
    subst (Same so_far) (sym (answered_now id order given so_far false other)) (asked_same id order so_far)

-- ---- what follows

-- the time of the trace is that of the system's calls, as far as a trace goes; and each child that is held and had a
-- TERM there, and no KILL since, had it here
pub record Follows (held : HeldChildren) (asked : List SystemCall) (so_far : List Event) : Type 0 where
  pub time : time_of so_far ≡ min (seconds asked) CLOCK_LIMIT
  pub warned : (id : List ℕ) (n grace now : ℕ) → is_held id n held ≡ true → seconds asked ≤ now
      → was_hit id grace (min now CLOCK_LIMIT) so_far ≡ true → is_warned n grace now asked ≡ true

-- what changes none of this
record Quiet (old new : List SystemCall) : Type 0 where
  time : seconds new ≡ seconds old
  warned : (n grace now : ℕ) → is_warned n grace now new ≡ is_warned n grace now old

quiet_by : (old new : List SystemCall) → new ≡ old → Quiet old new
quiet_by old new is = record {
  time = ap seconds is;
  warned = λ n grace now. ap (is_warned n grace now) is;
}

quiet_more : (call : SystemCall) (old new : List SystemCall) → new ≡ call ∷ old → Quiet old (call ∷ old) → Quiet old new
quiet_more call old new is quiet = subst (Quiet old) (sym is) quiet

follow_on : (held now : HeldChildren) (old new : List SystemCall) (so_far then : List Event) → Follows held old so_far
    → ((id : List ℕ) (n : ℕ) → is_held id n now ≡ true → is_held id n held ≡ true) → Quiet old new
    → Same so_far then → Follows now new then
follow_on held now old new so_far then all fewer quiet same = record {
  time = same.time ∙ all.time ∙ ap (λ t. min t CLOCK_LIMIT) (sym quiet.time);
  warned = λ id n grace at there less h. quiet.warned n grace at ∙ all.warned id n grace at (fewer id n there)
      (subst (λ t. t ≤ at) quiet.time less) (sym (same.hit id grace (min at CLOCK_LIMIT)) ∙ h);
}

-- the same children, and nothing new
follow_same : (held now : HeldChildren) (old new : List SystemCall) (so_far then : List Event) → now ≡ held
    → Follows held old so_far → Quiet old new → Same so_far then → Follows now new then
follow_same held now old new so_far then is all quiet same = follow_on held now old new so_far then all
    (λ id n there. subst (λ children. is_held id n children ≡ true) is there) quiet same

-- ---- a birth

born_after : (id : List ℕ) (n : ℕ) (so_far : List Event) → ordered id ask.Start (Now (answer.Born n)) so_far
    ≡ past.Told id ∷ past.Birth id n ∷ past.Asked id ask.Start ∷ so_far
born_after id n so_far = answered_now id ask.Start (answer.Born n) so_far true refl

born_follows : (held : HeldChildren) (id : List ℕ) (n : ℕ) (words : List (List ℕ)) (old : List SystemCall)
    (so_far : List Event) → is_live n old ≡ false → Children held old → Follows held old so_far
    → Follows (held ++ (id, n) ∷ []) (spawn words (Some n) ∷ old)
    (past.Told id ∷ past.Birth id n ∷ past.Asked id ask.Start ∷ so_far)
born_follows held id n words old so_far free children all = record {
  time = all.time;
  warned = λ j m grace now there less h.
      let parts = and_parts (not (same_id j id)) (was_hit j grace (min now CLOCK_LIMIT) so_far) h in
      elim (held_append j m held id n there) [
        | inl was ↦ and_from (not (m == n)) (is_warned m grace now old) (other j m was)
            (all.warned j m grace now was less parts.1)
        | inr is ↦ absurd (false≢true (sym (ap not is.0) ∙ parts.0))
      ];
}
  where
    other : (j : List ℕ) (m : ℕ) → is_held j m held ≡ true → not (m == n) ≡ true
    other j m was = ap not (false_from_ne_true (m == n) (λ same. both_ways (is_live n old)
        (subst (λ x. is_live x old ≡ true) (eqb-true m n same) (children.live j m was)) free))

-- ---- a signal

warn_term : (groups : Bool) (m n grace now : ℕ) (old : List SystemCall)
    → ((m ≡ n) × (nat_le (seconds old + grace) now ≡ true)) ⊎ (is_warned m grace now old ≡ true)
    → is_warned m grace now (sent groups signal.Term n true ∷ old) ≡ true
warn_term groups m n grace now old (inr was) = by groups
  where
    by : (g : Bool) → is_warned m grace now (sent g signal.Term n true ∷ old) ≡ true
    by true = or_right (m == n && nat_le (seconds old + grace) now) (is_warned m grace now old) was
    by false = or_right (m == n && nat_le (seconds old + grace) now) (is_warned m grace now old) was
warn_term groups m n grace now old (inl is) = by groups
  where
    own : (m == n && nat_le (seconds old + grace) now) ≡ true
    own = and_from (m == n) (nat_le (seconds old + grace) now) (eq-eqb m n is.0) is.1

    by : (g : Bool) → is_warned m grace now (sent g signal.Term n true ∷ old) ≡ true
    by true = or_left (m == n && nat_le (seconds old + grace) now) (is_warned m grace now old) own
    by false = or_left (m == n && nat_le (seconds old + grace) now) (is_warned m grace now old) own

warn_kill : (groups : Bool) (m n grace now : ℕ) (old : List SystemCall) → (m == n) ≡ false
    → is_warned m grace now old ≡ true → is_warned m grace now (sent groups signal.Kill n true ∷ old) ≡ true
warn_kill true m n grace now old other was = and_from (not (m == n)) (is_warned m grace now old) (ap not other) was
warn_kill false m n grace now old other was = and_from (not (m == n)) (is_warned m grace now old) (ap not other) was

sent_time : (groups : Bool) (kind : SignalKind) (n : ℕ) (reached : Bool) (old : List SystemCall)
    → seconds (sent groups kind n reached ∷ old) ≡ seconds old
sent_time true kind n reached old = refl
sent_time false kind n reached old = refl

-- a reading that is cut says no more than the reading
early : (time grace now limit : ℕ) → time ≤ now → min time limit + grace ≤ min now limit → time + grace ≤ now
early time grace now limit less h = omega arith

hit_after : (id : List ℕ) (kind : SignalKind) (so_far : List Event)
    → ordered id (order_for kind) (Now answer.Hit) so_far
    ≡ past.Told id ∷ past.Hit id ∷ past.Asked id (order_for kind) ∷ so_far
hit_after id signal.Term so_far = answered_now id ask.Term answer.Hit so_far true refl
hit_after id signal.Kill so_far = answered_now id ask.Kill answer.Hit so_far true refl

hit_follows : (groups : Bool) (kind : SignalKind) (held : HeldChildren) (id : List ℕ) (n : ℕ) (old : List SystemCall)
    (so_far : List Event) → is_held id n held ≡ true → Children held old → Follows held old so_far
    → Follows held (sent groups kind n true ∷ old)
    (past.Told id ∷ past.Hit id ∷ past.Asked id (order_for kind) ∷ so_far)
hit_follows groups kind held id n old so_far own children all = record {
  time = all.time ∙ ap (λ t. min t CLOCK_LIMIT) (sym (sent_time groups kind n true old));
  warned = λ j m grace now there less h. by kind j m grace now (same_id j id) refl there
      (subst (λ t. t ≤ now) (sent_time groups kind n true old) less) h;
}
  where
    soon : (grace now : ℕ) → seconds old ≤ now → nat_le (time_of so_far + grace) (min now CLOCK_LIMIT) ≡ true
        → nat_le (seconds old + grace) now ≡ true
    soon grace now less h = le-leb (seconds old + grace) now (early (seconds old) grace now CLOCK_LIMIT less
        (subst (λ t. t + grace ≤ min now CLOCK_LIMIT) all.time
        (leb-true (time_of so_far + grace) (min now CLOCK_LIMIT) h)))

    own_number : (j : List ℕ) (m : ℕ) → same_id j id ≡ true → is_held j m held ≡ true → m ≡ n
    own_number j m same there =
        children.one id m n (subst (λ x. is_held x m held ≡ true) (same_id-is j id same) there) own

    other_number : (j : List ℕ) (m : ℕ) → same_id j id ≡ false → is_held j m held ≡ true → (m == n) ≡ false
    other_number j m differ there = false_from_ne_true (m == n) (λ same. both_ways (same_id j id)
        (subst (λ x. same_id j x ≡ true)
        (children.apart j id n (subst (λ x. is_held j x held ≡ true) (eqb-true m n same) there) own) (same_id-self j))
        differ)

    by : (k : SignalKind) (j : List ℕ) (m grace now : ℕ) (b : Bool) → same_id j id ≡ b → is_held j m held ≡ true
        → seconds old ≤ now → cond b (hit_by (cond b (Some (order_for k)) (open_of j so_far))
        (nat_le (time_of so_far + grace) (min now CLOCK_LIMIT)) (was_hit j grace (min now CLOCK_LIMIT) so_far))
        (was_hit j grace (min now CLOCK_LIMIT) so_far) ≡ true
        → is_warned m grace now (sent groups k n true ∷ old) ≡ true
    by signal.Term j m grace now true same there less h =
        or_either (nat_le (time_of so_far + grace) (min now CLOCK_LIMIT))
        (was_hit j grace (min now CLOCK_LIMIT) so_far) h
        (λ now_due. warn_term groups m n grace now old (inl (own_number j m same there, soon grace now less now_due)))
        (λ before. warn_term groups m n grace now old (inr (all.warned j m grace now there less before)))
    by signal.Kill j m grace now true same there less h = absurd (false≢true h)
    by signal.Term j m grace now false differ there less h =
        warn_term groups m n grace now old (inr (all.warned j m grace now there less h))
    by signal.Kill j m grace now false differ there less h =
        warn_kill groups m n grace now old (other_number j m differ there) (all.warned j m grace now there less h)

-- a signal that reached nothing
missed_quiet : (groups : Bool) (kind : SignalKind) (n : ℕ) (old : List SystemCall)
    → Quiet old (sent groups kind n false ∷ old)
missed_quiet true signal.Term n old = record { time = refl; warned = λ m g t. refl }
missed_quiet true signal.Kill n old = record { time = refl; warned = λ m g t. refl }
missed_quiet false signal.Term n old = record { time = refl; warned = λ m g t. refl }
missed_quiet false signal.Kill n old = record { time = refl; warned = λ m g t. refl }

signal_follows : (groups : Bool) (kind : SignalKind) (held : HeldChildren) (id : List ℕ) (given : Answer)
    (old new : List SystemCall) (so_far : List Event) → SignalRequest groups (number_of id held) kind given old new
    → Children held old → Follows held old so_far → Follows held new (ordered id (order_for kind) (Now given) so_far)
signal_follows groups kind held id given old new so_far (reached, asks, is) children all =
    subst (λ g. Follows held new (ordered id (order_for kind) (Now g) so_far)) (sym is)
    (by (number_of id held) reached refl asks)
  where
    by : (c : Option ℕ) (r : Bool) → number_of id held ≡ c → SendRequest groups c kind r old new
        → Follows held new (ordered id (order_for kind) (Now (signal_answer r)) so_far)
    by None true own asked = absurd (false≢true (sym asked.1))
    by None false own asked = follow_same held held old new so_far
        (ordered id (order_for kind) (Now answer.Miss) so_far) refl all (quiet_by old new asked.0)
        (plain_same id (order_for kind) answer.Miss so_far refl)
    by (Some n) false own asked = follow_same held held old new so_far
        (ordered id (order_for kind) (Now answer.Miss) so_far) refl all
        (quiet_more (sent groups kind n false) old new asked (missed_quiet groups kind n old))
        (plain_same id (order_for kind) answer.Miss so_far refl)
    by (Some n) true own asked = subst (λ calls. Follows held calls
        (ordered id (order_for kind) (Now answer.Hit) so_far)) (sym asked)
        (subst (Follows held (sent groups kind n true ∷ old)) (sym (hit_after id kind so_far))
        (hit_follows groups kind held id n old so_far (number_held id n held own) children all))

-- ---- a start, a look, the clock

unborn_quiet : (words : List (List ℕ)) (old new : List SystemCall) → (new ≡ old) ⊎ (new ≡ spawn words None ∷ old)
    → Quiet old new
unborn_quiet words old new (inl is) = quiet_by old new is
unborn_quiet words old new (inr is) =
    quiet_more (spawn words None) old new is (record { time = refl; warned = λ m g t. refl })

start_follows : (settings : HostSettings) (delay : ℕ) (held now : HeldChildren) (id command : List ℕ) (given : Answer)
    (old new : List SystemCall) (so_far : List Event)
    → StartRequests settings.logs settings.groups delay id command given old new
    → StartChangesHeld held now id (Now given) → numbers_are_new new ≡ true → Children held old
    → Follows held old so_far → Follows now new (ordered id ask.Start (Now given) so_far)
start_follows settings delay held now id command (answer.Born n) old new so_far
    (words, way, is) made numbers children all =
    let free : is_live n old ≡ false = false_from_ne_true (is_live n old) (λ lives. absurd (false≢true
    (sym (ap not lives) ∙ (and_parts (not (is_live n old)) (numbers_are_new old)
    (subst (λ calls. numbers_are_new calls ≡ true) is numbers)).0))) in
    subst (λ children. Follows children new (ordered id ask.Start (Now (answer.Born n)) so_far)) (sym made.1)
    (subst (λ calls. Follows (held ++ (id, n) ∷ []) calls (ordered id ask.Start (Now (answer.Born n)) so_far)) (sym is)
    (subst (Follows (held ++ (id, n) ∷ []) (spawn words (Some n) ∷ old)) (sym (born_after id n so_far))
    (born_follows held id n words old so_far free children all)))
start_follows settings delay held now id command answer.Hit old new so_far
    (words, way, asks) made numbers children all =
    follow_same held now old new so_far (ordered id ask.Start (Now answer.Hit) so_far) made all
    (unborn_quiet words old new asks) (other_same id ask.Start answer.Hit so_far refl)
start_follows settings delay held now id command answer.NotBorn old new so_far
    (words, way, asks) made numbers children all =
    follow_same held now old new so_far (ordered id ask.Start (Now answer.NotBorn) so_far) made all
    (unborn_quiet words old new asks) (plain_same id ask.Start answer.NotBorn so_far refl)
start_follows settings delay held now id command (answer.Ended status) old new so_far
    (words, way, asks) made numbers children all =
    follow_same held now old new so_far (ordered id ask.Start (Now (answer.Ended status)) so_far) made all
    (unborn_quiet words old new asks) (plain_same id ask.Start (answer.Ended status) so_far refl)
start_follows settings delay held now id command answer.Alive old new so_far
    (words, way, asks) made numbers children all =
    follow_same held now old new so_far (ordered id ask.Start (Now answer.Alive) so_far) made all
    (unborn_quiet words old new asks) (plain_same id ask.Start answer.Alive so_far refl)
start_follows settings delay held now id command answer.NoLook old new so_far
    (words, way, asks) made numbers children all =
    follow_same held now old new so_far (ordered id ask.Start (Now answer.NoLook) so_far) made all
    (unborn_quiet words old new asks) (plain_same id ask.Start answer.NoLook so_far refl)
start_follows settings delay held now id command answer.Miss old new so_far
    (words, way, asks) made numbers children all =
    follow_same held now old new so_far (ordered id ask.Start (Now answer.Miss) so_far) made all
    (unborn_quiet words old new asks) (plain_same id ask.Start answer.Miss so_far refl)

look_plain : (outcome : Waited) → is_plain (look_answer outcome) ≡ true
look_plain None = refl
look_plain (Some None) = refl
look_plain (Some (Some status)) = refl

look_quiet : (c : Option ℕ) (outcome : Waited) (old new : List SystemCall) → WaitRequest c outcome old new
    → Quiet old new
look_quiet None outcome old new asked = quiet_by old new asked.0
look_quiet (Some n) outcome old new asked =
    quiet_more (try_wait n outcome) old new asked (record { time = refl; warned = λ m g t. refl })

-- a look leaves no child that was not held
fewer_after : (held now : HeldChildren) (id : List ℕ) (given : Answer) → LookChangesHeld held now id (Now given)
    → (i : List ℕ) (m : ℕ) → is_held i m now ≡ true → is_held i m held ≡ true
fewer_after held now id (answer.Ended status) made i m there =
    (held_without i m id held (subst (λ children. is_held i m children ≡ true) made.1 there)).0
fewer_after held now id answer.Alive made i m there = subst (λ children. is_held i m children ≡ true) made.1 there
fewer_after held now id answer.NoLook made i m there = subst (λ children. is_held i m children ≡ true) made there
fewer_after held now id (answer.Born n) made i m there = subst (λ children. is_held i m children ≡ true) made there
fewer_after held now id answer.NotBorn made i m there = subst (λ children. is_held i m children ≡ true) made there
fewer_after held now id answer.Hit made i m there = subst (λ children. is_held i m children ≡ true) made there
fewer_after held now id answer.Miss made i m there = subst (λ children. is_held i m children ≡ true) made there

look_follows : (held now : HeldChildren) (id : List ℕ) (given : Answer) (old new : List SystemCall)
    (so_far : List Event) → LookRequest (number_of id held) given old new → LookChangesHeld held now id (Now given)
    → Follows held old so_far → Follows now new (ordered id ask.Look (Now given) so_far)
look_follows held now id given old new so_far (outcome, asks, is) made all =
    follow_on held now old new so_far (ordered id ask.Look (Now given) so_far) all (fewer_after held now id given made)
    (look_quiet (number_of id held) outcome old new asks)
    (plain_same id ask.Look given so_far (ap is_plain is ∙ look_plain outcome))

-- the greatest reading, cut or not
cut : (reading old limit : ℕ) → max (min reading limit) (min old limit) ≡ min (max reading old) limit
cut reading old limit = omega arith

less_before : (reading old now : ℕ) → max reading old ≤ now → old ≤ now
less_before reading old now h = omega arith

clock_follows : (held : HeldChildren) (given : Result ℕ HostFault) (time : Option ℕ) (old : List SystemCall) (p : Point)
    → AreSecondsOf time given → Follows held old p.past
    → Follows held (read_clock time ∷ old) (after (Clock given) p).past
clock_follows held given (Some t) old p is all =
    subst (λ g. Follows held (read_clock (Some t) ∷ old) (after (Clock g) p).past) (sym is) (record {
      time = ap (λ s. max (min (t / 1_000_000_000) CLOCK_LIMIT) s) all.time
          ∙ cut (t / 1_000_000_000) (seconds old) CLOCK_LIMIT;
      warned = λ id n grace now there less h.
          all.warned id n grace now there (less_before (t / 1_000_000_000) (seconds old) now less) h;
    })
clock_follows held (Err fault) None old p is all =
    follow_same held held old (read_clock None ∷ old) p.past p.past refl all
    (record { time = refl; warned = λ m g t. refl }) (same_self p.past)
clock_follows held (Ok given) None old p is all = absurd (false≢true is)

-- ---- call by call

-- nothing was asked of the system
nothing_asked : (held now : HeldChildren) (old new : List SystemCall) (so_far then : List Event) → now ≡ held
    → new ≡ old → Follows held old so_far → Same so_far then → Follows now new then
nothing_asked held now old new so_far then is same all alike =
    follow_same held now old new so_far then is all (quiet_by old new same) alike

called : (settings : HostSettings) (call : HostCall) (done : List HostCall) (held now : HeldChildren)
    (old new : List SystemCall) (p : Point)
    → CallChangesHeld call held now → SystemCallsForCall settings call done held old new → numbers_are_new new ≡ true
    → Children held old → Follows held old p.past → Follows now new (after call p).past
called settings (Start id command (Now given)) done held now old new p made asks numbers children all =
    start_follows settings
    (start_delay settings.respawn_delay id done) held now id command given old new p.past asks made numbers children all
called settings (Start id command Later) done held now old new p made asks numbers children all = absurd asks
called settings (Look id (Now given)) done held now old new p made asks numbers children all =
    look_follows held now id given old new p.past asks made all
called settings (Look id Later) done held now old new p made asks numbers children all = absurd asks
called settings (Signal id kind (Now given)) done held now old new p made asks numbers children all =
    subst (λ held. Follows held new (ordered id (order_for kind) (Now given) p.past))
    (sym (unchanged held now id given made))
    (signal_follows settings.groups kind held id given old new p.past asks children all)
called settings (Signal id kind Later) done held now old new p made asks numbers children all = absurd asks
called settings (Clock given) done held now old new p made (time, is, secs) numbers children all =
    subst (λ held. Follows held new (after (Clock given) p).past) (sym made)
    (subst (λ calls. Follows held calls (after (Clock given) p).past) (sym is)
    (clock_follows held given time old p secs all))
called settings (ReadTables parts) done held now old new p made asks numbers children all =
    follow_same held now old new p.past (reading parts ∷ p.past) made all
    (quiet_more (read_file settings.inittab asks.0) old new asks.1 (record { time = refl; warned = λ m g t. refl }))
    (reading_same parts p.past)
called settings (Late late) done held now old new p made asks numbers children all =
    nothing_asked held now old new p.past (after (Late late) p).past made.1 asks all
    (subst (λ l. Same p.past (after (Late l) p).past) (sym made.0) (nudged_same (is_last None p.lates) p.past))
called settings (TakeBytes room (Ok bytes)) done held now old new p made asks numbers children all =
    nothing_asked held now old new p.past (bytes_after bytes p).past made asks all (bytes_same bytes p)
called settings (TakeBytes room (Err fault)) done held now old new p made asks numbers children all =
    nothing_asked held now old new p.past p.past made asks all (same_self p.past)
called settings (Carry text back) done held now old new p made asks numbers children all =
    nothing_asked held now old new p.past (handed_if (came_whole text back) p.past) made asks all
    (handed_same (came_whole text back) p.past)
called settings (Announce happening) done held now old new p made asks numbers children all =
    nothing_asked held now old new p.past (announced happening p.past) made asks all (announced_same happening p.past)
called settings Pause done held now old new p made asks numbers children all =
    nothing_asked held now old new p.past p.past made asks all (same_self p.past)

helped_time : (helpers : List (List (List ℕ))) → seconds (map run helpers ++ []) ≡ 0
helped_time [] = refl
helped_time (words ∷ helpers) = helped_time helpers

pub follows_all : (settings : HostSettings) (calls : List HostCall) (held : HeldChildren) (asked : List SystemCall)
    (p : Point) → time_of p.past ≡ 0 → AreSystemCallsFor settings calls held asked → numbers_are_new asked ≡ true
    → Follows held asked (point_after calls p).past
follows_all settings [] held asked p none (own, (helpers, is)) numbers = record {
  time = none ∙ ap (λ t. min t CLOCK_LIMIT) (sym (ap seconds is ∙ helped_time helpers));
  warned = λ id n grace now there less h.
      absurd (false≢true (subst (λ children. is_held id n children ≡ true) own there));
}
follows_all settings (call ∷ calls) held asked p none (before, between, were, made, asks) numbers =
    let earlier = numbers_before settings call calls before held between asked made asks numbers in
    called settings call calls before held between asked (point_after calls p) made asks numbers
    (children_all settings calls before between were earlier)
    (follows_all settings calls before between p none were earlier)
