-- Of a run from its opening on: each KILL comes after a TERM and the grace, by the calls of the system.
use Rattle.std.proofs.Common.{◌≡◌, refl, sym, ◌∙◌, ap, subst, ◌⊎◌, inl, inr, ℕ, Bool, true, false, not, ◌&&◌, ◌==◌}
use Rattle.std.proofs.Common.{◌+◌, ◌≤◌, nat_le, min, cond, List, [], ◌∷◌, ◌++◌, append_assoc, map, Option, Some, None}
use Rattle.std.proofs.Common.{arith}
use Rattle.std.proofs.Common.{le_refl}
use Rattle.std.specs.List.{list_all}
use Rattle.std.proofs.lemmas.Bool.{false≢true, and_parts, and_from, false_from_ne_true, le-leb, leb-true}
use Rattle.std.proofs.lemmas.List.Folds.{list_all-append}
use Rattle.init_words.specs.declared.entries.Entry.{Entry}
use Rattle.init_words.specs.declared.levels.Level.{Level}
use Rattle.init_words.specs.declared.limits.TheConstants.{GRACE}
use Rattle.init_words.specs.declared.orders.Answer.{Answer}
use Rattle.init_words.specs.declared.orders.Answer.TheVariants as answer
use Rattle.init_words.specs.declared.orders.OrderKind.{OrderKind}
use Rattle.init_words.specs.declared.orders.OrderKind.TheVariants as ask
use Rattle.init_words.specs.declared.orders.SignalKind.{SignalKind}
use Rattle.init_words.specs.declared.orders.SignalKind.TheVariants as signal
use Rattle.init_words.specs.Ids.{same_id}
use Rattle.init_words.proofs.Same.{same_id-self}
use Rattle.init_words.proofs.Tests.{passing}
use Rattle.inittab_text.specs.Tables.{is_distinct}
use Rattle.initctl_frame.specs.Blocks.{requests_in_blocks}
use Rattle.trace_events.specs.declared.happenings.Happening.TheVariants as past
use Rattle.trace_events.specs.declared.steps.Goal.{Goal}
use Rattle.trace_events.specs.declared.steps.Step.TheVariants as step
use Rattle.trace_events.specs.Words.{CLOCK_LIMIT}
use Rattle.trace_events.specs.Event.{Event}
use Rattle.trace_events.specs.Past.{grace_of, open_of, time_of}
use Rattle.trace_events.specs.Due.{is_due}
use Rattle.trace_events.specs.Sound.{is_sound}
use Rattle.core_model.specs.State.{opening_goal}
use Rattle.host_calls.specs.declared.calls.Call.TheVariants.{Start, Look, Signal, Late, Clock, TakeBytes, ReadTables}
use Rattle.host_calls.specs.declared.calls.Call.TheVariants.{Carry, Announce, Pause}
use Rattle.host_calls.specs.declared.calls.Reply.{Reply}
use Rattle.host_calls.specs.declared.calls.Reply.TheVariants.{Now, Later}
use Rattle.host_calls.specs.Calls.{HostCall}
use Rattle.host_calls.specs.Held.{CallsLeaveHeld, HeldChildren, holds_number}
use Rattle.host_calls.specs.Settings.{HostSettings}
use Rattle.supervisor.specs.Fronts.{AtEachCall, reports_outcome_of}
use Rattle.supervisor.specs.Held.{AreNew}
use Rattle.supervisor.specs.CallsLead.{IfPossibleFrom, CallsWereInPlace, are_carried, is_allowed}
use Rattle.supervisor.specs.Point.{Point, order_for, point_after}
use Rattle.supervisor.specs.Requests.{Brings, bytes_of, requests_in}
use Rattle.supervisor.specs.Texts.{are_given_back, is_given_back, texts_in}
use Rattle.supervisor.proofs.Held.{held_children, held_possible}
use Rattle.supervisor.proofs.Point.{point_after-append}
use Rattle.supervisor.proofs.Requests.{calls_bring}
use Rattle.supervisor.proofs.Texts.{given_carried}
use Rattle.supervisor.specs.Opening.{IsOpening, start_point}
use Rattle.supervisor.proofs.Crashes.{leaves}
use Rattle.host_system.specs.Asking.{AreSystemCallsFor, SendRequest, SpawnRequests, WaitRequest, SystemCallsForCall}
use Rattle.host_system.specs.Asking.{number_of}
use Rattle.host_system.specs.Systems.{SystemCall, sent}
use Rattle.host_system.specs.Systems.SystemCall.{run, spawn}
use Rattle.initd_laws.specs.Requests.{leaves_time}
use Rattle.initd_laws.specs.Signals.{is_live, is_warned, kills_warned, numbers_are_new, seconds}
use Rattle.initd_laws.proofs.Children.{children_all, number_held, numbers_before}
use Rattle.initd_laws.proofs.Following.{Follows, follows_all}
use Rattle.initd_laws.proofs.Graces.{grace_enough, leaves_enough}
use Rattle.initd_laws.proofs.Warning.{hit_by, kill_hit, kill_staged, was_hit}

-- ---- a shorter grace

hit_less : (order : Option OrderKind) (early soon before earlier : Bool) → (early ≡ true → soon ≡ true)
    → (before ≡ true → earlier ≡ true) → hit_by order early before ≡ true → hit_by order soon earlier ≡ true
hit_less order early soon before earlier f g h = grind arith

was_hit_less : (id : List ℕ) (less grace now : ℕ) (so_far : List Event) → less ≤ grace
    → was_hit id grace now so_far ≡ true → was_hit id less now so_far ≡ true
was_hit_less id less grace now [] small h = h
was_hit_less id less grace now (past.Birth i n ∷ so_far) small h =
    let parts = and_parts (not (same_id id i)) (was_hit id grace now so_far) h in
    and_from (not (same_id id i)) (was_hit id less now so_far) parts.0
    (was_hit_less id less grace now so_far small parts.1)
was_hit_less id less grace now (past.Hit i ∷ so_far) small h =
    by (same_id id i) h (λ before. was_hit_less id less grace now so_far small before)
  where
    sooner : nat_le (time_of so_far + grace) now ≡ true → nat_le (time_of so_far + less) now ≡ true
    sooner late = le-leb (time_of so_far + less) now (omega (arith, small, leb-true (time_of so_far + grace) now late))

    by : (b : Bool) → cond b (hit_by (open_of id so_far) (nat_le (time_of so_far + grace) now)
        (was_hit id grace now so_far)) (was_hit id grace now so_far) ≡ true
        → (was_hit id grace now so_far ≡ true → was_hit id less now so_far ≡ true)
        → cond b (hit_by (open_of id so_far) (nat_le (time_of so_far + less) now) (was_hit id less now so_far))
        (was_hit id less now so_far) ≡ true
    by true is rest = hit_less (open_of id so_far) (nat_le (time_of so_far + grace) now)
        (nat_le (time_of so_far + less) now) (was_hit id grace now so_far) (was_hit id less now so_far) sooner rest is
    by false is rest = rest is
was_hit_less id less grace now (_ ∷ so_far) small h = was_hit_less id less grace now so_far small h

-- ---- the earlier calls

asked_earlier : (settings : HostSettings) (later earlier : List HostCall) (held : HeldChildren)
    (asked : List SystemCall) → AreSystemCallsFor settings (later ++ earlier) held asked → numbers_are_new asked ≡ true
    → (before : HeldChildren) × (between : List SystemCall) × AreSystemCallsFor settings earlier before between
    × (numbers_are_new between ≡ true)
asked_earlier settings [] earlier held asked were numbers = (held, asked, were, numbers)
asked_earlier settings (call ∷ later) earlier held asked (before, between, were, made, asks) numbers =
    asked_earlier settings later earlier before between were
    (numbers_before settings call (later ++ earlier) before held between asked made asks numbers)

are_own : (settings : HostSettings) (calls : List HostCall) (held : HeldChildren) (asked : List SystemCall)
    → AreSystemCallsFor settings calls held asked → CallsLeaveHeld calls held
are_own settings [] held asked (none, helped) = none
are_own settings (call ∷ calls) held asked (before, between, were, kept, asks) =
    (before, are_own settings calls before between were, kept)

given_earlier : (later earlier : List HostCall) → are_given_back (later ++ earlier) ≡ true
    → are_given_back earlier ≡ true
given_earlier [] earlier h = h
given_earlier (Carry text back ∷ later) earlier h = given_earlier later earlier
    (and_parts (is_given_back (texts_in (later ++ earlier)) text back) (are_given_back (later ++ earlier)) h).1
given_earlier (_ ∷ later) earlier h = given_earlier later earlier h

-- ---- no child is born with the number of one that is held

live_held : (settings : HostSettings) (calls : List HostCall) (held : HeldChildren) (asked : List SystemCall) (n : ℕ)
    → AreSystemCallsFor settings calls held asked → numbers_are_new asked ≡ true → holds_number n held ≡ true
    → is_live n asked ≡ true
live_held settings calls held asked n were numbers there =
    let found = passing (λ child. n == child.1) held there in
    (children_all settings calls held asked were numbers).live found.item.0 n
    (found.within (λ child. same_id found.item.0 child.0 && n == child.1)
    (and_from (same_id found.item.0 found.item.0) (n == found.item.1) (same_id-self found.item.0) found.passes))

are_new : (settings : HostSettings) (calls : List HostCall) (held : HeldChildren) (asked : List SystemCall)
    (table : List Entry) → AreSystemCallsFor settings calls held asked → numbers_are_new asked ≡ true → AreNew calls
are_new settings calls held asked table were numbers later earlier id command n children is own =
    let cut = asked_earlier settings later (Start id command (Now (answer.Born n)) ∷ earlier) held asked
    (subst (λ cs. AreSystemCallsFor settings cs held asked) is were) numbers in
    at_birth cut.1 cut.2 cut.3
  where
    at_birth : (between : List SystemCall) {now : HeldChildren}
        → AreSystemCallsFor settings (Start id command (Now (answer.Born n)) ∷ earlier) now between
        → numbers_are_new between ≡ true → holds_number n children ≡ false
    at_birth between (before, old, first, made, (words, way, spawned)) new =
        let parts = and_parts (not (is_live n old)) (numbers_are_new old)
        (subst (λ cs. numbers_are_new cs ≡ true) spawned new) in
        let same : children ≡ before = held_children earlier children (start_point table) refl own
        ∙ sym (held_children earlier before (start_point table) refl (are_own settings earlier before old first)) in
        false_from_ne_true (holds_number n children) (λ there. absurd (false≢true (sym (ap not
        (live_held settings earlier before old n first parts.1
        (subst (λ cs. holds_number n cs ≡ true) same there))) ∙ parts.0)))

-- ---- a run

signal_silent : (next : HostCall) (id : List ℕ) (kind : SignalKind) (reply : Reply)
    → reports_outcome_of next (Signal id kind reply) ≡ false
signal_silent (Announce past.NotRead) id kind reply = refl
signal_silent (Announce (past.Handed how)) id kind reply = refl
signal_silent (Announce happening) id kind reply = refl
signal_silent next id kind reply = refl

-- the last of some calls
record Last (call : HostCall) (calls : List HostCall) : Type 0 where
  front : List HostCall
  last : HostCall
  is : call ∷ calls ≡ front ++ last ∷ []

last_of : (call : HostCall) (calls : List HostCall) → Last call calls
last_of call [] = record { front = []; last = call; is = refl }
last_of call (next ∷ calls) =
    let rest = last_of next calls in
    record { front = call ∷ rest.front; last = rest.last; is = ap (λ cs. call ∷ cs) rest.is }

-- the requests of a trace
asked_enough : (least : ℕ) (so_far : List Event) → list_all (leaves_time least) (requests_in so_far) ≡ true
    → list_all (leaves_enough least) so_far ≡ true
asked_enough least [] h = refl
asked_enough least (past.Got request ∷ so_far) h =
    let parts = and_parts (list_all (leaves_time least) (requests_in so_far)) (leaves_time least request && true)
    (sym (list_all-append (leaves_time least) (requests_in so_far) (request ∷ [])) ∙ h) in
    and_from (leaves_time least request) (list_all (leaves_enough least) so_far)
    (and_parts (leaves_time least request) true parts.1).0 (asked_enough least so_far parts.0)
asked_enough least (_ ∷ so_far) h = asked_enough least so_far h

module _ (settings : HostSettings) (level : Option Level) (table : List Entry) (next : HostCall)
    (calls : List HostCall) (held : HeldChildren) (asked : List SystemCall) (grace : ℕ)
    (were : AreSystemCallsFor settings calls held asked)
    (fronts : AtEachCall (IfPossibleFrom (IsOpening level table) CallsWereInPlace) (next ∷ calls))
    (distinct : is_distinct table ≡ true)
    (numbers : numbers_are_new asked ≡ true) (given : are_given_back calls ≡ true) (opening : grace ≤ GRACE)
    (requests : list_all (leaves_time grace) (requests_in_blocks (bytes_of calls)) ≡ true) where
  abbrev goal : Goal
  goal = opening_goal level table

  abbrev p : Point
  p = start_point table

  -- the trace at each signal is sound
  signal_sound : (later earlier : List HostCall) (id : List ℕ) (kind : SignalKind) (reply : Reply)
      → calls ≡ later ++ Signal id kind reply ∷ earlier
      → is_sound goal (past.Asked id (order_for kind) ∷ (point_after earlier p).past) ≡ true
  signal_sound later earlier id kind reply is =
      let call : HostCall = Signal id kind reply in
      let split : Last next later = last_of next later in
      let whole : next ∷ calls ≡ split.front ++ split.last ∷ call ∷ earlier =
      ap (λ cs. next ∷ cs) is ∙ ap (λ cs. cs ++ call ∷ earlier) split.is
      ∙ append_assoc split.front (split.last ∷ []) (call ∷ earlier) in
      let silent : reports_outcome_of split.last call ≡ false = signal_silent split.last id kind reply in
      let allowed : is_allowed goal (point_after (call ∷ earlier) p).past ≡ true =
      held_possible goal later (call ∷ earlier) held p refl
      (subst (λ cs. CallsLeaveHeld cs held) is (are_own settings calls held asked were)) new refl in
      let texts = fronts split.front earlier split.last call whole silent goal p distinct (refl, refl) allowed in
      let carried : are_carried (call ∷ earlier) p ≡ true = given_carried goal (call ∷ earlier) p texts.0
      (given_earlier later (call ∷ earlier) (subst (λ cs. are_given_back cs ≡ true) is given)) in
      (leaves level table distinct split.front earlier split.last call
      (subst (AtEachCall (IfPossibleFrom (IsOpening level table) CallsWereInPlace)) whole fronts) allowed carried).sound
    where
      new : AreNew (Signal id kind reply ∷ earlier)
      new = let cut = asked_earlier settings later (Signal id kind reply ∷ earlier) held asked
          (subst (λ cs. AreSystemCallsFor settings cs held asked) is were) numbers in
          are_new settings (Signal id kind reply ∷ earlier) cut.0 cut.1 table cut.2 cut.3

  -- and its requests leave time
  enough : (later earlier : List HostCall) → calls ≡ later ++ earlier
      → list_all (leaves_enough grace) (point_after earlier p).past ≡ true
  enough later earlier is =
      let first : Brings [] earlier p = calls_bring earlier [] p refl in
      let more : Brings (bytes_of earlier) later (point_after earlier p) =
      calls_bring later (bytes_of earlier) (point_after earlier p) first.over in
      let whole : Brings [] calls p = calls_bring calls [] p refl in
      let at : requests_in (point_after earlier p).past ++ more.requests ≡ requests_in_blocks (bytes_of calls) =
      sym more.past ∙ ap (λ (q : Point). requests_in q.past) (sym (point_after-append later earlier p))
      ∙ ap (λ cs. requests_in (point_after cs p).past) (sym is) ∙ whole.past ∙ sym whole.gots in
      asked_enough grace (point_after earlier p).past
      (and_parts (list_all (leaves_time grace) (requests_in (point_after earlier p).past))
      (list_all (leaves_time grace) more.requests)
      (sym (list_all-append (leaves_time grace) (requests_in (point_after earlier p).past) more.requests)
      ∙ ap (list_all (leaves_time grace)) at ∙ requests)).0

  -- the grace in force at a KILL
  kill_grace : (id : List ℕ) (so_far : List Event) → is_sound goal (past.Asked id ask.Kill ∷ so_far) ≡ true
      → list_all (leaves_enough grace) so_far ≡ true → was_hit id grace (time_of so_far) so_far ≡ true
  kill_grace id so_far sound all =
      let parts = and_parts (is_due goal (step.Order id ask.Kill) so_far) (is_sound goal so_far) sound in
      was_hit_less id grace (grace_of so_far) (time_of so_far) so_far
      (leb-true grace (grace_of so_far) (grace_enough grace goal so_far (le-leb grace GRACE opening) parts.1 all
      (kill_staged goal id so_far parts.0 parts.1))) (kill_hit goal id so_far parts.0 parts.1)

  -- a signal to the child of the number
  kill_warned : (later earlier : List HostCall) (id : List ℕ) (kind : SignalKind) (reply : Reply) (n : ℕ)
      (reached : Bool) (before : HeldChildren) (between : List SystemCall)
      → calls ≡ later ++ Signal id kind reply ∷ earlier → AreSystemCallsFor settings earlier before between
      → numbers_are_new between ≡ true → number_of id before ≡ Some n → kills_warned grace between ≡ true
      → kills_warned grace (sent settings.groups kind n reached ∷ between) ≡ true
  kill_warned later earlier id signal.Term reply n reached before between is first new own rest = by settings.groups
    where
      by : (g : Bool) → kills_warned grace (sent g signal.Term n reached ∷ between) ≡ true
      by true = rest
      by false = rest
  kill_warned later earlier id signal.Kill reply n reached before between is first new own rest = by settings.groups
    where
      so_far : List Event
      so_far = (point_after earlier p).past

      follows : Follows before between so_far
      follows = follows_all settings earlier before between p refl first new

      hit : was_hit id grace (min (seconds between) CLOCK_LIMIT) so_far ≡ true
      hit = subst (λ t. was_hit id grace t so_far ≡ true) follows.time (kill_grace id so_far
          (signal_sound later earlier id signal.Kill reply is)
          (enough (later ++ Signal id signal.Kill reply ∷ []) earlier
          (is ∙ sym (append_assoc later (Signal id signal.Kill reply ∷ []) earlier))))

      warned : is_warned n grace (seconds between) between ≡ true
      warned = follows.warned id n grace (seconds between) (number_held id n before own) (le_refl (seconds between)) hit

      by : (g : Bool) → kills_warned grace (sent g signal.Kill n reached ∷ between) ≡ true
      by true = and_from (is_warned n grace (seconds between) between) (kills_warned grace between) warned rest
      by false = and_from (is_warned n grace (seconds between) between) (kills_warned grace between) warned rest

  kills_unborn : (words : List (List ℕ)) (old new : List SystemCall) → (new ≡ old) ⊎ (new ≡ spawn words None ∷ old)
      → kills_warned grace old ≡ true → kills_warned grace new ≡ true
  kills_unborn words old new (inl is) rest = ap (kills_warned grace) is ∙ rest
  kills_unborn words old new (inr is) rest = ap (kills_warned grace) is ∙ rest

  kills_born : (words : List (List ℕ)) (answered : Answer) (old new : List SystemCall)
      → SpawnRequests words answered old new → kills_warned grace old ≡ true → kills_warned grace new ≡ true
  kills_born words (answer.Born n) old new is rest = ap (kills_warned grace) is ∙ rest
  kills_born words answer.NotBorn old new is rest = kills_unborn words old new is rest
  kills_born words (answer.Ended status) old new is rest = kills_unborn words old new is rest
  kills_born words answer.Alive old new is rest = kills_unborn words old new is rest
  kills_born words answer.NoLook old new is rest = kills_unborn words old new is rest
  kills_born words answer.Hit old new is rest = kills_unborn words old new is rest
  kills_born words answer.Miss old new is rest = kills_unborn words old new is rest

  kills_at : (later earlier : List HostCall) (call : HostCall) (before : HeldChildren) (old new : List SystemCall)
      → calls ≡ later ++ call ∷ earlier → AreSystemCallsFor settings earlier before old → numbers_are_new old ≡ true
      → SystemCallsForCall settings call earlier before old new → kills_warned grace old ≡ true
      → kills_warned grace new ≡ true
  kills_at later earlier (Start id command (Now answered)) before old new is first fresh (words, way, asks) rest =
      kills_born words answered old new asks rest
  kills_at later earlier (Start id command Later) before old new is first fresh asks rest = absurd asks
  kills_at later earlier (Look id (Now answered)) before old new is first fresh (outcome, asks, answers) rest =
      by (number_of id before) asks
    where
      by : (c : Option ℕ) → WaitRequest c outcome old new → kills_warned grace new ≡ true
      by None asked = ap (kills_warned grace) asked.0 ∙ rest
      by (Some n) asked = ap (kills_warned grace) asked ∙ rest
  kills_at later earlier (Look id Later) before old new is first fresh asks rest = absurd asks
  kills_at later earlier (Signal id kind (Now answered)) before old new is first fresh (reached, asks, answers) rest =
      by (number_of id before) refl asks
    where
      by : (c : Option ℕ) → number_of id before ≡ c → SendRequest settings.groups c kind reached old new
          → kills_warned grace new ≡ true
      by None own asked = ap (kills_warned grace) asked.0 ∙ rest
      by (Some n) own asked = ap (kills_warned grace) asked
          ∙ kill_warned later earlier id kind (Now answered) n reached before old is first fresh own rest
  kills_at later earlier (Signal id kind Later) before old new is first fresh asks rest = absurd asks
  kills_at later earlier (Clock time) before old new is first fresh asks rest = ap (kills_warned grace) asks.1 ∙ rest
  kills_at later earlier (ReadTables parts) before old new is first fresh asks rest =
      ap (kills_warned grace) asks.1 ∙ rest
  kills_at later earlier (Late late) before old new is first fresh asks rest = ap (kills_warned grace) asks ∙ rest
  kills_at later earlier (TakeBytes room taken) before old new is first fresh asks rest =
      ap (kills_warned grace) asks ∙ rest
  kills_at later earlier (Carry text back) before old new is first fresh asks rest =
      ap (kills_warned grace) asks ∙ rest
  kills_at later earlier (Announce happening) before old new is first fresh asks rest =
      ap (kills_warned grace) asks ∙ rest
  kills_at later earlier Pause before old new is first fresh asks rest = ap (kills_warned grace) asks ∙ rest

  helped : (helpers : List (List (List ℕ))) → kills_warned grace (map run helpers ++ []) ≡ true
  helped [] = refl
  helped (words ∷ helpers) = helped helpers

  kills_in : (later earlier : List HostCall) (before : HeldChildren) (between : List SystemCall)
      → calls ≡ later ++ earlier → AreSystemCallsFor settings earlier before between → numbers_are_new between ≡ true
      → kills_warned grace between ≡ true
  kills_in later [] before between is (none, (helpers, asked)) fresh = ap (kills_warned grace) asked ∙ helped helpers
  kills_in later (call ∷ earlier) now between is (before, old, first, made, asks) fresh =
      let new : numbers_are_new old ≡ true =
      numbers_before settings call earlier before now old between made asks fresh in
      kills_at later earlier call before old between is first new asks
      (kills_in (later ++ call ∷ []) earlier before old (is ∙ sym (append_assoc later (call ∷ []) earlier)) first new)

  -- SECOND LAW
  pub kills_all : kills_warned grace asked ≡ true
  kills_all = kills_in [] calls held asked refl were numbers
