-- What is left of a run whose init is killed during a call: the trace so far, and the children.
use Rattle.supervisor.proofs.Words.{arith, ◌≡◌, refl, sym, ◌∙◌, ap, subst, ◌⊎◌, inl, inr, ℕ, Bool, true, false, not}
use Rattle.supervisor.proofs.Words.{◌==◌, cond, List, [], ◌∷◌, ◌++◌, append_assoc, Option, Some, None, Ok, Err}
use Rattle.supervisor.proofs.Words.{list_all, list_any, none-some, same_Some, option_map_or, false≢true, and_parts}
use Rattle.supervisor.proofs.Words.{or_right, Entry, Goal, Event, is_unreaped, Child, is_child, newborn, open_of}
use Rattle.supervisor.proofs.Words.{unreaped_children, is_sound, sound_lawful, opening_goal, Start, Look, Signal, Late}
use Rattle.supervisor.proofs.Words.{Clock, TakeBytes, ReadTables, Carry, Announce, Pause, Now, Later, HostCall}
use Rattle.supervisor.proofs.Words.{PartsRead, trace_at, AtEachCall, reports_outcome_of, IfPossibleFrom}
use Rattle.supervisor.proofs.Words.{CallsWereInPlace}
use Rattle.supervisor.proofs.Words.{are_carried, is_allowed}
use Rattle.supervisor.proofs.Words.{Point, acted, after, announced, answered, byte_after, bytes_after, came_whole}
use Rattle.supervisor.proofs.Words.{handed_if, is_asked_for, is_last, last_birth, nudged_if, order_for, ordered}
use Rattle.supervisor.proofs.Words.{point_after, reading, calls_allowed, carried_parts, IsOpening, start_point}
use Rattle.supervisor.proofs.Words.{IsOpenOrderOfCall, LeftByCrash, LeftByCrashInFile, is_of_idle_look, subject_of}
use Rattle.init_words.specs.declared.levels.Level.{Level}
use Rattle.init_words.specs.declared.orders.Answer.{Answer}
use Rattle.init_words.specs.declared.orders.Answer.TheVariants as answer
use Rattle.init_words.specs.declared.orders.OrderKind.{OrderKind}
use Rattle.init_words.specs.declared.orders.OrderKind.TheVariants as ask
use Rattle.init_words.specs.Ids.{same_id}
use Rattle.init_words.specs.Orders.{answers}
use Rattle.init_words.specs.Parts.{texts_of}
use Rattle.init_words.proofs.Same.{same_id-is, same_id-sym}
use Rattle.init_words.proofs.Tests.{any_filtered, any_within, or_either}
use Rattle.inittab_text.specs.Parts.{are_readable, table_of_texts}
use Rattle.inittab_text.specs.Tables.{is_distinct}
use Rattle.trace_events.specs.declared.happenings.Happening.TheVariants as past
use Rattle.trace_laws.proofs.Births.{sound_before}
use Rattle.host_calls.specs.declared.calls.Reply.{Reply}
use Rattle.supervisor.proofs.Opened.{from_opening}

-- ---- the children

record Stands (call : HostCall) (front world : List Event) : Type 0 where
  pub stands : (id : List ℕ) (n : ℕ) → is_unreaped id n world ≡ true
      → (is_unreaped id n front ≡ true) ⊎ IsOpenOrderOfCall call ask.Start id front
  pub none_else : (id : List ℕ) (n : ℕ) → is_unreaped id n front ≡ true
      → (is_unreaped id n world ≡ true) ⊎ IsOpenOrderOfCall call ask.Look id front

-- the call changes no children
still : (call : HostCall) (front world : List Event) → unreaped_children world ≡ unreaped_children front
    → Stands call front world
still call front world same = record {
  stands = λ id n there. inl (ap (list_any (is_child id n)) (sym same) ∙ there);
  none_else = λ id n there. inl (ap (list_any (is_child id n)) same ∙ there);
}

asked_start : (n : ℕ) (order : Option OrderKind) → option_map_or (answers (answer.Born n)) order false ≡ true
    → order ≡ Some ask.Start
asked_start n None h = absurd (false≢true h)
asked_start n (Some ask.Start) h = refl
asked_start n (Some ask.Look) h = absurd (false≢true h)
asked_start n (Some ask.Term) h = absurd (false≢true h)
asked_start n (Some ask.Kill) h = absurd (false≢true h)

asked_look : (status : _) (order : Option OrderKind) → option_map_or (answers (answer.Ended status)) order false ≡ true
    → order ≡ Some ask.Look
asked_look status None h = absurd (false≢true h)
asked_look status (Some ask.Look) h = refl
asked_look status (Some ask.Start) h = absurd (false≢true h)
asked_look status (Some ask.Term) h = absurd (false≢true h)
asked_look status (Some ask.Kill) h = absurd (false≢true h)

-- an act whose answer was told changes only the child of the call's id
acted_stands : (call : HostCall) (id : List ℕ) (given : Answer) (front : List Event) → subject_of call ≡ Some id
    → is_asked_for id given front ≡ true → Stands call front (past.Told id ∷ acted id given front)
acted_stands call id (answer.Born n) front own asked = record {
  stands = λ i m there. or_either (is_child i m (newborn id n front)) (is_unreaped i m front) there
      (λ is. let same : i ≡ id = same_id-is i id (and_parts (same_id i id) (m == n) is).0 in
      inr (own ∙ ap Some (sym same), ap (λ x. open_of x front) same ∙ asked_start n (open_of id front) asked))
      (λ was. inl was);
  none_else = λ i m there. inl (or_right (is_child i m (newborn id n front)) (is_unreaped i m front) there);
}
acted_stands call id (answer.Ended status) front own asked = record {
  stands = λ i m there. inl (any_filtered (is_child i m) (λ child. not (is_child id (last_birth id front) child))
      (unreaped_children front) there);
  none_else = λ i m there. by i m there (same_id i id) refl;
}
  where
    apart : (i : List ℕ) (m : ℕ) → same_id i id ≡ false → (child : Child) → is_child i m child ≡ true
        → not (is_child id (last_birth id front) child) ≡ true
    apart i m differ child is = grind (arith, same_id-is, same_id-sym)

    by : (i : List ℕ) (m : ℕ) → is_unreaped i m front ≡ true → (b : Bool) → same_id i id ≡ b → (is_unreaped i m
        (past.Told id ∷ acted id (answer.Ended status) front) ≡ true) ⊎ IsOpenOrderOfCall call ask.Look i front
    by i m there true is =
        let same : i ≡ id = same_id-is i id is in
        inr (own ∙ ap Some (sym same), ap (λ x. open_of x front) same ∙ asked_look status (open_of id front) asked)
    by i m there false differ = inl (any_within (is_child i m) (λ child. not (is_child id (last_birth id front) child))
        (apart i m differ) (unreaped_children front) ∙ there)
acted_stands call id answer.NotBorn front own asked = still call front (past.Told id ∷ past.NoBirth id ∷ front) refl
acted_stands call id answer.Alive front own asked = still call front (past.Told id ∷ past.Still id ∷ front) refl
acted_stands call id answer.NoLook front own asked = still call front (past.Told id ∷ past.NoLook id ∷ front) refl
acted_stands call id answer.Hit front own asked = still call front (past.Told id ∷ past.Hit id ∷ front) refl
acted_stands call id answer.Miss front own asked = still call front (past.Told id ∷ past.Miss id ∷ front) refl

answered_stands : (call : HostCall) (id : List ℕ) (given : Answer) (front : List Event) → subject_of call ≡ Some id
    → Stands call front (answered id given front)
answered_stands call id given front own = by (is_asked_for id given front) refl
  where
    by : (b : Bool) → is_asked_for id given front ≡ b
        → Stands call front (cond b (past.Told id ∷ acted id given front) front)
    by true asked = acted_stands call id given front own asked
    by false asked = still call front front refl

replied_stands : (call : HostCall) (id : List ℕ) (order : OrderKind) (reply : Reply) (so_far : List Event)
    → subject_of call ≡ Some id → Stands call (past.Asked id order ∷ so_far) (ordered id order reply so_far)
replied_stands call id order (Now given) so_far own = answered_stands call id given (past.Asked id order ∷ so_far) own
replied_stands call id order Later so_far own =
    still call (past.Asked id order ∷ so_far) (past.Asked id order ∷ so_far) refl

nudged_stands : (call : HostCall) (b : Bool) (front world : List Event) → Stands call front world
    → Stands call front (nudged_if b world)
nudged_stands call true front world all = record { stands = all.stands; none_else = all.none_else }
nudged_stands call false front world all = all

byte_same : (byte : ℕ) (p : Point) → unreaped_children (byte_after byte p).past ≡ unreaped_children p.past
byte_same byte p = grind arith

bytes_same : (bytes : List ℕ) (p : Point) → unreaped_children (bytes_after bytes p).past ≡ unreaped_children p.past
bytes_same [] p = refl
bytes_same (byte ∷ bytes) p = bytes_same bytes (byte_after byte p) ∙ byte_same byte p

reading_same : (parts : PartsRead) (so_far : List Event)
    → unreaped_children (reading parts ∷ so_far) ≡ unreaped_children so_far
reading_same (Err fault) so_far = refl
reading_same (Ok parts) so_far = by (are_readable (texts_of parts))
  where
    by : (b : Bool) → unreaped_children (cond b (past.NewTable (table_of_texts (texts_of parts))) past.NotRead ∷ so_far)
        ≡ unreaped_children so_far
    by true = refl
    by false = refl

handed_same : (b : Bool) (so_far : List Event) → unreaped_children (handed_if b so_far) ≡ unreaped_children so_far
handed_same true so_far = refl
handed_same false so_far = refl

call_stands : (call : HostCall) (p : Point) → Stands call (trace_at call p.past) (after call p).past
call_stands (Start id command reply) p = replied_stands (Start id command reply) id ask.Start reply p.past refl
call_stands (Look id reply) p = replied_stands (Look id reply) id ask.Look reply p.past refl
call_stands (Signal id sent reply) p = replied_stands (Signal id sent reply) id (order_for sent) reply p.past refl
call_stands (Late (Some late)) p = nudged_stands (Late (Some late)) (is_last (Some late) p.lates) p.past
    (answered late.0 late.1 p.past) (answered_stands (Late (Some late)) late.0 late.1 p.past refl)
call_stands (Late None) p =
    nudged_stands (Late None) (is_last None p.lates) p.past p.past (still (Late None) p.past p.past refl)
call_stands (Clock (Ok time)) p = still (Clock (Ok time)) p.past (past.Clock time ∷ p.past) refl
call_stands (Clock (Err fault)) p = still (Clock (Err fault)) p.past p.past refl
call_stands (TakeBytes room (Ok bytes)) p =
    still (TakeBytes room (Ok bytes)) p.past (bytes_after bytes p).past (bytes_same bytes p)
call_stands (TakeBytes room (Err fault)) p = still (TakeBytes room (Err fault)) p.past p.past refl
call_stands (ReadTables parts) p = still (ReadTables parts) p.past (reading parts ∷ p.past) (reading_same parts p.past)
call_stands (Carry text back) p =
    still (Carry text back) p.past (handed_if (came_whole text back) p.past) (handed_same (came_whole text back) p.past)
call_stands (Announce happening) p =
    still (Announce happening) (announced happening p.past) (announced happening p.past) refl
call_stands Pause p = still Pause p.past p.past refl

-- ---- the trace up to the call

-- if the trace with an order and its reply is sound, so is the trace with the order only
ordered_sound : (goal : Goal) (id : List ℕ) (order : OrderKind) (reply : Reply) (so_far : List Event)
    → is_sound goal (ordered id order reply so_far) ≡ true → is_sound goal (past.Asked id order ∷ so_far) ≡ true
ordered_sound goal id order Later so_far sound = sound
ordered_sound goal id order (Now given) so_far sound = by (is_asked_for id given asked) sound
  where
    asked : List Event
    asked = past.Asked id order ∷ so_far

    of : (given : Answer) → is_sound goal (past.Told id ∷ acted id given asked) ≡ true → is_sound goal asked ≡ true
    of (answer.Born n) h = sound_before goal (past.Told id ∷ past.Birth id n ∷ []) (past.Asked id order) so_far h
    of answer.NotBorn h = sound_before goal (past.Told id ∷ past.NoBirth id ∷ []) (past.Asked id order) so_far h
    of (answer.Ended status) h = sound_before goal (past.Told id ∷ past.Reaped id (last_birth id asked) status
        ∷ past.Death (last_birth id asked) ∷ []) (past.Asked id order) so_far h
    of answer.Alive h = sound_before goal (past.Told id ∷ past.Still id ∷ []) (past.Asked id order) so_far h
    of answer.NoLook h = sound_before goal (past.Told id ∷ past.NoLook id ∷ []) (past.Asked id order) so_far h
    of answer.Hit h = sound_before goal (past.Told id ∷ past.Hit id ∷ []) (past.Asked id order) so_far h
    of answer.Miss h = sound_before goal (past.Told id ∷ past.Miss id ∷ []) (past.Asked id order) so_far h

    by : (b : Bool) → is_sound goal (cond b (past.Told id ∷ acted id given asked) asked) ≡ true
        → is_sound goal asked ≡ true
    by true h = of given h
    by false h = h

-- no call announces the outcome of an order, or of an announcement
start_silent : (next : HostCall) (id command : List ℕ) (reply : Reply)
    → reports_outcome_of next (Start id command reply) ≡ false
start_silent (Announce past.NotRead) id command reply = refl
start_silent (Announce (past.Handed how)) id command reply = refl
start_silent (Announce happening) id command reply = refl
start_silent next id command reply = refl

look_silent : (next : HostCall) (id : List ℕ) (reply : Reply) → reports_outcome_of next (Look id reply) ≡ false
look_silent (Announce past.NotRead) id reply = refl
look_silent (Announce (past.Handed how)) id reply = refl
look_silent (Announce happening) id reply = refl
look_silent next id reply = refl

signal_silent : (next : HostCall) (id : List ℕ) (sent : _) (reply : Reply)
    → reports_outcome_of next (Signal id sent reply) ≡ false
signal_silent (Announce past.NotRead) id sent reply = refl
signal_silent (Announce (past.Handed how)) id sent reply = refl
signal_silent (Announce happening) id sent reply = refl
signal_silent next id sent reply = refl

announce_silent : (next : HostCall) (said : Event) → reports_outcome_of next (Announce said) ≡ false
announce_silent (Announce past.NotRead) said = refl
announce_silent (Announce (past.Handed how)) said = refl
announce_silent (Announce happening) said = refl
announce_silent next said = refl

module _ (level : Option Level) (table : List Entry) (distinct : is_distinct table ≡ true) where
  abbrev goal : Goal
  goal = opening_goal level table

  abbrev p : Point
  p = start_point table

  -- the trace after a call is sound if the next call does not announce its outcome
  behind : (later earlier : List HostCall) (next call : HostCall)
      → AtEachCall (IfPossibleFrom (IsOpening level table) CallsWereInPlace)
      (later ++ next ∷ call ∷ earlier) → is_allowed goal (point_after (call ∷ earlier) p).past ≡ true → are_carried
      (call ∷ earlier) p ≡ true → reports_outcome_of next call ≡ false
      → is_sound goal (point_after (call ∷ earlier) p).past ≡ true
  behind later earlier next call fronts allowed carried silent = (from_opening level table CallsWereInPlace
      (call ∷ earlier) distinct (fronts later earlier next call refl silent) allowed carried).sound

  -- the trace before a call is sound if the call announces no outcome
  before : (later earlier : List HostCall) (next call : HostCall)
      → AtEachCall (IfPossibleFrom (IsOpening level table) CallsWereInPlace) (later ++ next ∷ call ∷ earlier)
      → is_allowed goal (point_after (call ∷ earlier) p).past ≡ true → are_carried (call ∷ earlier) p ≡ true
      → ((one : HostCall) → reports_outcome_of call one ≡ false) → is_sound goal (point_after earlier p).past ≡ true
  before later [] next call fronts allowed carried silent = distinct
  before later (one ∷ earlier) next call fronts allowed carried silent =
      behind (later ++ next ∷ []) earlier call one
      (subst (AtEachCall (IfPossibleFrom (IsOpening level table) CallsWereInPlace))
      (sym (append_assoc later (next ∷ []) (call ∷ one ∷ earlier))) fronts)
      (calls_allowed goal (call ∷ []) (point_after (one ∷ earlier) p) allowed)
      (carried_parts (call ∷ []) (one ∷ earlier) p carried).1 (silent one)

  front_sound : (later earlier : List HostCall) (next call : HostCall)
      → AtEachCall (IfPossibleFrom (IsOpening level table)
      CallsWereInPlace) (later ++ next ∷ call ∷ earlier) → is_allowed goal (point_after (call ∷ earlier) p).past ≡ true
      → are_carried (call ∷ earlier) p ≡ true → is_sound goal (trace_at call (point_after earlier p).past) ≡ true
  front_sound later earlier next (Start id command reply) fronts allowed carried =
      ordered_sound goal id ask.Start reply (point_after earlier p).past
      (behind later earlier next (Start id command reply) fronts allowed carried (start_silent next id command reply))
  front_sound later earlier next (Look id reply) fronts allowed carried =
      ordered_sound goal id ask.Look reply (point_after earlier p).past
      (behind later earlier next (Look id reply) fronts allowed carried (look_silent next id reply))
  front_sound later earlier next (Signal id sent reply) fronts allowed carried =
      ordered_sound goal id (order_for sent) reply (point_after earlier p).past
      (behind later earlier next (Signal id sent reply) fronts allowed carried (signal_silent next id sent reply))
  front_sound later earlier next (Announce said) fronts allowed carried =
      behind later earlier next (Announce said) fronts allowed carried (announce_silent next said)
  front_sound later earlier next (Late late) fronts allowed carried =
      before later earlier next (Late late) fronts allowed carried (λ one. refl)
  front_sound later earlier next (Clock time) fronts allowed carried =
      before later earlier next (Clock time) fronts allowed carried (λ one. refl)
  front_sound later earlier next (TakeBytes room taken) fronts allowed carried =
      before later earlier next (TakeBytes room taken) fronts allowed carried (λ one. refl)
  front_sound later earlier next (ReadTables parts) fronts allowed carried =
      before later earlier next (ReadTables parts) fronts allowed carried (λ one. refl)
  front_sound later earlier next (Carry text back) fronts allowed carried =
      before later earlier next (Carry text back) fronts allowed carried (λ one. refl)
  front_sound later earlier next Pause fronts allowed carried =
      before later earlier next Pause fronts allowed carried (λ one. refl)

  pub leaves : (later earlier : List HostCall) (next call : HostCall)
      → AtEachCall (IfPossibleFrom (IsOpening level table) CallsWereInPlace) (later ++ next ∷ call ∷ earlier)
      → is_allowed (opening_goal level table) (point_after (call ∷ earlier) (start_point table)).past ≡ true
      → are_carried (call ∷ earlier) (start_point table) ≡ true → LeftByCrash call (opening_goal level table) (trace_at
      call (point_after earlier (start_point table)).past) (point_after (call ∷ earlier) (start_point table)).past
  leaves later earlier next call fronts allowed carried =
      let sound = front_sound later earlier next call fronts allowed carried in
      let all = call_stands call (point_after earlier p) in
      record {
        sound = sound;
        lawful = sound_lawful goal (trace_at call (point_after earlier p).past) sound;
        stands = all.stands;
        none_else = all.none_else;
      }

-- ---- looks that found nothing

held_children : (held file : List Event) → list_all is_of_idle_look held ≡ true
    → unreaped_children (held ++ file) ≡ unreaped_children file
held_children [] file looks = refl
held_children (past.Asked id ask.Look ∷ held) file looks = held_children held file looks
held_children (past.Still id ∷ held) file looks = held_children held file looks
held_children (past.Told id ∷ held) file looks = held_children held file looks
held_children (past.Asked id ask.Start ∷ held) file looks = absurd (false≢true looks)
held_children (past.Asked id ask.Term ∷ held) file looks = absurd (false≢true looks)
held_children (past.Asked id ask.Kill ∷ held) file looks = absurd (false≢true looks)
held_children (happening ∷ held) file looks = absurd (false≢true looks)

not_start : ask.Look ≡ ask.Start → ⊥
not_start is = cc

-- if a start is open after the order of a look, or after a `told`, it was open before
behind_look : (b : Bool) (before : Option OrderKind) → cond b (Some ask.Look) before ≡ Some ask.Start
    → before ≡ Some ask.Start
behind_look true before h = absurd (not_start (same_Some ask.Look ask.Start h))
behind_look false before h = h

behind_told : (b : Bool) (before : Option OrderKind) → cond b None before ≡ Some ask.Start → before ≡ Some ask.Start
behind_told true before h = absurd (none-some ask.Start h)
behind_told false before h = h

held_open : (id : List ℕ) (held file : List Event) → list_all is_of_idle_look held ≡ true
    → open_of id (held ++ file) ≡ Some ask.Start → open_of id file ≡ Some ask.Start
held_open id [] file looks under = under
held_open id (past.Asked i ask.Look ∷ held) file looks under =
    held_open id held file looks (behind_look (same_id id i) (open_of id (held ++ file)) under)
held_open id (past.Still i ∷ held) file looks under = held_open id held file looks under
held_open id (past.Told i ∷ held) file looks under =
    held_open id held file looks (behind_told (same_id id i) (open_of id (held ++ file)) under)
held_open id (past.Asked i ask.Start ∷ held) file looks under = absurd (false≢true looks)
held_open id (past.Asked i ask.Term ∷ held) file looks under = absurd (false≢true looks)
held_open id (past.Asked i ask.Kill ∷ held) file looks under = absurd (false≢true looks)
held_open id (happening ∷ held) file looks under = absurd (false≢true looks)

pub leaves_in : (call : HostCall) (goal : Goal) (held so_far world : List Event) (last : Event)
    → list_all is_of_idle_look held ≡ true → LeftByCrash call goal (held ++ last ∷ so_far) world
    → LeftByCrashInFile call goal (last ∷ so_far) world
leaves_in call goal held so_far world last looks all =
    let same = held_children held (last ∷ so_far) looks in
    let sound = sound_before goal held last so_far all.sound in
    record {
      sound = sound;
      lawful = sound_lawful goal (last ∷ so_far) sound;
      stands = λ id n there. elim (all.stands id n there) [
        | inl is ↦ inl (ap (list_any (is_child id n)) (sym same) ∙ is)
        | inr way ↦ inr (way.0, held_open id held (last ∷ so_far) looks way.1)
      ];
      none_else = λ id n there. elim (all.none_else id n (ap (list_any (is_child id n)) same ∙ there)) [
        | inl is ↦ inl is
        | inr way ↦ inr way.0
      ];
    }
