-- A worked run that meets all premises of the laws: init starts serv, is asked for level 2, and stops it by TERM and
-- KILL. `refl` computes all but the splits of the run.
use Rattle.std.proofs.Common.{◌≡◌, refl, sym, ap, subst, ◌&&◌, ◌*◌, ℕ, Bool, true, false, List, [], ◌∷◌, ◌++◌, codes}
use Rattle.std.proofs.Common.{Some}
use Rattle.std.proofs.Common.{None, Ok, Err, le_refl}
use Rattle.std.specs.List.{list_all}
use Rattle.std.specs.declared.process.status.ExitStatus.{ExitStatus}
use Rattle.std.proofs.lemmas.Bool.{false≢true, and_parts}
use Rattle.init_words.specs.declared.actions.Act.{Act}
use Rattle.init_words.specs.declared.actions.Act.TheVariants as act
use Rattle.init_words.specs.declared.entries.Entry.{Entry}
use Rattle.init_words.specs.declared.levels.Level.TheVariants as level
use Rattle.init_words.specs.declared.levels.Mark.{Mark}
use Rattle.init_words.specs.declared.levels.Mark.TheVariants.{At}
use Rattle.init_words.specs.declared.orders.Answer.TheVariants as answer
use Rattle.init_words.specs.declared.orders.SignalKind.TheVariants.{Term, Kill}
use Rattle.init_words.specs.declared.stages.Stage.TheVariants as stage
use Rattle.initctl_frame.specs.Blocks.{requests_in_blocks}
use Rattle.initctl_frame.specs.Frames.{block_of_ints}
use Rattle.trace_events.specs.declared.happenings.Happening.TheVariants as past
use Rattle.trace_events.specs.declared.steps.Goal.{Goal}
use Rattle.trace_events.specs.Sound.{is_sound}
use Rattle.trace_laws.proofs.Laws.{lawful_unbroken, sound_lawful}
use Rattle.core_model.specs.State.{opening_goal}
use Rattle.host_calls.specs.declared.calls.Call.TheVariants.{Start, Look, Signal, Late, Clock, TakeBytes, ReadTables}
use Rattle.host_calls.specs.declared.calls.Call.TheVariants.{Carry, Announce, Pause}
use Rattle.host_calls.specs.declared.calls.HostFault.TheVariants.{Device}
use Rattle.host_calls.specs.declared.calls.Reply.TheVariants.{Now}
use Rattle.host_calls.specs.Calls.{HostCall}
use Rattle.host_calls.specs.Held.{HeldChildren}
use Rattle.host_calls.specs.Settings.{HostSettings}
use Rattle.supervisor.specs.Fronts.{AtEachCall}
use Rattle.supervisor.specs.CallsLead.{AreTexts, IfPossibleFrom, CallsWereInPlace, are_carried}
use Rattle.supervisor.specs.Point.{Point, has_trace, point_after}
use Rattle.supervisor.specs.Requests.{bytes_of}
use Rattle.supervisor.specs.Texts.{are_given_back}
use Rattle.supervisor.specs.Opening.{IsOpening, start_point}
use Rattle.host_system.specs.Asking.{AreSystemCallsFor}
use Rattle.host_system.specs.Systems.{SystemCall, status_of}
use Rattle.host_system.specs.Systems.SystemCall.{read_clock, read_file, send, spawn, try_wait}
use Rattle.initd_laws.specs.Requests.{leaves_time}
use Rattle.initd_laws.specs.Signals.{keeps_to_children, kills_warned, numbers_are_new}
use Rattle.initd_laws.proofs.Killing.{kills_all}

abbrev entry : List ℕ → List Mark → Act → List ℕ → Entry
entry id levels action process =
    record { id = id; levels = record { items = levels }; act = action; process = record { items = process } }

-- level 3 is the default; serv runs there
abbrev table : List Entry
table = entry (codes "id") (At level.L3 ∷ []) act.Initdefault []
    ∷ entry (codes "r") (At level.L3 ∷ []) act.Respawn (codes "serv") ∷ []

abbrev goal : Goal
goal = opening_goal None table

abbrev opening : Point
opening = start_point table

abbrev settings : HostSettings
settings = record { inittab = codes "inittab"; logs = None; groups = false; respawn_delay = None; fresh = false }

-- the seconds of a reading in nanoseconds
abbrev at : ℕ → SystemCall
at time = read_clock (Some (time * 1_000_000_000))

-- telinit(8) asks for level 2, with five seconds
abbrev request : List ℕ
request = block_of_ints 1 50 5

module _ (status : ExitStatus) where
  abbrev first_turn : List HostCall
  first_turn = Announce (past.Settle level.L3) ∷ Start (codes "r") (codes "serv") (Now (answer.Born 12))
      ∷ Announce (past.Enter (stage.Run level.L3) 5) ∷ Announce (past.Enter stage.Boot 5)
      ∷ Announce (past.Enter stage.Sysinit 5) ∷ Late None ∷ TakeBytes 384 (Ok []) ∷ Clock (Ok 100) ∷ []

  abbrev second_turn : List HostCall
  second_turn = Look (codes "r") (Now answer.Alive) ∷ Signal (codes "r") Term (Now answer.Hit)
      ∷ Announce (past.Enter (stage.Run level.L2) 5) ∷ Announce past.NotRead ∷ ReadTables (Err Device)
      ∷ Late None ∷ TakeBytes 384 (Ok request) ∷ Clock (Ok 101) ∷ Pause ∷ first_turn

  abbrev calls : List HostCall
  calls = Announce (past.Settle level.L2) ∷ Look (codes "r") (Now (answer.Ended (status_of status)))
      ∷ Signal (codes "r") Kill (Now answer.Hit) ∷ Late None ∷ TakeBytes 384 (Ok []) ∷ Clock (Ok 106) ∷ Pause
      ∷ second_turn

  -- what it asks of the system
  abbrev asked : List SystemCall
  asked = try_wait 12 (Some (Some status)) ∷ send Kill 12 true ∷ at 106 ∷ try_wait 12 (Some None)
      ∷ send Term 12 true ∷ read_file (codes "inittab") None ∷ at 101 ∷ spawn (codes "serv" ∷ []) (Some 12) ∷ at 100
      ∷ []

  -- ---- up to each of these calls all went well, and no text was carried

  abbrev carries_none : HostCall → Bool
  carries_none (Carry text back) = false
  carries_none _ = true

  abbrev is_well : HostCall → List HostCall → Bool
  is_well call rest = has_trace goal (call ∷ rest) opening
      && (is_sound goal (point_after (call ∷ rest) opening).past && carries_none call)

  abbrev all_well : List HostCall → Bool
  all_well [] = true
  all_well (call ∷ rest) = is_well call rest && all_well rest

  calls-well : all_well calls ≡ true
  calls-well = refl

  record AreWell (call : HostCall) (rest : List HostCall) : Type 0 where
    in_place : has_trace goal (call ∷ rest) opening ≡ true
    sound : is_sound goal (point_after (call ∷ rest) opening).past ≡ true
    none : carries_none call ≡ true

  are_well : (call : HostCall) (rest : List HostCall) → is_well call rest ≡ true → AreWell call rest
  are_well call rest well =
      let one = and_parts (has_trace goal (call ∷ rest) opening)
      (is_sound goal (point_after (call ∷ rest) opening).past && carries_none call) well in
      let two = and_parts (is_sound goal (point_after (call ∷ rest) opening).past) (carries_none call) one.1 in
      record { in_place = one.0; sound = two.0; none = two.1 }

  well_behind : (later rest : List HostCall) → all_well (later ++ rest) ≡ true → all_well rest ≡ true
  well_behind [] rest well = well
  well_behind (one ∷ later) rest well =
      well_behind later rest (and_parts (is_well one (later ++ rest)) (all_well (later ++ rest)) well).1

  no_text : (call : HostCall) (rest : List HostCall) → carries_none call ≡ true → AreTexts goal rest opening
      → AreTexts goal (call ∷ rest) opening
  no_text (Carry text back) rest none texts = absurd (false≢true none)
  no_text call rest none texts = texts

  no_texts : (rest : List HostCall) → all_well rest ≡ true → AreTexts goal rest opening
  no_texts [] well = tt
  no_texts (call ∷ rest) well =
      let parts = and_parts (is_well call rest) (all_well rest) well in
      no_text call rest (are_well call rest parts.0).none (no_texts rest parts.1)

  well_of : (call : HostCall) (rest : List HostCall) → all_well (call ∷ rest) ≡ true
      → CallsWereInPlace goal opening (call ∷ rest)
  well_of call rest well =
      let own = are_well call rest (and_parts (is_well call rest) (all_well rest) well).0 in
      record {
        in_place = own.in_place;
        sound = own.sound;
        unbroken = lawful_unbroken (point_after (call ∷ rest) opening).past
            (sound_lawful goal (point_after (call ∷ rest) opening).past own.sound);
      }

  run-well : all_well (Pause ∷ calls) ≡ true
  run-well = refl

  run-fronts : AtEachCall (IfPossibleFrom (IsOpening None table) CallsWereInPlace) (Pause ∷ calls)
  run-fronts later earlier next call is apart g p sound (of_goal, of_point) allowed =
      let well : all_well (call ∷ earlier) ≡ true =
      well_behind (next ∷ []) (call ∷ earlier) (well_behind later (next ∷ call ∷ earlier) (ap all_well (sym is))) in
      subst (λ (x : Goal). AreTexts x (call ∷ earlier) p
      × (are_carried (call ∷ earlier) p ≡ true → CallsWereInPlace x p (call ∷ earlier))) (sym of_goal)
      (subst (λ (q : Point). AreTexts goal (call ∷ earlier) q
      × (are_carried (call ∷ earlier) q ≡ true → CallsWereInPlace goal q (call ∷ earlier))) (sym of_point)
      (no_texts (call ∷ earlier) well, λ carried. well_of call earlier well))

  -- ---- what the system was asked, call by call

  abbrev held : HeldChildren
  held = (codes "r", 12) ∷ []

  -- the first three calls, and the next three
  opened : AreSystemCallsFor settings (Late None ∷ TakeBytes 384 (Ok []) ∷ Clock (Ok 100) ∷ []) [] (at 100 ∷ [])
  opened = (
    [],
    at 100 ∷ [],
    (
      [],
      at 100 ∷ [],
      ([], [], (refl, ([], refl)), refl, (Some 100_000_000_000, refl, refl)),
      refl,
      refl,
    ),
    (refl, refl),
    refl,
  )

  entered : AreSystemCallsFor settings
      (Announce (past.Enter (stage.Run level.L3) 5) ∷ Announce (past.Enter stage.Boot 5)
      ∷ Announce (past.Enter stage.Sysinit 5) ∷ Late None ∷ TakeBytes 384 (Ok []) ∷ Clock (Ok 100) ∷ []) []
      (at 100 ∷ [])
  entered = ([], at 100 ∷ [], ([], at 100 ∷ [], ([], at 100 ∷ [], opened, refl, refl), refl, refl), refl, refl)

  abbrev after_first : List SystemCall
  after_first = spawn (codes "serv" ∷ []) (Some 12) ∷ at 100 ∷ []

  first_asked : AreSystemCallsFor settings first_turn held after_first
  first_asked =
      (held, after_first, ([], at 100 ∷ [], entered, (refl, refl), (codes "serv" ∷ [], refl, refl)), refl, refl)

  abbrev after_second : List SystemCall
  after_second = read_file (codes "inittab") None ∷ at 101 ∷ after_first

  read_asked : AreSystemCallsFor settings
      (ReadTables (Err Device) ∷ Late None ∷ TakeBytes 384 (Ok request) ∷ Clock (Ok 101)
      ∷ Pause ∷ first_turn) held after_second
  read_asked = (
    held,
    at 101 ∷ after_first,
    (
      held,
      at 101 ∷ after_first,
      (
        held,
        at 101 ∷ after_first,
        (held, after_first, (held, after_first, first_asked, refl, refl), refl, (Some 101_000_000_000, refl, refl)),
        refl,
        refl,
      ),
      (refl, refl),
      refl,
    ),
    refl,
    (None, refl, tt),
  )

  second_asked : AreSystemCallsFor settings second_turn held
      (try_wait 12 (Some None) ∷ send Term 12 true ∷ after_second)
  second_asked = (
    held,
    send Term 12 true ∷ after_second,
    (
      held,
      after_second,
      (
        held,
        after_second,
        (held, after_second, read_asked, refl, refl),
        refl,
        refl,
      ),
      (refl, refl),
      (true, refl, refl),
    ),
    (refl, refl),
    (Some None, refl, refl),
  )

  run-asked : AreSystemCallsFor settings calls [] asked
  run-asked = (
    [],
    asked,
    (
      held,
      send Kill 12 true ∷ before,
      (
        held,
        before,
        (
          held,
          before,
          (
            held,
            before,
            (
              held,
              try_wait 12 (Some None) ∷ send Term 12 true ∷ after_second,
              (held, try_wait 12 (Some None) ∷ send Term 12 true ∷ after_second, second_asked, refl, refl),
              refl,
              (Some 106_000_000_000, refl, refl),
            ),
            refl,
            refl,
          ),
          (refl, refl),
          refl,
        ),
        (refl, refl),
        (true, refl, refl),
      ),
      (refl, refl),
      (Some (Some status), refl, refl),
    ),
    refl,
    refl,
  )
    where
      before : List SystemCall
      before = at 106 ∷ try_wait 12 (Some None) ∷ send Term 12 true ∷ after_second

  -- ---- the other premises, and the law

  numbers : numbers_are_new asked ≡ true
  numbers = refl

  given : are_given_back calls ≡ true
  given = refl

  requests : list_all (leaves_time 5) (requests_in_blocks (bytes_of calls)) ≡ true
  requests = refl

  run-kills : kills_warned 5 asked ≡ true
  run-kills = kills_all settings None table Pause calls [] asked 5 run-asked run-fronts refl numbers given
      (le_refl 5) requests

  run-targets : keeps_to_children asked ≡ true
  run-targets = refl
