-- Worked crashes, computed by `refl`: what is left of a run whose init is killed.
use Rattle.supervisor.proofs.Words.{◌≡◌, drop, refl, sym, ap, subst, inl, inr, ℕ, Bool, true, false, ◌&&◌, List, []}
use Rattle.supervisor.proofs.Words.{◌∷◌, ◌++◌, codes, Some, None, Ok, list_all, false≢true, and_parts, none-some, Entry}
use Rattle.supervisor.proofs.Words.{Goal, is_unreaped, Event, open_of, is_sound, lawful_unbroken, sound_lawful}
use Rattle.supervisor.proofs.Words.{opening_goal, Start, Look, Late, Clock, TakeBytes, Carry, Announce, Pause, Now}
use Rattle.supervisor.proofs.Words.{HostCall, trace_at, AtEachCall, AreTexts, IfPossibleFrom, CallsWereInPlace}
use Rattle.supervisor.proofs.Words.{are_carried}
use Rattle.supervisor.proofs.Words.{is_allowed}
use Rattle.supervisor.proofs.Words.{Point, has_trace, point_after, IsOpening, start_point, LeftByCrash}
use Rattle.supervisor.proofs.Words.{LeftByCrashInFile}
use Rattle.supervisor.proofs.Words.{is_of_idle_look}
use Rattle.init_words.specs.declared.actions.Act.{Act}
use Rattle.init_words.specs.declared.actions.Act.TheVariants as act
use Rattle.init_words.specs.declared.children.Status.TheVariants.{Exit}
use Rattle.init_words.specs.declared.levels.Level.TheVariants as level
use Rattle.init_words.specs.declared.levels.Mark.{Mark}
use Rattle.init_words.specs.declared.levels.Mark.TheVariants.{At}
use Rattle.init_words.specs.declared.orders.Answer.TheVariants.{Born, Ended}
use Rattle.init_words.specs.declared.orders.OrderKind.TheVariants as ask
use Rattle.init_words.specs.declared.stages.Stage.TheVariants as stage
use Rattle.trace_events.specs.declared.happenings.Happening.TheVariants as past
use Rattle.supervisor.proofs.Crashes.{leaves, leaves_in}

abbrev entry : List ℕ → List Mark → Act → List ℕ → Entry
entry id levels action process =
    record { id = id; levels = record { items = levels }; act = action; process = record { items = process } }

-- init waits for w, and starts r after it
abbrev table : List Entry
table = entry (codes "id") (At level.L3 ∷ []) act.Initdefault []
    ∷ entry (codes "w") (At level.L3 ∷ []) act.Wait
    (codes "prep") ∷ entry (codes "r") (At level.L3 ∷ []) act.Respawn (codes "serv") ∷ []

abbrev goal : Goal
goal = opening_goal None table

abbrev opening : Point
opening = start_point table

abbrev entered : List HostCall
entered = Announce (past.Enter (stage.Run level.L3) 5) ∷ Announce (past.Enter stage.Boot 5)
    ∷ Announce (past.Enter stage.Sysinit 5) ∷ Late None ∷ TakeBytes 256 (Ok []) ∷ Clock (Ok 0) ∷ []

abbrev start_w : HostCall
start_w = Start (codes "w") (codes "prep") (Now (Born 11))

abbrev waiting : List HostCall
waiting = Late None ∷ TakeBytes 256 (Ok []) ∷ Clock (Ok 0) ∷ Pause ∷ start_w ∷ entered

abbrev look_w : HostCall
look_w = Look (codes "w") (Now (Ended (Exit 0)))

abbrev start_r : HostCall
start_r = Start (codes "r") (codes "serv") (Now (Born 12))

-- two turns: w is born, and found ended; then r is born
abbrev run : List HostCall
run = Pause ∷ start_r ∷ look_w ∷ waiting

-- ---- the law applies to the run

run-allowed : is_allowed goal (point_after run opening).past ≡ true
run-allowed = refl

run-carried : are_carried run opening ≡ true
run-carried = refl

-- the call carried no text
abbrev carries_none : HostCall → Bool
carries_none (Carry text back) = false
carries_none _ = true

-- up to this call everything went well, and it carried no text
record AreWell (call : HostCall) (calls : List HostCall) : Type 0 where
  pub in_place : has_trace goal (call ∷ calls) opening ≡ true
  pub sound : is_sound goal (point_after (call ∷ calls) opening).past ≡ true
  pub none : carries_none call ≡ true

abbrev is_well : HostCall → List HostCall → Bool
is_well call calls = has_trace goal (call ∷ calls) opening
    && (is_sound goal (point_after (call ∷ calls) opening).past && carries_none call)

are_well : (call : HostCall) (calls : List HostCall) → is_well call calls ≡ true → AreWell call calls
are_well call calls well =
    let one = and_parts (has_trace goal (call ∷ calls) opening)
    (is_sound goal (point_after (call ∷ calls) opening).past && carries_none call) well in
    let two = and_parts (is_sound goal (point_after (call ∷ calls) opening).past) (carries_none call) one.1 in
    record { in_place = one.0; sound = two.0; none = two.1 }

abbrev all_well : List HostCall → Bool
all_well [] = true
all_well (call ∷ calls) = is_well call calls && all_well calls

run-well : all_well run ≡ true
run-well = refl

well_behind : (later calls : List HostCall) → all_well (later ++ calls) ≡ true → all_well calls ≡ true
well_behind [] calls well = well
well_behind (one ∷ later) calls well =
    well_behind later calls (and_parts (is_well one (later ++ calls)) (all_well (later ++ calls)) well).1

no_text : (call : HostCall) (calls : List HostCall) → carries_none call ≡ true → AreTexts goal calls opening
    → AreTexts goal (call ∷ calls) opening
no_text (Carry text back) calls none texts = absurd (false≢true none)
no_text call calls none texts = texts

no_texts : (calls : List HostCall) → all_well calls ≡ true → AreTexts goal calls opening
no_texts [] well = tt
no_texts (call ∷ calls) well =
    let parts = and_parts (is_well call calls) (all_well calls) well in
    no_text call calls (are_well call calls parts.0).none (no_texts calls parts.1)

well_of : (call : HostCall) (calls : List HostCall) → all_well (call ∷ calls) ≡ true
    → CallsWereInPlace goal opening (call ∷ calls)
well_of call calls well =
    let own = are_well call calls (and_parts (is_well call calls) (all_well calls) well).0 in
    record {
      in_place = own.in_place;
      sound = own.sound;
      unbroken = lawful_unbroken (point_after (call ∷ calls) opening).past
          (sound_lawful goal (point_after (call ∷ calls) opening).past own.sound);
    }

run-fronts : AtEachCall (IfPossibleFrom (IsOpening None table) CallsWereInPlace) run
run-fronts later earlier next call is apart g p sound (of_goal, of_point) allowed =
    let well : all_well (call ∷ earlier) ≡ true =
    well_behind (next ∷ []) (call ∷ earlier) (well_behind later (next ∷ call ∷ earlier) (ap all_well (sym is))) in
    subst (λ (x : Goal). AreTexts x (call ∷ earlier) p
    × (are_carried (call ∷ earlier) p ≡ true → CallsWereInPlace x p (call ∷ earlier))) (sym of_goal)
    (subst (λ (q : Point). AreTexts goal (call ∷ earlier) q
    × (are_carried (call ∷ earlier) q ≡ true → CallsWereInPlace goal q (call ∷ earlier))) (sym of_point)
    (no_texts (call ∷ earlier) well, λ carried. well_of call earlier well))

-- ---- init is killed after w was born, and before that was logged

abbrev front_at : HostCall → List HostCall → List Event
front_at call earlier = trace_at call (point_after earlier opening).past

abbrev world_after : List HostCall → List Event
world_after calls = (point_after calls opening).past

at_start : LeftByCrash start_w goal (front_at start_w entered) (world_after (start_w ∷ entered))
at_start = leaves None table refl (Pause ∷ start_r ∷ look_w ∷ Late None ∷ TakeBytes 256 (Ok []) ∷ Clock (Ok 0) ∷ [])
    entered Pause start_w run-fronts refl refl

start-lives : is_unreaped (codes "w") 11 (world_after (start_w ∷ entered)) ≡ true
start-lives = refl

start-unlogged : is_unreaped (codes "w") 11 (front_at start_w entered) ≡ false
start-unlogged = refl

start-open : open_of (codes "w") (front_at start_w entered) ≡ Some ask.Start
start-open = refl

-- without the order in the trace, no order of w is open, and the law's conclusion is false
unlogged-is_not : LeftByCrash start_w goal (world_after entered) (world_after (start_w ∷ entered)) → ⊥
unlogged-is_not all = elim (all.stands (codes "w") 11 refl) [
  | inl is ↦ absurd (false≢true is)
  | inr way ↦ absurd (none-some ask.Start way.1)
]

-- ---- init is killed after w was found ended, and before that was logged

at_look : LeftByCrash look_w goal (front_at look_w waiting) (world_after (look_w ∷ waiting))
at_look = leaves None table refl (Pause ∷ []) waiting start_r look_w run-fronts refl refl

look-logged : is_unreaped (codes "w") 11 (front_at look_w waiting) ≡ true
look-logged = refl

look-ended : is_unreaped (codes "w") 11 (world_after (look_w ∷ waiting)) ≡ false
look-ended = refl

look-open : open_of (codes "w") (front_at look_w waiting) ≡ Some ask.Look
look-open = refl

-- the file lacks the order of the look
in_file : LeftByCrashInFile look_w goal (world_after waiting) (world_after (look_w ∷ waiting))
in_file = leaves_in look_w goal (past.Asked (codes "w") ask.Look ∷ []) (drop 1 (world_after waiting))
    (world_after (look_w ∷ waiting)) past.Nudge refl at_look

-- what the file lacks may not be a start
start-is_written : list_all is_of_idle_look (past.Asked (codes "w") ask.Start ∷ []) ≡ false
start-is_written = refl

-- if the end of w was not logged when the next call was made, its look is no longer under way, and the law's conclusion
-- is false
unlogged_end-is_not : LeftByCrash start_r goal (world_after waiting) (world_after (start_r ∷ look_w ∷ waiting)) → ⊥
unlogged_end-is_not all = elim (all.none_else (codes "w") 11 refl) [
  | inl is ↦ absurd (false≢true is)
  | inr way ↦ absurd (none-some ask.Look way.1)
]

-- ---- traces that init does not leave

-- r is started before w was found ended, when that is not due
too_early-is_not : (world : List Event) → LeftByCrash start_r goal (front_at start_r waiting) world → ⊥
too_early-is_not world all = absurd (false≢true all.sound)

too_early-is_not_in_place : has_trace goal (start_r ∷ waiting) opening ≡ false
too_early-is_not_in_place = refl

-- w is sent a KILL, although it is not excluded
strange-is_not : (world : List Event)
    → LeftByCrash Pause goal (past.Asked (codes "w") ask.Kill ∷ world_after waiting) world → ⊥
strange-is_not world all = absurd (false≢true all.lawful)
