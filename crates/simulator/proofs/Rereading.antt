-- If the first due step is to read inittab, no start and no signal is open.
use Rattle.simulator.proofs.Words.{◌≡◌, ◌++◌, Bool, true, false, not, ◌&&◌, ◌||◌, cond, ℕ, List, [], ◌∷◌, Option, Some}
use Rattle.simulator.proofs.Words.{None, is_none, refl, list_any, false≢true, or_left, Entry, Letter, Stage, Start}
use Rattle.simulator.proofs.Words.{Look, PowerKind, both_ways, Step, Call, Power, Order, Hold, Settle, Reexec, Goal}
use Rattle.simulator.proofs.Words.{Event, stage_of, table_of, Child, is_child_of, open_of, is_quiet, is_idle}
use Rattle.simulator.proofs.Words.{known_children}
use Rattle.simulator.proofs.Words.{is_owed, in_run, goal_of, wants_reexec, level_wish, is_power_pending}
use Rattle.simulator.proofs.Words.{is_letter_pending}
use Rattle.simulator.proofs.Words.{powers, letters, is_request_pending, step_if, steps_if, none_excluded, due_first}
use Rattle.simulator.proofs.Words.{due_reexec, due_reread, due_level, enter_level, due_news, power_steps, letter_steps}
use Rattle.simulator.proofs.Words.{due_stops, stops_among, stops_of, stop_step, due_starts, starts_among, start_steps}
use Rattle.simulator.proofs.Words.{can_start, due_stage, next_stage, is_over, due_settle, settle_step, is_announced}
use Rattle.simulator.proofs.Words.{is_settled, due_looks, looks_among, can_look, record_ids, due, first, is_reread}
use Rattle.init_words.specs.declared.stages.Stage.TheVariants as stage
use Rattle.init_words.specs.declared.orders.OrderKind.{OrderKind}
use Rattle.init_words.specs.Actions.{is_limited}
use Rattle.trace_events.specs.Spells.{stop_due}
use Rattle.trace_events.specs.Timing.{is_held, is_full}

-- none of the steps is to read inittab
abbrev HasNone : List Step → Type 0
HasNone steps = list_any is_reread steps ≡ false

none_append : (xs ys : List Step) → HasNone xs → HasNone ys → HasNone (xs ++ ys)
none_append [] ys none other = other
none_append (x ∷ xs) ys none other = at (is_reread x) none (none_append xs ys)
  where
    at : (b : Bool) → (b || list_any is_reread xs) ≡ false → (HasNone xs → HasNone ys → HasNone (xs ++ ys))
        → (b || list_any is_reread (xs ++ ys)) ≡ false
    at true none rest = none
    at false none rest = rest none other

none_if : (b : Bool) (steps : List Step) → HasNone steps → HasNone (steps_if b steps)
none_if true steps none = none
none_if false steps none = refl

none_one : (b : Bool) (step : Step) → is_reread step ≡ false → HasNone (step_if b step)
none_one true step other = rw other refl
none_one false step other = refl

none_first : (goal : Goal) (o : Option Stage) (past : List Event) → HasNone (due_first goal o past)
none_first goal None past = refl
none_first goal (Some now) past = refl

none_level : (o : Option Goal) (past : List Event) → HasNone (enter_level o past)
none_level None past = refl
none_level (Some wish) past = refl

none_power : (kinds : List PowerKind) (past : List Event) → HasNone (power_steps kinds past)
none_power [] past = refl
none_power (kind ∷ kinds) past =
    none_append (step_if (is_power_pending kind past) (Power kind)) (power_steps kinds past)
    (none_one (is_power_pending kind past) (Power kind) refl) (none_power kinds past)

none_letter : (called : List Letter) (past : List Event) → HasNone (letter_steps called past)
none_letter [] past = refl
none_letter (letter ∷ called) past = none_append (step_if (is_letter_pending letter past) (Call letter))
    (letter_steps called past) (none_one (is_letter_pending letter past) (Call letter) refl) (none_letter called past)

none_stop : (id : List ℕ) (o : Option OrderKind) → HasNone (stop_step id o)
none_stop id None = refl
none_stop id (Some ask) = refl

none_stops_of : (id : List ℕ) (children : List Child) (past : List Event) → HasNone (stops_of id children past)
none_stops_of id [] past = refl
none_stops_of id (child ∷ children) past =
    none_append (steps_if (is_child_of id child) (stop_step id (stop_due child past)))
    (stops_of id children past) (none_if (is_child_of id child) (stop_step id (stop_due child past))
    (none_stop id (stop_due child past))) (none_stops_of id children past)

none_stops : (ids : List (List ℕ)) (past : List Event) → HasNone (stops_among ids past)
none_stops [] past = refl
none_stops (id ∷ ids) past = none_append (steps_if (is_none (open_of id past)) (stops_of id (known_children past) past))
    (stops_among ids past) (none_if (is_none (open_of id past)) (stops_of id (known_children past) past)
    (none_stops_of id (known_children past) past)) (none_stops ids past)

none_start : (id : List ℕ) (limited free full : Bool)
    → HasNone (cond limited (steps_if free (cond full (Hold id) (Order id Start) ∷ [])) (Order id Start ∷ []))
none_start id true true true = refl
none_start id true true false = refl
none_start id true false full = refl
none_start id false free full = refl

none_starts : (table : List Entry) (past : List Event) → HasNone (starts_among table past)
none_starts [] past = refl
none_starts (e ∷ table) past =
    none_append (steps_if (can_start e past) (start_steps e past)) (cond (is_owed e past) [] (starts_among table past))
    (none_if (can_start e past) (start_steps e past)
    (none_start e.id (is_limited e.act) (not (is_held e.id past)) (is_full e.id past)))
    (at (is_owed e past) (none_starts table past))
  where
    at : (b : Bool) → HasNone (starts_among table past) → HasNone (cond b [] (starts_among table past))
    at true none = refl
    at false none = none

none_stage : (goal : Goal) (o : Option Stage) → HasNone (next_stage goal o)
none_stage goal None = refl
none_stage goal (Some stage.Sysinit) = refl
none_stage goal (Some stage.Boot) = refl
none_stage goal (Some (stage.Run level)) = refl

none_settle : (o : Option Stage) (past : List Event) → HasNone (settle_step o past)
none_settle None past = refl
none_settle (Some stage.Sysinit) past = refl
none_settle (Some stage.Boot) past = refl
none_settle (Some (stage.Run level)) past = none_one (is_settled level (known_children past) past) (Settle level) refl

none_looks : (ids : List (List ℕ)) (past : List Event) → HasNone (looks_among ids past)
none_looks [] past = refl
none_looks (id ∷ ids) past = none_append (step_if (can_look id past) (Order id Look)) (looks_among ids past)
    (none_one (can_look id past) (Order id Look) refl) (none_looks ids past)

none_ten : (a b c d e f g h i j : List Step) → HasNone a → HasNone b → HasNone c → HasNone d → HasNone e → HasNone f
    → HasNone g → HasNone h → HasNone i → HasNone j → HasNone (a ++ b ++ c ++ d ++ e ++ f ++ g ++ h ++ i ++ j)
none_ten a b c d e f g h i j na nb nc nd ne nf ng nh ni nj =
    none_append (a ++ b ++ c ++ d ++ e ++ f ++ g ++ h ++ i) j (none_append (a ++ b ++ c ++ d ++ e ++ f ++ g ++ h) i
    (none_append (a ++ b ++ c ++ d ++ e ++ f ++ g) h (none_append (a ++ b ++ c ++ d ++ e ++ f) g
    (none_append (a ++ b ++ c ++ d ++ e) f (none_append (a ++ b ++ c ++ d) e
    (none_append (a ++ b ++ c) d (none_append (a ++ b) c (none_append a b na nb) nc) nd) ne) nf) ng) nh) ni) nj

-- while a start or a signal is open, reading inittab is not due
none_due : (goal : Goal) (past : List Event) → is_quiet past ≡ false → HasNone (due goal past)
none_due goal past busy =
    none_ten (due_first goal (stage_of past) past) (due_reexec past) (due_reread past) (due_level past) (due_news past)
    (due_stops past) (due_starts past) (due_stage goal past) (due_settle past) (due_looks past)
    (none_first goal (stage_of past) past)
    (none_one (is_quiet past && wants_reexec past) Reexec refl)
    (rw busy refl)
    (none_if (is_quiet past) (enter_level (level_wish past) past) (none_level (level_wish past) past))
    (none_if (is_quiet past && in_run (stage_of past)) (power_steps powers past ++ letter_steps letters past)
    (none_append (power_steps powers past) (letter_steps letters past) (none_power powers past)
    (none_letter letters past)))
    (none_if (not (is_request_pending past)) (stops_among (record_ids past) past) (none_stops (record_ids past) past))
    (none_if (not (is_request_pending past) && none_excluded past) (starts_among (table_of past) past)
    (none_starts (table_of past) past))
    (none_if (is_over past) (next_stage (goal_of goal past) (stage_of past))
    (none_stage (goal_of goal past) (stage_of past)))
    (none_if (not (is_request_pending past) && is_idle past && not (is_announced past))
    (settle_step (stage_of past) past)
    (none_settle (stage_of past) past))
    (none_looks (record_ids past) past)

any_first : (steps : List Step) → is_reread (first steps) ≡ true → list_any is_reread steps ≡ true
any_first [] h = absurd (false≢true h)
any_first (x ∷ steps) h = or_left (is_reread x) (list_any is_reread steps) h

pub reread_quiet : (goal : Goal) (past : List Event) → is_reread (first (due goal past)) ≡ true → is_quiet past ≡ true
reread_quiet goal past reads = at (is_quiet past) refl
  where
    at : (b : Bool) → is_quiet past ≡ b → is_quiet past ≡ true
    at true is = is
    at false is =
        both_ways (list_any is_reread (due goal past)) (any_first (due goal past) reads) (none_due goal past is)
