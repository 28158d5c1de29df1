-- Without requests, a stretch is calm, or init enters the next stage on its way up.
use Rattle.core_waiting.proofs.Words.{◌≡◌, ◌≤◌, ◌<◌, ◌+◌, refl, sym, ◌∙◌, ap, subst, ◌⊎◌, inl, inr, ℕ, ◌==◌, Bool, true}
use Rattle.core_waiting.proofs.Words.{false, not, ◌&&◌, ◌||◌, cond, List, [], ◌∷◌, ◌++◌, filter, length, Option, Some}
use Rattle.core_waiting.proofs.Words.{None, is_none, arith, list_any, list_all, option_map_or, false≢true}
use Rattle.core_waiting.proofs.Words.{false_from_ne_true, true_from_ne_false, and_parts, and_from, or_left, or_right}
use Rattle.core_waiting.proofs.Words.{not-true, Entry, Act, Level, S, Letter, Stage, OrderKind, Start, Look, PowerKind}
use Rattle.core_waiting.proofs.Words.{waited_by, wanted_by, is_limited, starts_of, waited_of, same_id, same_level}
use Rattle.core_waiting.proofs.Words.{same_level-is, same_id-self, both_ways, falsely, or_either, or_false, and_false}
use Rattle.core_waiting.proofs.Words.{not_from, any_less, filter_none, Passing, passing, entry_of, NewTable, Enter}
use Rattle.core_waiting.proofs.Words.{Asked, Got, Step, Goal, Event, Child, is_child_of, has_child, open_of, table_of}
use Rattle.core_waiting.proofs.Words.{stage_of, is_quiet, is_idle, kept_children, known_children, is_wanted, is_owed}
use Rattle.core_waiting.proofs.Words.{may_live, is_excluded, stop_due, is_held, is_full, in_run, goal_of, wants_reexec}
use Rattle.core_waiting.proofs.Words.{wants_reread, level_wish, other_than, is_power_pending, is_letter_pending, powers}
use Rattle.core_waiting.proofs.Words.{letters}
use Rattle.core_waiting.proofs.Words.{are_calls_pending, is_request_pending, step_if, steps_if, none_excluded}
use Rattle.core_waiting.proofs.Words.{due_first, due_reexec}
use Rattle.core_waiting.proofs.Words.{due_reread, enter_level, due_level, power_steps, letter_steps, due_news}
use Rattle.core_waiting.proofs.Words.{record_ids, stop_step, stops_of, stops_among, due_stops, can_start, start_steps}
use Rattle.core_waiting.proofs.Words.{starts_among, due_starts, is_over, next_stage, due_stage, is_announced}
use Rattle.core_waiting.proofs.Words.{settle_step, due_settle, is_settled, can_look, looks_among, due_looks, due}
use Rattle.core_waiting.proofs.Words.{same_step, is_due, is_sound, each_append, each_step_if, each_steps_if, due_facts}
use Rattle.core_waiting.proofs.Words.{sound_step, quiet_start, Excluded, AtRest, why_of_entry, is_awaited}
use Rattle.core_waiting.proofs.Words.{awaited_children, is_level_announced, is_calm, is_start_of, is_waited_start}
use Rattle.core_waiting.proofs.Words.{is_gone, count_wanted_waits, has_no_request, stages_ahead, destination, is_ahead}
use Rattle.core_waiting.proofs.Words.{waits_ahead}
use Rattle.std.proofs.Common.{is_some}
use Rattle.init_words.specs.declared.stages.Stage.TheVariants as stage
use Rattle.init_words.specs.Orders.{same_stage}
use Rattle.init_words.proofs.Same.{same_stage-is}
use Rattle.initctl_frame.specs.declared.requests.HeardRequest.TheVariants as got
use Rattle.trace_events.specs.declared.happenings.Happening.TheVariants.{Call, Power}
use Rattle.trace_events.specs.declared.steps.Step.TheVariants as step
use Rattle.trace_laws.proofs.Dues.{Each}
use Rattle.core_waiting.proofs.Settled.{all_found, found_id}
use Rattle.core_waiting.proofs.Progress.{same_stage as stage_stays, excluded_still, kept_back, quit_at, progress}
use Rattle.core_waiting.proofs.Rounds.{fewer, fewer_to_come}

-- what follows if a due step is the given one
abbrev pub Unless : Step → Type 0 → Step → Type 0
Unless it F x = same_step it x ≡ true → F

unless : (it : Step) (F : Type 0) (xs : List Step) → Each (Unless it F) xs → list_any (same_step it) xs ≡ true → F
unless it F [] each h = absurd (false≢true h)
unless it F (x ∷ xs) each h = or_either (same_step it x) (list_any (same_step it) xs) h each.0 (unless it F xs each.1)

-- a step other than an order, a hold, an announcement, reading inittab or a re-execution
pub record Moves (it : Step) : Type 0 where
  pub orders : (id : List ℕ) (ask : OrderKind) → same_step it (step.Order id ask) ≡ false
  pub holds : (id : List ℕ) → same_step it (step.Hold id) ≡ false
  pub settles : (level : Level) → same_step it (step.Settle level) ≡ false
  pub reexecs : same_step it step.Reexec ≡ false
  pub rereads : same_step it step.Reread ≡ false

never : {F : Type 0} (b : Bool) → b ≡ false → b ≡ true → F
never b other own = both_ways b own other

stops_each : (it : Step) (F : Type 0) → Moves it → (ids : List (List ℕ)) (past : List Event)
    → Each (Unless it F) (stops_among ids past)
stops_each it F moves [] past = tt
stops_each it F moves (id ∷ ids) past = each_append (Unless it F) (steps_if (is_none (open_of id past)) (stops_of id
    (known_children past) past)) (stops_among ids past) (each_steps_if (Unless it F) (is_none (open_of id past))
    (stops_of id (known_children past) past) (λ _. of_id (known_children past))) (stops_each it F moves ids past) where
      one : (o : Option OrderKind) → Each (Unless it F) (stop_step id o)
      one None = tt
      one (Some ask) = (never (same_step it (step.Order id ask)) (moves.orders id ask), tt)

      of_id : (children : List Child) → Each (Unless it F) (stops_of id children past)
      of_id [] = tt
      of_id (child ∷ children) =
          each_append (Unless it F) (steps_if (is_child_of id child) (stop_step id (stop_due child past)))
          (stops_of id children past)
          (each_steps_if (Unless it F) (is_child_of id child) (stop_step id (stop_due child past))
          (λ _. one (stop_due child past))) (of_id children)

starts_each : (it : Step) (F : Type 0) → Moves it → (es : List Entry) (past : List Event)
    → Each (Unless it F) (starts_among es past)
starts_each it F moves [] past = tt
starts_each it F moves (e ∷ es) past = each_append (Unless it F) (steps_if (can_start e past) (start_steps e past))
    (cond (is_owed e past) [] (starts_among es past)) (each_steps_if (Unless it F) (can_start e past)
    (start_steps e past) (λ _. by (is_limited e.act))) (later (is_owed e past) (starts_each it F moves es past)) where
      window : (full : Bool) → Each (Unless it F) (cond full (step.Hold e.id) (step.Order e.id Start) ∷ [])
      window true = (never (same_step it (step.Hold e.id)) (moves.holds e.id), tt)
      window false = (never (same_step it (step.Order e.id Start)) (moves.orders e.id Start), tt)

      by : (limited : Bool) → Each (Unless it F) (cond limited (steps_if (not (is_held e.id past))
          (cond (is_full e.id past) (step.Hold e.id) (step.Order e.id Start) ∷ [])) (step.Order e.id Start ∷ []))
      by true = each_steps_if (Unless it F) (not (is_held e.id past))
          (cond (is_full e.id past) (step.Hold e.id) (step.Order e.id Start) ∷ []) (λ _. window (is_full e.id past))
      by false = (never (same_step it (step.Order e.id Start)) (moves.orders e.id Start), tt)

      later : (b : Bool) → Each (Unless it F) (starts_among es past)
          → Each (Unless it F) (cond b [] (starts_among es past))
      later true rest = tt
      later false rest = rest

looks_each : (it : Step) (F : Type 0) → Moves it → (ids : List (List ℕ)) (past : List Event)
    → Each (Unless it F) (looks_among ids past)
looks_each it F moves [] past = tt
looks_each it F moves (id ∷ ids) past = each_append (Unless it F) (step_if (can_look id past) (step.Order id Look))
    (looks_among ids past) (each_step_if (Unless it F) (can_look id past) (step.Order id Look)
    (λ _. never (same_step it (step.Order id Look)) (moves.orders id Look))) (looks_each it F moves ids past)

settles_each : (it : Step) (F : Type 0) → Moves it → (o : Option Stage) (past : List Event)
    → Each (Unless it F) (settle_step o past)
settles_each it F moves None past = tt
settles_each it F moves (Some stage.Sysinit) past = tt
settles_each it F moves (Some stage.Boot) past = tt
settles_each it F moves (Some (stage.Run level)) past = each_step_if (Unless it F) (is_settled level (known_children
    past) past) (step.Settle level) (λ _. never (same_step it (step.Settle level)) (moves.settles level))

pub powers_each : (it : Step) (F : Type 0) (kinds : List PowerKind) (past : List Event)
    → (list_any (λ k. is_power_pending k past) kinds ≡ true → (kind : PowerKind) → same_step it (step.Power kind) ≡ true
    → F) → Each (Unless it F) (power_steps kinds past)
powers_each it F [] past say = tt
powers_each it F (kind ∷ kinds) past say =
    each_append (Unless it F) (step_if (is_power_pending kind past) (step.Power kind))
    (power_steps kinds past) (each_step_if (Unless it F) (is_power_pending kind past) (step.Power kind)
    (λ own. say (or_left (is_power_pending kind past) (list_any (λ k. is_power_pending k past) kinds) own) kind))
    (powers_each it
    F kinds past
    (λ more. say (or_right (is_power_pending kind past) (list_any (λ k. is_power_pending k past) kinds) more)))

pub calls_each : (it : Step) (F : Type 0) (called : List Letter) (past : List Event)
    → (list_any (λ l. is_letter_pending l past) called ≡ true → (letter : Letter)
    → same_step it (step.Call letter) ≡ true → F) → Each (Unless it F) (letter_steps called past)
calls_each it F [] past say = tt
calls_each it F (letter ∷ called) past say =
    each_append (Unless it F) (step_if (is_letter_pending letter past) (step.Call letter)) (letter_steps called past)
    (each_step_if (Unless it F) (is_letter_pending letter past) (step.Call letter) (λ own. say
    (or_left (is_letter_pending letter past) (list_any (λ l. is_letter_pending l past) called) own) letter))
    (calls_each it F
    called past
    (λ more. say (or_right (is_letter_pending letter past) (list_any (λ l. is_letter_pending l past) called) more)))

pub whole : (it : Step) (F : Type 0) (xs : List Step) → (list_any (same_step it) xs ≡ true → F) → Each (Unless it F) xs
whole it F [] within = tt
whole it F (x ∷ xs) within = (
  (λ own. within (or_left (same_step it x) (list_any (same_step it) xs) own)),
  whole it F xs (λ more. within (or_right (same_step it x) (list_any (same_step it) xs) more)),
)

-- rank by rank
pub why_due : (goal : Goal) (past : List Event) (it : Step) (F : Type 0) → Moves it
    → Each (Unless it F) (due_first goal (stage_of past) past) → Each (Unless it F) (due_level past)
    → Each (Unless it F) (due_news past) → Each (Unless it F) (due_stage goal past) → is_due goal it past ≡ true → F
why_due goal past it F moves first level news over h = unless it F (due goal past) all h where
  Q : Step → Type 0
  Q = Unless it F

  r1 : List Step
  r1 = due_first goal (stage_of past) past

  r2 : List Step
  r2 = due_reexec past

  r3 : List Step
  r3 = due_reread past

  join : (xs ys : List Step) → Each (Unless it F) xs → Each (Unless it F) ys → Each (Unless it F) (xs ++ ys)
  join xs ys f g = each_append (Unless it F) xs ys f g

  f2 : Each (Unless it F) (due_reexec past)
  f2 = each_step_if (Unless it F) (is_quiet past && wants_reexec past) step.Reexec
      (λ _. never (same_step it step.Reexec) moves.reexecs)

  f3 : Each (Unless it F) (due_reread past)
  f3 = each_step_if (Unless it F) (is_quiet past && wants_reread past) step.Reread
      (λ _. never (same_step it step.Reread) moves.rereads)

  f6 : Each (Unless it F) (due_stops past)
  f6 = each_steps_if (Unless it F) (not (is_request_pending past)) (stops_among (record_ids past) past)
      (λ _. stops_each it F moves (record_ids past) past)

  f7 : Each (Unless it F) (due_starts past)
  f7 = each_steps_if (Unless it F) (not (is_request_pending past) && none_excluded past)
      (starts_among (table_of past) past)
      (λ _. starts_each it F moves (table_of past) past)

  f9 : Each (Unless it F) (due_settle past)
  f9 = each_steps_if (Unless it F) (not (is_request_pending past) && is_idle past && not (is_announced past))
      (settle_step (stage_of past) past) (λ _. settles_each it F moves (stage_of past) past)

  f10 : Each (Unless it F) (due_looks past)
  f10 = looks_each it F moves (record_ids past) past

  all : Each (Unless it F) (due goal past)
  all = join (due_first goal (stage_of past) past ++ due_reexec past ++ due_reread past ++ due_level past
      ++ due_news past ++ due_stops past ++ due_starts past ++ due_stage goal past ++ due_settle past) (due_looks past)
      (join (due_first goal (stage_of past) past ++ due_reexec past ++ due_reread past ++ due_level past
      ++ due_news past ++ due_stops past ++ due_starts past ++ due_stage goal past) (due_settle past)
      (join (due_first goal (stage_of past) past ++ due_reexec past ++ due_reread past ++ due_level past ++ due_news
      past ++ due_stops past ++ due_starts past) (due_stage goal past) (join (due_first goal (stage_of past) past
      ++ due_reexec past ++ due_reread past ++ due_level past ++ due_news past ++ due_stops past) (due_starts past)
      (join (due_first goal (stage_of past) past ++ due_reexec past ++ due_reread past ++ due_level past ++ due_news
      past) (due_stops past) (join (due_first goal (stage_of past) past ++ due_reexec past ++ due_reread past
      ++ due_level past) (due_news past) (join (due_first goal (stage_of past) past ++ due_reexec past ++ due_reread
      past) (due_level past) (join (due_first goal (stage_of past) past ++ due_reexec past) (due_reread past)
      (join (due_first goal (stage_of past) past) (due_reexec past) first f2) f3) level) news) f6) f7) over) f9) f10

-- a stage is entered because it is the first one, by a request for a level, or because the stage before is over
abbrev EnterBy : Goal → List Event → Stage → ℕ → Type 0
EnterBy goal past s grace = ((stage_of past ≡ None) ⊎ (is_some (level_wish past) ≡ true)) ⊎ ((is_over past ≡ true)
    × (list_any (same_step (step.Enter s grace)) (next_stage (goal_of goal past) (stage_of past)) ≡ true))

enter_by : (goal : Goal) (past : List Event) (s : Stage) (grace : ℕ) → is_due goal (step.Enter s grace) past ≡ true
    → EnterBy goal past s grace
enter_by goal past s grace h = why_due goal past it (EnterBy goal past s grace)
    (record { orders = λ id ask. refl; holds = λ id. refl; settles = λ level. refl; reexecs = refl; rereads = refl })
    (first (stage_of past) refl) (each_steps_if (Unless it (EnterBy goal past s grace)) (is_quiet past) (enter_level
    (level_wish past) past) (λ _. wished (level_wish past) refl)) (each_steps_if (Unless it (EnterBy goal past s grace))
    (is_quiet past && in_run (stage_of past)) (power_steps powers past ++ letter_steps letters past)
    (λ _. each_append (Unless it (EnterBy goal past s grace)) (power_steps powers past) (letter_steps letters past)
    (powers_each it (EnterBy goal past s grace) powers past (λ some kind own. absurd (false≢true own))) (calls_each it
    (EnterBy goal past s grace) letters past (λ some letter own. absurd (false≢true own))))) (each_steps_if (Unless it
    (EnterBy goal past s grace)) (is_over past) (next_stage (goal_of goal past) (stage_of past)) (λ over. whole it
    (EnterBy goal past s grace) (next_stage (goal_of goal past) (stage_of past)) (λ own. inr (over, own)))) h where
      it : Step
      it = step.Enter s grace

      first : (o : Option Stage) → stage_of past ≡ o
          → Each (Unless (step.Enter s grace) (EnterBy goal past s grace)) (due_first goal o past)
      first None is = ((λ own. inl (inl is)), tt)
      first (Some now) is = tt

      wished : (o : Option Goal) → level_wish past ≡ o
          → Each (Unless (step.Enter s grace) (EnterBy goal past s grace)) (enter_level o past)
      wished None is = tt
      wished (Some wish) is = ((λ own. inl (inr (ap is_some is))), tt)

-- entries are called in a run level when a power event or letter is pending
abbrev News : List Event → Type 0
News past = (in_run (stage_of past) ≡ true) × (are_calls_pending past ≡ true)

pending_calls : (goal : Goal) (past : List Event) (it : Step) → Moves it
    → ((s : Stage) (grace : ℕ) → same_step it (step.Enter s grace) ≡ false) → is_due goal it past ≡ true → News past
pending_calls goal past it moves other h = why_due goal past it (News past) moves (first (stage_of past)) (each_steps_if
    (Unless it (News past)) (is_quiet past) (enter_level (level_wish past) past) (λ _. wished (level_wish past)))
    (each_steps_if (Unless it (News past)) (is_quiet past && in_run (stage_of past)) (power_steps powers past
    ++ letter_steps letters past) (λ both. news (and_parts (is_quiet past) (in_run (stage_of past)) both).1))
    (each_steps_if (Unless it (News past)) (is_over past) (next_stage (goal_of goal past) (stage_of past))
    (λ _. climbs (stage_of past))) h where
      enters : (s : Stage) (grace : ℕ) → Each (Unless it (News past)) (step.Enter s grace ∷ [])
      enters s grace = (never (same_step it (step.Enter s grace)) (other s grace), tt)

      news : in_run (stage_of past) ≡ true
          → Each (Unless it (News past)) (power_steps powers past ++ letter_steps letters past)
      news running = each_append (Unless it (News past)) (power_steps powers past) (letter_steps letters past)
          (powers_each it (News past) powers past (λ some kind own. (
            running,
            or_left (list_any (λ k. is_power_pending k past) powers)
                (list_any (λ l. is_letter_pending l past) letters) some,
          ))) (calls_each it (News past) letters past (λ some letter own. (
            running,
            or_right (list_any (λ k. is_power_pending k past) powers)
                (list_any (λ l. is_letter_pending l past) letters) some,
          )))

      first : (o : Option Stage) → Each (Unless it (News past)) (due_first goal o past)
      first None = enters stage.Sysinit (goal_of goal past).grace
      first (Some now) = tt

      wished : (o : Option Goal) → Each (Unless it (News past)) (enter_level o past)
      wished None = tt
      wished (Some wish) = (never (same_step it _) (other _ _), tt)

      climbs : (o : Option Stage) → Each (Unless it (News past)) (next_stage (goal_of goal past) o)
      climbs None = tt
      climbs (Some stage.Sysinit) = (never (same_step it _) (other _ _), tt)
      climbs (Some stage.Boot) = (never (same_step it _) (other _ _), tt)
      climbs (Some (stage.Run level)) = tt

-- nothing is started while a request is pending
unwished_each : (it : Step) (b : Bool) (xs : List Step) → b ≡ false → Each (Unless it (b ≡ false)) xs
unwished_each it b [] is = tt
unwished_each it b (x ∷ xs) is = ((λ own. is), unwished_each it b xs is)

start_unwished : (goal : Goal) (past : List Event) (i : List ℕ) → is_due goal (step.Order i Start) past ≡ true
    → is_request_pending past ≡ false
start_unwished goal past i h = unless it (is_request_pending past ≡ false) (due goal past) all h where
  it : Step
  it = step.Order i Start

  join : (xs ys : List Step) → Each (Unless (step.Order i Start) (is_request_pending past ≡ false)) xs
      → Each (Unless (step.Order i Start) (is_request_pending past ≡ false)) ys
      → Each (Unless (step.Order i Start) (is_request_pending past ≡ false)) (xs ++ ys)
  join xs ys f g = each_append (Unless (step.Order i Start) (is_request_pending past ≡ false)) xs ys f g

  f1 : (o : Option Stage) → Each (Unless (step.Order i Start) (is_request_pending past ≡ false)) (due_first goal o past)
  f1 None = ((λ own. absurd (false≢true own)), tt)
  f1 (Some now) = tt

  f2 : Each (Unless (step.Order i Start) (is_request_pending past ≡ false)) (due_reexec past)
  f2 = each_step_if (Unless (step.Order i Start) (is_request_pending past ≡ false))
      (is_quiet past && wants_reexec past) step.Reexec (λ _ own. absurd (false≢true own))

  f3 : Each (Unless (step.Order i Start) (is_request_pending past ≡ false)) (due_reread past)
  f3 = each_step_if (Unless (step.Order i Start) (is_request_pending past ≡ false))
      (is_quiet past && wants_reread past) step.Reread (λ _ own. absurd (false≢true own))

  level : (o : Option Goal) → Each (Unless (step.Order i Start) (is_request_pending past ≡ false)) (enter_level o past)
  level None = tt
  level (Some wish) = ((λ own. absurd (false≢true own)), tt)

  f4 : Each (Unless (step.Order i Start) (is_request_pending past ≡ false)) (due_level past)
  f4 = each_steps_if (Unless (step.Order i Start) (is_request_pending past ≡ false)) (is_quiet past)
      (enter_level (level_wish past) past) (λ _. level (level_wish past))

  f5 : Each (Unless (step.Order i Start) (is_request_pending past ≡ false)) (due_news past)
  f5 = each_steps_if (Unless (step.Order i Start) (is_request_pending past ≡ false))
      (is_quiet past && in_run (stage_of past))
      (power_steps powers past ++ letter_steps letters past)
      (λ _. join (power_steps powers past) (letter_steps letters past) (powers_each (step.Order i Start)
      (is_request_pending past ≡ false) powers past (λ some kind own. absurd (false≢true own))) (calls_each
      (step.Order i Start) (is_request_pending past ≡ false) letters past (λ some letter own. absurd (false≢true own))))

  f6 : Each (Unless (step.Order i Start) (is_request_pending past ≡ false)) (due_stops past)
  f6 = each_steps_if (Unless (step.Order i Start) (is_request_pending past ≡ false)) (not (is_request_pending past))
      (stops_among (record_ids past) past) (λ free. unwished_each (step.Order i Start) (is_request_pending past)
      (stops_among (record_ids past) past) (not-true (is_request_pending past) free))

  f7 : Each (Unless (step.Order i Start) (is_request_pending past ≡ false)) (due_starts past)
  f7 = each_steps_if (Unless (step.Order i Start) (is_request_pending past ≡ false))
      (not (is_request_pending past) && none_excluded past) (starts_among (table_of past) past)
      (λ both. unwished_each (step.Order i Start) (is_request_pending past) (starts_among (table_of past) past)
      (not-true (is_request_pending past) (and_parts (not (is_request_pending past)) (none_excluded past) both).0))

  climbs : (o : Option Stage)
      → Each (Unless (step.Order i Start) (is_request_pending past ≡ false)) (next_stage (goal_of goal past) o)
  climbs None = tt
  climbs (Some stage.Sysinit) = ((λ own. absurd (false≢true own)), tt)
  climbs (Some stage.Boot) = ((λ own. absurd (false≢true own)), tt)
  climbs (Some (stage.Run l)) = tt

  f8 : Each (Unless (step.Order i Start) (is_request_pending past ≡ false)) (due_stage goal past)
  f8 = each_steps_if (Unless (step.Order i Start) (is_request_pending past ≡ false)) (is_over past)
      (next_stage (goal_of goal past) (stage_of past)) (λ _. climbs (stage_of past))

  settles : (o : Option Stage)
      → Each (Unless (step.Order i Start) (is_request_pending past ≡ false)) (settle_step o past)
  settles None = tt
  settles (Some stage.Sysinit) = tt
  settles (Some stage.Boot) = tt
  settles (Some (stage.Run l)) = each_step_if (Unless (step.Order i Start) (is_request_pending past ≡ false))
      (is_settled l (known_children past) past) (step.Settle l) (λ _ own. absurd (false≢true own))

  f9 : Each (Unless (step.Order i Start) (is_request_pending past ≡ false)) (due_settle past)
  f9 = each_steps_if (Unless (step.Order i Start) (is_request_pending past ≡ false))
      (not (is_request_pending past) && is_idle past
      && not (is_announced past)) (settle_step (stage_of past) past) (λ _. settles (stage_of past))

  looks : (ids : List (List ℕ))
      → Each (Unless (step.Order i Start) (is_request_pending past ≡ false)) (looks_among ids past)
  looks [] = tt
  looks (id ∷ ids) = join (step_if (can_look id past) (step.Order id Look)) (looks_among ids past)
      (each_step_if (Unless (step.Order i Start) (is_request_pending past ≡ false)) (can_look id past)
      (step.Order id Look)
      (λ _ own. absurd (false≢true (sym (and_false (same_id i id)) ∙ own)))) (looks ids)

  all : Each (Unless (step.Order i Start) (is_request_pending past ≡ false)) (due goal past)
  all = join (due_first goal (stage_of past) past ++ due_reexec past ++ due_reread past ++ due_level past
      ++ due_news past ++ due_stops past ++ due_starts past ++ due_stage goal past ++ due_settle past) (due_looks past)
      (join (due_first goal (stage_of past) past ++ due_reexec past ++ due_reread past ++ due_level past ++ due_news
      past ++ due_stops past ++ due_starts past ++ due_stage goal past) (due_settle past) (join (due_first goal
      (stage_of past) past ++ due_reexec past ++ due_reread past ++ due_level past ++ due_news past ++ due_stops past
      ++ due_starts past) (due_stage goal past) (join (due_first goal (stage_of past) past ++ due_reexec past
      ++ due_reread past ++ due_level past ++ due_news past ++ due_stops past) (due_starts past) (join (due_first goal
      (stage_of past) past ++ due_reexec past ++ due_reread past ++ due_level past ++ due_news past) (due_stops past)
      (join (due_first goal (stage_of past) past ++ due_reexec past ++ due_reread past ++ due_level past)
      (due_news past) (join (due_first goal (stage_of past) past ++ due_reexec past ++ due_reread past) (due_level past)
      (join (due_first goal (stage_of past) past ++ due_reexec past) (due_reread past) (join (due_first goal (stage_of
      past) past) (due_reexec past) (f1 (stage_of past)) f2) f3) f4) f5) f6) f7) f8) f9) (looks (record_ids past))

-- the next stage on the way up
abbrev pub is_climb : Option Stage → Stage → Bool
is_climb (Some stage.Sysinit) s = true
is_climb (Some stage.Boot) (stage.Run level) = true
is_climb _ s = false

pub one_step : (s x : Stage) (g grace : ℕ) → (same_stage s x && g == grace || false) ≡ true → s ≡ x
one_step s x g grace h =
    same_stage-is s x (and_parts (same_stage s x) (g == grace) (sym (or_false (same_stage s x && g == grace)) ∙ h)).0

record Climb (level : Level) (o : Option Stage) (s : Stage) : Type 0 where
  climbs : is_climb o s ≡ true
  comes : stages_ahead level o ≡ s ∷ stages_ahead level (Some s)
  bound_for : destination level (Some s) ≡ destination level o
  early : in_run o ≡ false

climb : (aim : Goal) (o : Option Stage) (s : Stage) (grace : ℕ)
    → list_any (same_step (step.Enter s grace)) (next_stage aim o) ≡ true → Climb aim.level o s
climb aim None s grace h = absurd (false≢true h)
climb aim (Some stage.Sysinit) s grace h = at (same_level aim.level S) h where
  at : (b : Bool) → (same_stage s (cond b (stage.Run S) stage.Boot) && grace == aim.grace || false) ≡ true
      → Climb aim.level (Some stage.Sysinit) s
  at b own = record {
    climbs = refl;
    comes = comes (same_level aim.level S) refl;
    bound_for = bound (same_level aim.level S) refl;
    early = refl;
  } where
    bound : (c : Bool) → same_level aim.level S ≡ c → destination aim.level (Some s) ≡ aim.level
    bound true is = ap (λ x. destination aim.level (Some x)) (one_step s (stage.Run S) grace aim.grace
        (ap (λ d. same_stage s (cond d (stage.Run S) stage.Boot) && grace == aim.grace || false) (sym is) ∙ h))
        ∙ sym (same_level-is aim.level S is)
    bound false is = ap (λ x. destination aim.level (Some x)) (one_step s stage.Boot grace aim.grace
        (ap (λ d. same_stage s (cond d (stage.Run S) stage.Boot) && grace == aim.grace || false) (sym is) ∙ h))

    comes : (c : Bool) → same_level aim.level S ≡ c → cond (same_level aim.level S) (stage.Run S ∷ [])
        (stage.Boot ∷ stage.Run aim.level ∷ []) ≡ s ∷ stages_ahead aim.level (Some s)
    comes true is = ap (λ d. cond d (stage.Run S ∷ []) (stage.Boot ∷ stage.Run aim.level ∷ [])) is
        ∙ ap (λ x. x ∷ stages_ahead aim.level (Some x)) (sym (one_step s (stage.Run S) grace aim.grace
        (ap (λ d. same_stage s (cond d (stage.Run S) stage.Boot) && grace == aim.grace || false) (sym is) ∙ h)))
    comes false is = ap (λ d. cond d (stage.Run S ∷ []) (stage.Boot ∷ stage.Run aim.level ∷ [])) is
        ∙ ap (λ x. x ∷ stages_ahead aim.level (Some x)) (sym (one_step s stage.Boot grace aim.grace
        (ap (λ d. same_stage s (cond d (stage.Run S) stage.Boot) && grace == aim.grace || false) (sym is) ∙ h)))
climb aim (Some stage.Boot) s grace h =
    let is = one_step s (stage.Run aim.level) grace aim.grace h in
    record {
      climbs = ap (is_climb (Some stage.Boot)) is;
      comes = ap (λ x. x ∷ stages_ahead aim.level (Some x)) (sym is);
      bound_for = ap (λ x. destination aim.level (Some x)) is;
      early = refl;
    }
climb aim (Some (stage.Run level)) s grace h = absurd (false≢true h)

-- init does not wait for the child in the stage, whatever is called there: it may live, and its entry is not waited for
-- and does not start
abbrev pub stands_by : List Entry → Stage → Child → Bool
stands_by table s child = option_map_or (λ (e : Entry). may_live (Some e) child.act (Some s)
    && (not (waited_of e) && not (starts_of e s))) (entry_of child.id table) false

-- the happening is a Start
abbrev pub is_any_start : Event → Bool
is_any_start (Asked i Start) = true
is_any_start _ = false

-- without requests so far: the stretch is calm, or the last stage was entered in it on the way up, or entries were
-- called in that stage before any was started
pub record Entered (goal : Goal) (past now : List Event) : Type 0 where
  pub after : List Event
  pub start : List Event
  pub entered : Stage
  pub is : now ≡ after ++ start
  pub calm : is_calm after ≡ true
  pub quiet : is_quiet start ≡ true
  pub stage : stage_of start ≡ Some entered
  pub here : stage_of now ≡ Some entered
  pub table : table_of start ≡ table_of past
  pub bystanders : list_any (λ child. not (stands_by (table_of past) entered child)) (kept_children start) ≡ false
  pub few : count_wanted_waits start ≤ length (filter (is_ahead (are_calls_pending past) entered) (table_of past))
  pub unstarted : in_run (Some entered) ≡ true → are_calls_pending now ≡ true → list_any is_any_start after ≡ false
  pub early : in_run (stage_of past) ≡ false
  pub ahead : length (filter (is_ahead (are_calls_pending past) entered) (table_of past)) + waits_ahead
      (are_calls_pending past)
      (table_of past) (stages_ahead (goal_of goal past).level (Some entered))
      ≤ waits_ahead (are_calls_pending past) (table_of past) (stages_ahead (goal_of goal past).level (stage_of past))

abbrev Path : Goal → List Event → List Event → Type 0
Path goal between past = ((is_calm between ≡ true) × (stage_of (between ++ past) ≡ stage_of past))
    ⊎ Entered goal past (between ++ past)

pub record Course (goal : Goal) (between past : List Event) : Type 0 where
  pub staged : is_some (stage_of (between ++ past)) ≡ true
  pub unwished : is_some (level_wish (between ++ past)) ≡ false
  pub news : are_calls_pending (between ++ past) ≡ true → are_calls_pending past ≡ true
  pub table : table_of (between ++ past) ≡ table_of past
  pub aim : goal_of goal (between ++ past) ≡ goal_of goal past
  pub bound_for : destination (goal_of goal past).level (stage_of (between ++ past))
      ≡ destination (goal_of goal past).level (stage_of past)
  pub ahead : waits_ahead (are_calls_pending past) (table_of past)
      (stages_ahead (goal_of goal past).level (stage_of (between ++ past)))
      ≤ waits_ahead (are_calls_pending past) (table_of past) (stages_ahead (goal_of goal past).level (stage_of past))
  pub path : ((is_calm between ≡ true) × (stage_of (between ++ past) ≡ stage_of past))
      ⊎ Entered goal past (between ++ past)

-- a happening that enters no stage and calls nothing
longer : (goal : Goal) (happening : Event) (between past : List Event)
    → (is_calm between ≡ true → is_calm (happening ∷ between) ≡ true) → ((after : List Event) → is_calm after ≡ true
    → is_calm (happening ∷ after) ≡ true) → stage_of (happening ∷ (between ++ past)) ≡ stage_of (between ++ past)
    → ((s : Stage) (after : List Event) → stage_of (between ++ past) ≡ Some s → in_run (Some s) ≡ true
    → are_calls_pending
    (happening ∷ (between ++ past)) ≡ true
    → (are_calls_pending (between ++ past) ≡ true → list_any is_any_start after ≡ false)
    → list_any is_any_start (happening ∷ after) ≡ false) → Path goal between past → Path goal (happening ∷ between) past
longer goal happening between past calm others stays starts (inl h) = inl (calm h.0, stays ∙ h.1)
longer goal happening between past calm others stays starts (inr it) = inr (record {
  after = happening ∷ it.after;
  start = it.start;
  entered = it.entered;
  is = ap (λ x. happening ∷ x) it.is;
  calm = others it.after it.calm;
  quiet = it.quiet;
  stage = it.stage;
  here = stays ∙ it.here;
  table = it.table;
  bystanders = it.bystanders;
  few = it.few;
  unstarted = λ running news. starts it.entered it.after it.here running news (it.unstarted running);
  early = it.early;
  ahead = it.ahead;
})

stays_on : (e : Entry) (born : Option Act) (o : Option Stage) (s : Stage) → is_climb o s ≡ true → may_live
    (Some e) born o ≡ true → waited_of e ≡ false → (may_live (Some e) born (Some s) ≡ true) × (starts_of e s ≡ false)
stays_on e born o s climbs lives other = grind arith

abbrev is_done : List Event → Entry → Bool
is_done past e = not (is_wanted e past) && not (waited_of e && has_child e.id (kept_children past))

pub bystanders_at : (moment : List Event) (s : Stage) → is_over moment ≡ true → is_climb (stage_of moment) s ≡ true
    → list_any (λ child. not (stands_by (table_of moment) s child)) (kept_children moment) ≡ false
bystanders_at moment s over climbs =
    false_from_ne_true (list_any (λ child. not (stands_by (table_of moment) s child)) (kept_children moment))
    (λ some. wrong (passing (λ child. not (stands_by (table_of moment) s child)) (kept_children moment) some)) where
      two : ((not (is_request_pending moment) && is_quiet moment && none_excluded moment) ≡ true)
          × (list_all (is_done moment) (table_of moment) ≡ true)
      two = and_parts (not (is_request_pending moment) && is_quiet moment && none_excluded moment)
          (list_all (is_done moment) (table_of moment)) over

      spared : list_any (is_excluded moment) (kept_children moment) ≡ false
      spared = not-true (list_any (is_excluded moment) (kept_children moment))
          (and_parts (not (is_request_pending moment) && is_quiet moment) (none_excluded moment) two.0).1

      wrong : Passing (λ child. not (stands_by (table_of moment) s child)) (kept_children moment) → ⊥
      wrong there = by (entry_of child.id (table_of moment)) refl where
        child : Child
        child = there.item

        lives : may_live (entry_of child.id (table_of moment)) child.act (stage_of moment) ≡ true
        lives = true_from_ne_false (may_live (entry_of child.id (table_of moment)) child.act (stage_of moment))
            (λ bad. both_ways (list_any (is_excluded moment) (kept_children moment))
            (there.within (is_excluded moment) (ap not bad)) spared)

        by : (o : Option Entry) → entry_of child.id (table_of moment) ≡ o → ⊥
        by None is = false≢true (ap (λ x. may_live x child.act (stage_of moment)) (sym is) ∙ lives)
        by (Some e) is = both_ways (stands_by (table_of moment) s child) (ap (λ o. option_map_or
            (λ (x : Entry). may_live (Some x) child.act (Some s) && (not (waited_of x) && not (starts_of x s))) o false)
            is
            ∙ and_from (may_live (Some e) child.act (Some s)) (not (waited_of e) && not (starts_of e s)) stay.0
            (and_from
            (not (waited_of e)) (not (starts_of e s)) (not_from (waited_of e) other) (not_from (starts_of e s) stay.1)))
            (not-true (stands_by (table_of moment) s child) there.passes) where
              own : has_child e.id (kept_children moment) ≡ true
              own = there.within (is_child_of e.id)
                  (ap (λ i. is_child_of i child) (sym (found_id child.id (table_of moment) e is))
                  ∙ same_id-self child.id)

              other : waited_of e ≡ false
              other =
                  false_from_ne_true (waited_of e) (λ waited. both_ways (waited_of e && has_child e.id (kept_children
                  moment)) (and_from (waited_of e) (has_child e.id (kept_children moment)) waited own)
                  (not-true (waited_of e
                  && has_child e.id (kept_children moment))
                  (and_parts (not (is_wanted e moment)) (not (waited_of e && has_child
                  e.id (kept_children moment))) (all_found (is_done moment) child.id (table_of moment) e two.1 is)).1))

              stay : (may_live (Some e) child.act (Some s) ≡ true) × (starts_of e s ≡ false)
              stay = stays_on e child.act (stage_of moment) s climbs
                  (ap (λ x. may_live x child.act (stage_of moment)) (sym is) ∙ lives) other

-- while none is started, they are the only kept children
bystanders_on : (goal : Goal) (table : List Entry) (s : Stage) (after start : List Event)
    → is_sound goal (after ++ start) ≡ true → is_calm after ≡ true → is_quiet start ≡ true → list_any is_any_start after
    ≡ false → list_any (λ child. not (stands_by table s child)) (kept_children start) ≡ false
    → list_any (λ child. not (stands_by table s child)) (kept_children (after ++ start)) ≡ false
bystanders_on goal table s after start sound calm quiet unstarted none = false_from_ne_true (list_any fails
    (kept_children (after ++ start))) (λ some. wrong (passing fails (kept_children (after ++ start)) some)) where
      fails : Child → Bool
      fails child = not (stands_by table s child)

      any_start : (id : List ℕ) (happening : Event) → is_start_of id happening ≡ true → is_any_start happening ≡ true
      any_start id (Asked i Start) own = refl
      any_start id _ own = absurd (false≢true own)

      wrong : Passing fails (kept_children (after ++ start)) → ⊥
      wrong there =
          both_ways (list_any fails (kept_children start)) (any_less (λ x. is_child_of there.item.id x && fails x) fails
          (λ x both. (and_parts (is_child_of there.item.id x) (fails x) both).1) (kept_children start)
          (kept_back goal there.item.id fails after start sound calm (quiet_start there.item.id start quiet) (falsely
          (list_any (is_start_of there.item.id) after) (list_any is_any_start after)
          (any_less (is_start_of there.item.id)
          is_any_start (any_start there.item.id) after) unstarted)
          (there.within (λ x. is_child_of there.item.id x && fails x)
          (and_from (is_child_of there.item.id there.item) (fails there.item)
          (same_id-self there.item.id) there.passes))))
          none

-- and init waits for none of them
not_awaited : (start : List Event) (s : Stage) → stage_of start ≡ Some s → (child : Child)
    → stands_by (table_of start) s child ≡ true → is_awaited start child ≡ false
not_awaited start s here child h = grind arith

-- the entries to come when a stage is entered, and when entries were called in it
fresh_wanted : (a : Act) (idle news : Bool) → waited_by a ≡ true → wanted_by a idle true false ≡ true
    → wanted_by a true true news ≡ true
fresh_wanted a idle news waited h = grind arith

called_wanted : (a : Act) (idle fresh called : Bool) → waited_by a ≡ true → wanted_by a idle fresh called ≡ true
    → wanted_by a true true true ≡ true
called_wanted a idle fresh called waited h = grind arith

first_to_come : (news : Bool) (moment : List Event) (s : Stage) (grace : ℕ)
    → count_wanted_waits (Enter s grace ∷ moment) ≤ length (filter (is_ahead news s) (table_of moment))
first_to_come news moment s grace = grind (arith, fewer, fresh_wanted)

called_to_come : (start : List Event) (s : Stage) → stage_of start ≡ Some s
    → count_wanted_waits start ≤ length (filter (is_ahead true s) (table_of start))
called_to_come start s here = grind (arith, fewer, called_wanted)

-- the course of a stretch that continues with entering a stage
entering : (goal : Goal) (s : Stage) (grace : ℕ) (between past : List Event) → is_due goal (step.Enter s grace)
    (between ++ past) ≡ true → Course goal between past → Course goal (Enter s grace ∷ between) past
entering goal s grace between past may it = by (enter_by goal (between ++ past) s grace may) where
  now : List Event
  now = between ++ past

  level : Level
  level = (goal_of goal past).level

  early : in_run (stage_of (between ++ past)) ≡ false → ((is_calm between ≡ true) × (stage_of (between ++ past)
      ≡ stage_of past)) ⊎ Entered goal past (between ++ past) → in_run (stage_of past) ≡ false
  early h (inl path) = ap in_run (sym path.1) ∙ h
  early h (inr path) = path.early

  climbed : is_over now ≡ true → Climb (goal_of goal past).level (stage_of now) s
      → Course goal (Enter s grace ∷ between) past
  climbed over c = record {
    staged = refl;
    unwished = none_wished (Some s);
    news = it.news;
    table = it.table;
    aim = it.aim;
    bound_for = c.bound_for ∙ it.bound_for;
    ahead = more (length (filter (is_ahead (are_calls_pending past) s) (table_of past)))
        (waits_ahead (are_calls_pending past) (table_of past) (stages_ahead level (Some s)))
        (waits_ahead (are_calls_pending past)
        (table_of past) (stages_ahead level (stage_of now))) (waits_ahead (are_calls_pending past) (table_of past)
        (stages_ahead level (stage_of past)))
        (ap (waits_ahead (are_calls_pending past) (table_of past)) c.comes) it.ahead;
    path = inr (record {
      after = [];
      start = Enter s grace ∷ now;
      entered = s;
      is = refl;
      calm = refl;
      quiet = (and_parts (not (is_request_pending now)) (is_quiet now)
          (and_parts (not (is_request_pending now) && is_quiet now) (none_excluded now)
          (and_parts (not (is_request_pending now)
          && is_quiet now && none_excluded now) (list_all (is_done now) (table_of now)) over).0).0).1;
      stage = refl;
      here = refl;
      table = it.table;
      bystanders = subst (λ es. list_any (λ child. not (stands_by es s child)) (kept_children now) ≡ false) it.table
          (bystanders_at now s over c.climbs);
      few =
          subst
          (λ es. count_wanted_waits (Enter s grace ∷ now) ≤ length (filter (is_ahead (are_calls_pending past) s) es))
          it.table
          (first_to_come (are_calls_pending past) now s grace);
      unstarted = λ running news. refl;
      early = early c.early it.path;
      ahead = whole_way (length (filter (is_ahead (are_calls_pending past) s) (table_of past)))
          (waits_ahead (are_calls_pending past) (table_of past) (stages_ahead level (Some s)))
          (waits_ahead (are_calls_pending past)
          (table_of past) (stages_ahead level (stage_of now))) (waits_ahead (are_calls_pending past) (table_of past)
          (stages_ahead level (stage_of past)))
          (ap (waits_ahead (are_calls_pending past) (table_of past)) c.comes) it.ahead;
    });
  } where
    more : (w a b t : ℕ) → b ≡ w + a → b ≤ t → a ≤ t
    more w a b t is less = omega arith

    whole_way : (w a b t : ℕ) → b ≡ w + a → b ≤ t → w + a ≤ t
    whole_way w a b t is less = omega arith

    none_wished : (o : Option Stage) → is_some (other_than o None) ≡ false
    none_wished None = refl
    none_wished (Some stage.Sysinit) = refl
    none_wished (Some stage.Boot) = refl
    none_wished (Some (stage.Run l)) = refl

  by : EnterBy goal now s grace → Course goal (Enter s grace ∷ between) past
  by (inl (inl dawn)) = both_ways (is_some (stage_of now)) it.staged (ap is_some dawn)
  by (inl (inr wish)) = both_ways (is_some (level_wish now)) wish it.unwished
  by (inr h) = climbed h.0
      (subst (λ aim. Climb aim.level (stage_of now) s) it.aim (climb (goal_of goal now) (stage_of now) s grace h.1))

-- the course of a stretch that continues with a call of entries
calling : (goal : Goal) (happening : Event) (between past : List Event) → is_sound goal (between ++ past) ≡ true
    → (in_run (stage_of past) ≡ true → are_calls_pending past ≡ false) → News (between ++ past)
    → is_quiet (between ++ past) ≡ true → is_quiet (happening ∷ (between ++ past)) ≡ is_quiet (between ++ past)
    → stage_of (happening ∷ (between ++ past)) ≡ stage_of (between ++ past) → table_of (happening ∷ (between ++ past))
    ≡ table_of (between ++ past) → kept_children (happening ∷ (between ++ past)) ≡ kept_children (between ++ past)
    → Course goal between past → Entered goal past (happening ∷ (between ++ past))
calling goal happening between past sound heard news quiet quiets stays tables kepts it = by it.path where
  now : List Event
  now = between ++ past

  kept_news : are_calls_pending past ≡ true
  kept_news = it.news news.1

  by : ((is_calm between ≡ true) × (stage_of (between ++ past) ≡ stage_of past)) ⊎ Entered goal past (between ++ past)
      → Entered goal past (happening ∷ (between ++ past))
  by (inl path) = both_ways (are_calls_pending past) kept_news (heard (ap in_run (sym path.1) ∙ news.0))
  by (inr e) = record {
    after = [];
    start = happening ∷ now;
    entered = e.entered;
    is = refl;
    calm = refl;
    quiet = quiets ∙ quiet;
    stage = stays ∙ e.here;
    here = stays ∙ e.here;
    table = tables ∙ it.table;
    bystanders = ap (list_any (λ child. not (stands_by (table_of past) e.entered child))) kepts
        ∙ ap (λ x. list_any (λ child. not (stands_by (table_of past) e.entered child)) (kept_children x)) e.is
        ∙ bystanders_on goal (table_of past) e.entered e.after e.start (subst (λ x. is_sound goal x ≡ true) e.is sound)
        e.calm e.quiet (e.unstarted (ap in_run (sym e.here) ∙ news.0) news.1) e.bystanders;
    few = subst (λ b. count_wanted_waits (happening ∷ now) ≤ length (filter (is_ahead b e.entered) (table_of past)))
        (sym kept_news)
        (subst (λ es. count_wanted_waits (happening ∷ now) ≤ length (filter (is_ahead true e.entered) es))
        (tables ∙ it.table) (called_to_come (happening ∷ now) e.entered (stays ∙ e.here)));
    unstarted = λ running still. refl;
    early = e.early;
    ahead = e.ahead;
  }

pub course : (goal : Goal) (between past : List Event) → is_sound goal (between ++ past) ≡ true
    → has_no_request between ≡ true → is_some (stage_of past) ≡ true → is_some (level_wish past) ≡ false
    → (in_run (stage_of past) ≡ true → are_calls_pending past ≡ false) → Course goal between past
course goal [] past sound unasked staged unwished heard = record {
  staged = staged;
  unwished = unwished;
  news = λ news. news;
  table = refl;
  aim = refl;
  bound_for = refl;
  ahead = omega arith;
  path = inl (refl, refl);
}
course goal (NewTable table ∷ between) past sound unasked staged unwished heard = absurd (false≢true unasked)
course goal (Got (got.Level level grace) ∷ between) past sound unasked staged unwished heard =
    absurd (false≢true unasked)
course goal (Got (got.Call letter) ∷ between) past sound unasked staged unwished heard = absurd (false≢true unasked)
course goal (Got got.Reload ∷ between) past sound unasked staged unwished heard = absurd (false≢true unasked)
course goal (Got got.Reexec ∷ between) past sound unasked staged unwished heard = absurd (false≢true unasked)
course goal (Got (got.Power kind) ∷ between) past sound unasked staged unwished heard = absurd (false≢true unasked)
course goal (Enter s grace ∷ between) past sound unasked staged unwished heard =
    let two = sound_step goal (Enter s grace) (between ++ past) refl sound in
    entering goal s grace between past two.0 (course goal between past two.1 unasked staged unwished heard)
course goal (Power kind ∷ between) past sound unasked staged unwished heard =
    let two = sound_step goal (Power kind) (between ++ past) refl sound in
    let it = course goal between past two.1 unasked staged unwished heard in
    let news = pending_calls goal (between ++ past) (step.Power kind)
    (record { orders = λ id ask. refl; holds = λ id. refl; settles = λ level. refl; reexecs = refl; rereads = refl })
    (λ s grace. refl) two.0 in
    record {
      staged = it.staged;
      unwished = it.unwished;
      news = λ _. it.news news.1;
      table = it.table;
      aim = it.aim;
      bound_for = it.bound_for;
      ahead = it.ahead;
      path = inr (calling goal (Power kind) between past two.1 heard news
          (due_facts goal (between ++ past) (step.Power kind) two.0) refl refl refl refl it);
    }
course goal (Call letter ∷ between) past sound unasked staged unwished heard =
    let two = sound_step goal (Call letter) (between ++ past) refl sound in
    let it = course goal between past two.1 unasked staged unwished heard in
    let news = pending_calls goal (between ++ past) (step.Call letter)
    (record { orders = λ id ask. refl; holds = λ id. refl; settles = λ level. refl; reexecs = refl; rereads = refl })
    (λ s grace. refl) two.0 in
    record {
      staged = it.staged;
      unwished = it.unwished;
      news = λ _. it.news news.1;
      table = it.table;
      aim = it.aim;
      bound_for = it.bound_for;
      ahead = it.ahead;
      path = inr (calling goal (Call letter) between past two.1 heard news
          (due_facts goal (between ++ past) (step.Call letter) two.0) refl refl refl refl it);
    }
course goal (Asked i Start ∷ between) past sound unasked staged unwished heard =
    let two = sound_step goal (Asked i Start) (between ++ past) refl sound in
    let it = course goal between past two.1 unasked staged unwished heard in
    record {
      staged = it.staged;
      unwished = it.unwished;
      news = it.news;
      table = it.table;
      aim = it.aim;
      bound_for = it.bound_for;
      ahead = it.ahead;
      path = longer goal (Asked i Start) between past (λ calm. calm) (λ after calm. calm) refl (λ s after here running
          news before. both_ways (is_request_pending (between ++ past)) (or_right (wants_reexec (between ++ past)
          || wants_reread (between ++ past)
          || is_some (level_wish (between ++ past))) (in_run (stage_of (between ++ past))
          && are_calls_pending (between ++ past))
          (and_from (in_run (stage_of (between ++ past))) (are_calls_pending (between ++ past))
          (ap in_run here ∙ running) news)) (start_unwished goal (between ++ past) i two.0)) it.path;
    }
course goal (happening ∷ between) past sound unasked staged unwished heard =
    let two = sound_step goal happening (between ++ past) refl sound in
    let it = course goal between past two.1 unasked staged unwished heard in
    record {
      staged = it.staged;
      unwished = it.unwished;
      news = it.news;
      table = it.table;
      aim = it.aim;
      bound_for = it.bound_for;
      ahead = it.ahead;
      path = longer goal happening between past (λ calm. calm) (λ after calm. calm) refl
          (λ s after here running news before. before news) it.path;
    }

-- init waits for no child when the stage was entered
pub none_awaited : (goal : Goal) (past now : List Event) (it : Entered goal past now)
    → list_any (is_awaited it.start) (kept_children it.start) ≡ false
none_awaited goal past now it = falsely (list_any (is_awaited it.start) (kept_children it.start))
    (list_any (λ child. not (stands_by (table_of past) it.entered child)) (kept_children it.start))
    (any_less (is_awaited it.start) (λ child. not (stands_by (table_of past) it.entered child)) (λ child own. not_from
    (stands_by (table_of past) it.entered child) (false_from_ne_true (stands_by (table_of past) it.entered child)
    (λ by. both_ways (is_awaited it.start child) own (not_awaited it.start it.entered it.stage child
    (ap (λ es. stands_by es it.entered child) it.table ∙ by))))) (kept_children it.start)) it.bystanders

-- so after it a waited entry was started, or the level is announced settled
abbrev pub Lower : Goal → List Event → List Event → Type 0
Lower goal past now = (waits_ahead (are_calls_pending past) (table_of past) (stages_ahead (goal_of goal past).level
    (stage_of now)) + count_wanted_waits now < waits_ahead (are_calls_pending past) (table_of past)
    (stages_ahead (goal_of goal past).level (stage_of past))) × (list_any (is_excluded now) (kept_children now) ≡ false)

pub climbed_lower : (goal : Goal) (past now : List Event) → Entered goal past now → is_sound goal now ≡ true
    → AtRest goal now → is_idle now ≡ true → is_level_announced now ≡ false → Lower goal past now
climbed_lower goal past now it sound rest idle untold = subst (λ x. Lower goal past x) (sym it.is)
    (lower (subst (λ x. is_sound goal x ≡ true) it.is sound) (subst (λ x. AtRest goal x) it.is rest)
    (subst (λ x. is_idle x ≡ true) it.is idle) (subst (λ x. is_level_announced x ≡ false) it.is untold)) where
      start : List Event
      start = it.start

      level : Level
      level = (goal_of goal past).level

      none : list_any (is_awaited it.start) (kept_children it.start) ≡ false
      none = none_awaited goal past now it

      gone : list_all (is_gone it.after start) (awaited_children start) ≡ true
      gone = ap (list_all (is_gone it.after start)) (filter_none (is_awaited start) (kept_children start) none)

      lower : is_sound goal (it.after ++ start) ≡ true → AtRest goal (it.after ++ start) → is_idle (it.after ++ start)
          ≡ true → is_level_announced (it.after ++ start) ≡ false → Lower goal past (it.after ++ start)
      lower sound rest idle untold = (
        add (waits_ahead (are_calls_pending past) (table_of past) (stages_ahead level (stage_of (it.after ++ start))))
            (waits_ahead (are_calls_pending past) (table_of past) (stages_ahead level (Some it.entered)))
            (length (filter (is_ahead (are_calls_pending past) it.entered) (table_of past)))
            (waits_ahead (are_calls_pending past)
            (table_of past) (stages_ahead level (stage_of past))) (count_wanted_waits (it.after ++ start))
            (count_wanted_waits start)
            (ap (λ o. waits_ahead (are_calls_pending past) (table_of past) (stages_ahead level o))
            (stage_stays it.after start it.calm ∙ it.stage)) it.ahead fewer_now it.few,
        spared,
      ) where
        begun : list_any (is_waited_start start) it.after ≡ true
        begun = progress goal it.after start sound it.calm it.quiet rest idle gone untold

        fewer_now : count_wanted_waits (it.after ++ start) < count_wanted_waits start
        fewer_now = fewer_to_come goal it.after start sound it.calm begun

        spared : list_any (is_excluded (it.after ++ start)) (kept_children (it.after ++ start)) ≡ false
        spared = false_from_ne_true (list_any (is_excluded (it.after ++ start)) (kept_children (it.after ++ start)))
            (λ some. wrong (passing (is_excluded (it.after ++ start)) (kept_children (it.after ++ start)) some)) where
              back : (id : List ℕ)
                  → list_any (λ x. is_child_of id x && is_excluded (it.after ++ start) x) (kept_children start) ≡ true
                  → ⊥
              back id there = both_ways (list_any (is_awaited start) (kept_children start))
                  (any_less (λ x. is_child_of id x && is_excluded (it.after ++ start) x) (is_awaited start)
                  (λ x h. awaits x (sym (excluded_still it.after start it.calm x)
                  ∙ (and_parts (is_child_of id x) (is_excluded (it.after ++ start) x) h).1))
                  (kept_children start) there) none
                where
                  awaits : (x : Child) → is_excluded start x ≡ true → is_awaited start x ≡ true
                  awaits x own =
                      ap (λ b. is_some (cond b (Some Excluded) (why_of_entry (entry_of x.id (table_of start)) start)))
                      own

              wrong : Passing (is_excluded (it.after ++ start)) (kept_children (it.after ++ start)) → ⊥
              wrong there = at (list_any (is_start_of there.item.id) it.after) refl where
                at : (b : Bool) → list_any (is_start_of there.item.id) it.after ≡ b → ⊥
                at true some =
                    both_ways (list_any (is_excluded (it.after ++ start)) (kept_children (it.after ++ start)))
                    (there.within (is_excluded (it.after ++ start)) there.passes)
                    (quit_at goal there.item.id it.after start sound it.calm some).spared
                at false unstarted =
                    back there.item.id (kept_back goal there.item.id (is_excluded (it.after ++ start)) it.after
                    start sound it.calm (quiet_start there.item.id start it.quiet) unstarted (there.within
                    (λ x. is_child_of there.item.id x && is_excluded (it.after ++ start) x)
                    (and_from (is_child_of there.item.id there.item)
                    (is_excluded (it.after ++ start) there.item) (same_id-self there.item.id) there.passes)))

        add : (a b w p t u : ℕ) → a ≡ b → w + b ≤ p → t < u → u ≤ w → a + t < p
        add a b w p t u is less fewer_now few = omega arith
