-- The law of plans: the steps so far, the starts still to come in the stage, and the stages after it together are the
-- plan.
use Rattle.trace_laws.proofs.Words.{◌≡◌, refl, sym, ◌∙◌, ap, subst, ℕ, Bool, true, false, not, ◌&&◌, ◌||◌, List, []}
use Rattle.trace_laws.proofs.Words.{◌∷◌, ◌++◌, map, filter, Option, Some, None, append_assoc, arith, list_any, list_all}
use Rattle.trace_laws.proofs.Words.{false≢true, and_parts, not-true, or_from, append-nil, Entry, Act, Level, Mark, At}
use Rattle.trace_laws.proofs.Words.{Start, Stage, starts_by, wanted_by, served_by, waited_of, same_level-is, falsely}
use Rattle.trace_laws.proofs.Words.{NewTable, Asked, Step, Goal, Event, table_of, stage_of, is_child_of, has_child}
use Rattle.trace_laws.proofs.Words.{is_quiet}
use Rattle.trace_laws.proofs.Words.{kept_children, known_children, is_asked, is_wanted, is_owed, is_owed_before}
use Rattle.trace_laws.proofs.Words.{is_excluded, is_held, is_level, is_request_pending, none_excluded, steps_if}
use Rattle.trace_laws.proofs.Words.{starts_among}
use Rattle.trace_laws.proofs.Words.{due_starts, is_over, due, first, is_announced, is_served, keeps_order, is_orderly}
use Rattle.trace_laws.proofs.Words.{may_come, is_started, started_in, start_of, boot_before, steps_along, plan_of}
use Rattle.trace_laws.proofs.Words.{BeginsWith, is_undisturbed, taken}
use Rattle.init_words.specs.Levels.{names}
use Rattle.init_words.specs.declared.stages.Stage.TheVariants as stage
use Rattle.trace_events.specs.declared.happenings.Happening.TheVariants.{Enter, Settle}
use Rattle.trace_events.specs.declared.steps.Step.TheVariants as step
use Rattle.trace_laws.proofs.Orders.{known_kept}
use Rattle.trace_laws.proofs.Dues.{MayStart, MaySettle, due_facts}
use Rattle.trace_laws.proofs.Plain.{Plain, Comes, plain_ind, plain_distinct}
use Rattle.trace_laws.proofs.Firsts.{Entered, entered, started, same_goal}
use Rattle.trace_laws.proofs.Children.{IsFound}
use Rattle.trace_laws.proofs.Starts.{is_coming, started_now, coming_wanted, coming_childless, never_held, AreFound}
use Rattle.trace_laws.proofs.Starts.{found_all, first_coming}

-- the steps of the stages after the given one
abbrev after : Goal → List Entry → Stage → List Step
after goal table stage.Sysinit = steps_along goal.grace table (boot_before goal.level ++ stage.Run goal.level ∷ [])
after goal table stage.Boot = steps_along goal.grace table (stage.Run goal.level ∷ [])
after goal table (stage.Run level) = []

-- the rest of the plan: the starts still to come, and the stages after this one
abbrev left_in : Goal → List Entry → List Step → Option Stage → List Step
left_in goal table coming None = plan_of goal table
left_in goal table coming (Some now) = coming ++ after goal table now

abbrev left_of : Goal → List Event → List Step
left_of goal past =
    left_in goal (table_of past) (map start_of (filter (is_coming past) (table_of past))) (stage_of past)

-- no starts are to come in a stage that is over
none_coming : (goal : Goal) (past : List Event) → Plain goal past → (p : Entry → Bool)
    → ((e : Entry) → IsFound e past → p e ≡ true → is_coming past e ≡ false) → (es : List Entry)
    → AreFound (table_of past) es → list_all p es ≡ true → filter (is_coming past) es ≡ []
none_coming goal past plain p gone [] found all = refl
none_coming goal past plain p gone (e ∷ es) found all = grind (arith, none_coming goal past plain p gone es)

over_coming : (goal : Goal) (past : List Event) → Plain goal past → is_over past ≡ true
    → filter (is_coming past) (table_of past) ≡ []
over_coming goal past plain over = none_coming goal past plain
    (λ e. not (is_wanted e past) && not (waited_of e && has_child e.id (kept_children past))) gone (table_of past)
    (found_all (table_of past) (plain_distinct goal past plain)) each where
      each : list_all (λ e. not (is_wanted e past) && not (waited_of e && has_child e.id (kept_children past)))
          (table_of past) ≡ true
      each = (and_parts (not (is_request_pending past) && is_quiet past && none_excluded past) (list_all
          (λ e. not (is_wanted e past) && not (waited_of e && has_child e.id (kept_children past)))
          (table_of past)) over).1

      gone : (e : Entry) → IsFound e past → (not (is_wanted e past)
          && not (waited_of e && has_child e.id (kept_children past))) ≡ true → is_coming past e ≡ false
      gone e found h = sym (coming_wanted goal past plain e found) ∙ not-true (is_wanted e past)
          (and_parts (not (is_wanted e past)) (not (waited_of e && has_child e.id (kept_children past))) h).0

-- the steps from entering a stage to the end of the plan
abbrev entering : Goal → List Entry → Stage → ℕ → List Step
entering goal table now grace = step.Enter now grace ∷ (map start_of (started_in table now) ++ after goal table now)

plan_opens : (goal : Goal) (table : List Entry) (now : Stage) (grace : ℕ) → now ≡ stage.Sysinit → grace ≡ goal.grace
    → plan_of goal table ≡ entering goal table now grace
plan_opens goal table now grace first is = rw (first, is) refl

-- entering a stage leaves its starts and the stages after it
enter_left : (goal : Goal) (past : List Event) (now : Stage) (grace : ℕ) → Comes goal (Enter now grace) past
    → left_of goal past ≡ step.Enter now grace ∷ left_of goal (Enter now grace ∷ past)
enter_left goal past now grace comes = by_facts (entered goal now grace past comes) where
  plain : Plain goal past
  plain = comes.before

  by_facts : Entered goal past now grace → left_of goal past ≡ entering goal (table_of past) now grace
  by_facts v0 = grind (arith, is_coming, plan_opens, same_goal, over_coming)

-- the first due start is the first start still to come
starts_first : (past : List Event) (id : List ℕ) → first (due_starts past) ≡ step.Order id Start
    → first (starts_among (table_of past) past) ≡ step.Order id Start
starts_first past id is = split (not (is_request_pending past) && none_excluded past) is where
  split : (b : Bool) → first (steps_if b (starts_among (table_of past) past)) ≡ step.Order id Start
      → first (starts_among (table_of past) past) ≡ step.Order id Start
  split b is = grind arith

start_left : (goal : Goal) (past : List Event) (id : List ℕ) → Comes goal (Asked id Start) past
    → left_of goal past ≡ step.Order id Start ∷ left_of goal (Asked id Start ∷ past)
start_left goal past id comes = in_stage (stage_of past) refl where
  coming : map start_of (filter (is_coming past) (table_of past))
      ≡ step.Order id Start ∷ map start_of (filter (is_coming (Asked id Start ∷ past)) (table_of past))
  coming = first_coming goal past comes.before id (table_of past) (found_all (table_of past) (plain_distinct goal past
      comes.before)) (plain_distinct goal past comes.before) (starts_first past id (started goal id past comes))

  -- before the first stage no start is to come
  none : (es : List Entry) → stage_of past ≡ None → filter (is_coming past) es ≡ []
  none [] is = refl
  none (e ∷ es) is = grind (arith, none es)

  in_stage : (o : Option Stage) → stage_of past ≡ o
      → left_in goal (table_of past) (map start_of (filter (is_coming past) (table_of past))) o ≡ step.Order id Start
      ∷ left_in goal (table_of past) (map start_of (filter (is_coming (Asked id Start ∷ past)) (table_of past))) o
  in_stage None is = grind arith
  in_stage (Some now) is = ap (λ xs. xs ++ after goal (table_of past) now) coming

-- the steps so far, followed by the rest of the plan, are the plan
abbrev Follows : Goal → List Event → Type 0
Follows goal past = taken past ++ left_of goal past ≡ plan_of goal (table_of past)

follows : (goal : Goal) (past : List Event) → is_orderly goal past ≡ true → is_undisturbed past ≡ true
    → Follows goal past
follows goal past runs mild = plain_ind goal (Follows goal) (λ table distinct. refl) goes past runs mild where
  one_more : (steps rest before all : List Step) (taken_now : Step) → before ≡ taken_now ∷ rest → steps ++ before ≡ all
      → (steps ++ taken_now ∷ []) ++ rest ≡ all
  one_more steps rest before all taken_now is so =
      append_assoc steps (taken_now ∷ []) rest ∙ ap (λ xs. steps ++ xs) (sym is) ∙ so

  goes : (happening : Event) (p : List Event) → Comes goal happening p → Follows goal p → Follows goal (happening ∷ p)
  goes (NewTable table) p comes before = absurd (false≢true comes.mild)
  goes (Enter now grace) p comes before = one_more (taken p) (left_of goal (Enter now grace ∷ p)) (left_of goal p)
      (plan_of goal (table_of p)) (step.Enter now grace) (enter_left goal p now grace comes) before
  goes (Asked id Start) p comes before = one_more (taken p) (left_of goal (Asked id Start ∷ p)) (left_of goal p)
      (plan_of goal (table_of p)) (step.Order id Start) (start_left goal p id comes) before
  goes (_) p comes before = before

pub begins : (goal : Goal) (past : List Event) → is_orderly goal past ≡ true → is_undisturbed past ≡ true
    → BeginsWith (taken past) (plan_of goal (table_of past))
begins goal past runs mild = (left_of goal past, follows goal past runs mild)

-- once a level is settled, nothing of the plan is left
served_asked : (action : Act) (levels : List Mark) (level : Level) (asked up : Bool)
    → (starts_by action levels (stage.Run level) && wanted_by action true true false) ≡ true
    → (not (names (At level) levels) || served_by action asked up) ≡ true → asked ≡ false → up ≡ false → ⊥
served_asked action levels level asked up starts served unasked down = grind arith

settle_left : (goal : Goal) (past : List Event) (level : Level) → Comes goal (Settle level) past
    → left_of goal past ≡ []
settle_left goal past level comes = in_stage (stage_of past) refl there.0 where
  plain : Plain goal past
  plain = comes.before

  may : MaySettle level past
  may = due_facts goal past (step.Settle level) comes.may

  all : ((is_level level (stage_of past) && not (list_any (is_excluded past) (known_children past))) ≡ true)
      × (list_all (is_served level (known_children past) past) (table_of past) ≡ true)
  all = and_parts (is_level level (stage_of past) && not (list_any (is_excluded past) (known_children past)))
      (list_all (is_served level (known_children past) past) (table_of past)) may.settled

  there : (is_level level (stage_of past) ≡ true) × (not (list_any (is_excluded past) (known_children past)) ≡ true)
  there = and_parts (is_level level (stage_of past)) (not (list_any (is_excluded past) (known_children past))) all.0

  -- an entry that is served is not to be started
  gone : (l : Level) → stage_of past ≡ Some (stage.Run l) → level ≡ l → (e : Entry) → IsFound e past
      → is_served level (known_children past) past e ≡ true → is_coming past e ≡ false
  gone l is same e found served = split (is_coming past e) refl where
    split : (b : Bool) → is_coming past e ≡ b → is_coming past e ≡ false
    split false h = h
    split true h =
        let parts = and_parts (not (is_asked e.id past)) (started_now e (stage_of past)) h in
        let starts : is_started (stage.Run level) e ≡ true =
        subst (λ k. is_started (stage.Run k) e ≡ true) (sym same) (ap (started_now e) (sym is) ∙ parts.1) in
        let childless : has_child e.id (known_children past) ≡ false =
        falsely (has_child e.id (known_children past)) (has_child e.id (kept_children past))
        (known_kept (is_child_of e.id) past) (coming_childless goal past plain e found h) in
        absurd (served_asked e.act e.levels.items level (is_asked e.id past)
        (has_child e.id (known_children past) || is_held e.id past) starts
        (and_parts (not (is_owed e past)) (not (names (At level) e.levels.items)
        || served_by e.act (is_asked e.id past) (has_child e.id (known_children past) || is_held e.id past)) served).1
        (not-true (is_asked e.id past) parts.0)
        (or_from (has_child e.id (known_children past)) (is_held e.id past) childless
        (never_held goal past plain e.id)))

  in_stage : (o : Option Stage) → stage_of past ≡ o → is_level level o ≡ true
      → left_in goal (table_of past) (map start_of (filter (is_coming past) (table_of past))) o ≡ []
  in_stage None is h = absurd (false≢true h)
  in_stage (Some stage.Sysinit) is h = absurd (false≢true h)
  in_stage (Some stage.Boot) is h = absurd (false≢true h)
  in_stage (Some (stage.Run l)) is h =
      append-nil (map start_of (filter (is_coming past) (table_of past)))
      ∙ ap (map start_of) (none_coming goal past plain (is_served level (known_children past) past) (gone l is
      (same_level-is level l h)) (table_of past) (found_all (table_of past) (plain_distinct goal past plain)) all.1)

abbrev Whole : Goal → List Event → Type 0
Whole goal past = is_announced past ≡ true → left_of goal past ≡ []

whole : (goal : Goal) (past : List Event) → is_orderly goal past ≡ true → is_undisturbed past ≡ true → Whole goal past
whole goal past runs mild = plain_ind goal (Whole goal) (λ table distinct h. absurd (false≢true h)) goes past runs mild
  where
    goes : (happening : Event) (p : List Event) → Comes goal happening p → Whole goal p → Whole goal (happening ∷ p)
    goes (NewTable table) p comes before h = absurd (false≢true comes.mild)
    goes (Enter now grace) p comes before h = absurd (false≢true h)
    goes (Settle level) p comes before h = settle_left goal p level comes
    goes (Asked id Start) p comes before h = let empty : [] ≡ step.Order id Start ∷ left_of goal (Asked id Start ∷ p) =
        sym (before h) ∙ start_left goal p id comes in absurd (cc)
    goes (_) p comes before h = before h

pub settled : (goal : Goal) (past : List Event) → is_orderly goal past ≡ true → is_undisturbed past ≡ true
    → is_announced past ≡ true → taken past ≡ plan_of goal (table_of past)
settled goal past runs mild announced =
    sym (append-nil (taken past)) ∙ ap (λ xs. taken past ++ xs) (sym (whole goal past runs mild announced))
    ∙ follows goal past runs mild

pub in_turn : (goal : Goal) (past : List Event) (id : List ℕ) → is_orderly goal (Asked id Start ∷ past) ≡ true
    → is_owed_before id past ≡ false
in_turn goal past id runs =
    let all = and_parts (keeps_order (first (due goal past)) (Asked id Start) && may_come goal (Asked id Start) past)
    (is_orderly goal past) runs in
    let may : MayStart id (table_of past) past = due_facts goal past (step.Order id Start)
    (and_parts (keeps_order (first (due goal past)) (Asked id Start)) (may_come goal (Asked id Start) past) all.0).1 in
    may.run.ahead
