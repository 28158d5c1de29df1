-- What each due step implies about the past, rank by rank.
use Rattle.trace_laws.proofs.Words.{◌≡◌, refl, sym, ◌∙◌, ap, subst, ◌⊎◌, ℕ, Bool, true, false, not, ◌&&◌, cond, List}
use Rattle.trace_laws.proofs.Words.{[], ◌∷◌, ◌++◌, Option, Some, None, is_none, arith, list_any, list_all, false≢true}
use Rattle.trace_laws.proofs.Words.{and_parts, or_left, or_right, not-true, Entry, Level, Letter, Stage, OrderKind}
use Rattle.trace_laws.proofs.Words.{Start, Look, Term, Kill, PowerKind, same_id, same_ask, waited_of, has_id, entry_of}
use Rattle.trace_laws.proofs.Words.{is_distinct, Step, Reread, Order, Reexec, Idle, Goal, Event, table_of, stage_of}
use Rattle.trace_laws.proofs.Words.{Child, is_child_of, has_child, open_of, is_quiet, is_idle, kept_children}
use Rattle.trace_laws.proofs.Words.{known_children}
use Rattle.trace_laws.proofs.Words.{is_wanted, is_owed, is_excluded, entries_before, stop_due, is_held, is_full}
use Rattle.trace_laws.proofs.Words.{level_wish, goal_of, powers, letters, is_request_pending, in_run, is_limited}
use Rattle.trace_laws.proofs.Words.{same_id-is}
use Rattle.trace_laws.proofs.Words.{same_id-self, same_ask-is, same_level-is, both_ways, or_either, is_none-is, step_if}
use Rattle.trace_laws.proofs.Words.{steps_if, none_excluded, due_first, due_reexec, due_reread, enter_level, due_level}
use Rattle.trace_laws.proofs.Words.{power_steps, letter_steps, due_news, record_ids, stop_step, stops_of, stops_among}
use Rattle.trace_laws.proofs.Words.{due_stops, can_start, start_steps, starts_among, due_starts, is_over, next_stage}
use Rattle.trace_laws.proofs.Words.{due_stage, is_announced, is_settled, settle_step, due_settle, looks_among}
use Rattle.trace_laws.proofs.Words.{due_looks, due, same_step, is_due}
use Rattle.trace_events.specs.declared.steps.Step.TheVariants.{Enter, Call, Power, Hold, Settle}

-- the order is a signal
abbrev pub is_signal : OrderKind → Bool
is_signal Term = true
is_signal Kill = true
is_signal _ = false

-- the id has an entry that may start now; `es` is the table from some entry on
pub record MayRun (id : List ℕ) (es : List Entry) (past : List Event) : Type 0 where
  pub entry : Entry
  pub own : entry.id ≡ id
  pub found : is_distinct es ≡ true → entry_of id es ≡ Some entry
  pub listed : list_any (has_id id) es ≡ true
  pub wanted : is_wanted entry past ≡ true
  pub childless : has_child id (kept_children past) ≡ false
  pub unasked : open_of id past ≡ None
  pub ahead : list_any (λ e. is_owed e past) (entries_before id es) ≡ false

pub record MayStart (id : List ℕ) (es : List Entry) (past : List Event) : Type 0 where
  pub run : MayRun id es past
  pub spared : list_any (is_excluded past) (kept_children past) ≡ false
  pub free : is_limited run.entry.act ≡ true → (is_held id past ≡ false) × (is_full id past ≡ false)

pub record MayHold (id : List ℕ) (es : List Entry) (past : List Event) : Type 0 where
  pub run : MayRun id es past
  pub limited : is_limited run.entry.act ≡ true
  pub free : is_held id past ≡ false
  pub full : is_full id past ≡ true

pub record MayLook (id : List ℕ) (past : List Event) : Type 0 where
  pub there : has_child id (known_children past) ≡ true
  pub unasked : open_of id past ≡ None

pub record MayStop (id : List ℕ) (ask : OrderKind) (past : List Event) : Type 0 where
  pub child : Child
  pub own : is_child_of id child ≡ true
  pub due : stop_due child past ≡ Some ask
  pub unasked : open_of id past ≡ None
  pub within : (q : Child → Bool) → q child ≡ true → list_any q (known_children past) ≡ true

pub record MaySettle (level : Level) (past : List Event) : Type 0 where
  pub idle : is_idle past ≡ true
  pub settled : is_settled level (known_children past) past ≡ true

abbrev pub OrderFacts : List Entry → List Event → List ℕ → OrderKind → Type 0
OrderFacts es past id Start = MayStart id es past
OrderFacts es past id Look = MayLook id past
OrderFacts es past id Term = MayStop id Term past
OrderFacts es past id Kill = MayStop id Kill past

abbrev pub FactsAlong : List Entry → List Event → Step → Type 0
FactsAlong es past (Enter stage grace) = (is_quiet past ≡ true) ⊎ (stage_of past ≡ None)
FactsAlong es past (Call letter) = is_quiet past ≡ true
FactsAlong es past (Power kind) = is_quiet past ≡ true
FactsAlong es past (Order id ask) = OrderFacts es past id ask
FactsAlong es past (Hold id) = MayHold id es past
FactsAlong es past (Settle level) = MaySettle level past
FactsAlong es past _ = Unit {0}

abbrev pub Facts : List Event → Step → Type 0
Facts past step = FactsAlong (table_of past) past step

abbrev pub Each : (Step → Type 0) → List Step → Type 0
Each P [] = Unit {0}
Each P (step ∷ steps) = P step × Each P steps

pub each_append : (P : Step → Type 0) (xs ys : List Step) → Each P xs → Each P ys → Each P (xs ++ ys)
each_append P [] ys f g = g
each_append P (x ∷ xs) ys f g = (f.0, each_append P xs ys f.1 g)

pub each_step_if : (P : Step → Type 0) (b : Bool) (step : Step) → (b ≡ true → P step) → Each P (step_if b step)
each_step_if P b step f = grind arith

pub each_steps_if : (P : Step → Type 0) (b : Bool) (steps : List Step) → (b ≡ true → Each P steps)
    → Each P (steps_if b steps)
each_steps_if P b steps f = grind arith

each_map : (P Q : Step → Type 0) → ((step : Step) → P step → Q step) → (steps : List Step) → Each P steps → Each Q steps
each_map P Q f [] h = tt
each_map P Q f (x ∷ xs) h = (f x h.0, each_map P Q f xs h.1)

-- rank 1
firsts : (goal : Goal) (past : List Event) (o : Option Stage) → stage_of past ≡ o
    → Each (Facts past) (due_first goal o past)
firsts goal past o h = grind arith

-- rank 4
levels : (past : List Event) (o : Option Goal) → is_quiet past ≡ true → Each (Facts past) (enter_level o past)
levels past o quiet = grind arith

-- rank 5
news : (past : List Event) (kinds : List PowerKind) → is_quiet past ≡ true → Each (Facts past) (power_steps kinds past)
news past [] quiet = tt
news past (kind ∷ kinds) quiet = grind (arith, news past kinds)

calls : (past : List Event) (called : List Letter) → is_quiet past ≡ true → Each (Facts past) (letter_steps called past)
calls past [] quiet = tt
calls past (letter ∷ rest) quiet = grind (arith, calls past rest)

stops : (id : List ℕ) (past : List Event) → open_of id past ≡ None → (children : List Child)
    → ((q : Child → Bool) → list_any q children ≡ true → list_any q (known_children past) ≡ true)
    → Each (Facts past) (stops_of id children past)
stops id past unasked [] within = tt
stops id past unasked (child ∷ children) within = each_append (Facts past)
    (steps_if (is_child_of id child) (stop_step id (stop_due child past))) (stops_of id children past) (each_steps_if
    (Facts past) (is_child_of id child) (stop_step id (stop_due child past))
    (λ own. step own (stop_due child past) refl))
    (stops id past unasked children (λ q h. within q (or_right (q child) (list_any q children) h))) where
      step : is_child_of id child ≡ true → (o : Option OrderKind) → stop_due child past ≡ o
          → Each (Facts past) (stop_step id o)
      step own o h = grind arith

stops_all : (ids : List (List ℕ)) (past : List Event) → Each (Facts past) (stops_among ids past)
stops_all [] past = tt
stops_all (id ∷ ids) past = grind (arith, each_append, each_steps_if, stops, is_none-is, stops_all ids past)

-- rank 7
run_later : (id : List ℕ) (e : Entry) (es : List Entry) (past : List Event) → is_owed e past ≡ false → MayRun id es past
    → MayRun id (e ∷ es) past
run_later id e es past free may = record {
  entry = may.entry;
  own = may.own;
  found = λ distinct. let parts = and_parts (not (list_any (has_id e.id) es)) (is_distinct es) distinct in
      first (same_id id e.id) refl (not-true (list_any (has_id e.id) es) parts.0) (may.found parts.1);
  listed = or_right (same_id id e.id) (list_any (has_id id) es) may.listed;
  wanted = may.wanted;
  childless = may.childless;
  unasked = may.unasked;
  ahead = before (same_id id e.id);
} where
  first : (b : Bool) → same_id id e.id ≡ b → list_any (has_id e.id) es ≡ false → entry_of id es ≡ Some may.entry
      → cond b (Some e) (entry_of id es) ≡ Some may.entry
  first true same none rest = both_ways (list_any (has_id e.id) es)
      (subst (λ i. list_any (has_id i) es ≡ true) (same_id-is id e.id same) may.listed) none
  first false same none rest = rest

  before : (b : Bool) → list_any (λ x. is_owed x past) (cond b [] (e ∷ entries_before id es)) ≡ false
  before b = grind arith

order_later : (e : Entry) (es : List Entry) (past : List Event) → is_owed e past ≡ false
    → (id : List ℕ) (ask : OrderKind) → OrderFacts es past id ask → OrderFacts (e ∷ es) past id ask
unfolding run_later
order_later e es past free id Start may =
    record { run = run_later id e es past free may.run; spared = may.spared; free = may.free }
order_later e es past free id Look may = may
order_later e es past free id Term may = may
order_later e es past free id Kill may = may

facts_later : (e : Entry) (es : List Entry) (past : List Event) → is_owed e past ≡ false → (step : Step)
    → FactsAlong es past step → FactsAlong (e ∷ es) past step
unfolding run_later
facts_later e es past free (Order id ask) may = order_later e es past free id ask may
facts_later e es past free (Hold id) may =
    record { run = run_later id e es past free may.run; limited = may.limited; free = may.free; full = may.full }
facts_later e es past free (Settle level) may = may
facts_later e es past free (Enter s grace) may = may
facts_later e es past free (Call letter) may = may
facts_later e es past free (Power kind) may = may
facts_later e es past free _ may = tt

starts : (past : List Event) → list_any (is_excluded past) (kept_children past) ≡ false → (es : List Entry)
    → Each (FactsAlong es past) (starts_among es past)
unfolding run_later
starts past spared [] = tt
starts past spared (e ∷ es) = each_append (FactsAlong (e ∷ es) past) (steps_if (can_start e past) (start_steps e past))
    (cond (is_owed e past) [] (starts_among es past)) (each_steps_if (FactsAlong (e ∷ es) past) (can_start e past)
    (start_steps e past) (λ can. by_act (run can) refl (is_limited e.act) refl))
    (later (is_owed e past) refl (starts past spared es)) where
      run : can_start e past ≡ true → MayRun e.id (e ∷ es) past
      run can =
          let all =
          and_parts (is_wanted e past && not (has_child e.id (kept_children past))) (is_none (open_of e.id past)) can in
          let two = and_parts (is_wanted e past) (not (has_child e.id (kept_children past))) all.0 in
          record {
            entry = e;
            own = refl;
            found = λ _. rw (same_id-self e.id) refl;
            listed = or_left (same_id e.id e.id) (list_any (has_id e.id) es) (same_id-self e.id);
            wanted = two.0;
            childless = not-true (has_child e.id (kept_children past)) two.1;
            unasked = is_none-is (open_of e.id past) all.1;
            ahead = rw (same_id-self e.id) refl;
          }

      start : (may : MayRun e.id (e ∷ es) past) → (is_limited may.entry.act ≡ true
          → (is_held e.id past ≡ false) × (is_full e.id past ≡ false)) → MayStart e.id (e ∷ es) past
      start may free = record { run = may; spared = spared; free = free }

      window : (may : MayRun e.id (e ∷ es) past) → may.entry ≡ e → is_limited e.act ≡ true → is_held e.id past ≡ false
          → (full : Bool) → is_full e.id past ≡ full
          → Each (FactsAlong (e ∷ es) past) (cond full (Hold e.id) (Order e.id Start) ∷ [])
      window may is limited free true full = (
        record { run = may; limited = ap (λ (x : Entry). is_limited x.act) is ∙ limited; free = free; full = full },
        tt,
      )
      window may is limited free false full = (start may (λ _. (free, full)), tt)

      by_act : (may : MayRun e.id (e ∷ es) past) → may.entry ≡ e → (limited : Bool) → is_limited e.act ≡ limited
          → Each (FactsAlong (e ∷ es) past) (cond limited (steps_if (not (is_held e.id past))
          (cond (is_full e.id past) (Hold e.id) (Order e.id Start) ∷ [])) (Order e.id Start ∷ []))
      by_act may is true limited = each_steps_if (FactsAlong (e ∷ es) past) (not (is_held e.id past))
          (cond (is_full e.id past) (Hold e.id) (Order e.id Start) ∷ [])
          (λ free. window may is limited (not-true (is_held e.id past) free) (is_full e.id past) refl)
      by_act may is false limited = (
        start may (λ h. both_ways (is_limited e.act) (ap (λ (x : Entry). is_limited x.act) (sym is) ∙ h) limited),
        tt,
      )

      later : (b : Bool) → is_owed e past ≡ b → Each (FactsAlong es past) (starts_among es past)
          → Each (FactsAlong (e ∷ es) past) (cond b [] (starts_among es past))
      later true owed rest = tt
      later false owed rest =
          each_map (FactsAlong es past) (FactsAlong (e ∷ es) past) (facts_later e es past owed)
          (starts_among es past) rest

-- rank 8
stages : (past : List Event) → is_quiet past ≡ true → (goal : Goal) (o : Option Stage)
    → Each (Facts past) (next_stage goal o)
stages past quiet goal o = grind arith

over_quiet : (past : List Event) → is_over past ≡ true → is_quiet past ≡ true
over_quiet past h =
    let all : List Event → Bool = λ so_far. list_all
    (λ e. not (is_wanted e so_far) && not (waited_of e && has_child e.id (kept_children so_far))) (table_of so_far) in
    (and_parts (not (is_request_pending past)) (is_quiet past)
    (and_parts (not (is_request_pending past) && is_quiet past) (none_excluded past)
    (and_parts (not (is_request_pending past) && is_quiet past && none_excluded past) (all past) h).0).0).1

-- rank 9
settles : (past : List Event) → is_idle past ≡ true → (o : Option Stage) → Each (Facts past) (settle_step o past)
settles past idle o = grind arith

-- rank 10
looks : (past : List Event) (ids : List (List ℕ)) → Each (Facts past) (looks_among ids past)
looks past [] = tt
looks past (id ∷ ids) = grind (arith, looks past ids)

-- all ranks together
dues : (goal : Goal) (past : List Event) → Each (Facts past) (due goal past)
dues goal past = join _ _ (join _ _ (join _ _ (join _ _ (join _ _ (join _ _
    (join _ _ (join _ _ (join _ _ facts1 facts2) facts3) facts4) facts5) facts6) facts7) facts8) facts9) facts10 where
      join : (xs ys : List Step) → Each (Facts past) xs → Each (Facts past) ys → Each (Facts past) (xs ++ ys)
      join xs ys f g = each_append (Facts past) xs ys f g

      facts1 : Each (Facts past) (due_first goal (stage_of past) past)
      facts1 = firsts goal past (stage_of past) refl

      facts2 : Each (Facts past) (due_reexec past)
      facts2 = grind arith

      facts3 : Each (Facts past) (due_reread past)
      facts3 = grind arith

      facts4 : Each (Facts past) (due_level past)
      facts4 =
          each_steps_if (Facts past) (is_quiet past) (enter_level (level_wish past) past)
          (levels past (level_wish past))

      facts5 : Each (Facts past) (due_news past)
      facts5 =
          each_steps_if (Facts past) (is_quiet past && in_run (stage_of past)) (power_steps powers past ++ letter_steps
          letters past) (λ h. let quiet = (and_parts (is_quiet past) (in_run (stage_of past)) h).0 in each_append (Facts
          past) (power_steps powers past) (letter_steps letters past) (news past powers quiet)
          (calls past letters quiet))

      facts6 : Each (Facts past) (due_stops past)
      facts6 = grind (arith, each_steps_if, stops_all)

      facts7 : Each (Facts past) (due_starts past)
      facts7 =
          each_steps_if (Facts past) (not (is_request_pending past) && none_excluded past)
          (starts_among (table_of past) past)
          (λ h. starts past (not-true (list_any (is_excluded past) (kept_children past))
          (and_parts (not (is_request_pending past)) (none_excluded past) h).1) (table_of past))

      facts8 : Each (Facts past) (due_stage goal past)
      facts8 = each_steps_if (Facts past) (is_over past) (next_stage (goal_of goal past) (stage_of past))
          (λ h. stages past (over_quiet past h) (goal_of goal past) (stage_of past))

      facts9 : Each (Facts past) (due_settle past)
      facts9 = each_steps_if (Facts past) (not (is_request_pending past) && is_idle past && not (is_announced past))
          (settle_step (stage_of past) past)
          (λ h. settles past (and_parts (not (is_request_pending past)) (is_idle past)
          (and_parts (not (is_request_pending past) && is_idle past) (not (is_announced past)) h).0).1 (stage_of past))

      facts10 : Each (Facts past) (due_looks past)
      facts10 = looks past (record_ids past)

order_same : (past : List Event) (id : List ℕ) (ask : OrderKind) (i : List ℕ) (given : OrderKind) → id ≡ i → ask ≡ given
    → OrderFacts (table_of past) past i given → OrderFacts (table_of past) past id ask
order_same past id ask i given is same may = grind arith

same_facts : (past : List Event) (x y : Step) → same_step x y ≡ true → Facts past y → Facts past x
same_facts past (Enter k m) (Enter l n) h may = may
same_facts past (Call k) (Call l) h may = may
same_facts past (Power k) (Power l) h may = may
same_facts past (Order i a) (Order j b) h may = let parts = and_parts (same_id i j) (same_ask a b) h in
    order_same past i a j b (same_id-is i j parts.0) (same_ask-is a b parts.1) may
same_facts past (Hold i) (Hold j) h may = let P : List ℕ → Type 0 = λ x. MayHold x (table_of past) past in
    subst P (sym (same_id-is i j h)) may
same_facts past (Settle k) (Settle l) h may = let P : Level → Type 0 = λ x. MaySettle x past in
    subst P (sym (same_level-is k l h)) may
same_facts past Reread Reread h may = tt
same_facts past Reexec Reexec h may = tt
same_facts past Idle Idle h may = tt
same_facts past _ _ h may = absurd (false≢true h)

each_at : (past : List Event) (step : Step) (steps : List Step) → Each (Facts past) steps
    → list_any (same_step step) steps ≡ true → Facts past step
each_at past step [] each h = absurd (false≢true h)
each_at past step (x ∷ xs) each h = or_either (same_step step x) (list_any (same_step step) xs) h
    (λ here. same_facts past step x here each.0) (each_at past step xs each.1)

-- what a due step implies about the past
pub due_facts : (goal : Goal) (past : List Event) (step : Step) → is_due goal step past ≡ true → Facts past step
due_facts goal past step h = each_at past step (due goal past) (dues goal past) h
