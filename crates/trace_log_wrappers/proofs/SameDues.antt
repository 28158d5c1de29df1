-- The steps that are due after a trace are due after one that is alike.
use Rattle.trace_log_wrappers.proofs.BriefWords.{◌≡◌, refl, sym, ◌∙◌, ap, ap₂, ℕ, ◌+◌, ◌-◌, Bool, true, not, ◌&&◌}
use Rattle.trace_log_wrappers.proofs.BriefWords.{nat_lt, nat_le}
use Rattle.trace_log_wrappers.proofs.BriefWords.{List, [], ◌∷◌, ◌++◌, filter, length, Option, arith, list_any, list_all}
use Rattle.trace_log_wrappers.proofs.BriefWords.{list_any-append, HOLD, STARTS, WINDOW, Entry, Level, Letter, Stage}
use Rattle.trace_log_wrappers.proofs.BriefWords.{Sysinit, Run}
use Rattle.trace_log_wrappers.proofs.BriefWords.{Look, PowerKind, same_ask, waited_of, Step, Goal, Event, table_of}
use Rattle.trace_log_wrappers.proofs.BriefWords.{stage_of, Child}
use Rattle.trace_log_wrappers.proofs.BriefWords.{is_child_of, has_child, kept_children, known_children, Open, is_quiet}
use Rattle.trace_log_wrappers.proofs.BriefWords.{is_idle}
use Rattle.trace_log_wrappers.proofs.BriefWords.{is_wanted, is_owed, is_excluded, stop_due, is_held, is_full, is_level}
use Rattle.trace_log_wrappers.proofs.BriefWords.{in_run}
use Rattle.trace_log_wrappers.proofs.BriefWords.{goal_of, wants_reexec, wants_reread, last_requested_level, other_than}
use Rattle.trace_log_wrappers.proofs.BriefWords.{level_wish}
use Rattle.trace_log_wrappers.proofs.BriefWords.{is_power_pending, is_letter_pending, powers, letters}
use Rattle.trace_log_wrappers.proofs.BriefWords.{is_request_pending, step_if}
use Rattle.trace_log_wrappers.proofs.BriefWords.{steps_if}
use Rattle.trace_log_wrappers.proofs.BriefWords.{none_excluded, due_first, due_reexec, due_reread, due_level}
use Rattle.trace_log_wrappers.proofs.BriefWords.{power_steps}
use Rattle.trace_log_wrappers.proofs.BriefWords.{letter_steps, due_news, record_ids, stop_step, stops_of, stops_among}
use Rattle.trace_log_wrappers.proofs.BriefWords.{due_stops}
use Rattle.trace_log_wrappers.proofs.BriefWords.{can_start, start_steps, starts_among, due_starts, due_stage, is_served}
use Rattle.trace_log_wrappers.proofs.BriefWords.{is_settled}
use Rattle.trace_log_wrappers.proofs.BriefWords.{settle_step, due_settle, can_look, looks_among, due_looks, same_step}
use Rattle.trace_log_wrappers.proofs.BriefWords.{is_due}
use Rattle.trace_log_wrappers.proofs.BriefWords.{same_tests, any_same, same_has, same_any}
use Rattle.trace_events.specs.declared.steps.Step.TheVariants as step
use Rattle.trace_log_wrappers.proofs.Lasting.{grace_lasting, asked_lasting, called_lasting, goal_lasting}
use Rattle.trace_log_wrappers.proofs.Lasting.{reexec_lasting}
use Rattle.trace_log_wrappers.proofs.Lasting.{reread_lasting, heard_lasting, power_lasting, letter_lasting}
use Rattle.trace_log_wrappers.proofs.Lasting.{booted_lasting}
use Rattle.trace_log_wrappers.proofs.Lasting.{announced_lasting, left_lasting}
use Rattle.trace_log_wrappers.proofs.Alike.{Alike, same_by, same_table, same_stage, same_excluded}

pub all_same : {X : Type 0} (p q : X → Bool) → ((x : X) → p x ≡ q x) → (xs : List X) → list_all p xs ≡ list_all q xs
all_same p q same xs = grind arith

filter_alike : {X : Type 0} (p q : X → Bool) → ((x : X) → p x ≡ q x) → (xs : List X) → filter p xs ≡ filter q xs
filter_alike p q same xs = grind arith

has_kept : (past brief : List Event) → Alike past brief → (id : List ℕ)
    → has_child id (kept_children past) ≡ has_child id (kept_children brief)
has_kept past brief a id = same_has id (kept_children past) (kept_children brief) (a.kept id)

pub has_known : (past brief : List Event) → Alike past brief → (id : List ℕ)
    → has_child id (known_children past) ≡ has_child id (known_children brief)
has_known past brief a id = same_has id (known_children past) (known_children brief) (a.known id)

-- if two lists have the same children of each id, they have an excluded child for both traces or for neither
pub excluded_any : (past brief : List Event) → Alike past brief → (xs ys : List Child) → ((id : List ℕ)
    → filter (is_child_of id) xs ≡ filter (is_child_of id) ys)
    → list_any (is_excluded past) xs ≡ list_any (is_excluded brief) ys
excluded_any past brief a xs ys same = any_same (is_excluded past) (is_excluded brief) (same_excluded past brief a.said)
    xs ∙ same_tests (list_any (is_excluded brief) xs) (list_any (is_excluded brief) ys)
    (same_any (is_excluded brief) xs ys same) (same_any (is_excluded brief) ys xs (λ id. sym (same id)))

wanted_same : (past brief : List Event) → Alike past brief → (e : Entry) → is_wanted e past ≡ is_wanted e brief
wanted_same past brief a e = grind (arith, same_stage, has_kept, same_by, asked_lasting, called_lasting)

pub owed_same : (past brief : List Event) → Alike past brief → (e : Entry) → is_owed e past ≡ is_owed e brief
owed_same past brief a e = grind (arith, has_kept, wanted_same)

pub stop_same : (past brief : List Event) → Alike past brief → (child : Child)
    → stop_due child past ≡ stop_due child brief
stop_same past brief a child = grind (arith, same_excluded, same_by, grace_lasting)

pub quiet_same : (past brief : List Event) → Alike past brief → is_quiet past ≡ is_quiet brief
quiet_same past brief a =
    ap (λ orders. not (list_any (λ (order : Open). not (same_ask Look order.ask)) orders)) a.listed

idle_same : (past brief : List Event) → Alike past brief → is_idle past ≡ is_idle brief
idle_same past brief a = ap (λ orders. not (list_any (λ (order : Open). true) orders)) a.listed

wish_same : (past brief : List Event) → Alike past brief → level_wish past ≡ level_wish brief
wish_same past brief a =
    ap₂ other_than (same_stage past brief a.said) (same_by last_requested_level heard_lasting past brief a.said)

power_same : (past brief : List Event) → Alike past brief → (kind : PowerKind)
    → is_power_pending kind past ≡ is_power_pending kind brief
power_same past brief a kind = same_by (is_power_pending kind) (power_lasting kind) past brief a.said

letter_same : (past brief : List Event) → Alike past brief → (letter : Letter)
    → is_letter_pending letter past ≡ is_letter_pending letter brief
letter_same past brief a letter = same_by (is_letter_pending letter) (letter_lasting letter) past brief a.said

stands_same : (past brief : List Event) → Alike past brief → is_request_pending past ≡ is_request_pending brief
stands_same past brief a =
    grind (arith, same_by, reexec_lasting, reread_lasting, wish_same, same_stage, any_same, power_same, letter_same)

goal_same : (past brief : List Event) → Alike past brief → (opening : Goal)
    → goal_of opening past ≡ goal_of opening brief
goal_same past brief a opening = same_by (goal_of opening) (goal_lasting opening) past brief a.said

-- rank 1: the first stage
first_by : (goal : Goal) (o : Option Stage) (past brief : List Event) → Alike past brief
    → due_first goal o past ≡ due_first goal o brief
first_by goal o past brief a = grind (arith, Goal, Sysinit, goal_same)

first_same : (goal : Goal) (past brief : List Event) → Alike past brief
    → due_first goal (stage_of past) past ≡ due_first goal (stage_of brief) brief
first_same goal past brief a =
    ap (λ now. due_first goal now past) (same_stage past brief a.said) ∙ first_by goal (stage_of brief) past brief a

-- ranks 2 and 3: re-execution, and reading inittab again
reexec_same : (past brief : List Event) → Alike past brief → due_reexec past ≡ due_reexec brief
reexec_same past brief a = ap₂ (λ quiet wants. step_if (quiet && wants) step.Reexec) (quiet_same past brief a)
    (same_by wants_reexec reexec_lasting past brief a.said)

reread_same : (past brief : List Event) → Alike past brief → due_reread past ≡ due_reread brief
reread_same past brief a = ap₂ (λ quiet wants. step_if (quiet && wants) step.Reread) (quiet_same past brief a)
    (same_by wants_reread reread_lasting past brief a.said)

level_same : (past brief : List Event) → Alike past brief → due_level past ≡ due_level brief
level_same past brief a = grind (arith, quiet_same, wish_same, same_by, booted_lasting)

-- rank 5: power events and called letters
powers_by : (kinds : List PowerKind) (past brief : List Event) → Alike past brief
    → power_steps kinds past ≡ power_steps kinds brief
powers_by [] past brief a = refl
powers_by (kind ∷ kinds) past brief a = ap₂ (λ keeps rest. step_if keeps (step.Power kind) ++ rest)
    (power_same past brief a kind) (powers_by kinds past brief a)

letters_by : (some : List Letter) (past brief : List Event) → Alike past brief
    → letter_steps some past ≡ letter_steps some brief
letters_by [] past brief a = refl
letters_by (letter ∷ rest) past brief a = ap₂ (λ keeps more. step_if keeps (step.Call letter) ++ more)
    (letter_same past brief a letter) (letters_by rest past brief a)

calls_same : (past brief : List Event) → Alike past brief → due_news past ≡ due_news brief
calls_same past brief a =
    ap₂ (λ quiet now. steps_if (quiet && in_run now) (power_steps powers past ++ letter_steps letters past))
    (quiet_same past brief a) (same_stage past brief a.said)
    ∙ ap₂ (λ some more. steps_if (is_quiet brief && in_run (stage_of brief)) (some ++ more))
    (powers_by powers past brief a) (letters_by letters past brief a)

-- rank 6: TERM and KILL
records_same : (past brief : List Event) → Alike past brief → record_ids past ≡ record_ids brief
records_same past brief a = grind (arith, same_table, same_by, left_lasting, filter_alike, has_known)

stops_filtered : (id : List ℕ) (children : List Child) (past : List Event)
    → stops_of id children past ≡ stops_of id (filter (is_child_of id) children) past
stops_filtered id [] past = refl
stops_filtered id (child ∷ children) past = grind (arith, stops_filtered id children past)

stops_by : (id : List ℕ) (children : List Child) (past brief : List Event) → Alike past brief
    → stops_of id children past ≡ stops_of id children brief
stops_by id [] past brief a = refl
stops_by id (child ∷ children) past brief a =
    ap₂ (λ order rest. steps_if (is_child_of id child) (stop_step id order) ++ rest)
    (stop_same past brief a child) (stops_by id children past brief a)

stops_each : (ids : List (List ℕ)) (past brief : List Event) → Alike past brief
    → stops_among ids past ≡ stops_among ids brief
stops_each [] past brief a = refl
stops_each (id ∷ ids) past brief a = grind (arith, stops_filtered, stops_by, stops_each ids past brief)

stops_same : (past brief : List Event) → Alike past brief → due_stops past ≡ due_stops brief
stops_same past brief a = grind (arith, stands_same, records_same, stops_each)

-- rank 7: starts and holds
can_same : (past brief : List Event) → Alike past brief → (e : Entry) → can_start e past ≡ can_start e brief
can_same past brief a e = grind (arith, wanted_same, has_kept)

pub held_same : (past brief : List Event) → Alike past brief → (id : List ℕ) → is_held id past ≡ is_held id brief
held_same past brief a id = ap₂ (λ now times. list_any (λ began. nat_lt now (began + HOLD)) times) a.time (a.holds id)

pub full_same : (past brief : List Event) → Alike past brief → (id : List ℕ) → is_full id past ≡ is_full id brief
full_same past brief a id = ap₂
    (λ now times. nat_le STARTS (length (filter (λ started. nat_lt (now - started) WINDOW) times))) a.time (a.starts id)

start_same : (past brief : List Event) → Alike past brief → (e : Entry) → start_steps e past ≡ start_steps e brief
start_same past brief a e = grind arith

starts_by : (es : List Entry) (past brief : List Event) → Alike past brief
    → starts_among es past ≡ starts_among es brief
starts_by [] past brief a = refl
starts_by (e ∷ es) past brief a = grind (arith, can_same, start_same, owed_same, starts_by es past brief)

none_same : (past brief : List Event) → Alike past brief → none_excluded past ≡ none_excluded brief
none_same past brief a = ap not (excluded_any past brief a (kept_children past) (kept_children brief) a.kept)

starts_same : (past brief : List Event) → Alike past brief → due_starts past ≡ due_starts brief
starts_same past brief a = grind (arith, stands_same, none_same, same_table, starts_by)

-- rank 8: the next stage
ended_same : (past brief : List Event) → Alike past brief → (e : Entry)
    → (not (is_wanted e past) && not (waited_of e && has_child e.id (kept_children past)))
    ≡ (not (is_wanted e brief) && not (waited_of e && has_child e.id (kept_children brief)))
ended_same past brief a e = ap₂ (λ wanted child. not wanted && not (waited_of e && child)) (wanted_same past brief a e)
    (has_kept past brief a e.id)

stage_same : (goal : Goal) (past brief : List Event) → Alike past brief → due_stage goal past ≡ due_stage goal brief
stage_same goal past brief a =
    grind (arith, stands_same, quiet_same, none_same, same_table, all_same, ended_same, same_stage, goal_same)

-- rank 9: the level is settled
served_same : (level : Level) (past brief : List Event) → Alike past brief → (e : Entry)
    → is_served level (known_children past) past e ≡ is_served level (known_children brief) brief e
served_same level past brief a e = grind (arith, owed_same, same_by, asked_lasting, has_known, held_same)

settled_same : (level : Level) (past brief : List Event) → Alike past brief
    → is_settled level (known_children past) past ≡ is_settled level (known_children brief) brief
settled_same level past brief a =
    ap₂
    (λ now out. is_level level now && not out && list_all (is_served level (known_children past) past) (table_of past))
    (same_stage past brief a.said) (excluded_any past brief a (known_children past) (known_children brief) a.known)
    ∙ ap (λ table. is_level level (stage_of brief) && not (list_any (is_excluded brief) (known_children brief))
    && list_all (is_served level (known_children past) past) table) (same_table past brief a.said)
    ∙ ap (λ served. is_level level (stage_of brief) && not (list_any (is_excluded brief) (known_children brief))
    && served) (all_same (is_served level (known_children past) past) (is_served level (known_children brief) brief)
    (served_same level past brief a) (table_of brief))

settle_by : (o : Option Stage) (past brief : List Event) → Alike past brief → settle_step o past ≡ settle_step o brief
settle_by o past brief a = grind (arith, Run, step_if, settled_same)

settle_same : (past brief : List Event) → Alike past brief → due_settle past ≡ due_settle brief
settle_same past brief a = grind (arith, stands_same, idle_same, same_by, announced_lasting, same_stage, settle_by)

-- rank 10: a look that is due after the first trace is due after the second
look_more : (past brief : List Event) → Alike past brief → (id : List ℕ) → can_look id past ≡ true
    → can_look id brief ≡ true
look_more past brief a id h = grind (arith, has_known)

step_more : (p : Step → Bool) (step : Step) (b c : Bool) → (b ≡ true → c ≡ true) → list_any p (step_if b step) ≡ true
    → list_any p (step_if c step) ≡ true
step_more p step b c more h = grind arith

any_more : (p : Step → Bool) (vs bs xs ys : List Step) → (list_any p vs ≡ true → list_any p bs ≡ true)
    → (list_any p xs ≡ true → list_any p ys ≡ true) → list_any p (vs ++ xs) ≡ true → list_any p (bs ++ ys) ≡ true
any_more p vs bs xs ys first rest h = grind (arith, list_any-append)

looks_more : (p : Step → Bool) (ids : List (List ℕ)) (past brief : List Event) → Alike past brief
    → list_any p (looks_among ids past) ≡ true → list_any p (looks_among ids brief) ≡ true
looks_more p [] past brief a h = h
looks_more p (id ∷ ids) past brief a h = any_more p (step_if (can_look id past) (step.Order id Look)) (step_if (can_look
    id brief) (step.Order id Look)) (looks_among ids past) (looks_among ids brief) (step_more p (step.Order id Look)
    (can_look id past) (can_look id brief) (look_more past brief a id)) (looks_more p ids past brief a) h

-- the steps of ranks 1 to 9
higher : Goal → List Event → List Step
higher goal so_far =
    due_first goal (stage_of so_far) so_far ++ due_reexec so_far ++ due_reread so_far ++ due_level so_far
    ++ due_news so_far ++ due_stops so_far ++ due_starts so_far ++ due_stage goal so_far ++ due_settle so_far

higher_same : (goal : Goal) (past brief : List Event) → Alike past brief → higher goal past ≡ higher goal brief
unfolding higher
higher_same goal past brief a =
    ap₂ (λ s t. s ++ t)
    (ap₂ (λ s t. s ++ t)
    (ap₂ (λ s t. s ++ t)
    (ap₂ (λ s t. s ++ t)
    (ap₂ (λ s t. s ++ t)
    (ap₂ (λ s t. s ++ t)
    (ap₂ (λ s t. s ++ t)
    (ap₂ (λ s t. s ++ t) (first_same goal past brief a) (reexec_same past brief a))
    (reread_same past brief a))
    (level_same past brief a))
    (calls_same past brief a))
    (stops_same past brief a))
    (starts_same past brief a))
    (stage_same goal past brief a))
    (settle_same past brief a)

pub due_alike : (goal : Goal) (step : Step) (past brief : List Event) → Alike past brief → is_due goal step past ≡ true
    → is_due goal step brief ≡ true
unfolding higher
due_alike goal step past brief a h = any_more (same_step step) (higher goal past) (higher goal brief) (due_looks past)
    (due_looks brief) (λ here. ap (list_any (same_step step)) (sym (higher_same goal past brief a)) ∙ here)
    (λ there. looks_more (same_step step) (record_ids brief) past brief a
    (ap (λ ids. list_any (same_step step) (looks_among ids past)) (sym (records_same past brief a)) ∙ there)) h
