-- The core fits the trace with everything that the system does and everything that reaches the core.
use Rattle.core_model.proofs.Words.{arith, ◌≡◌, refl, sym, ◌∙◌, ap, ℕ, true, false, List, [], ◌∷◌, map, Some, Ok}
use Rattle.core_model.proofs.Words.{append-nil, Entry, Level, Answer, HeardRequest, ids_of, entry_of, is_distinct, Goal}
use Rattle.core_model.proofs.Words.{Event, stage_of, in_run, goal_of, answered_of, record_ids, is_sound, SlotState}
use Rattle.core_model.proofs.Words.{new_record, CoreState, opening_fields, opening_state, after_round, after_clock}
use Rattle.core_model.proofs.Words.{after_got, after_adopt, after_not_read, after_handed, after_handed_on, LastStatuses}
use Rattle.core_model.proofs.Words.{Fits, HasLastStatuses, FitsExtendedTrace, last_statuses_after, last_statuses_of}
use Rattle.core_model.proofs.Words.{records_of, core_read}
use Rattle.core_model.proofs.Words.{child_known}
use Rattle.trace_events.specs.declared.happenings.Happening.TheVariants as event
use Rattle.trace_events.specs.declared.happenings.Handed.{Handed}
use Rattle.child_table.specs.Lists as lists
use Rattle.core_model.specs.Steps.{after_answer_to}
use Rattle.core_model.specs.Fit.{record_of, is_act}
use Rattle.core_model.proofs.Fitted.{fit_records, goes_on, read_has}
use Rattle.core_model.proofs.Ordering.{stop_still, missed_known, nudged}
use Rattle.core_model.proofs.Moments.{fields_got, goal_heard}
use Rattle.core_model.proofs.Acts.{act_records}
use Rattle.core_model.proofs.Tables.{table_records}
use Rattle.core_model.proofs.Telling.{told_records, told_taken}
use Rattle.core_model.proofs.Reading.{Each, IsOwn, each_own}

-- the records are unchanged if the happening concerns none of them
kept_records : (f g : List ℕ → SlotState) → ((id : List ℕ) → f id ≡ g id) → (ids : List (List ℕ))
    → map f ids ≡ map g ids
kept_records f g same ids = grind arith

module _ (lasts : LastStatuses) (past : List Event) where
  got_records : (request : HeardRequest) → records_of lasts past ≡ records_of lasts (event.Got request ∷ past)
  got_records request = kept_records (record_of lasts past) (record_of lasts (event.Got request ∷ past)) (λ id. rw (
    stop_still (event.Got request) past (child_known id past) refl (λ c. refl),
    missed_known (event.Got request) past (child_known id past) refl,
  ) refl) (record_ids past)

  handed_records : (how : Handed) → records_of lasts past ≡ records_of lasts (event.Handed how ∷ past)
  handed_records how = kept_records (record_of lasts past) (record_of lasts (event.Handed how ∷ past)) (λ id. rw (
    stop_still (event.Handed how) past (child_known id past) refl (λ c. refl),
    missed_known (event.Handed how) past (child_known id past) refl,
  ) refl) (record_ids past)

  clock_records : (reading : ℕ) → records_of lasts past ≡ records_of lasts (event.Clock reading ∷ past)
  clock_records reading = kept_records (record_of lasts past) (record_of lasts (event.Clock reading ∷ past)) (λ id. rw (
    stop_still (event.Clock reading) past (child_known id past) refl (λ c. refl),
    missed_known (event.Clock reading) past (child_known id past) refl,
  ) refl) (record_ids past)

  pub settle_records : (level : Level) → records_of lasts past ≡ records_of lasts (event.Settle level ∷ past)
  settle_records level = kept_records (record_of lasts past) (record_of lasts (event.Settle level ∷ past)) (λ id. rw (
    stop_still (event.Settle level) past (child_known id past) refl (λ c. refl),
    missed_known (event.Settle level) past (child_known id past) refl,
  ) refl) (record_ids past)

  unread_records : records_of lasts past ≡ records_of lasts (event.NotRead ∷ past)
  unread_records = kept_records (record_of lasts past) (record_of lasts (event.NotRead ∷ past)) (λ id. rw (
    stop_still event.NotRead past (child_known id past) refl (λ c. refl),
    missed_known event.NotRead past (child_known id past) refl,
  ) refl) (record_ids past)

-- the core read off the past, if a happening does not change its table and its fields
unmoved : (lasts : LastStatuses) (past : List Event) (g : Goal) (n : ℕ) (slots : List SlotState)
    → records_of lasts past ≡ slots → core_read lasts past g n ≡ record (core_read lasts past g n) { slots = slots }
unmoved lasts past g n slots is = ap (λ slots. record (core_read lasts past g n) { slots = slots }) is

module _ (goal : Goal) (past : List Event) (c : CoreState) (sound : is_sound goal past ≡ true) (fits : Fits c goal past)
  where
    abbrev g : Goal
    g = c.fields.goal

    abbrev n : ℕ
    n = c.fields.generation

    abbrev Kept : CoreState → Event → Type 0
    Kept new happening = FitsExtendedTrace c new goal past (happening ∷ past)

    -- a change of the core whose result is what is read off the past with the happening
    goes : (new : CoreState) (happening : Event) (change : CoreState → CoreState) → new ≡ change c → new.fields.goal ≡ g
        → new.fields.generation ≡ n → ((lasts : LastStatuses)
        → change (core_read lasts past g n)
        ≡ core_read (last_statuses_after happening past lasts) (happening ∷ past) g n)
        → (in_run (stage_of (happening ∷ past)) ≡ false → g ≡ goal_of goal (happening ∷ past)) → Kept new happening
    goes new happening change is same_goal same_age reads law = goes_on c new goal happening past fits
        (λ lasts kept. is ∙ ap change kept ∙ reads lasts ∙ (λ i. core_read (last_statuses_after happening past lasts)
        (happening ∷ past) (sym same_goal i) (sym same_age i))) (λ h. same_goal ∙ law h)

    -- what the system does, and what reaches the core
    pub fits_act : (happening : Event) → is_act happening ≡ true → is_sound goal (happening ∷ past) ≡ true
        → Kept c happening
    fits_act happening act more = grind (arith, goes, unmoved, act_records)

    pub fits_told : (id : List ℕ) (given : Answer) → answered_of id past ≡ Some given
        → Kept (after_answer_to id given c) (event.Told id)
    fits_told id given told =
        goes (after_answer_to id given c) (event.Told id) (after_answer_to id given) refl refl refl
        (λ lasts. ap (λ slots. record (core_read lasts past g n) { slots = slots })
        (told_records lasts goal past sound id given told)) fits.goal

    pub answer_taken : (id : List ℕ) (given : Answer) → answered_of id past ≡ Some given
        → lists.refusal_of (lists.order_in id c.slots) given ≡ Ok tt
    answer_taken id given told = ap (λ records. lists.refusal_of (lists.order_in id records) given)
        (fit_records c goal past fits) ∙ told_taken fits.lasts goal past sound id given told

    pub fits_adopt : (table : List Entry) → is_distinct table ≡ true → Kept (after_adopt table c) (event.NewTable table)
    fits_adopt table distinct = goes (after_adopt table c) (event.NewTable table) (after_adopt table) refl refl refl
        (λ lasts. ap (λ slots. record (core_read lasts (event.NewTable table ∷ past) g n) { slots = slots })
        (table_records lasts goal table past sound distinct)) fits.goal

    pub fits_clock : (reading : ℕ) → Kept (after_clock reading c) (event.Clock reading)
    fits_clock reading = grind (arith, goes, clock_records)

    pub fits_round : Kept (after_round c) event.Nudge
    fits_round = goes (after_round c) event.Nudge after_round refl refl refl
        (λ lasts. ap (λ slots. record (core_read lasts (event.Nudge ∷ past) g n) { slots = slots }) (nudged lasts past))
        fits.goal

    pub fits_not_read : Kept (after_not_read c) event.NotRead
    fits_not_read = grind (arith, goes, unread_records)

    pub fits_handed : (how : Handed) → Kept (after_handed c) (event.Handed how)
    fits_handed how = grind (arith, goes, handed_records)

    pub fits_handed_on : (how : Handed) → Kept (after_handed_on c) (event.Handed how)
    fits_handed_on how = grind (arith, goes_on, handed_records)

    pub fits_got : (request : HeardRequest) → Kept (after_got request c) (event.Got request)
    fits_got request = grind (arith, goes_on, got_records, fields_got, goal_heard)

-- the records of a new core
opening_record : (table : List Entry) (e : Entry) → entry_of e.id table ≡ Some e
    → new_record e ≡ record_of (last_statuses_of (event.NewTable table ∷ [])) (event.NewTable table ∷ []) e.id
opening_record table e own = grind arith

opening_along : (table es : List Entry) → Each (IsOwn table) es
    → map new_record es
    ≡ map (record_of (last_statuses_of (event.NewTable table ∷ [])) (event.NewTable table ∷ [])) (ids_of es)
opening_along table [] own = refl
opening_along table (e ∷ es) own = λ i. opening_record table e own.0 i ∷ opening_along table es own.1 i

-- a new core fits the trace that has only its table, without any last status
pub fits_opening : (table : List Entry) (goal : Goal) → is_distinct table ≡ true → Fits (opening_state table goal) goal
    (event.NewTable table ∷ []) × HasLastStatuses (opening_state table goal) (event.NewTable table ∷ [])
fits_opening table goal distinct = (
  record { lasts = last_statuses_of past; kept = kept; goal = λ h. refl },
  read_has (opening_state table goal) past kept,
)
  where
    past : List Event
    past = event.NewTable table ∷ []

    kept : opening_state table goal ≡ core_read (last_statuses_of past) past goal 0
    kept = λ i. record {
      table = table;
      slots = (opening_along table table (each_own table distinct)
          ∙ ap (map (record_of (last_statuses_of past) past)) (sym (append-nil (ids_of table)))) i;
      fields = opening_fields goal;
    }
