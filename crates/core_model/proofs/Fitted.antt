-- What a fit implies for the records, and how what is read off the past changes with a happening.
use Rattle.core_model.proofs.Words.{◌≡◌, refl, sym, ◌∙◌, ap, ℕ, false, List, [], ◌∷◌, map, Goal, Event, stage_of}
use Rattle.core_model.proofs.Words.{table_of, in_run, goal_of, record_ids, SlotState, CoreState, LastStatuses, Fits}
use Rattle.core_model.proofs.Words.{HasLastStatuses, FitsWithLastStatuses, FitsExtendedTrace, last_statuses_after}
use Rattle.core_model.proofs.Words.{last_statuses_of, records_of, core_read}
use Rattle.core_model.proofs.Words.{with_last_statuses}
use Rattle.core_model.specs.Fit.{record_of}

-- if a core fits, its records, table and fields are those of the past
module _ (c : CoreState) (goal : Goal) (past : List Event) (fits : Fits c goal past) where
  pub fit_records : c.slots ≡ records_of fits.lasts past
  fit_records = ap (λ (x : CoreState). x.slots) fits.kept

  pub fit_table : c.table ≡ table_of past
  fit_table = ap (λ (x : CoreState). x.table) fits.kept

  pub fit_stage : c.fields.stage ≡ stage_of past
  fit_stage = ap (λ (x : CoreState). x.fields.stage) fits.kept

-- the last statuses of the records that are read off the past are the given ones
module _ (past : List Event) (lasts : LastStatuses) where
  lasts_read : (ids : List (List ℕ))
      → map (λ (slot : SlotState). slot.last) (map (record_of lasts past) ids) ≡ map lasts ids
  lasts_read [] = refl
  lasts_read (id ∷ ids) = ap (λ rest. lasts id ∷ rest) (lasts_read ids)

  module _ (others : LastStatuses) where
    first_same : (id : List ℕ) (ids : List (List ℕ)) → map lasts (id ∷ ids) ≡ map others (id ∷ ids)
        → lasts id ≡ others id
    first_same id ids h = cc

    rest_same : (id : List ℕ) (ids : List (List ℕ)) → map lasts (id ∷ ids) ≡ map others (id ∷ ids)
        → map lasts ids ≡ map others ids
    rest_same id ids h = cc

    read_same : (ids : List (List ℕ)) → map lasts ids ≡ map others ids
        → map (record_of lasts past) ids ≡ map (record_of others past) ids
    read_same [] h = refl
    read_same (id ∷ ids) h =
        λ i. record (record_of lasts past id) { last = first_same id ids h i } ∷ read_same ids (rest_same id ids h) i

-- a core with the last statuses of the past is the one read off the past with them
pub own_read : (c : CoreState) (goal : Goal) (past : List Event) → Fits c goal past → HasLastStatuses c past
    → c ≡ core_read (last_statuses_of past) past c.fields.goal c.fields.generation
own_read c goal past fits has =
    fits.kept ∙ ap (λ slots. record (core_read fits.lasts past c.fields.goal c.fields.generation) { slots = slots })
    (read_same past fits.lasts (last_statuses_of past) (record_ids past)
    (sym (ap (map (λ (slot : SlotState). slot.last))
    (fit_records c goal past fits) ∙ lasts_read past fits.lasts (record_ids past)) ∙ has))

pub read_has : (c : CoreState) (past : List Event)
    → c ≡ core_read (last_statuses_of past) past c.fields.goal c.fields.generation → HasLastStatuses c past
read_has c past is = ap (λ (x : CoreState). map (λ (slot : SlotState). slot.last) x.slots) is
    ∙ lasts_read past (last_statuses_of past) (record_ids past)

-- a change keeps the fit if it turns the core read off the past into the one read off the past with one more happening
pub goes_on : (old new : CoreState) (goal : Goal) (happening : Event) (past : List Event) → Fits old goal past
    → ((lasts : LastStatuses) → old ≡ core_read lasts past old.fields.goal old.fields.generation
    → new
    ≡ core_read (last_statuses_after happening past lasts) (happening ∷ past) new.fields.goal new.fields.generation)
    → (in_run (stage_of (happening ∷ past)) ≡ false → new.fields.goal ≡ goal_of goal (happening ∷ past))
    → FitsExtendedTrace old new goal past (happening ∷ past)
goes_on old new goal happening past fits reads law = (
  record { lasts = last_statuses_after happening past fits.lasts; kept = reads fits.lasts fits.kept; goal = law },
  λ has. read_has new (happening ∷ past) (reads (last_statuses_of past) (own_read old goal past fits has)),
)

-- with any other last statuses, a core fits the same trace
module _ (lasts : LastStatuses) (past : List Event) where
  read_with : (before : LastStatuses) (ids : List (List ℕ)) → map (λ (slot : SlotState).
      record slot { last = lasts slot.id }) (map (record_of before past) ids) ≡ map (record_of lasts past) ids
  read_with before [] = refl
  read_with before (id ∷ ids) = ap (λ rest. record_of lasts past id ∷ rest) (read_with before ids)

  pub others_fit : (c : CoreState) (goal : Goal) → Fits c goal past → Fits (with_last_statuses lasts c) goal past
  others_fit c goal fits = record {
    lasts = lasts;
    kept = ap (with_last_statuses lasts) fits.kept ∙ ap (λ slots. record (core_read lasts past c.fields.goal
        c.fields.generation) { slots = slots }) (read_with fits.lasts (record_ids past));
    goal = fits.goal;
  }

-- nothing happened
pub still : (c : CoreState) (goal : Goal) (past : List Event) → Fits c goal past → FitsExtendedTrace c c goal past past
still c goal past fits = (fits, λ has. has)

-- a core that fits with its last statuses still does so
pub all_on : (old new : CoreState) (goal : Goal) (past next : List Event) → FitsExtendedTrace old new goal past next
    → FitsWithLastStatuses old goal past → FitsWithLastStatuses new goal next
all_on old new goal past next goes all = (goes.0, goes.1 all.1)
