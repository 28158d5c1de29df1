-- For each rank that concerns records, the first due step is the one that the records give.
use Rattle.core_model.proofs.Words.{arith, ◌≡◌, refl, sym, ◌∙◌, ap, cond, ℕ, Bool, true, false, not, ◌&&◌, ◌||◌, List}
use Rattle.core_model.proofs.Words.{[], ◌∷◌, map, zip, Some, None, is_some, is_none, list_all, Entry, Act, Level, Stage}
use Rattle.core_model.proofs.Words.{Start, is_limited, served_by, waited_of, entry_of, Goal, Event, table_of, stage_of}
use Rattle.core_model.proofs.Words.{time_of, has_child, open_of, kept_children, known_children, is_wanted, is_owed}
use Rattle.core_model.proofs.Words.{is_asked, is_order, start_times, hold_times, steps_if, can_start, start_steps}
use Rattle.core_model.proofs.Words.{starts_among, is_served, record_ids, looks_among, is_sound, quiet_start, has_known}
use Rattle.core_model.proofs.Words.{wanted_known, owed_known, can_start_known, or_else, is_wanted_record}
use Rattle.core_model.proofs.Words.{is_owed_record, limited_step, can_start_record, start_step, start_along}
use Rattle.core_model.proofs.Words.{is_done_record, all_done, is_served_record, all_served, look_among, LastStatuses}
use Rattle.core_model.proofs.Words.{known_child, limiter_by, records_of}
use Rattle.init_words.specs.declared.stages.Stage.TheVariants as stage
use Rattle.respawn_limit.specs.Window as window
use Rattle.trace_events.specs.Past.{is_quiet}
use Rattle.trace_events.specs.Timing.{is_held}
use Rattle.core_model.specs.Decide as core
use Rattle.core_model.specs.Fit.{record_of}
use Rattle.core_model.proofs.Firsts.{head, head_append, head_step_if}
use Rattle.core_model.proofs.Windows.{full_fits, held_fits, allows_by}
use Rattle.core_model.proofs.Acts.{child_some}
use Rattle.core_model.proofs.Reading.{Each, IsOwn, table_own, table_pairs, pairs_all, child_none, asked_own, called_own}
use Rattle.core_model.proofs.Reading.{limits_own}

-- whether the entry is kept up matters only if the respawn limit applies to it
unlimited_served : (action : Act) (asked x y : Bool) → is_limited action ≡ false
    → served_by action asked x ≡ served_by action asked y
unlimited_served action asked x y h = grind arith

module _ (lasts : LastStatuses) (goal : Goal) (past : List Event) (sound : is_sound goal past ≡ true) where
  -- an entry of the table in force, in its stage
  module _ (now : Stage) (in_stage : stage_of past ≡ Some now) where
    module _ (e : Entry) (own : entry_of e.id (table_of past) ≡ Some e) where
      pub wanted_same : is_wanted e past ≡ is_wanted_record now e (record_of lasts past e.id)
      wanted_same = wanted_known goal past sound e
          ∙ rw (in_stage, child_none e.id past, asked_own past e own, called_own past e own) refl

      pub owed_same : is_owed e past ≡ is_owed_record now e (record_of lasts past e.id)
      owed_same = owed_known goal past sound e
          ∙ (λ i. waited_of e && (sym (child_some e.id past) i || is_order Start (open_of e.id past) || wanted_same i))

      can_start_same : can_start e past ≡ can_start_record now e (record_of lasts past e.id)
      can_start_same = can_start_known goal past sound e
          ∙ (λ i. wanted_same i && sym (child_none e.id past) i && is_none (open_of e.id past))

      -- the start or the hold of one entry
      limited_same : head (start_steps e past) ≡ limited_step (time_of past) e (record_of lasts past e.id)
      limited_same = grind (arith, limits_own, head, allows_by, held_fits, full_fits)

      start_same : head (steps_if (can_start e past) (start_steps e past))
          ≡ start_step now (time_of past) e (record_of lasts past e.id)
      start_same = rw can_start_same (at (can_start_record now e (record_of lasts past e.id)))
        where
          at : (b : Bool) → head (steps_if b (start_steps e past))
              ≡ cond b (limited_step (time_of past) e (record_of lasts past e.id)) None
          at true = limited_same
          at false = refl

      -- at a quiet point, whether something is left to do for the entry
      done_same : is_quiet past ≡ true → (not (is_wanted e past) && not
          (waited_of e && has_child e.id (kept_children past))) ≡ is_done_record now e (record_of lasts past e.id)
      done_same quiet =
          rw (wanted_same, has_known goal past sound e.id (quiet_start e.id past quiet), child_some e.id past) refl

    along_same : (es : List Entry) → Each (IsOwn (table_of past)) es → head (starts_among es past)
        ≡ start_along now (time_of past) (zip es (map (λ (e : Entry). record_of lasts past e.id) es))
    along_same [] each = refl
    along_same (e ∷ es) each = rw (
      head_append (steps_if (can_start e past) (start_steps e past)) (cond (is_owed e past) [] (starts_among es past)),
      start_same e each.0,
      owed_same e each.0,
    ) (at (is_owed_record now e (record_of lasts past e.id)) (along_same es each.1))
      where
        at : (b : Bool) → head (starts_among es past)
            ≡ start_along now (time_of past) (zip es (map (λ (e : Entry). record_of lasts past e.id) es))
            → or_else (start_step now (time_of past) e (record_of lasts past e.id)) (head
            (cond b [] (starts_among es past))) ≡ or_else (start_step now (time_of past) e (record_of lasts past e.id))
            (cond b None (start_along now (time_of past) (zip es (map (λ (e : Entry). record_of lasts past e.id) es))))
        at true h = refl
        at false h = rw h refl

    -- 7: the first start or hold
    pub starts_same : head (starts_among (table_of past) past)
        ≡ core.start_among now (time_of past) (table_of past) (records_of lasts past)
    starts_same = along_same (table_of past) (table_own lasts goal past sound)
        ∙ ap (start_along now (time_of past)) (sym (table_pairs lasts past))

    -- 8: nothing is left to do in the stage
    pub all_done_same : is_quiet past ≡ true → list_all (λ e. not (is_wanted e past) && not (waited_of e
        && has_child e.id (kept_children past))) (table_of past) ≡ all_done now (table_of past) (records_of lasts past)
    all_done_same quiet = grind (arith, pairs_all, IsOwn, done_same, table_own, table_pairs)

  -- 9: no entry keeps the level from being settled
  module _ (level : Level) (in_level : stage_of past ≡ Some (stage.Run level)) where
    kept_up : (e : Entry) → (b : Bool) → is_limited e.act ≡ b → served_by e.act (is_asked e.id past) (has_child e.id
        (known_children past) || is_held e.id past) ≡ served_by e.act (is_asked e.id past) (is_some (known_child e.id
        past) || window.is_held (limiter_by b (start_times e.id past) (hold_times e.id past)).held (time_of past))
    kept_up e true is = rw (child_some e.id past, held_fits e.id past) refl
    kept_up e false is = unlimited_served e.act (is_asked e.id past)
        (has_child e.id (known_children past) || is_held e.id past) (is_some (known_child e.id past)
        || window.is_held (limiter_by false (start_times e.id past) (hold_times e.id past)).held (time_of past)) is

    served_same : (e : Entry) → entry_of e.id (table_of past) ≡ Some e → is_served level (known_children past) past e
        ≡ is_served_record level (time_of past) e (record_of lasts past e.id)
    served_same e own = rw (
      owed_same (stage.Run level) in_level e own,
      kept_up e (is_limited e.act) refl,
      asked_own past e own,
      limits_own past e own,
    ) refl

    pub all_served_same : list_all (is_served level (known_children past) past) (table_of past)
        ≡ all_served level (time_of past) (table_of past) (records_of lasts past)
    all_served_same = grind (arith, pairs_all, IsOwn, served_same, table_own, table_pairs)

-- 10: the first look
looks_along : (lasts : LastStatuses) → (past : List Event) (ids : List (List ℕ))
    → head (looks_among ids past) ≡ look_among (map (record_of lasts past) ids)
looks_along lasts past [] = grind (arith, head_append, head_step_if, child_some, head)
looks_along lasts past (id ∷ ids) =
    grind (arith, looks_along lasts past ids, head_append, head_step_if, child_some, head)

pub looks_same : (lasts : LastStatuses) → (past : List Event)
    → head (looks_among (record_ids past) past) ≡ look_among (records_of lasts past)
looks_same lasts past = looks_along lasts past (record_ids past)
