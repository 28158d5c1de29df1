-- Names that all proofs of this crate import.
pub use Rattle.std.proofs.Common.{◌≡◌, refl, ◌∙◌, ap, List, [], ◌∷◌, length, arith, sym, ap₂, subst, ℕ, Bool, true}
pub use Rattle.std.proofs.Common.{false, not, ◌&&◌, cond, ◌++◌, filter, Option, Some, None, is_none, ◌==◌, ◌||◌, ◌+◌}
pub use Rattle.std.proofs.Common.{◌-◌, nat_lt, nat_le, max, min, map}
pub use Rattle.trace_events.specs.Event.{Event}
pub use Rattle.trace_log_wrappers.specs.Brief.{with_event, brief_of, IsBrief, in_look, with_telling, with_reading}
pub use Rattle.trace_log_wrappers.specs.Brief.{with_early_reading, with_round}
pub use Rattle.std.specs.List.{list_any, list_all}
pub use Rattle.std.specs.Option.{option_map_or}
pub use Rattle.std.proofs.lemmas.Bool.{and_parts, or_parts, not-true, false≢true}
pub use Rattle.init_words.specs.declared.entries.Entry.{Entry}
pub use Rattle.init_words.specs.declared.levels.Level.{Level}
pub use Rattle.init_words.specs.declared.orders.OrderKind.TheVariants.{Look, Start, Term, Kill}
pub use Rattle.init_words.specs.Ids.{same_id}
pub use Rattle.init_words.specs.Actions.{is_limited, is_called_by, is_ondemand, stays_called}
pub use Rattle.inittab_text.specs.Tables.{entry_of, act_of, is_distinct}
pub use Rattle.trace_events.specs.declared.happenings.Happening.TheVariants.{Asked, Birth, NoBirth, Reaped, Still}
pub use Rattle.trace_events.specs.declared.happenings.Happening.TheVariants.{NoLook, Hit, Miss, Told, Clock, Nudge}
pub use Rattle.trace_events.specs.declared.happenings.Happening.TheVariants.{NewTable, NotRead, Enter, Call, Power}
pub use Rattle.trace_events.specs.declared.happenings.Happening.TheVariants.{Settle, Death, Got, Handed, Hold}
pub use Rattle.trace_events.specs.Past.{table_of, stage_of, is_child_of, unreaped_children, kept_children, open_of}
pub use Rattle.trace_events.specs.Past.{is_untold}
pub use Rattle.trace_events.specs.Past.{grace_of, is_child, is_dead, time_of, Child, newborn, known_children, undone_of}
pub use Rattle.trace_events.specs.Past.{open_orders, has_number, is_living, has_child, Open, is_quiet, is_idle}
pub use Rattle.trace_events.specs.Wanted.{starts_in, is_excluded, adds_or_changes, is_asked, is_called, is_order}
pub use Rattle.trace_events.specs.Wanted.{is_wanted}
pub use Rattle.trace_events.specs.Wanted.{is_owed}
pub use Rattle.trace_events.specs.Wishes.{is_level, goal_of, wants_reexec, wants_reread, last_requested_level}
pub use Rattle.trace_events.specs.Wishes.{is_power_pending}
pub use Rattle.trace_events.specs.Wishes.{is_letter_pending, was_booted, in_run, other_than, level_wish, powers}
pub use Rattle.trace_events.specs.Wishes.{letters}
pub use Rattle.trace_events.specs.Wishes.{is_request_pending}
pub use Rattle.trace_events.specs.Due.{is_served, is_settled, removed_ids, is_announced, wants_look, step_if, steps_if}
pub use Rattle.trace_events.specs.Due.{none_excluded, due_first, due_reexec, due_reread, due_level, power_steps}
pub use Rattle.trace_events.specs.Due.{letter_steps, due_news, record_ids, stop_step, stops_of, stops_among, due_stops}
pub use Rattle.trace_events.specs.Due.{can_start, start_steps, starts_among, due_starts, due_stage, settle_step}
pub use Rattle.trace_events.specs.Due.{due_settle, can_look, looks_among, due_looks, same_step, is_due}
pub use Rattle.trace_events.specs.Lawful.{has_startable_entry, is_in_turn, is_limited_id, is_free, is_due_hold}
pub use Rattle.trace_events.specs.Lawful.{may_term}
pub use Rattle.trace_events.specs.Lawful.{may_kill, broken, is_lawful, Fault, breach_at, earlier, first_breach}
pub use Rattle.trace_events.specs.declared.steps.Goal.{Goal}
pub use Rattle.trace_events.specs.Sound.{may_come, is_sound}
pub use Rattle.trace_laws.proofs.Keeps.{asked_free, free_told, sound_holds, sound_ind}
pub use Rattle.init_words.proofs.Same.{same_id-is, same_id-from, same_id-self}
pub use Rattle.init_words.proofs.Tests.{any_same, is_none-is, same_tests, filter_within}
pub use Rattle.trace_laws.proofs.Orders.{told_same, told_other, told_known, reaped_other, same_has, undone_is_open}
pub use Rattle.trace_laws.proofs.Orders.{open_listed}
pub use Rattle.trace_log_wrappers.specs.Readings.{are_looks_free, law_broken_by, first_broken, lasting_events}
pub use Rattle.trace_log_wrappers.specs.Readings.{is_lasting}
pub use Rattle.init_words.specs.declared.levels.Letter.{Letter}
pub use Rattle.init_words.specs.declared.levels.Mark.TheVariants.{OnCall}
pub use Rattle.init_words.specs.declared.stages.Stage.TheVariants.{Boot, Sysinit, Run}
pub use Rattle.init_words.specs.declared.orders.PowerKind.{PowerKind}
pub use Rattle.init_words.specs.Levels.{names, same_letter}
pub use Rattle.init_words.specs.Orders.{same_power, same_ask}
pub use Rattle.trace_events.specs.Spells.{untold_hits, has_untold_miss, is_birth_of, in_spell, spell_hits, tells_miss}
pub use Rattle.trace_events.specs.Spells.{is_missed, stop_due, told_at}
pub use Rattle.trace_events.specs.Timing.{start_times, hold_times, is_held, is_full}
pub use Rattle.trace_laws.proofs.Laws.{sound_lawful, lawful_unbroken}
pub use Rattle.std.proofs.lemmas.List.Folds.{list_any-append}
pub use Rattle.respawn_limit.specs.declared.TheConstants.{HOLD, STARTS, WINDOW}
pub use Rattle.init_words.specs.declared.stages.Stage.{Stage}
pub use Rattle.init_words.specs.Entries.{waited_of}
pub use Rattle.trace_events.specs.declared.steps.Step.{Step}
pub use Rattle.trace_laws.proofs.Settling.{same_any}
pub use Rattle.std.proofs.lemmas.Option.{none-some, same_Some}
pub use Rattle.trace_log_wrappers.specs.declared.held.HeldBack.{HeldBack}
pub use Rattle.trace_log_wrappers.specs.declared.held.HeldLook.{HeldLook}
pub use Rattle.trace_log_wrappers.specs.declared.held.HeldLook.TheVariants.{Ordered, FoundNothing}
pub use Rattle.trace_log_wrappers.specs.Holding.{round_events, reading_events, held_events, is_bare, held_back}
pub use Rattle.trace_log_wrappers.specs.Holding.{held_behind}
pub use Rattle.trace_log_wrappers.specs.Holding.{written_of, is_round_or_reading, ends_look, Settled, Holds, next_by}
pub use Rattle.trace_log_wrappers.specs.Holding.{next_held, newly_by, newly_written}
pub use Rattle.init_words.specs.declared.orders.OrderKind.{OrderKind}
pub use Rattle.trace_laws.proofs.Told.{kept_known}
pub use Rattle.trace_laws.proofs.Births.{sound_step}
pub use Rattle.trace_laws.proofs.Kills.{hits_told}
pub use Rattle.trace_laws.proofs.Spells.{missed_none, spell_still, missed_still, spell_nudge, spell_told, missed_told}
pub use Rattle.trace_laws.proofs.Spells.{misses_told}
