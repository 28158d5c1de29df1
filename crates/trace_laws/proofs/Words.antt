-- Names that all proofs of this crate import.
pub use Rattle.std.proofs.Common.{◌≡◌, refl, sym, ◌∙◌, ap, ℕ, Bool, true, false, not, ◌&&◌, ◌||◌, ◌==◌, List, [], ◌∷◌}
pub use Rattle.std.proofs.Common.{◌++◌, filter, arith, ◌≤◌, cond, length, lit≤, subst, inl, inr, Option, Some, None}
pub use Rattle.std.proofs.Common.{is_some, ◌⊎◌, is_none, map, append_assoc, ◌+◌, nat_le, le_trans, le_refl}
pub use Rattle.std.proofs.Common.{length-append, find, ◌-◌, nat_lt, drop, suc, zero, codes}
pub use Rattle.std.specs.List.{list_any, list_all}
pub use Rattle.std.proofs.lemmas.Bool.{and_parts, or_parts, eqb-true, false≢true, and_from, and_right, or_left}
pub use Rattle.std.proofs.lemmas.Bool.{or_right, or_from, not_from_true, not-true, and_left, le-leb, leb-true}
pub use Rattle.std.proofs.lemmas.Bool.{ltb-false, leb-false, le-ltb, not_from_false}
pub use Rattle.init_words.specs.declared.orders.OrderKind.TheVariants.{Look, Start, Term, Kill}
pub use Rattle.init_words.specs.Ids.{same_id}
pub use Rattle.trace_events.specs.declared.happenings.Happening.TheVariants.{Birth, NoBirth, Reaped, Still, NoLook, Hit}
pub use Rattle.trace_events.specs.declared.happenings.Happening.TheVariants.{Miss, Told, NewTable, Asked, Death, Clock}
pub use Rattle.trace_events.specs.declared.happenings.Happening.TheVariants.{Nudge}
pub use Rattle.trace_events.specs.declared.steps.Goal.{Goal}
pub use Rattle.trace_events.specs.Event.{Event}
pub use Rattle.trace_events.specs.Past.{Child, is_child_of, is_child, undone_of, is_untold, unreaped_children}
pub use Rattle.trace_events.specs.Past.{known_children}
pub use Rattle.trace_events.specs.Past.{has_child, newborn, kept_children, table_of, stage_of, open_of, is_dead}
pub use Rattle.trace_events.specs.Past.{is_quiet, is_idle, has_number, grace_of, time_of, Open, open_orders}
pub use Rattle.trace_events.specs.Wanted.{is_order, is_owed_before, starts_in, starts_now, adds_or_changes, is_asked}
pub use Rattle.trace_events.specs.Wanted.{is_called}
pub use Rattle.trace_events.specs.Wanted.{is_wanted, has_no_running_child, is_owed, is_excluded, entries_before}
pub use Rattle.trace_events.specs.Wanted.{may_live}
pub use Rattle.trace_events.specs.Sound.{may_come, is_sound}
pub use Rattle.trace_events.specs.Agreement.{has_untold_birth, has_untold_end, is_unreaped, is_known, Agrees}
pub use Rattle.init_words.proofs.Same.{same_id-is, same_id-from, same_id-self, same_ask-is, same_level-is}
pub use Rattle.init_words.proofs.Same.{same_id-apart, same_id-sym, same_ask-self, same_level-self, same_power-self}
pub use Rattle.init_words.proofs.Same.{same_stage-self}
pub use Rattle.init_words.proofs.Tests.{any_within, any_without, falsely, not_from, filter_none, both_ways, or_either}
pub use Rattle.init_words.proofs.Tests.{and_false, any_less, any_filtered, is_none-is, all_less, all_fail, same_tests}
pub use Rattle.init_words.proofs.Tests.{any_none, or_none, Passing, passing, or_false, any_filter, filter_within}
pub use Rattle.init_words.proofs.Tests.{filter_without, and_true, found_any, find_none}
pub use Rattle.trace_events.specs.Lawful.{has_no_unreaped_child, has_startable_entry, is_in_turn}
pub use Rattle.trace_events.specs.Lawful.{no_unreaped_is_excluded, may_term, is_free, is_due_hold}
pub use Rattle.trace_events.specs.Lawful.{may_kill, broken, is_lawful, first_breach, is_limited_id}
pub use Rattle.std.specs.Option.{option_map_or, option_map}
pub use Rattle.std.proofs.lemmas.Option.{same_Some, none-some}
pub use Rattle.init_words.specs.declared.entries.Entry.{Entry}
pub use Rattle.init_words.specs.declared.stages.Stage.{Stage}
pub use Rattle.init_words.specs.declared.orders.OrderKind.{OrderKind}
pub use Rattle.init_words.specs.Orders.{same_ask, is_hit, is_miss, answers}
pub use Rattle.init_words.specs.Actions.{wanted_by, is_limited, starts_by, served_by, waited_by, stays_called}
pub use Rattle.init_words.specs.Entries.{starts_of, waited_of}
pub use Rattle.inittab_text.specs.Tables.{entry_of, is_distinct, has_id, act_of, ids_of}
pub use Rattle.trace_events.specs.Due.{next_stage, first, is_due, step_if, steps_if, none_excluded, due_first}
pub use Rattle.trace_events.specs.Due.{due_reexec, due_reread, enter_level, due_level, power_steps, letter_steps}
pub use Rattle.trace_events.specs.Due.{due_news, record_ids, stop_step, stops_of, stops_among, due_stops, can_start}
pub use Rattle.trace_events.specs.Due.{start_steps, starts_among, due_starts, is_over, due_stage, is_announced}
pub use Rattle.trace_events.specs.Due.{is_settled, settle_step, due_settle, looks_among, due_looks, due, same_step}
pub use Rattle.trace_events.specs.Due.{can_look, is_served, removed_ids, wants_look}
pub use Rattle.trace_events.specs.Wishes.{goal_of, level_wish, powers, letters, is_request_pending, in_run}
pub use Rattle.trace_events.specs.Wishes.{last_requested_level}
pub use Rattle.trace_events.specs.Wishes.{wants_reexec, wants_reread, is_level, other_than}
pub use Rattle.trace_laws.specs.Runs.{is_awaited, BeginsWith, is_undisturbed, taken, is_mild}
pub use Rattle.init_words.specs.declared.levels.Level.{Level}
pub use Rattle.init_words.specs.declared.levels.Letter.{Letter}
pub use Rattle.init_words.specs.declared.orders.PowerKind.{PowerKind}
pub use Rattle.trace_events.specs.declared.steps.Step.{Step}
pub use Rattle.trace_events.specs.declared.steps.Step.TheVariants.{Reread, Order, Reexec, Idle}
pub use Rattle.trace_events.specs.Spells.{stop_due, Signal, stop_by, untold_hits, told_at, in_spell, spell_hits}
pub use Rattle.trace_events.specs.Spells.{is_grace_over, has_untold_miss, is_missed, tells_hits}
pub use Rattle.trace_events.specs.Timing.{is_held, is_full, start_times, hold_times}
pub use Rattle.std.proofs.lemmas.List.{append-nil, nil_from_length}
pub use Rattle.init_words.specs.declared.actions.Act.{Act}
pub use Rattle.init_words.specs.declared.levels.Mark.{Mark}
pub use Rattle.init_words.specs.declared.levels.Mark.TheVariants.{At}
pub use Rattle.trace_laws.specs.Orderly.{keeps_order, is_orderly}
pub use Rattle.trace_laws.specs.Plans.{is_started, started_in, start_of, boot_before, steps_along, plan_of}
pub use Rattle.std.proofs.lemmas.List.Elements.{filter-append}
pub use Rattle.trace_events.specs.Bounds.{at_most_one_kill, targets, is_spaced, obeys_respawn_limit, hits_ordered_child}
pub use Rattle.std.proofs.lemmas.List.Folds.{list_any-append}
pub use Rattle.respawn_limit.specs.declared.TheConstants.{HOLD, STARTS, WINDOW}
pub use Rattle.trace_events.specs.Run.{is_run, is_next}
pub use Rattle.init_words.specs.declared.orders.Answer.{Answer}
pub use Rattle.trace_events.specs.Answered.{answered_of, child_after}
