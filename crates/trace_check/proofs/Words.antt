-- Names that the proofs of this crate share.
pub use Rattle.std.proofs.Common.{◌≡◌, refl, sym, ◌∙◌, ap, ℕ, Bool, true, false, not, ◌&&◌, ◌==◌, cond, List, [], ◌∷◌}
pub use Rattle.std.proofs.Common.{◌++◌, map, Option, Some, None, is_none, is_some, arith, ◌||◌, find, ◌-◌, nat_lt}
pub use Rattle.std.proofs.Common.{slice_get, take, filter, subst, ◌<◌, ◌≤◌, ◌+◌, length, reverse, take_all, drop}
pub use Rattle.std.proofs.Common.{get_or, replicate, codes, min, nat_le, max, suc, zero, le_refl, rules}
pub use Rattle.std.specs.Option.{option_map, option_map_or}
pub use Rattle.init_words.specs.declared.entries.Entry.{Entry}
pub use Rattle.init_words.specs.declared.stages.Stage.{Stage}
pub use Rattle.init_words.specs.Ids.{same_id}
pub use Rattle.inittab_text.specs.Tables.{entry_of, act_of, has_id, is_distinct}
pub use Rattle.trace_events.specs.declared.happenings.Happening.TheVariants.{NewTable, Enter, Birth, Reaped, Told}
pub use Rattle.trace_events.specs.declared.happenings.Happening.TheVariants.{Nudge, Settle, Call, Power, Asked, Hit}
pub use Rattle.trace_events.specs.declared.happenings.Happening.TheVariants.{Hold, Clock}
pub use Rattle.trace_events.specs.Event.{Event}
pub use Rattle.trace_events.specs.Past.{table_of, stage_of, time_of, Child, is_child_of, is_child, has_child, newborn}
pub use Rattle.trace_events.specs.Past.{unreaped_children, grace_of, open_of, kept_children}
pub use Rattle.trace_events.specs.Wanted.{is_excluded, may_live, starts_in, entries_before, is_called, is_wanted}
pub use Rattle.trace_events.specs.Wanted.{is_owed, is_order, is_asked}
pub use Rattle.trace_events.specs.Spells.{Signal, untold_hits, spell_hits, told_at, is_grace_over}
pub use Rattle.trace_events.specs.Lawful.{broken, has_startable_entry, is_in_turn, is_limited_id, is_free, is_due_hold}
pub use Rattle.trace_events.specs.Lawful.{may_term}
pub use Rattle.trace_events.specs.Lawful.{may_kill, Fault, breach_at, earlier, first_breach}
pub use Rattle.init_words.proofs.Same.{same_id-is, same_id-self, same_id-sym, same_id-apart}
pub use Rattle.init_words.proofs.Tests.{not_from, and_true, and_false, any_less, falsely, or_none, same_tests, any_same}
pub use Rattle.init_words.proofs.Tests.{Passing, passing, found_any, and_three, or_false, any_within, any_without}
pub use Rattle.init_words.proofs.Tests.{find_none, or_either, or_true}
pub use Rattle.trace_laws.proofs.Lone.{is_lone, lone_filter, lone_any, none_filtered}
pub use Rattle.trace_check.specs.declared.children.UnreapedChild.{UnreapedChild}
pub use Rattle.trace_check.specs.After.{is_numbered, child_after, child_may_live, is_child_excluded, earliest}
pub use Rattle.trace_check.specs.After.{term_after, StateAfterHappening}
pub use Rattle.trace_check.specs.After.{table_after, stage_after, grace_after, time_after, order_after, kept_after}
pub use Rattle.trace_check.specs.After.{is_changed, asked_after, is_named, stays_called_in, called_after, sent_after}
pub use Rattle.trace_check.specs.After.{starts_after, hold_after}
pub use Rattle.trace_check.specs.Reading.{child_of, has_sent, living_of, least_term, term_of, newest, Reads, calls_of}
pub use Rattle.std.specs.List.{list_any, list_all}
pub use Rattle.std.specs.Map.{keys_of}
pub use Rattle.std.proofs.lemmas.Bool.{and_parts, false≢true, not-true, or_parts, and_from, not_from_true, ltb-true}
pub use Rattle.std.proofs.lemmas.Bool.{lt-ltb, or_left}
pub use Rattle.std.proofs.lemmas.Map.Made.{is_some-lookup, filter_same_pairs}
pub use Rattle.init_words.specs.declared.levels.Level.{Level}
pub use Rattle.trace_events.specs.Wishes.{is_level}
pub use Rattle.trace_check.specs.State.{JudgeState, at, among, times_at}
pub use Rattle.trace_check.specs.Flaws.{is_alive, is_excluded_in, none_excluded_in, NoneExcludedIfCalm, calm_after}
pub use Rattle.trace_check.specs.Flaws.{is_placed_in}
pub use Rattle.trace_check.specs.Flaws.{IsUnowedPrefix, is_over_with, unowed_count_after, is_in_turn_in, is_served_in}
pub use Rattle.trace_check.specs.Flaws.{is_settled_in, flaw_in, is_wanted_in, is_owed_in}
pub use Rattle.trace_check.specs.Flaws.{is_held_in, is_full_in, is_free_in, is_due_hold_in, is_over_in, may_kill_in}
pub use Rattle.respawn_limit.specs.declared.TheConstants.{HOLD, STARTS, WINDOW, CLOCK_LIMIT}
pub use Rattle.trace_events.specs.Timing.{start_times, hold_times, is_held, is_full}
pub use Rattle.std.proofs.lemmas.List.Folds.{list_any-append, list_any_more}
pub use Rattle.init_words.specs.declared.orders.OrderKind.{OrderKind}
pub use Rattle.init_words.specs.declared.orders.OrderKind.TheVariants.{Start, Term, Kill}
pub use Rattle.std.proofs.lemmas.Option.{none-some, slice_get_within, get_or_from_slice_get}
pub use Rattle.trace_check.specs.Judging.{Judging, Judged}
pub use Rattle.std.proofs.lemmas.Bool.Decides.{nat_tests}
