-- Names that the proofs of this crate share.
pub use Rattle.std.proofs.Common.{◌≡◌, refl, sym, ◌∙◌, subst, Bool, true, false, ℕ, zero, suc, ◌+◌, List, [], ◌∷◌, ◌++◌}
pub use Rattle.std.proofs.Common.{drop, slice_get, Option, None, is_none, append_assoc, arith, ap, cond, not, ◌||◌, ◌-◌}
pub use Rattle.std.proofs.Common.{◌≤◌, ◌<◌, map, length, Some, ◌==◌, ◌^◌, Ok, ◌&&◌, filter, take, get_or, nat_lt, find}
pub use Rattle.std.proofs.Common.{add-one, length-drop, nat_le, rules}
pub use Rattle.std.specs.List.{list_any, list_all, count_by, remove, AllByRecursion, cons_option, insert}
pub use Rattle.std.specs.List.{slice_index_or, AllWithin}
pub use Rattle.std.specs.Option.{option_to_list, IfSome, option_copied, option_map, option_copied_mut}
pub use Rattle.std.proofs.lemmas.List.Folds.{list_any-append, list_all-append}
pub use Rattle.init_words.specs.declared.entries.Entry.{Entry}
pub use Rattle.init_words.proofs.Same.{same_id-sym, same_id-is, same_id-self}
pub use Rattle.inittab_text.specs.Tables.{has_id, entry_of, is_distinct}
pub use Rattle.inittab_text.proofs.Entries.{drop-slice_get, lookup-find, values-push, keys-push, one_made}
pub use Rattle.child_table.specs.State.{SlotState, new_record}
pub use Rattle.child_table.specs.Times.{is_timely, are_timely, is_stop_timely}
pub use Rattle.child_table.specs.Lists.{are_distinct, record_by_id, is_busy, changed, with_changed, is_record_of}
pub use Rattle.child_table.specs.Lists.{ids_of_records, order_of, refusal_of, without, is_numbered, id_of_child}
pub use Rattle.child_table.specs.Lists.{after_answer_to, can_ask, can_ask_of, has_record_of}
pub use Rattle.child_table.specs.Adopting.{adopted, left_over, left_one, entry_records, left_records, after_adopt}
pub use Rattle.child_table.specs.Adopting.{is_left_over}
pub use Rattle.init_words.specs.declared.stages.Stage.{Stage}
pub use Rattle.init_words.specs.declared.orders.OrderKind.{OrderKind}
pub use Rattle.init_words.specs.declared.orders.Answer.{Answer}
pub use Rattle.child_table.specs.Indexing.{child_of, termed_of, changes_child, changes_stop, passes, without_id}
pub use Rattle.child_table.specs.Indexing.{AreKeysOf}
pub use Rattle.child_table.specs.Indexing.{IsIndex, count_for, is_for, are_sorted, termed_at, first_key, IsFound}
pub use Rattle.child_table.specs.Indexing.{is_at}
pub use Rattle.child_table.specs.Changes.{after_order, after_answer, after_enter, is_over, after_nudge}
pub use Rattle.child_table.specs.Changes.{after_call, after_hold}
pub use Rattle.child_table.specs.Judging.{after_judge, is_excluded, judged, judged_child}
pub use Rattle.std.proofs.lemmas.Bool.{false_from_ne_true, eqb-true, false≢true, and_parts, and_from, or_from, not-true}
pub use Rattle.std.proofs.lemmas.Bool.{not_from_false, le-ltb, eq-eqb, or_parts, ltb-true, ltb-false, lt-ltb, le-leb}
pub use Rattle.std.proofs.lemmas.List.{length-map, length_push, length-take-le, take_more, get_or-drop}
pub use Rattle.std.proofs.lemmas.List.Sums.{sum_by-cons, sum_by_push, count_by-le-length, length-filter}
pub use Rattle.std.specs.Map.{values_of, lookup, remove_entry, set_value}
pub use Rattle.indexmap.specs.IndexMap.{IndexMap, IsUnique, index_map_len, WritesThrough, insert_entry}
pub use Rattle.init_words.specs.Ids.{same_id}
pub use Rattle.child_table.specs.declared.counts.Counts.{Counts}
pub use Rattle.child_table.specs.Stopping.{is_stop_due, is_termed, is_termed_at, is_termed_before, IsFirstTermed}
pub use Rattle.child_table.specs.Counting.{counts_of, plus, minus, IsWithin, AreSmall}
pub use Rattle.child_table.specs.declared.index.Keyed.{Keyed}
pub use Rattle.std.specs.Prelude.{Vec}
pub use Rattle.std.specs.Vec.{vec_capacity}
pub use Rattle.child_table.specs.declared.children.KnownChild.{KnownChild}
pub use Rattle.respawn_limit.specs.declared.TheConstants.{STARTS, CLOCK_LIMIT}
pub use Rattle.std.proofs.lemmas.Map.Made.{map_same_pairs}
pub use Rattle.std.specs.Vec.Iter.{into_iter_items, into_iter_len}
