-- Names that all proofs of this crate import.
pub use Rattle.std.proofs.Common.{◌≡◌, ℕ, zero, suc, ◌+◌, ◌<◌, ◌≤◌, Bool, true, false, cond, List, [], ◌∷◌, ◌++◌}
pub use Rattle.std.proofs.Common.{length, get_or, drop, map, refl, sym, ap, ◌∙◌, subst, arith, append_assoc, not, ◌&&◌}
pub use Rattle.std.proofs.Common.{◌||◌, take, codes, if◌then◌else◌, find, Option, Some, None, is_some, Result, Ok, Err}
pub use Rattle.std.proofs.Common.{IfErr, OnOk, string_bytes, inl, inr}
pub use Rattle.std.specs.List.{AllByRecursion, filter, sum_by, list_any, filter_map, cons_option}
pub use Rattle.std.specs.Str.{bytes_eq, byte}
pub use Rattle.std.proofs.lemmas.Bool.{false_from_ne_true, true≢false, and_parts, or_from, or_left, or_parts, or_right}
pub use Rattle.std.proofs.Math.Bool.{or-false, or_assoc}
pub use Rattle.std.proofs.lemmas.Slice.Eq.{bytes_eq-Decides}
pub use Rattle.rc_links.specs.Links.{in_byte_order, is_before, placed, linked_name, links_at, level_text, plan_text}
pub use Rattle.rc_links.specs.Links.{link_line, start_links, stop_links}
pub use Rattle.std.proofs.lemmas.List.{append-nil, drop_all, drop_more, take_all}
pub use Rattle.init_words.specs.declared.levels.Level.{Level}
pub use Rattle.rc_links.specs.ChangeText.{ChangeText}
pub use Rattle.rc_links.specs.Changes.{changes_of, is_in_way, is_left_over, is_missing, is_ours, is_stale, making}
pub use Rattle.rc_links.specs.Changes.{is_numbered, is_taken, removal, settled, targets_of}
pub use Rattle.rc_links.specs.Entries.{same_entry, entry_of}
pub use Rattle.rc_links.specs.EntryText.{EntryText}
pub use Rattle.rc_links.specs.FolderText.{FolderText}
pub use Rattle.rc_links.specs.Folders.{change_of, folder_text}
pub use Rattle.rc_links.specs.Kept.{is_link_of, kept_script, levels_in, with_levels, kept_plan}
pub use Rattle.rc_links.specs.Mending.{AreApart, HoldSame, IsMended, Stays, StaysIn, behind, changed, held_behind}
pub use Rattle.rc_links.specs.PlannedText.{PlannedText}
pub use Rattle.init_words.specs.declared.levels.Level.TheVariants.{L2, L3, L5, L0}
pub use Rattle.std.specs.Option.{option_or, unwrap_or}
pub use Rattle.rc_links.specs.ScriptText.{ScriptText}
pub use Rattle.rc_links.specs.Scripts.{position_from, place_of, has_script, is_system, doubled, double_from, missing_of}
pub use Rattle.rc_links.specs.Scripts.{missing_from, named, need, needs_from, needs_of, places_of}
pub use Rattle.rc_links.specs.declared.needs.Phase.{Phase}
pub use Rattle.rc_numbers.specs.Numbering.{InRange, HasNoNumbering, IsCycle}
pub use Rattle.rc_links.specs.Faults.{Wrong, Round, IsAnyDeep, IsRound, IsTooDeep, FaultSatisfies, IsDouble}
pub use Rattle.rc_links.specs.Plans.{AreLeast, IsCycleOf, IsPlan, IsProvided, IsRefused, IsShort, names_at, planned}
pub use Rattle.rc_links.specs.Plans.{planned_all}
pub use Rattle.rc_links.specs.AllLast.{other_names}
pub use Rattle.rc_links.specs.Tables.{position_in, known_again, HasPlaces, is_known, is_unknown}
pub use Rattle.rc_links.specs.Sets.{HasEntries, HasLinks, HasNames, HasNamesOf, has_link, is_among, is_entry_of}
pub use Rattle.rc_links.specs.Sets.{is_gone_by, is_removed_by, is_taken_by, levels_by}
