-- Names that all proofs of this crate import.
pub use Rattle.std.proofs.Common.{◌≡◌, ◌∙◌, refl, sym, ap, ℕ, ◌+◌, Bool, true, false, if◌then◌else◌, List, [], ◌∷◌}
pub use Rattle.std.proofs.Common.{◌++◌, Option, Some, None, append_assoc, arith, filter, length, map, length-append}
pub use Rattle.initview_timeline.specs.declared.lives.Life.{Life}
pub use Rattle.initview_timeline.specs.declared.marks.Shown.{Shown}
pub use Rattle.initview_timeline.specs.declared.marks.TimelineMark.{TimelineMark}
pub use Rattle.initview_timeline.specs.declared.pieces.Piece.{Piece}
pub use Rattle.initview_timeline.specs.declared.rows.State.{State}
pub use Rattle.initview_timeline.specs.Lives.{is_for, last_after, life_after, lives_after, lives_from, lives_of}
pub use Rattle.initview_timeline.specs.Lives.{marks_for, ids_from}
pub use Rattle.initview_timeline.specs.Pieces.{bars_of, has_failed, life_bars, life_signs, mark_bars, mark_signs}
pub use Rattle.initview_timeline.specs.Pieces.{marks_bars, marks_signs, next_begin, or_last, signs_of, stop_bar}
pub use Rattle.initview_timeline.specs.Pieces.{Drawing}
pub use Rattle.initview_timeline.specs.Rows.{Scene, due_bars, due_from, is_waited, of_stage, state_of, table_ids}
pub use Rattle.initview_timeline.specs.Rows.{scene_of, is_held, row_of, rows_of, state_from}
pub use Rattle.trace_events.specs.Past.{time_of}
pub use Rattle.initview_timeline.specs.Marks.{SeenMarks, mark_at, shown_of, start_after, sent_for}
pub use Rattle.initview_timeline.specs.declared.marks.Shown.TheVariants.{Read, Entered, Settled, Born, NotBorn, Ended}
pub use Rattle.initview_timeline.specs.declared.marks.Shown.TheVariants.{Sent, Held}
pub use Rattle.initview_timeline.specs.Lives.{id_of}
pub use Rattle.initview_timeline.specs.Pieces.{begins, is_start}
pub use Rattle.initview_timeline.specs.Rows.{AreShown, IsCommon, among, had_marks, is_begun, is_hold, is_near, shown_to}
pub use Rattle.initview_timeline.specs.Rows.{starts_there, waits}
pub use Rattle.std.proofs.Common.{◌||◌, ◌&&◌, cond, min, nat_lt, rules}
pub use Rattle.std.proofs.lemmas.Bool.{false≢true, or_left, or_right}
pub use Rattle.std.proofs.lemmas.List.Folds.{list_any-append}
pub use Rattle.std.specs.List.{list_any}
pub use Rattle.init_words.specs.Ids.{same_id}
pub use Rattle.init_words.proofs.Same.{same_id-is, same_id-self}
