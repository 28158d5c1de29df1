-- Names from other crates that the definitions and clauses of this crate use.
pub use Rattle.init_words.specs.declared.children.Status.{Status}
pub use Rattle.init_words.specs.declared.children.Status.TheVariants.{Exit}
pub use Rattle.init_words.specs.declared.stages.Stage.{Stage}
pub use Rattle.init_words.specs.Actions.{word_of, act_read}
pub use Rattle.inittab_text.specs.Written.{fields_written, is_table, is_empty, table_begun, text_of}
pub use Rattle.trace_events.specs.declared.steps.Goal.{Goal}
pub use Rattle.trace_text.specs.Lines.{level_word, stage_word, order_word}
pub use Rattle.child_table.specs.declared.children.Stop.{Stop}
pub use Rattle.child_table.specs.declared.children.Stop.TheVariants.{Due, Termed, Killed}
pub use Rattle.trace_events.specs.declared.call_sets.CallSet.{CallSet}
pub use Rattle.core_model.specs.declared.parts.CoreFields.{CoreFields}
pub use Rattle.core_model.specs.declared.parts.PlainSlot.{PlainSlot}
pub use Rattle.core_model.specs.Parts.{SavedState, record_of}
pub use Rattle.init_words.specs.Ids.{is_id, id_read, same_id}
pub use Rattle.respawn_limit.specs.declared.TheConstants.{STARTS}
pub use Rattle.text_lines.specs.Lines.{cut, pieces_of, after_lines, newlines, has_byte}
pub use Rattle.init_words.specs.declared.entries.Entry.{Entry}
pub use Rattle.trace_text.specs.Reading.{both, level_of_word, stage_of_word, order_of_word, seconds_of_word}
pub use Rattle.trace_text.specs.Reading.{child_of_word, code_of_word}
