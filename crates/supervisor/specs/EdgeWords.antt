-- Names from other crates that the definitions and clauses of this crate use.
pub use Rattle.trace_events.specs.declared.happenings.Happening.TheVariants.{Asked, NotRead, Handed, NewTable, Got}
pub use Rattle.trace_events.specs.declared.steps.Goal.{Goal}
pub use Rattle.trace_events.specs.Event.{Event}
pub use Rattle.trace_log.specs.Logs.{LogState}
pub use Rattle.host_calls.specs.declared.calls.Call.TheVariants.{Start, Look, Signal, Announce, ReadTables, Carry, Late}
pub use Rattle.host_calls.specs.declared.calls.Call.TheVariants.{Clock, TakeBytes, Pause}
pub use Rattle.host_calls.specs.Calls.{HostCall, TextRead, PartsRead, text_read, parts_read, front_read}
pub use Rattle.initctl_frame.specs.Blocks.{PartialBlock, requests_in_blocks, remainder_of}
pub use Rattle.core_model.specs.State.{CoreState}
pub use Rattle.trace_events.specs.Past.{unreaped_children, open_of, table_of}
pub use Rattle.host_calls.specs.declared.calls.Reply.TheVariants.{Now, Later}
pub use Rattle.host_calls.specs.Held.{CallsLeaveHeld, HeldChildren, holds_number}
pub use Rattle.trace_events.specs.declared.steps.Step.{Step}
pub use Rattle.trace_events.specs.Due.{due, first, same_step}
pub use Rattle.trace_events.specs.Range.{are_short, is_seconds, is_short}
pub use Rattle.trace_events.specs.Run.{step_in}
pub use Rattle.trace_events.specs.Sound.{is_sound, may_come}
pub use Rattle.init_words.specs.Parts.{texts_of}
pub use Rattle.inittab_text.specs.Parts.{are_readable, table_of_texts, faults_of_parts}
pub use Rattle.host_calls.specs.declared.calls.HostFault.{HostFault}
