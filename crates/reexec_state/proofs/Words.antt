-- Names that the proofs of this crate share.
pub use Rattle.std.proofs.Common.{◌≡◌, refl, Bool, true, false, cond, Option, Some, None, sym, ap, ◌∙◌, subst, ℕ, ◌+◌}
pub use Rattle.std.proofs.Common.{◌^◌, ◌<◌, List, map, arith, ◌&&◌, rules, drop, Err}
pub use Rattle.init_words.specs.declared.stages.Stage.{Stage}
pub use Rattle.init_words.specs.Levels.{same_level}
pub use Rattle.initctl_frame.specs.declared.requests.HeardRequest.{HeardRequest}
pub use Rattle.trace_events.specs.declared.steps.Goal.{Goal}
pub use Rattle.trace_events.specs.declared.steps.Step.{Step}
pub use Rattle.trace_events.specs.declared.steps.Step.TheVariants.{Enter, Call, Power, Reread, Order, Hold, Settle}
pub use Rattle.trace_events.specs.declared.steps.Step.TheVariants.{Reexec, Idle}
pub use Rattle.core_model.specs.declared.parts.CoreFields.{CoreFields}
pub use Rattle.core_model.specs.State.{CoreState}
pub use Rattle.core_model.specs.Steps.{after_got, after_step, fields_after_level, after_handed_on, wished}
pub use Rattle.std.specs.List.{list_all}
pub use Rattle.core_model.specs.Parts.{record_of, state_of}
pub use Rattle.core_text.specs.Range.{has_ranged_words, has_short_seconds, is_goal, is_seconds, is_stage, passes}
pub use Rattle.core_text.specs.Refused.{IsTextIn, IsTextOf}
