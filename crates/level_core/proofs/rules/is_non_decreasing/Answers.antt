use Rattle.level_core.proofs.Words.{sym, ◌∙◌, never_from_sorted, ordered_from_never}
use Rattle.std.proofs.lemmas.List.Sorted.{non_decreasing_from_is_sorted}
use Rattle.level_core.proofs.rules.is_non_decreasing.Goals as goal

pub returns-clause-value : goal.returns-clause-value
returns-clause-value c = never_from_sorted c.args.times.now c.is_sorted.result
    (non_decreasing_from_is_sorted c.args.times.now c.is_sorted.result c.is_sorted.ensures.cases)

pub returns-clause-ordered : goal.returns-clause-ordered
returns-clause-ordered c sorted =
    ordered_from_never c.args.times.now (sym (never_from_sorted c.args.times.now c.is_sorted.result
    (non_decreasing_from_is_sorted c.args.times.now c.is_sorted.result c.is_sorted.ensures.cases)) ∙ sorted)
