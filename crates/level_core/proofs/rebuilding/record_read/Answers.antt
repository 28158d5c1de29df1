use Rattle.level_core.proofs.Words.{◌≡◌, true, sym, ◌∙◌, IsNonDecreasing, and_parts, are_paired, is_whole}
use Rattle.level_core.proofs.Words.{is_non_decreasing}
use Rattle.level_core.proofs.Words.{ordered_from_never}
use Rattle.level_core.proofs.rebuilding.record_read.Goals as goal

pub of-requires-clause-ordered : goal.of-requires-clause-ordered
of-requires-clause-ordered c =
    let whole : is_whole c.args.plain.now ≡ true = sym c.is_whole.ensures ∙ c.if-not-is_whole.false in
    let ordered : IsNonDecreasing c.args.plain.now.starts.items =
    ordered_from_never c.args.plain.now.starts.items (and_parts (are_paired c.args.plain.now.child c.args.plain.now.act)
    (is_non_decreasing c.args.plain.now.starts.items) whole).1 in
    rw c.as_slice.ensures.value ordered
