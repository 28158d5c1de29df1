use Rattle.child_table.proofs.Words.{◌≡◌, ◌≤◌, true, length, rules, arith}
use Rattle.std.specs.Result.{is_ok}
use Rattle.child_table.proofs.Sorted.{sorted_insert}
use Rattle.child_table.proofs.index.put.Goals as goal

pub returns-else-is_err-clause-sorted : goal.returns-else-is_err-clause-sorted
returns-else-is_err-clause-sorted g c =
    let ok : is_ok c.insert.result ≡ true = search rules in
    let within : c.first_from-position.result ≤ length c.args.items.now.items =
    rw c.as_slice.ensures.value at c.first_from-position.ensures.within in
    rw (c.insert.ensures.items, ok) (sorted_insert c.saturating_add.result c.args.items.now.items
    c.first_from-position.result c.in-Some.item (omega (arith, c.saturating_add.ensures))
    (omega (arith, c.saturating_add.ensures)) within c.requires.sorted
    (rw c.as_slice.ensures.value at c.first_from-position.ensures.point))
