use Rattle.child_table.proofs.Words.{nat_lt, rules, Keyed}
use Rattle.std.proofs.lemmas.List.Sorted.{IsPartitionPoint-from_clause}
use Rattle.child_table.proofs.Sorted.{sorted_parts}
use Rattle.child_table.proofs.index.first_from.Goals as goal

pub returns-clause-point : goal.returns-clause-point
returns-clause-point c = IsPartitionPoint-from_clause (λ (d : Keyed). nat_lt d.key c.args.key) c.args.items.now
    c.partition_point.result c.partition_point.ensures.partitioned (sorted_parts c.args.key c.args.items.now c.requires)
    (λ a r f h. search rules)
