use Rattle.inittab_lint.proofs.Words.{◌≡◌, ◌++◌, map, filter, length, at_line, holds, warnings_by}
use Rattle.inittab_text.specs.Lines.{fields_at}
use Rattle.inittab_lint.proofs.traps.add_kinds.Given as goal

-- the warnings found so far, followed by those of the remaining kinds that apply, are the earlier ones and all that
-- apply
abbrev pub invariant-loop-kind : goal.invariant-loop-kind
invariant-loop-kind g l =
    l.found.items ++ map (at_line l.part l.line) (filter (holds l.act l.fields.levels.now l.fields.process.now) l.rest)
    ≡ l.fn.found.items ++ map (at_line l.part l.line) (warnings_by l.act (fields_at l.fields))

abbrev pub decreases-loop-kind : goal.decreases-loop-kind
decreases-loop-kind g l = length l.rest
