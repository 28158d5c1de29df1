use Rattle.std.proofs.Common.{rules, ◌≡◌, sym, ◌∙◌, Some, None}
use Rattle.text_lines.specs.Lines.{cut}
use Rattle.trace_pieces.proofs.NameLemmas.{cut-shorter, name_at-cut, name_at-whole}
use Rattle.trace_pieces.proofs.names.name_at.Goals as goal

pub loop-after-smaller : goal.loop-after-smaller
loop-after-smaller c =
    let front = c.in-Some.field-0-0.now in
    let after = c.in-Some.after.now in
    let found : cut 47 c.loop-after.name.now ≡ Some (front, after) = search rules in
    cut-shorter 47 c.loop-after.name.now front after found

pub loop-after-preserved : goal.loop-after-preserved
loop-after-preserved c =
    let front = c.in-Some.field-0-0.now in
    let after = c.in-Some.after.now in
    let found : cut 47 c.loop-after.name.now ≡ Some (front, after) = search rules in
    sym (name_at-cut c.loop-after.name.now front after found) ∙ c.loop-after.invariant

pub returns : goal.returns
returns c =
    let none : cut 47 c.loop-after.name.now ≡ None = search rules in
    sym (name_at-whole c.loop-after.name.now none) ∙ c.loop-after.invariant
