use Rattle.std.proofs.Common.{rules, ◌≡◌, ◌∙◌, ap, ◌++◌, [], ◌∷◌, Some, None}
use Rattle.std.specs.List.{filter_map}
use Rattle.text_lines.specs.Lines.{cut}
use Rattle.trace_pieces.specs.Pieces.{number_in, numbers_among}
use Rattle.trace_pieces.proofs.NameLemmas.{cut-shorter, numbers-cut, numbers-whole}
use Rattle.trace_pieces.proofs.names.numbers_among.Goals as goal

pub loop-name-smaller : goal.loop-name-smaller
loop-name-smaller c =
    let name = c.in-Some.name.now in
    let after = c.in-Some.after.now in
    let found : cut 0 c.loop-name.rest.now ≡ Some (name, after) = search rules in
    cut-shorter 0 c.loop-name.rest.now name after found

pub loop-name-preserved : goal.loop-name-preserved
loop-name-preserved c =
    let name = c.in-Some.name.now in
    let after = c.in-Some.after.now in
    let before = c.loop-name.numbers.items in
    let found : cut 0 c.loop-name.rest.now ≡ Some (name, after) = search rules in
    let added : c.add_number.new.numbers.items ≡ before ++ filter_map (number_in c.args.trace.now) (name ∷ []) =
    search rules in
    ap (λ numbers. numbers ++ numbers_among c.args.trace.now after) added
    ∙ numbers-cut c.args.trace.now c.loop-name.rest.now name after before found ∙ c.loop-name.invariant

pub returns : goal.returns
returns c =
    let rest = c.loop-name.rest.now in
    let before = c.loop-name.numbers.items in
    let none : cut 0 rest ≡ None = search rules in
    let added : c.add_number-2.new.numbers.items ≡ before ++ filter_map (number_in c.args.trace.now) (rest ∷ []) =
    search rules in
    added ∙ ap (λ numbers. before ++ numbers) (numbers-whole c.args.trace.now rest none) ∙ c.loop-name.invariant
