use Rattle.initview_command.proofs.Words.{rules, ◌≡◌, ◌∙◌, ap, ◌++◌}
use Rattle.initview_lines.specs.Reasons.{why_in}
use Rattle.initview_command.proofs.explaining.explanation.Goals as goal

pub returns : goal.returns
returns c = λ now seen.
    let name : c.as_bytes.result.now ≡ c.args.path.now = search rules in
    c.in_ok-append.ensures.items
    ∙ ap (λ ls. ls ++ c.args.told.now.items)
    (c.in_ok-lines.ensures now seen ∙ ap (λ n. why_in n c.args.chain.now now) name)
