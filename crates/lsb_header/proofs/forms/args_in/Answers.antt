use Rattle.lsb_header.proofs.Words.{◌≡◌, ◌∙◌, true, Some, None, is_some, ap}
use Rattle.lsb_header.specs.Forms.{args_in}
use Rattle.lsb_header.proofs.TextLemmas.{args_in_cut}
use Rattle.lsb_header.proofs.forms.args_in.Goals as goal

pub returns-in_err-args : goal.returns-in_err-args
returns-in_err-args c =
    let there : is_some (args_in c.args.keyword c.args.line.now) ≡ true = cc in
    absurd (args_in_cut c.args.keyword c.args.line.now None there c.in_err-args.ensures.cases)

pub returns-in_ok-args : goal.returns-in_ok-args
returns-in_ok-args c =
    let there : is_some (args_in c.args.keyword c.args.line.now) ≡ true = cc in
    let found = c.in_ok-args.ensures.cases in
    ap Some found.4 ∙ args_in_cut c.args.keyword c.args.line.now (Some (found.0, found.1)) there found.2
