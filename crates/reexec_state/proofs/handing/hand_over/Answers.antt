use Rattle.reexec_state.proofs.Words.{rules}
use Rattle.reexec_state.proofs.Handed.{handed_says, handed_text}
use Rattle.reexec_state.proofs.handing.hand_over.Goals as goal

pub returns-clause-said : goal.returns-clause-said
returns-clause-said g c = handed_says c.args.core.now c.handed_on.new.self c.in_ok-fields.fields c.in_ok-text.text.items
    c.handed_on.ensures.state (search rules) (search rules) (search rules)
    (search rules) c.in_ok-text.ensures c.law_of_rules.ensures

pub returns-clause-text : goal.returns-clause-text
returns-clause-text g c = handed_text c.args.core.now c.handed_on.new.self c.in_ok-fields.fields c.in_ok-text.text.items
    c.handed_on.ensures.state (search rules) c.in_ok-text.ensures
