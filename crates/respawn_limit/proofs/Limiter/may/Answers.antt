use Rattle.respawn_limit.proofs.Words.{◌≡◌, ◌+◌, ◌∙◌, rules, HOLD, Yes, HoldUntil, may_of}
use Rattle.respawn_limit.proofs.WindowLemmas.{answer-KeepsLastStarts}
use Rattle.respawn_limit.proofs.PastLemmas.{may_of-IsStateAfter}
use Rattle.respawn_limit.proofs.Limiter.may.Goals as goal

pub returns-in_default-clause-noted : goal.returns-in_default-clause-noted
returns-in_default-clause-noted c = λ noted known.
    let state : HoldUntil (c.args.now + HOLD) ≡ may_of c.args.self.now c.args.now = search rules in
    state ∙ answer-KeepsLastStarts c.args.self.now.starts noted c.args.self.now.held c.args.now known

pub returns-in_default-clause-past : goal.returns-in_default-clause-past
returns-in_default-clause-past c = λ past stands.
    let state : HoldUntil (c.args.now + HOLD) ≡ may_of c.args.self.now c.args.now = search rules in
    state ∙ may_of-IsStateAfter c.args.self.now past c.args.now stands

pub returns-in_default-2-clause-noted : goal.returns-in_default-2-clause-noted
returns-in_default-2-clause-noted c = λ noted known.
    let state : Yes ≡ may_of c.args.self.now c.args.now = search rules in
    state ∙ answer-KeepsLastStarts c.args.self.now.starts noted c.args.self.now.held c.args.now known

pub returns-in_default-2-clause-past : goal.returns-in_default-2-clause-past
returns-in_default-2-clause-past c = λ past stands.
    let state : Yes ≡ may_of c.args.self.now c.args.now = search rules in
    state ∙ may_of-IsStateAfter c.args.self.now past c.args.now stands
