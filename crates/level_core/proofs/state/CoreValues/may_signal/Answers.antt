use Rattle.level_core.proofs.Words.{sym, ap, subst, ◌∙◌, list_any, SlotState, is_stop_due, IsFirstTermed, CoreState}
use Rattle.level_core.proofs.Words.{is_past}
use Rattle.level_core.proofs.Excluded.{none_near}
use Rattle.level_core.proofs.state.CoreValues.may_signal.Goals as goal

pub returns-else-has_due : goal.returns-else-has_due
returns-else-has_due g c over =
    let first =
    subst (λ (x : CoreState). IsFirstTermed x.slots c.first_termed.result) c.self.view_is c.first_termed.ensures in
    let due = ap (λ (x : CoreState). list_any (λ (slot : SlotState). is_stop_due slot.stop) x.slots)
    (sym c.self.view_is) ∙ sym c.has_due.ensures ∙ c.if-has_due.false in
    let past = ap (λ (x : CoreState). is_past x.fields.grace x.fields.time c.first_termed.result) (sym c.self.view_is)
    ∙ sym c.is_past.ensures ∙ over in
    none_near c.args.self.now.fields.grace c.args.self.now.fields.time c.args.self.now.slots c.first_termed.result
    first due past
