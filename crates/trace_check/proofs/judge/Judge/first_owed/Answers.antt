use Rattle.trace_check.proofs.Words.{refl, sym, ◌∙◌, ap, true, has_id, option_map_or, is_owed_in}
use Rattle.trace_check.proofs.Unowed.{none_before}
use Rattle.trace_check.proofs.judge.Judge.first_owed.Goals as goal

pub returns-then-eq : goal.returns-then-eq
returns-then-eq g c = sym (none_before (is_owed_in c.args.self.now) c.args.id.now c.args.table.now c.args.unowed
    (ap (λ o. option_map_or (has_id c.args.id.now) o true) (sym c.at.ensures)
    ∙ rw c.in-Some.is (sym c.eq.ensures ∙ c.if-eq.true)) c.requires)

pub returns-in_default : goal.returns-in_default
returns-in_default g c = sym (none_before (is_owed_in c.args.self.now) c.args.id.now c.args.table.now c.args.unowed
    (ap (λ o. option_map_or (has_id c.args.id.now) o true) (sym c.at.ensures) ∙ rw c.in_default.is refl) c.requires)
