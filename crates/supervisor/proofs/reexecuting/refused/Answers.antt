use Rattle.supervisor.proofs.Words.{rules, ◌≡◌, subst, generation_said, NotTaken}
use Rattle.core_text.specs.declared.state_fault.StateFault.TheVariants as fault
use Rattle.supervisor.proofs.HandOvers.{failed_said}
use Rattle.supervisor.proofs.reexecuting.refused.Goals as goal

pub returns-in-Generation : goal.returns-in-Generation
returns-in-Generation c state says other cuts =
    let is : c.args.why ≡ fault.Generation = search rules in
    c.older_back.ensures c.args.text.now state.fields.generation (generation_said c.args.text.now state says)
    (subst (NotTaken c.args.back.now state.fields.generation) is other)

pub returns-in_default : goal.returns-in_default
returns-in_default c state says other cuts =
    failed_said c.args.text.now c.args.back.now state says
    (λ cut. let is : c.args.why ≡ fault.Cut = cuts cut in search rules)
