use Rattle.supervisor.proofs.Words.{◌≡◌, None, Some, sym}
use Rattle.supervisor.proofs.HandOvers.{older_said}
use Rattle.supervisor.proofs.reexecuting.older_back.Goals as goal

pub returns-in-Some : goal.returns-in-Some
returns-in-Some c text generation says other =
    older_said text c.args.back.now generation c.in-Some.generation says (sym c.in-Some.ensures.value) other

pub returns-in-None : goal.returns-in-None
returns-in-None c text generation says other =
    let said : None ≡ Some other.state.fields.generation = c.in-None.ensures.said other.state other.says in
    absurd (cc)
