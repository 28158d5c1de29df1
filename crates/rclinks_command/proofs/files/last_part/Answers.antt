use Rattle.rclinks_command.proofs.Words.{◌∙◌}
use Rattle.rclinks_command.proofs.PathLemmas.{last_part-none, last_part-some}
use Rattle.rclinks_command.proofs.files.last_part.Goals as goal

-- the path was split at its last '/', which extends from the byte `found.0` to before `found.1`
pub returns-in-Some : goal.returns-in-Some
returns-in-Some c = let found = c.in-Some.ensures.cases in
    found.4 ∙ last_part-some c.args.path.now found.0 found.1 found.2

-- the path has no '/'
pub returns-in-None : goal.returns-in-None
returns-in-None c = last_part-none c.args.path.now c.in-None.ensures.cases
