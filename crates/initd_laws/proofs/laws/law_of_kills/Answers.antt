use Rattle.initd_laws.proofs.Killing.{kills_all}
use Rattle.initd_laws.proofs.laws.law_of_kills.Goals as goal

pub returns : goal.returns
returns c settings level table next calls held asked grace were fronts distinct numbers given opening requests =
    kills_all settings level table next calls held asked grace were fronts distinct numbers given opening requests
