use Rattle.initd_laws.proofs.Children.{children_all}
use Rattle.initd_laws.proofs.Moments.{asked_until}
use Rattle.initd_laws.proofs.laws.law_of_targets.Goals as goal

pub returns-clause-whole : goal.returns-clause-whole
returns-clause-whole c settings calls held asked were numbers =
    (children_all settings calls held asked were numbers).keeps

pub returns-clause-until : goal.returns-clause-until
returns-clause-until c settings calls held later earlier were numbers =
    let cut = asked_until settings calls held later earlier were in
    (children_all settings cut.0 cut.1 earlier cut.2 numbers).keeps
