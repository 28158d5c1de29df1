use Rattle.supervisor.proofs.Held.{held_children, held_possible}
use Rattle.supervisor.proofs.edge_laws.law_of_children.Goals as goal

pub returns-clause-possible : goal.returns-clause-possible
returns-clause-possible c goal later earlier held p none own new h =
    held_possible goal later earlier held p none own new h

pub returns-clause-held : goal.returns-clause-held
returns-clause-held c calls held p none own = held_children calls held p none own
