use Rattle.supervisor.proofs.Point.{point_after-append, has_trace-append}
use Rattle.supervisor.proofs.Leading.{calls_allowed, carried_parts}
use Rattle.supervisor.proofs.edge_laws.law_of_parts.Goals as goal

pub returns-clause-point : goal.returns-clause-point
returns-clause-point c later earlier p = point_after-append later earlier p

pub returns-clause-in_place : goal.returns-clause-in_place
returns-clause-in_place c goal later earlier p above below = has_trace-append goal later earlier p above below

pub returns-clause-possible : goal.returns-clause-possible
returns-clause-possible c goal calls p h = calls_allowed goal calls p h

pub returns-clause-carried : goal.returns-clause-carried
returns-clause-carried c later earlier p carried = carried_parts later earlier p carried
