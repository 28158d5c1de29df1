-- Each clause is a lemma about sound traces.
use Rattle.core_model.proofs.Words.{arith, one_child_at, settle_belongs, agrees_at}
use Rattle.trace_laws.proofs.Pace.{start_paced}
use Rattle.trace_laws.proofs.Targets.{hit_own}
use Rattle.trace_laws.proofs.Kills.{killed_once}
use Rattle.trace_laws.proofs.Pairs.{reaped_between, apart, rested, on_order}
use Rattle.trace_laws.proofs.Laws.{sound_lawful}
use Rattle.trace_laws.proofs.Warnings.{kill_warned}
use Rattle.core_model.proofs.Bounded.{bounded}
use Rattle.core_model.proofs.Happened.{birth_through, birth_lives, settle_reached}
use Rattle.core_model.proofs.Recorded.{unreaped_recorded, one_recorded}
use Rattle.core_model.proofs.headline.law_agreement.Goals as goal

pub returns-clause-one_child : goal.returns-clause-one_child
returns-clause-one_child c goal later past h id = one_child_at goal later past id h

pub returns-clause-through : goal.returns-clause-through
returns-clause-through c goal later past id n h = birth_through goal later id n past h

pub returns-clause-living : goal.returns-clause-living
returns-clause-living c goal later past id n h = birth_lives goal later id n past h

pub returns-clause-reached : goal.returns-clause-reached
returns-clause-reached c goal later past level h = settle_reached goal later level past h

pub returns-clause-of_level : goal.returns-clause-of_level
returns-clause-of_level c goal later past level h = settle_belongs goal later level past h

pub returns-clause-lawful : goal.returns-clause-lawful
returns-clause-lawful c = sound_lawful

pub returns-clause-agreement : goal.returns-clause-agreement
returns-clause-agreement c goal later past h id n = agrees_at goal later past id n h

pub returns-clause-paced : goal.returns-clause-paced
returns-clause-paced c goal later past id h = start_paced goal later id past h

pub returns-clause-on_target : goal.returns-clause-on_target
returns-clause-on_target c goal later past id h = hit_own goal later id past h

pub returns-clause-killed_once : goal.returns-clause-killed_once
returns-clause-killed_once c = killed_once

pub returns-clause-reaped_between : goal.returns-clause-reaped_between
returns-clause-reaped_between c = reaped_between

pub returns-clause-apart : goal.returns-clause-apart
returns-clause-apart c goal later between past id h steady enough =
    apart goal later between past id h steady (omega (arith, enough))

pub returns-clause-rested : goal.returns-clause-rested
returns-clause-rested c = rested

pub returns-clause-on_order : goal.returns-clause-on_order
returns-clause-on_order c = on_order

pub returns-clause-warned : goal.returns-clause-warned
returns-clause-warned c goal later past id h = kill_warned goal later past id h

pub returns-clause-records : goal.returns-clause-records
returns-clause-records c core goal past sound fits id n = unreaped_recorded goal past core sound fits id n

pub returns-clause-one_record : goal.returns-clause-one_record
returns-clause-one_record c core goal past sound fits id m n has_m has_n =
    one_recorded goal past core sound fits id m n has_m has_n

pub returns-clause-bounded : goal.returns-clause-bounded
returns-clause-bounded c core goal past sound fits = bounded core goal past sound fits
