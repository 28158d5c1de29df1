use Rattle.rc_driver.proofs.Words.{◌∙◌}
use Rattle.rc_driver.proofs.RunLemmas.{writes_ends}
use Rattle.rc_driver.proofs.ToldLemmas.{runs_more}
use Rattle.rc_driver.proofs.driving.run_links.Goals as goal

pub loop-ended-preserved : goal.loop-ended-preserved
loop-ended-preserved g c = (
  λ ended new after told went.
      c.loop-ended.invariant.0 ended new after told
      (runs_more _ _ _ _ _ _ _ _ _ _ _ _ _ _ _ _ (c.run_next.ensures.one c.in_default.is) went),
  λ none. c.run_next.ensures.silent none ∙ c.loop-ended.invariant.1 none,
)

pub returns-in-Some-clause-calls : goal.returns-in-Some-clause-calls
returns-in-Some-clause-calls g c = c.loop-ended.invariant.0 _ _ _ _ c.in-Some.ensures.last

pub returns-in-Some-clause-written : goal.returns-in-Some-clause-written
returns-in-Some-clause-written g c =
    writes_ends _ _ c.args.way c.args.dir.now c.args.limit _ _ _ _ _
    (c.loop-ended.invariant.0 _ _ _ _ c.in-Some.ensures.last)

pub returns-in-Some-clause-silent : goal.returns-in-Some-clause-silent
returns-in-Some-clause-silent g c = λ none. c.run_next.ensures.silent none ∙ c.loop-ended.invariant.1 none
