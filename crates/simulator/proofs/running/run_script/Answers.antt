use Rattle.simulator.proofs.Words.{rules, ◌≡◌, ◌∷◌, [], ◌∙◌, ap, subst, NewTable, err_is, ended, SoFar, goal_in}
use Rattle.simulator.proofs.Words.{script_in, table_in}
use Rattle.std.proofs.Common.{Err}
use Rattle.simulator.specs.declared.running.SimFault.TheVariants as fault
use Rattle.simulator.proofs.Hearing.{ok_then}
use Rattle.simulator.proofs.Moves.{err_then}
use Rattle.simulator.proofs.Whole.{broken_ends, broken_first, memory_ends, so_far_first}
use Rattle.simulator.proofs.running.run_script.Goals as goal

-- a fault before init is at rest
pub returns-in_err-rereads-clause-ended : goal.returns-in_err-rereads-clause-ended
returns-in_err-rereads-clause-ended g c =
    let f = c.in_err-rereads.field-0.0 in
    let is : c.from_residual.result ≡ Err f = search rules in
    err_is c.from_residual.result f _ is (λ s before said moment text.
    broken_ends s f before (g.W.Write.contents c.run_until_rest.new.out)
    (broken_first s f before (g.W.Write.contents c.args.out.now) (g.W.Write.contents c.run_until_rest.new.out) text
    (c.in_err-rereads.ensures.err (goal_in s) (NewTable (table_in s) ∷ []) moment)))

-- memory allocation failed for the end of the script
pub returns-in_err-text-clause-ended : goal.returns-in_err-text-clause-ended
returns-in_err-text-clause-ended g c =
    let is : c.from_residual-in_err-text.result ≡ Err fault.Memory =
    search (rules, c.from_residual-in_err-text.ensures) in
    err_is c.from_residual-in_err-text.result fault.Memory _ is (λ s before said moment text.
    memory_ends s (script_in s) 1 c.in_ok-rereads.rereads c.run_until_rest.new.core c.run_until_rest.new.side before
    (g.W.Write.contents c.run_until_rest.new.out)
    (so_far_first s c.in_ok-rereads.rereads c.run_until_rest.new.core c.run_until_rest.new.side before
    (g.W.Write.contents c.args.out.now) (g.W.Write.contents c.run_until_rest.new.out) text
    (c.in_ok-rereads.ensures.ok (goal_in s) (NewTable (table_in s) ∷ []) moment)))

pub hear_all-requires-clause-rests : goal.hear_all-requires-clause-rests
hear_all-requires-clause-rests g c =
    let (goal, past, moment) = c.requires.moment in
    let (next, more, at, goes, written) = c.in_ok-rereads.ensures.ok goal past moment in
    (goal, next, at)

pub returns-clause-done : goal.returns-clause-done
returns-clause-done g c =
    let whole : ended c.args.script.now ≡ c.deref.result.now = search rules in
    ok_then c.hear_all.result c.hear_all.ensures.done (λ all s before said moment text.
    all s before (subst (λ script. SoFar s script 1 c.in_ok-rereads.rereads c.run_until_rest.new.core
    c.run_until_rest.new.side before (g.W.Write.contents c.run_until_rest.new.out)) (ap ended said ∙ whole)
    (so_far_first s c.in_ok-rereads.rereads c.run_until_rest.new.core c.run_until_rest.new.side before
    (g.W.Write.contents c.args.out.now) (g.W.Write.contents c.run_until_rest.new.out) text
    (c.in_ok-rereads.ensures.ok (goal_in s) (NewTable (table_in s) ∷ []) moment))))

pub returns-clause-ended : goal.returns-clause-ended
returns-clause-ended g c =
    let whole : ended c.args.script.now ≡ c.deref.result.now = search rules in
    err_then c.hear_all.result _ _ c.hear_all.ensures.ended (λ f all s before said moment text.
    all s before (subst (λ script. SoFar s script 1 c.in_ok-rereads.rereads c.run_until_rest.new.core
    c.run_until_rest.new.side before (g.W.Write.contents c.run_until_rest.new.out)) (ap ended said ∙ whole)
    (so_far_first s c.in_ok-rereads.rereads c.run_until_rest.new.core c.run_until_rest.new.side before
    (g.W.Write.contents c.args.out.now) (g.W.Write.contents c.run_until_rest.new.out) text
    (c.in_ok-rereads.ensures.ok (goal_in s) (NewTable (table_in s) ∷ []) moment))))
