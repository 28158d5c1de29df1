use Rattle.simulator.proofs.Words.{rules, ◌≡◌, ◌∷◌, [], ◌∙◌, ap, refl, NewTable, table_of_text, goal_in, scenario}
use Rattle.simulator.proofs.Words.{err_is}
use Rattle.std.proofs.Common.{Err}
use Rattle.simulator.specs.declared.running.SimFault.TheVariants as fault
use Rattle.simulator.proofs.Hearing.{ok_then}
use Rattle.simulator.proofs.Moves.{err_then}
use Rattle.simulator.proofs.Opening.{no_fault, none_opened, opening_breaks, opening_written}
use Rattle.simulator.proofs.Whole.{same_fault, opening_ends, first_moment}
use Rattle.simulator.proofs.running.simulate.Goals as goal

pub returns-in_err-core-clause-ended : goal.returns-in_err-core-clause-ended
returns-in_err-core-clause-ended g c =
    let s = scenario c.args.level c.args.inittab.now c.args.script.now in
    let is : c.from_residual.result ≡ Err c.in_err-core.field-0.0 = search rules in
    err_is c.from_residual.result c.in_err-core.field-0.0 _ is
    (opening_ends s c.in_err-core.field-0.0 (g.W.Write.contents c.args.out.now) (g.W.Write.contents c.args.out.now)
    (none_opened c.args.inittab.now c.in_err-core.field-0.0
    (g.W.Write.contents c.args.out.now) c.in_err-core.ensures.err))

pub returns-in_err-core-clause-limit : goal.returns-in_err-core-clause-limit
returns-in_err-core-clause-limit g c many =
    let is : c.from_residual.result ≡ Err c.in_err-core.field-0.0 = search rules in
    is ∙ ap Err (same_fault c.open_core.result c.in_err-core.field-0.0 fault.Table c.in_err-core.was
    (c.open_core.ensures.limit many))

pub returns-in_err-write_table-clause-ended : goal.returns-in_err-write_table-clause-ended
returns-in_err-write_table-clause-ended g c =
    let s = scenario c.args.level c.args.inittab.now c.args.script.now in
    let f = c.in_err-write_table.field-0.0 in
    let is : c.from_residual-in_err-write_table.result ≡ Err f = search rules in
    err_is c.from_residual-in_err-write_table.result f _ is
    (opening_ends s f (g.W.Write.contents c.args.out.now) (g.W.Write.contents c.write_table.new.out)
    (opening_breaks c.args.inittab.now c.table.result.now f (g.W.Write.contents c.args.out.now)
    (g.W.Write.contents c.write_table.new.out)
    (c.table.ensures ∙ c.in_ok-core.ensures.table) c.in_err-write_table.ensures.err))

pub returns-in_err-write_table-clause-limit : goal.returns-in_err-write_table-clause-limit
returns-in_err-write_table-clause-limit g c many =
    no_fault c.open_core.result c.in_ok-core.core fault.Table c.in_ok-core.was (c.open_core.ensures.limit many)

pub run_script-ended-requires-clause-moment : goal.run_script-ended-requires-clause-moment
run_script-ended-requires-clause-moment g c =
    let goal = goal_in (scenario c.args.level c.args.inittab.now c.args.script.now) in (
      goal,
      NewTable (table_of_text c.args.inittab.now) ∷ [],
      first_moment c.args.inittab.now goal c.in_ok-core.core c.new-side.result c.in_ok-core.ensures.fits
          c.in_ok-core.ensures.lasts (c.new-side.ensures (table_of_text c.args.inittab.now)),
    )

pub returns-clause-done : goal.returns-clause-done
returns-clause-done g c =
    let s = scenario c.args.level c.args.inittab.now c.args.script.now in
    let first = first_moment c.args.inittab.now (goal_in s) c.in_ok-core.core c.new-side.result
    c.in_ok-core.ensures.fits c.in_ok-core.ensures.lasts (c.new-side.ensures (table_of_text c.args.inittab.now)) in
    let text = opening_written c.args.inittab.now c.table.result.now (g.W.Write.contents c.args.out.now)
    (g.W.Write.contents c.write_table.new.out)
    (c.table.ensures ∙ c.in_ok-core.ensures.table) c.in_ok-write_table.ensures.ok in
    ok_then c.run_script-ended.result c.run_script-ended.ensures.done (λ all.
    all s (g.W.Write.contents c.args.out.now) refl first text)

pub returns-clause-ended : goal.returns-clause-ended
returns-clause-ended g c =
    let s = scenario c.args.level c.args.inittab.now c.args.script.now in
    let first = first_moment c.args.inittab.now (goal_in s) c.in_ok-core.core c.new-side.result
    c.in_ok-core.ensures.fits c.in_ok-core.ensures.lasts (c.new-side.ensures (table_of_text c.args.inittab.now)) in
    let text = opening_written c.args.inittab.now c.table.result.now (g.W.Write.contents c.args.out.now)
    (g.W.Write.contents c.write_table.new.out)
    (c.table.ensures ∙ c.in_ok-core.ensures.table) c.in_ok-write_table.ensures.ok in
    err_then c.run_script-ended.result _ _ c.run_script-ended.ensures.ended (λ f all.
    all s (g.W.Write.contents c.args.out.now) refl first text)

pub returns-clause-limit : goal.returns-clause-limit
returns-clause-limit g c many =
    no_fault c.open_core.result c.in_ok-core.core fault.Table c.in_ok-core.was (c.open_core.ensures.limit many)
