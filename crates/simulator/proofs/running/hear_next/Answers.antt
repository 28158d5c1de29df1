use Rattle.simulator.proofs.Words.{rules, ◌≡◌, ◌++◌, ◌∷◌, sym, ◌∙◌, refl, inl, Appends-trans, Keeps-refl, event_text}
use Rattle.simulator.proofs.Words.{err_is}
use Rattle.std.proofs.Common.{Err}
use Rattle.simulator.specs.declared.running.SimFault.TheVariants as fault
use Rattle.simulator.proofs.Moves.{err_then, leaves_behind, run_hears}
use Rattle.simulator.proofs.Hearing.{may_say, objected, ready, hears_one, hears_goes, broken_heard, ok_gives}
use Rattle.simulator.proofs.running.hear_next.Goals as goal

-- there is an objection to the happening
pub returns-in-Some-clause-err : goal.returns-in-Some-clause-err
returns-in-Some-clause-err g c goal past at =
    let (may_not, why) = objected goal past c.args.happening.now c.args.rereads c.args.core.now c.args.side.now
    c.in-Some.objection at c.requires.ranged (sym c.in-Some.is ∙ c.in_ok-objection.ensures) in
    (refl, may_not, why, Keeps-refl (g.W.Write.contents c.args.out.now))

-- there is no objection, so the core is ready for the happening
pub hear-requires-clause-ready : goal.hear-requires-clause-ready
hear-requires-clause-ready g c =
    let (goal, past, at) = c.requires.rests in
    let none = sym c.in_default.is ∙ c.in_ok-objection.ensures in
    ready goal past c.args.happening.now c.args.rereads c.args.core.now c.args.side.now at.moment
    (may_say goal past c.args.happening.now c.args.rereads c.args.core.now c.args.side.now at c.requires.ranged none)
    none

-- memory allocation failed before the happening was processed
pub returns-in_err-objection-clause-err : goal.returns-in_err-objection-clause-err
returns-in_err-objection-clause-err g c =
    let is : c.from_residual.result ≡ Err fault.Memory = search rules in
    err_is c.from_residual.result fault.Memory _ is
    (λ goal past at. inl (Keeps-refl (g.W.Write.contents c.args.out.now)))

-- the happening was not written in full, or not taken
pub returns-in_err-hear-clause-err : goal.returns-in_err-hear-clause-err
returns-in_err-hear-clause-err g c =
    let f = c.in_err-hear.field-0.0 in
    let is : c.from_residual-in_err-hear.result ≡ Err f = search rules in
    err_is c.from_residual-in_err-hear.result f _ is (λ goal past at.
    let may = may_say goal past c.args.happening.now c.args.rereads c.args.core.now c.args.side.now
    at c.requires.ranged (sym c.in_default.is ∙ c.in_ok-objection.ensures) in
    broken_heard goal past c.args.happening.now c.args.number f (g.W.Write.contents c.args.out.now)
    (g.W.Write.contents c.hear.new.out) (
      c.args.happening.now ∷ past,
      event_text c.args.happening.now,
      run_hears goal c.args.happening.now past may at.moment.runs,
      hears_one goal past c.args.happening.now at.moment.runs c.requires.ranged may,
      c.in_err-hear.ensures.err,
    ))

pub run_until_rest-requires : goal.run_until_rest-requires
run_until_rest-requires g c =
    let (goal, past, at) = c.requires.rests in
    let may = may_say goal past c.args.happening.now c.args.rereads c.args.core.now c.args.side.now
    at c.requires.ranged (sym c.in_default.is ∙ c.in_ok-objection.ensures) in
    (goal, c.args.happening.now ∷ past, c.in_ok-hear.ensures.ok goal past at.moment may)

pub returns-clause-ok : goal.returns-clause-ok
returns-clause-ok g c = ok_gives c.run_until_rest.result _ _ c.run_until_rest.ensures.ok (λ rereads rests goal past at.
    let may = may_say goal past c.args.happening.now c.args.rereads c.args.core.now c.args.side.now
    at c.requires.ranged (sym c.in_default.is ∙ c.in_ok-objection.ensures) in
    let (next, more, at_rest, goes, written) =
    rests goal (c.args.happening.now ∷ past) (c.in_ok-hear.ensures.ok goal past at.moment may) in (
      next,
      event_text c.args.happening.now ++ more,
      at_rest,
      hears_goes goal past (c.args.happening.now ∷ past) next (event_text c.args.happening.now) (event_text
          c.args.happening.now) more
          (hears_one goal past c.args.happening.now at.moment.runs c.requires.ranged may) goes,
      Appends-trans (g.W.Write.contents c.args.out.now) (g.W.Write.contents c.hear.new.out) (g.W.Write.contents
          c.run_until_rest.new.out) (event_text c.args.happening.now) more c.in_ok-hear.ensures.text written,
    ))

pub returns-clause-err : goal.returns-clause-err
returns-clause-err g c = err_then c.run_until_rest.result _ _ c.run_until_rest.ensures.err (λ f breaks goal past at.
    let may = may_say goal past c.args.happening.now c.args.rereads c.args.core.now c.args.side.now
    at c.requires.ranged (sym c.in_default.is ∙ c.in_ok-objection.ensures) in
    let (next, more, runs, goes, leaves) =
    breaks goal (c.args.happening.now ∷ past) (c.in_ok-hear.ensures.ok goal past at.moment may) in
    broken_heard goal past c.args.happening.now c.args.number f (g.W.Write.contents c.args.out.now)
    (g.W.Write.contents c.run_until_rest.new.out) (
      next,
      event_text c.args.happening.now ++ more,
      runs,
      hears_goes goal past (c.args.happening.now ∷ past) next (event_text c.args.happening.now) (event_text
          c.args.happening.now) more
          (hears_one goal past c.args.happening.now at.moment.runs c.requires.ranged may) goes,
      leaves_behind f (g.W.Write.contents c.args.out.now) (g.W.Write.contents c.hear.new.out)
          (g.W.Write.contents c.run_until_rest.new.out)
          (event_text c.args.happening.now) more c.in_ok-hear.ensures.text leaves,
    ))
