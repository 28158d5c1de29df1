use Rattle.rc_links.proofs.Words.{◌≡◌, ◌∙◌, ◌+◌, sym, ap, refl, None, take, drop, arith, take_all, double_from, doubled}
use Rattle.rc_links.proofs.Words.{IsDouble, known_again, position_in}
use Rattle.rc_links.proofs.NameLemmas.{cut_at, err_and, doubled-is, double-next, double-told, named-next, position-next}
use Rattle.rc_links.proofs.NameLemmas.{unknown}
use Rattle.rc_links.proofs.PlanLemmas.{FaultSatisfies-weaker}
use Rattle.rc_links.proofs.tables.add_scripts.Goals as goal

pub loop-position-init : goal.loop-position-init
loop-position-init g c = record {
  places = λ name. rw (c.requires.provided name) refl;
  named = λ name. rw (c.requires.names name) refl;
  single = refl;
}

pub returns-in_err-add_script-clause-double : goal.returns-in_err-add_script-clause-double
returns-in_err-add_script-clause-double g c =
    let all = c.args.scripts.now in
    let n = c.loop-position.position in
    let s = c.index-scripts-position.result in
    let cut = cut_at all n s c.loop-position-test.true c.index-scripts-position.is in
    let is = doubled-is (position_in c.loop-position.provided) (position_in c.loop-position.names)
    (take n all) s c.loop-position.invariant.places c.loop-position.invariant.named in
    let same = ap (λ xs. double_from (take n all) xs) (sym cut.0) ∙ c.loop-position.invariant.single in
    let f = c.in_err-add_script.field-0.0 in
    err_and c.from_residual.result f _ c.from_residual.ensures.1
    (FaultSatisfies-weaker {P = IsDouble (known_again c.loop-position.provided c.loop-position.names s)} f
    (λ wrong told. (told.0, double-told all (take n all) (drop (n + 1) all) s told.0 same (sym told.1 ∙ is), told.2))
    c.in_err-add_script.ensures.double)

pub loop-position-preserved : goal.loop-position-preserved
loop-position-preserved g c =
    let all = c.args.scripts.now in
    let n = c.loop-position.position in
    let s = c.index-scripts-position.result in
    let cut = cut_at all n s c.loop-position-test.true c.index-scripts-position.is in
    let is = doubled-is (position_in c.loop-position.provided) (position_in c.loop-position.names)
    (take n all) s c.loop-position.invariant.places c.loop-position.invariant.named in
    let none : doubled (take n all) s ≡ None = sym is ∙ c.in_ok-add_script.ensures.single in
    let same = ap (λ xs. double_from (take n all) xs) (sym cut.0) ∙ c.loop-position.invariant.single in
    rw cut.1 (record {
      places = λ bs. c.in_ok-add_script.ensures.provided bs ∙ rw
          (c.loop-position.invariant.places bs, position-next (take n all) s bs (unknown (take n all) s none), cut.2)
          refl;
      named = λ bs. rw (c.in_ok-add_script.ensures.named bs)
          (named-next (take n all) s bs (position_in c.loop-position.names bs) n (c.loop-position.invariant.named bs));
      single = double-next all (take n all) (drop (n + 1) all) s same none;
    })

pub returns-clause-places : goal.returns-clause-places
returns-clause-places g c = λ bs.
    let whole = take_all c.loop-position.position c.args.scripts.now (omega (arith, c.loop-position-test.false)) in
    rw whole at c.loop-position.invariant.places bs
