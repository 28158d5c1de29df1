use Rattle.std.proofs.Common.{string_bytes, ◌∙◌, ◌+◌, ◌++◌, ◌∷◌, [], sym, ap, get_or, drop, map}
use Rattle.std.proofs.lemmas.List.{append-nil, drop_all, drop_more, map-append}
use Rattle.rc_links.specs.Plans.{names_at}
use Rattle.rc_links.proofs.PlanLemmas.{names-step}
use Rattle.rc_links.proofs.planning.names_at.Goals as goal

pub loop-position-preserved : goal.loop-position-preserved
loop-position-preserved g c =
    let scripts = c.args.scripts.now in
    let places = c.args.places.now in
    let n = c.loop-position.position-index in
    let cut = drop_more places n 0 c.loop-position-test.true in
    let kept = ap (λ xs. map string_bytes c.loop-position.names.items ++ names_at scripts xs) (sym cut)
    ∙ c.loop-position.invariant in
    rw (
      c.in_ok-push.ensures.items,
      map-append string_bytes c.loop-position.names.items (c.in_ok-from_str.field-0 ∷ []),
      c.in_ok-from_str.ensures.ok,
      c.name.ensures,
    )
    (names-step scripts (get_or places n 0) (drop (n + 1) places) (map string_bytes c.loop-position.names.items) _
    c.index-scripts-position.result (c.requires n c.loop-position-test.true) c.index-scripts-position.is kept)

pub returns : goal.returns
returns g c =
    let past = drop_all c.loop-position.position-index c.args.places.now c.loop-position-test.false in
    rw append-nil at (rw past at c.loop-position.invariant)
