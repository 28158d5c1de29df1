use Rattle.initd_command.proofs.Words.{◌≡◌, ◌++◌, ◌∙◌, [], ap, append-nil, is_some, run_of, subst, sym}
use Rattle.host_calls.proofs.Record.{NewCallsSatisfy-map}
use Rattle.initd_command.proofs.Ran.{made_untraced}
use Rattle.initd_command.proofs.run.make_traced.Goals as goal

pub returns-in_default-clause-ended : goal.returns-in_default-clause-ended
returns-in_default-clause-ended g c =
    let (end, status, served, reported, made) = c.make_turns-status.ensures.ended in
    let none = sym (append-nil (g.F.Traces.told c.args.traces.now)) in (
      end,
      status,
      served,
      reported,
      [],
      none,
      λ table opens. NewCallsSatisfy-map _ _ _ _ (made table opens) (λ calls.
          made_untraced _ _ (run_of c.args.options.now) table end tt calls
          (sym c.requires ∙ ap is_some c.in_default.is)),
    )

pub returns-clause-ended : goal.returns-clause-ended
returns-clause-ended g c =
    let (end, status, served, reported, made) = c.make_over-status.ensures.ended in
    let (bytes, grown, taken) = c.close.ensures in
    let told = subst (λ before. g.F.Traces.told c.close.new.self ≡ before ++ bytes) c.open-files.ensures.told grown in
    (end, status, served, reported, bytes, told, made bytes taken)
