use Rattle.initd_command.proofs.Words.{◌≡◌, ◌∙◌, refl, sym, subst, [], ◌∷◌, inl, inr, Keeps-refl, NewCallsSatisfy}
use Rattle.initd_command.proofs.Words.{run_of}
use Rattle.initd_command.proofs.Words.{refused, turned, MakesTraced}
use Rattle.initd_command.specs.Services.{EndsTold}
use Rattle.initd_command.proofs.Ran.{ran_to}
use Rattle.initd_command.proofs.run.run_files.Goals as goal

pub returns-in-Ok : goal.returns-in-Ok
returns-in-Ok g c =
    let text_at = g.T.Texts.text_at c.args.texts.now in
    let service = run_of c.args.options.now in
    let run = c.in-Ok.run' in
    let out = g.W.Write.contents c.args.out.now in
    let now_out = g.W.Write.contents c.make_run.new.out in
    let (spoken, unled, capped, end, status, told, reported, bytes, grown, ran) = c.make_run.ensures.ended in
    let (parts, are, read, (lines, led, taken, opens)) = c.in-Ok.ensures.ok in
    let tells = subst (λ text. EndsTold service text spoken.told end out now_out) lines told in (
      turned spoken end,
      status,
      inr (c.in-Ok.ensures.apart, (parts, are, read, (taken, spoken, unled ∙ led, capped, end, refl, tells))),
      reported,
      ran_to text_at service (g.S.Hosts.conforms c.make_run.new.hosts) run.opening spoken end bytes
          (record {
            opened = g.S.Hosts.opened c.args.hosts.now;
            calls = g.S.Hosts.told c.args.hosts.now;
            trace = g.F.Traces.told c.args.traces.now;
            out = out;
          })
          (record {
            opened = g.S.Hosts.opened c.make_run.new.hosts;
            calls = g.S.Hosts.told c.make_run.new.hosts;
            trace = g.F.Traces.told c.make_run.new.traces;
            out = now_out;
          })
          (parts, are, read, (taken, unled ∙ led, opens, tells))
          (subst (λ now. NewCallsSatisfy (g.S.Hosts.opened c.args.hosts.now) now (λ saids. saids ≡ service ∷ []))
          (sym c.make_run.ensures.opened) c.in-Ok.ensures.opened)
          grown
          (λ table opening. subst (λ now. NewCallsSatisfy now (g.S.Hosts.told c.make_run.new.hosts)
          (MakesTraced service table end bytes)) c.in-Ok.ensures.host (ran table opening))
          (g.H.Host.settings run.host, c.in-Ok.ensures.settings, c.make_run.ensures.conforms),
    )

pub returns-in-Err : goal.returns-in-Err
returns-in-Err g c = (
  refused c.in-Err.why,
  c.report_obstacle.ensures.status,
  inl (c.in-Err.why, refl, c.in-Err.ensures.err, Keeps-refl (g.W.Write.contents c.args.out.now)),
  c.report_obstacle.ensures.reported,
  (c.in-Err.ensures.unasked, refl),
)
