use Rattle.initd_command.proofs.Words.{◌≡◌, refl, sym, ◌∙◌, ap, subst, ◌&&◌, if◌then◌else◌, not, Bool, true, false}
use Rattle.initd_command.proofs.Words.{List, ℕ, Option, Appends, AppendsPrefix, NewCallsSatisfy, run_of, MakesTraced}
use Rattle.initd_command.proofs.Words.{Writes}
use Rattle.initd_command.proofs.run.make_run.Goals as goal

-- a text whose writing succeeded was written whole, any other in part
writes : (told : Bool) (text : List ℕ) (old new : Option (List ℕ)) → (told ≡ true → Appends old new text)
    → AppendsPrefix old new text → Writes told text old new
writes true text old new whole part = whole refl
writes false text old new whole part = part

pub returns-clause-ended : goal.returns-clause-ended
returns-clause-ended g c =
    let (end, status, served, reported, bytes, grown, made) = c.make_traced-status.ensures.ended in (
      record {
        unled = c.args.run.has_no_level;
        capped = not c.args.options.now.names_end;
        told = c.tell-is_told.result;
        printed = c.close-is_printed.result;
      },
      refl,
      refl,
      end,
      c.status_where.ensures
          ∙ ap (λ (s : ℕ). if c.tell-is_told.result && c.close-is_printed.result then s else 4) status,
      (
        served,
        subst (λ text. Writes c.tell-is_told.result text (g.W.Write.contents c.args.out.now)
            (g.W.Write.contents c.tell-is_told.new.out)) c.deref.ensures.value
            (writes c.tell-is_told.result c.deref.result.now (g.W.Write.contents c.args.out.now)
            (g.W.Write.contents c.tell-is_told.new.out) c.tell-is_told.ensures.whole c.tell-is_told.ensures.part),
      ),
      (
        g.E.Reporter.reports c.report_where.new.err,
        c.report_where.ensures,
        g.E.Reporter.reports c.report_where-2.new.err,
        c.report_where-2.ensures,
        g.E.Reporter.reports c.report_where-3.new.err,
        c.report_where-3.ensures,
        g.E.Reporter.reports c.make_traced-status.new.err,
        reported,
        c.report_where-4.ensures,
      ),
      bytes,
      grown,
      λ table opens. subst (λ now. NewCallsSatisfy (g.H.Host.told c.args.run.host) now
          (MakesTraced (run_of c.args.options.now) table end bytes)) (sym c.close-is_printed.ensures.told)
          (made table opens),
    )

pub returns-clause-conforms : goal.returns-clause-conforms
returns-clause-conforms g c =
    subst (g.S.Hosts.conforms c.close-is_printed.new.self) c.make_traced-status.ensures.settings
    c.close-is_printed.ensures.conforms
