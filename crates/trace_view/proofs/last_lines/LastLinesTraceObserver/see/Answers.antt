use Rattle.trace_view.proofs.Words.{◌∙◌, ◌∷◌, sym, ap, subst, at, LinesState, Lined, line_after, names}
use Rattle.trace_view.proofs.Lining.{lined_more}
use Rattle.trace_view.proofs.last_lines.LastLinesTraceObserver.see.Goals as goal

pub returns : goal.returns
returns g c = λ past seen on is lined.
    let old : LinesState = record {
      kinds = c.self.inside.kinds;
      births = c.self.inside.births.entries;
      early = c.self.inside.early.entries;
      failures = c.self.inside.failures.entries;
      reapings = c.self.inside.reapings.entries;
      orders = c.self.inside.orders.entries;
      holds = c.self.inside.holds.entries;
    } in
    let new : LinesState = record {
      kinds = c.after-self-inside.result;
      births = c.mark.new.lines.entries;
      early = c.mark-2.new.lines.entries;
      failures = c.mark-3.new.lines.entries;
      reapings = c.mark-4.new.lines.entries;
      orders = c.mark-5.new.lines.entries;
      holds = c.mark-6.new.lines.entries;
    } in
    let line = c.args.line in
    lined_more c.args.happening.now past old new c.table.result.now c.args.stage line c.after-self-inside.ensures
    (λ id. c.in_ok-mark.ensures id ∙ ap (λ i. line_after (names id i) line (at id old.births)) c.born_in.ensures)
    (λ id. c.in_ok-mark-2.ensures id ∙ ap (λ i. line_after (names id i) line (at id old.early)) c.early_in.ensures)
    (λ id. c.in_ok-mark-3.ensures id ∙ ap (λ i. line_after (names id i) line (at id old.failures)) c.unborn_in.ensures)
    (λ id. c.in_ok-mark-4.ensures id ∙ ap (λ i. line_after (names id i) line (at id old.reapings)) c.reaped_in.ensures)
    (λ id. c.in_ok-mark-5.ensures id ∙ ap (λ i. line_after (names id i) line (at id old.orders)) c.ordered_in.ensures)
    (λ id. c.in_ok-mark-6.ensures id ∙ ap (λ i. line_after (names id i) line (at id old.holds)) c.held_in.ensures)
    (c.table.ensures.value (c.args.happening.now ∷ past) seen) on is
    (subst (λ l. Lined l past) (sym c.self.view_is) lined)
