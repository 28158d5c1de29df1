use Rattle.trace_view.proofs.Words.{rules, ◌≡◌, ◌+◌, Some, shorter, BeginsNever, capped, ReadsNext, TextState}
use Rattle.trace_view.proofs.SeenTexts.{at_none, goes_next, torn_here}
use Rattle.trace_view.proofs.text_views.TextView.next.Goals as goal

pub returns-in_ok-stop-in-Ok-Some : goal.returns-in_ok-stop-in-Ok-Some
returns-in_ok-stop-in-Ok-Some g c =
    let old : TextState =
    record { reading = c.self.inside.reader; viewing = c.self.inside.view; stop = c.self.inside.stop } in
    let new : TextState =
    record { reading = c.next.new.self; viewing = c.see_next.new.view; stop = c.in_ok-stop-in-Ok-Some.stop } in
    let next : ReadsNext old.reading new.reading (Some c.in-Ok-Some.happening) = search rules in
    rw (c.seen_by.ensures, ← c.self.view_is) (record {
      goes = λ trace text small.
          goes_next new.stop old new.reading new.viewing trace text c.in-Ok-Some.happening c.saturating_add-line.result
          c.in_default.is small next c.in_ok-stop-in-Ok-Some.ensures (search rules);
      shorter = λ yes. shorter c.in-Ok-Some.happening new.reading.over old.reading.over next.0 next.1;
      unstopped = λ yes. c.in_default.is;
    })

pub returns-in-Err-Line : goal.returns-in-Err-Line
returns-in-Err-Line g c =
    let old : TextState =
    record { reading = c.self.inside.reader; viewing = c.self.inside.view; stop = c.self.inside.stop } in
    let none : (c.in-Err-Line.number ≡ capped (old.reading.lines + 1)) × BeginsNever old.reading.over = search rules in
    rw (← c.self.view_is) (record {
      goes = λ trace text small at. torn_here old.reading old.viewing trace text c.in-Err-Line.number small none.0
          none.1 (at_none old.stop old trace text c.in_default.is at);
      shorter = λ no. absurd (cc);
      unstopped = λ no. absurd (cc);
    })
