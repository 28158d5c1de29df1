use Rattle.trace_verdict.proofs.Words.{rules, ◌≡◌, ◌+◌, Some, ◌++◌, ◌∷◌, [], refl, subst, newlines, trace_text, shorter}
use Rattle.trace_verdict.proofs.Words.{BeginsNever, capped, ReadsNext, TextState, IsFound}
use Rattle.trace_verdict.proofs.Judging.{trace_at, at_trace, read_next, line_of, torn_here}
use Rattle.trace_verdict.proofs.text_judges.TextJudge.take_next.Goals.{in-NewTable-2, in-NotRead-2}
use Rattle.trace_verdict.proofs.text_judges.TextJudge.take_next.Goals as goal

pub returns-in_ok-judge_next-in-Ok-Some : goal.returns-in_ok-judge_next-in-Ok-Some
returns-in_ok-judge_next-in-Ok-Some g c =
    let old : TextState = record {
      reading = c.self.inside.reader;
      judging = c.self.inside.judge;
      position = c.self.inside.position;
      finding = c.self.inside.finding;
    } in
    let new : TextState = record {
      reading = c.skip.new.self;
      judging = c.judge_next.new.judge;
      position = c.saturating_add-self-inside.result;
      finding = c.judge_next.new.finding;
    } in
    let is : c.match-happening-2.self ≡ new =
    elim c.match-happening-2.branch [ in-NewTable-2 w ↦ w.self-is | in-NotRead-2 w ↦ w.self-is ] in
    let next : ReadsNext old.reading new.reading (Some c.in-Ok-Some.happening) =
    subst (λ r. ReadsNext r new.reading (Some c.in-Ok-Some.happening)) c.peek.ensures.same c.skip.ensures in
    rw (is, ← c.self.view_is) (record {
      goes = λ text small at.
          let before = trace_at old.finding old text c.in_default.not-Torn at in
          let line : capped (old.reading.lines + 1) ≡ newlines (trace_text before.0) + 1 =
          line_of old new.reading before.0 text c.in-Ok-Some.happening small before.1 next in
          let found : IsFound new.finding new.judging (before.0 ++ c.in-Ok-Some.happening ∷ []) =
          c.in_ok-judge_next-in-Ok-Some.ensures.ok before.0 before.1.found before.1.position
          (rw (c.saturating_add-line.ensures, c.lines.ensures) line) in
          at_trace new.finding new text (before.0 ++ c.in-Ok-Some.happening ∷ []) (read_next old new before.0 text
          c.in-Ok-Some.happening small before.1 next c.saturating_add-self-inside.ensures found) refl;
      shorter = λ yes. shorter c.in-Ok-Some.happening new.reading.over old.reading.over next.0 next.1;
      err = tt;
    })

pub returns-in-Err-Line : goal.returns-in-Err-Line
returns-in-Err-Line g c =
    let old : TextState = record {
      reading = c.self.inside.reader;
      judging = c.self.inside.judge;
      position = c.self.inside.position;
      finding = c.self.inside.finding;
    } in
    let none : (c.in-Err-Line.number ≡ capped (old.reading.lines + 1)) × BeginsNever old.reading.over = search rules in
    rw (← c.self.view_is) (record {
      goes = λ text small at.
          let before = trace_at old.finding old text c.in_default.not-Torn at in
          torn_here old text c.in-Err-Line.number before.0 small before.1 none.0 none.1;
      shorter = λ no. absurd (cc);
      err = tt;
    })
