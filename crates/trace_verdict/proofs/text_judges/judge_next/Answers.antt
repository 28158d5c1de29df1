use Rattle.trace_verdict.proofs.Words.{◌≡◌, ◌∙◌, ◌+◌, sym, ap, subst, refl, Some, reverse, length, broken, newlines}
use Rattle.trace_verdict.proofs.Words.{event_text, trace_text, law_number, Judged, Named, IsFound}
use Rattle.std.proofs.Common.{option_map}
use Rattle.trace_verdict.proofs.Judging.{found_kept, found_breach}
use Rattle.trace_verdict.proofs.text_judges.judge_next.Goals as goal

pub returns-in_default-clause-ok : goal.returns-in_default-clause-ok
returns-in_default-clause-ok g c = λ trace found position line.
    found_kept c.args.finding.now c.args.judge.now trace c.args.happening.now c.in_default.not-Lawful found

pub returns-in_ok-text-clause-ok : goal.returns-in_ok-text-clause-ok
returns-in_ok-text-clause-ok g c = λ trace found position line.
    let judged : Judged c.args.judge.now (reverse trace) =
    subst (λ f. IsFound f c.args.judge.now trace) c.in-Lawful.is found in
    let broke : Some (law_number c.in-Some.law) ≡ broken c.args.happening.now (reverse trace) =
    ap (option_map law_number) (sym c.in-Some.is) ∙ c.in_ok-law.ensures.law (reverse trace) judged in
    let told : Named =
    record { position = c.args.position; law = c.in-Some.law; line = c.args.line; text = c.in_ok-text.text.items } in
    let named : ◌≡◌ {A = Named} told (record {
      position = length trace;
      law = c.in-Some.law;
      line = newlines (trace_text trace) + 1;
      text = event_text c.args.happening.now;
    }) =
    rw (position, line, c.in_ok-text.ensures) refl in
    found_breach trace c.args.happening.now c.args.judge.now c.in-Some.law c.new.result judged broke
    (◌∙◌ {b = told} c.new.ensures named)
