use Rattle.trace_text.proofs.CommonWords.{rules, ◌≡◌, ◌≢◌, ◌+◌, ◌++◌, ◌<◌, ◌≤◌, true, [], ◌∷◌, length, arith, sym, ap}
use Rattle.trace_text.proofs.CommonWords.{◌∙◌, append_assoc, nil_from_length, event_text, trace_text, is_in_range}
use Rattle.trace_text.proofs.CommonWords.{BeginsNone}
use Rattle.std.proofs.lemmas.Grind.{common_steps}
use Rattle.trace_text.proofs.ReadTexts.{trace_text-push, are_in_range-push, shorter, one_trace, no_trace, counted_on}
use Rattle.trace_text.proofs.ReadTexts.{none_left}
use Rattle.trace_text.proofs.reading.read.Goals as goal

pub returns-in_default-clause-only : goal.returns-in_default-clause-only
returns-in_default-clause-only g c = λ trace are same.
    let filled : 0 < length c.loop-rest.rest.now = grind (arith, common_steps) in
    let none : BeginsNone c.loop-rest.rest.now = search rules in
    let invariant = c.loop-rest.invariant in
    let some : c.loop-rest.rest.now ≢ [] = λ is. omega (arith, ap length is, filled) in
    absurd (no_trace c.loop-rest.trace.items trace c.loop-rest.rest.now invariant.are are some none
    (same ∙ sym invariant.whole))

pub overflow_add-number : goal.overflow_add-number
overflow_add-number g c =
    let found : (is_in_range c.in-Some.happening ≡ true)
    × (event_text c.in-Some.happening ++ c.in-Some.more.now ≡ c.loop-rest.rest.now) = search rules in
    let invariant = c.loop-rest.invariant in
    let bound : c.loop-rest.number + c.line_count-number.result ≤ length c.args.text.now + 1 =
    rw c.line_count-number.ensures
    (counted_on (trace_text c.loop-rest.trace.items) c.in-Some.more.now c.loop-rest.rest.now c.args.text.now
    c.in-Some.happening c.loop-rest.number found.0 found.1 invariant.whole invariant.counted).1 in
    grind (arith, common_steps)

pub loop-rest-smaller : goal.loop-rest-smaller
loop-rest-smaller g c =
    let found : (is_in_range c.in-Some.happening ≡ true)
    × (event_text c.in-Some.happening ++ c.in-Some.more.now ≡ c.loop-rest.rest.now) = search rules in
    shorter c.in-Some.happening c.in-Some.more.now c.loop-rest.rest.now found.0 found.1

pub loop-rest-preserved : goal.loop-rest-preserved
loop-rest-preserved g c =
    let found : (is_in_range c.in-Some.happening ≡ true)
    × (event_text c.in-Some.happening ++ c.in-Some.more.now ≡ c.loop-rest.rest.now) = search rules in
    let before = c.loop-rest.trace.items in
    let invariant = c.loop-rest.invariant in
    let kept : c.keep.new.trace.items ≡ before ++ c.in-Some.happening ∷ [] = search rules in
    let text = trace_text-push before c.in-Some.happening in
    record {
      are = rw kept (are_in_range-push before c.in-Some.happening invariant.are found.0);
      whole = rw kept (ap (λ t. t ++ c.in-Some.more.now) text ∙ append_assoc (trace_text before)
          (event_text c.in-Some.happening) c.in-Some.more.now ∙ ap (λ t. trace_text before ++ t) found.1
          ∙ invariant.whole);
      counted = rw (kept, text, c.line_count-number.ensures)
          (counted_on (trace_text before) c.in-Some.more.now c.loop-rest.rest.now c.args.text.now c.in-Some.happening
          c.loop-rest.number found.0 found.1 invariant.whole invariant.counted).0;
    }

pub returns-clause-read : goal.returns-clause-read
returns-clause-read g c =
    let empty : c.loop-rest.rest.now ≡ [] = nil_from_length c.loop-rest.rest.now (grind (arith, common_steps)) in (
      c.loop-rest.invariant.are,
      none_left
          (trace_text c.loop-rest.trace.items) c.loop-rest.rest.now c.args.text.now c.loop-rest.invariant.whole empty,
    )

pub returns-clause-only : goal.returns-clause-only
returns-clause-only g c = λ trace are same.
    let empty : c.loop-rest.rest.now ≡ [] = nil_from_length c.loop-rest.rest.now (grind (arith, common_steps)) in
    one_trace c.loop-rest.trace.items trace c.loop-rest.invariant.are are (none_left (trace_text
    c.loop-rest.trace.items) c.loop-rest.rest.now c.args.text.now c.loop-rest.invariant.whole empty ∙ sym same)
