use Rattle.core_text.proofs.CommonWords.{rules, ◌≡◌, Some, arith, length, length-append, ap, after_lines}
use Rattle.core_text.proofs.CommonWords.{after_lines-front}
use Rattle.core_text.proofs.reading.split_end.Goals as goal

pub slice_bounds-result-count : goal.slice_bounds-result-count
slice_bounds-result-count c =
    let after_prefix : after_lines c.saturating_sub.result c.args.text.now ≡ Some c.in_ok-rest.rest.now =
    search rules in
    let front = after_lines-front c.saturating_sub.result c.args.text.now c.in_ok-rest.rest.now after_prefix in
    omega (arith, ap length front.whole, length-append front.front c.in_ok-rest.rest.now)
