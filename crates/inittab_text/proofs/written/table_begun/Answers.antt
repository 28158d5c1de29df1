use Rattle.inittab_text.proofs.Words.{rules, ◌≡◌, Some, arith, length, length-append, ap, after_lines}
use Rattle.inittab_text.proofs.Words.{after_lines-front}
use Rattle.inittab_text.proofs.written.table_begun.Goals as goal

pub slice_bounds-read_written-count : goal.slice_bounds-read_written-count
slice_bounds-read_written-count g c =
    let behind : after_lines c.args.count c.args.text.now ≡ Some c.in-Some.rest.now = search rules in
    let front = after_lines-front c.args.count c.args.text.now c.in-Some.rest.now behind in
    omega (arith, ap length front.whole, length-append front.front c.in-Some.rest.now)
