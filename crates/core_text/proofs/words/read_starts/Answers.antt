use Rattle.core_text.proofs.CommonWords.{rules, ◌≡◌, ◌≤◌, ◌∷◌, false, codes, length, Some, None, arith, sym, ap, ◌∙◌}
use Rattle.core_text.proofs.CommonWords.{length-append, common_steps, cut, cut-parts, same_id, STARTS, time_read}
use Rattle.core_text.proofs.Starts.{enough, few, joined-nil, last, many, many_last, no_last, no_time, starts_few, step}
use Rattle.core_text.proofs.Starts.{times_of}
use Rattle.core_text.proofs.words.read_starts.Goals as goal

pub loop-first-init : goal.loop-first-init
loop-first-init c = rw c.new-starts.ensures (joined-nil _)

pub returns-in_default-read_number : goal.returns-in_default-read_number
returns-in_default-read_number c =
    let other : same_id c.args.word.now (codes "-") ≡ false = search rules in
    let none : time_read c.in-Some.first.now ≡ None = search rules in
    no_time c.loop-first.rest.now c.in-Some.first.now c.in-Some.more.now c.loop-first.starts.items (times_of
    c.args.word.now) (sym c.in-Some.ensures) none c.loop-first.invariant ∙ sym (starts_few c.args.word.now other)

pub returns-then-is_full : goal.returns-then-is_full
returns-then-is_full c =
    let other : same_id c.args.word.now (codes "-") ≡ false = search rules in
    let read : time_read c.in-Some.first.now ≡ Some c.in-Some-read_number.time = search rules in
    let full : STARTS ≤ length c.loop-first.starts.items = grind (arith, common_steps) in
    many c.loop-first.rest.now c.in-Some.first.now c.in-Some.more.now c.loop-first.starts.items
    c.in-Some-read_number.time (times_of c.args.word.now) (sym c.in-Some.ensures) read full c.loop-first.invariant
    ∙ sym (starts_few c.args.word.now other)

pub loop-first-smaller : goal.loop-first-smaller
loop-first-smaller c =
    let parts = cut-parts 44 c.loop-first.rest.now c.in-Some.first.now c.in-Some.more.now (sym c.in-Some.ensures) in
    omega (arith, ap length parts.0, length-append c.in-Some.first.now (44 ∷ c.in-Some.more.now))

pub loop-first-preserved : goal.loop-first-preserved
loop-first-preserved c =
    let read : time_read c.in-Some.first.now ≡ Some c.in-Some-read_number.time = search rules in
    rw c.push.ensures.items (step c.loop-first.rest.now c.in-Some.first.now c.in-Some.more.now c.loop-first.starts.items
    c.in-Some-read_number.time (times_of c.args.word.now) (sym c.in-Some.ensures) read c.loop-first.invariant)

pub returns-in_default-read_number-2 : goal.returns-in_default-read_number-2
returns-in_default-read_number-2 c =
    let other : same_id c.args.word.now (codes "-") ≡ false = search rules in
    let whole : cut 44 c.loop-first.rest.now ≡ None = search rules in
    let none : time_read c.loop-first.rest.now ≡ None = search rules in
    no_last c.loop-first.rest.now c.loop-first.starts.items (times_of c.args.word.now) whole none c.loop-first.invariant
    ∙ sym (starts_few c.args.word.now other)

pub returns-then-is_full-2 : goal.returns-then-is_full-2
returns-then-is_full-2 c =
    let other : same_id c.args.word.now (codes "-") ≡ false = search rules in
    let whole : cut 44 c.loop-first.rest.now ≡ None = search rules in
    let read : time_read c.loop-first.rest.now ≡ Some c.in-Some-read_number-2.time = search rules in
    let full : STARTS ≤ length c.loop-first.starts.items = grind (arith, common_steps) in
    many_last c.loop-first.rest.now c.loop-first.starts.items c.in-Some-read_number-2.time
    (times_of c.args.word.now) whole read full c.loop-first.invariant ∙ sym (starts_few c.args.word.now other)

pub returns : goal.returns
returns c =
    let other : same_id c.args.word.now (codes "-") ≡ false = search rules in
    let whole : cut 44 c.loop-first.rest.now ≡ None = search rules in
    let read : time_read c.loop-first.rest.now ≡ Some c.in-Some-read_number-2.time = search rules in
    let all = last c.loop-first.rest.now c.loop-first.starts.items c.in-Some-read_number-2.time
    (times_of c.args.word.now) whole read c.loop-first.invariant in
    let within : length c.push-2.new.self.items ≤ STARTS = grind (arith, common_steps) in
    sym (enough c.push-2.new.self.items within) ∙ ap few (ap Some c.push-2.ensures.items ∙ all)
    ∙ sym (starts_few c.args.word.now other)
